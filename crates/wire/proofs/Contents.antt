-- Laws of a message's content: each way to read it, over what the hint walk answers; and that the content is a tail of the message.
use mathlib.Core.Path.{◌≡◌, refl, sym, ap, ◌∙◌}
use mathlib.Core.Bool.{Bool, true, false, cond}
use mathlib.Core.List.{List}
use Prim.Native.Nat.{ℕ, zero, suc, ◌+◌, ◌-◌, ◌%◌, ◌≤◌}
use native.Mathlib.Omega.{arith}
use lib.ListN.{length, get_or, take, drop, length-take, length-drop}
use lib.Seq.{drop-drop}
use lib.Dec.{eqb, ltb}
use borrow.Author.Tests.{ltb-false, leb-true, eqb-true}
use Rattle.std.proofs.Common.{Result, Err, None, Ok, Some}
use Rattle.wire.specs.declared.Span.{Span}
use Rattle.wire.specs.declared.Fault.{Fault}
use Rattle.wire.specs.declared.Kind.{Kind}
use Rattle.wire.specs.declared.Kind.TheVariants.{Skipped, Bundle, Segment, End, Cancel}
use Rattle.wire.specs.declared.Fault.TheVariants.{PastMessage, BadContent}
use Rattle.wire.specs.Message.{kind, content_length, span, answer}
use Rattle.wire.specs.Layout.{Chain, overrun, behind, chain, hints, left, fitting, message, content, body}
use Rattle.wire.proofs.Apart.{left-overrun}

-- The octets behind a chain are a tail of those before it.
pub data Tail (xs : List ℕ) : Chain → Type 0 where
  nowhere : Tail xs overrun
  from : {ys : List ℕ} (k : ℕ) → k ≤ length xs → ys ≡ drop k xs → Tail xs (behind ys)

tail-cond : {xs : List ℕ} (b : Bool) {c d : Chain} → Tail xs c → (b ≡ false → Tail xs d) → Tail xs (cond b c d)
tail-cond true p q = p
tail-cond false p q = q refl

tail-drop : {xs : List ℕ} (k : ℕ) {c : Chain} → k ≤ length xs → Tail (drop k xs) c → Tail xs c
tail-drop k h nowhere = nowhere
tail-drop {xs} k h (from j l e) = from (k + j) (let m : j ≤ length xs - k = rw length-drop at l in omega arith) (e ∙ drop-drop j k xs)

tail-chain : (n : ℕ) (xs : List ℕ) → Tail xs (chain n xs)
unfolding chain
tail-chain zero xs = nowhere
tail-chain (suc n) xs =
    tail-cond (ltb (length xs) 2) nowhere
    λ _. tail-cond (ltb (length xs) (2 + get_or xs 1 0)) nowhere
    λ e. tail-cond (eqb (get_or xs 0 0 % 2) 0) (from (2 + get_or xs 1 0) (ltb-false _ _ e) refl)
    λ _. tail-drop (2 + get_or xs 1 0) (ltb-false _ _ e) (tail-chain n (drop (2 + get_or xs 1 0) xs))

pub tail-hints : (hinted : Bool) (xs : List ℕ) → Tail xs (hints hinted xs)
unfolding hints
tail-hints true xs = tail-chain (length xs) xs
tail-hints false xs = from 0 (omega arith) refl

tail-fits : (xs : List ℕ) (c : Chain) (n : ℕ) → Tail xs c → left c ≡ Some n → n ≤ length xs
unfolding left
tail-fits xs overrun n t e = left-overrun (sym e)
tail-fits xs (behind ys) n (from k l d) e =
    let m : length ys ≡ n = cc in
    let s : length ys ≡ length xs - k = ap length d ∙ length-drop k xs in
    omega arith

-- what the hint walk leaves of a message's body is no longer than the body
pub left-fits : (hinted : Bool) (size : ℕ) (xs : List ℕ) (n : ℕ) → left (hints hinted (take size xs)) ≡ Some n → n ≤ size
left-fits hinted size xs n e =
    let m = tail-fits (take size xs) (hints hinted (take size xs)) n (tail-hints hinted (take size xs)) e in
    let l : length (take size xs) ≤ size = simp length-take (omega arith) in
    omega arith

pub placed : {k l : Kind} {s t e f : ℕ} → k ≡ l → s ≡ t → e ≡ f → ◌≡◌ {A = Result Span Fault} (Ok record { kind = k; start = s; end = e }) (Ok record { kind = l; start = t; end = f })
placed p q r = cc

pub skip : (at size : ℕ) (k : Kind) (c : Chain) → k ≡ Skipped → Ok record { kind = k; start = at + 4 + size; end = at + 4 + size } ≡ answer at (body k c (4 + size))
unfolding body answer span kind content_length
skip at size k c e = rw e (placed refl (omega arith) (omega arith))

abbrev pub carrying : Kind → Type 0
carrying k = k ≡ Skipped → ⊥

carried : (k : Kind) (c : Chain) (size : ℕ) → carrying k → body k c size ≡ content k c size
unfolding body
carried Skipped c size n = absurd (n refl)
carried Bundle c size n = refl
carried Segment c size n = refl
carried End c size n = refl
carried Cancel c size n = refl

past-content : (at size : ℕ) (k : Kind) (c : Chain) → left c ≡ None → Err PastMessage ≡ answer at (content k c size)
unfolding content left answer
past-content at size k overrun e = refl
past-content at size k (behind xs) e = left-overrun e

pub past : (at size : ℕ) (k : Kind) (c : Chain) → carrying k → left c ≡ None → Err PastMessage ≡ answer at (body k c size)
past at size k c n e = rw (carried k c size n) (past-content at size k c e)

unfit-content : (at size : ℕ) (k : Kind) (c : Chain) (n : ℕ) → left c ≡ Some n → fitting k n ≡ false → Err BadContent ≡ answer at (content k c size)
unfolding content left answer
unfit-content at size k overrun n e f = left-overrun (sym e)
unfit-content at size k (behind xs) n e f = let l : length xs ≡ n = cc in rw (l, f)

pub unfit : (at size : ℕ) (k : Kind) (c : Chain) (n : ℕ) → carrying k → left c ≡ Some n → fitting k n ≡ false → Err BadContent ≡ answer at (body k c size)
unfit at size k c n h e f = rw (carried k c size h) (unfit-content at size k c n e f)

pub kind-message : (k : Kind) (xs : List ℕ) → kind (message k xs) ≡ k
unfolding kind message
kind-message Skipped xs = refl
kind-message Bundle xs = refl
kind-message Segment xs = refl
kind-message End xs = refl
kind-message Cancel xs = refl

-- a fitting content is the whole content
pub content-length : (k : Kind) (xs : List ℕ) → carrying k → fitting k (length xs) ≡ true → content_length (message k xs) ≡ length xs
unfolding content_length message fitting
content-length Skipped xs n f = absurd (n refl)
content-length Bundle xs n f = refl
content-length Segment xs n f = rw length-drop (omega (arith, leb-true 8 (length xs) f))
content-length End xs n f = rw length-drop (omega (arith, leb-true 8 (length xs) f))
content-length Cancel xs n f = sym (eqb-true (length xs) 4 f)

fit_content : (at size : ℕ) (k : Kind) (c : Chain) (n : ℕ) → carrying k → left c ≡ Some n → fitting k n ≡ true
    → Ok record { kind = k; start = at + 4 + size - n; end = at + 4 + size } ≡ answer at (content k c (4 + size))
unfolding content left answer span
fit_content at size k overrun n h e f = left-overrun (sym e)
fit_content at size k (behind xs) n h e f =
    let l : length xs ≡ n = cc in
    let g : fitting k (length xs) ≡ true = rw l f in
    let m = content-length k xs h g in
    rw g (placed (sym (kind-message k xs)) (omega arith) (omega arith))

pub fit : (at size : ℕ) (k : Kind) (c : Chain) (n : ℕ) → carrying k → left c ≡ Some n → fitting k n ≡ true
    → Ok record { kind = k; start = at + 4 + size - n; end = at + 4 + size } ≡ answer at (body k c (4 + size))
fit at size k c n h e f = rw (carried k c (4 + size) h) (fit_content at size k c n h e f)
