-- What a message brings is no more than the octets that it takes up; four at least for one that may hand out a bundle.
use mathlib.Core.Path.{◌≡◌, refl}
use mathlib.Core.Bool.{Bool, true, false, cond}
use mathlib.Core.List.{List, [], ◌∷◌}
use Prim.Native.Nat.{ℕ, zero, suc, ◌+◌, ◌≤◌, ◌<◌}
use native.Mathlib.Omega.{arith}
use lib.ListN.{length, get_or, take, drop}
use lib.Dec.{ltb}
use Rattle.wire.specs.declared.Version.{Version}
use Rattle.wire.specs.declared.Fault.{Fault}
use Rattle.wire.specs.declared.Kind.{Kind}
use Rattle.wire.specs.declared.Kind.TheVariants.{Skipped, Bundle, Segment, End, Cancel}
use Rattle.wire.specs.Message.{Message, skipped, bundle, segment, last, cancel, Read, bad, good, content_length}
use Rattle.wire.specs.Layout.{zeros, kind_of, length_field, Chain, overrun, behind, hints, fitting, message, content, body, bodied, headed, read, hinted}
use Rattle.wire.specs.Frame.{Item, row, Sized, none, some, scanned}
use Rattle.wire.proofs.Spans.{Holds, refused, holds_read}
use Rattle.wire.proofs.Spans as Spans
use Rattle.wire.proofs.Order.{Along, Each, amiss, holds, along}
use Rattle.receiver.proofs.Weight.{payload}

-- a header, for all but padding and unknown types
unfoldable pub fee : Message → ℕ
fee skipped = 0
fee (bundle c) = 4
fee (segment t i d) = 4
fee (last t i d) = 4
fee (cancel t) = 4

pub data Priced : Read → Type 0 where
  unpriced : {r : Fault} → Priced (bad r)
  priced : {m : Message} {s : ℕ} → payload m ≤ s → fee m ≤ s → Priced (good m s)

-- ---- both drafts

data Heavy : Read → Type 0 where
  light : {r : Fault} → Heavy (bad r)
  heavy : {m : Message} {s : ℕ} → fee m ≤ s → Heavy (good m s)

heavy_cond : (b : Bool) {x y : Read} → (b ≡ true → Heavy x) → (b ≡ false → Heavy y) → Heavy (cond b x y)
heavy_cond true p q = p refl
heavy_cond false p q = q refl

fee_most : (m : Message) → fee m ≤ 4
unfolding fee
fee_most skipped = omega arith
fee_most (bundle c) = omega arith
fee_most (segment t i d) = omega arith
fee_most (last t i d) = omega arith
fee_most (cancel t) = omega arith

heavy_content : (k : Kind) (c : Chain) (s : ℕ) → 4 ≤ s → Heavy (content k c s)
unfolding content
heavy_content k overrun s h = light
heavy_content k (behind ys) s h = heavy_cond (fitting k (length ys)) (λ _. heavy {m = message k ys} {s = s} (omega (arith, fee_most (message k ys)))) (λ _. light)

heavy_body : (k : Kind) (c : Chain) (s : ℕ) → 4 ≤ s → Heavy (body k c s)
unfolding body
heavy_body Skipped c s h = heavy {m = skipped} {s = s} (omega (arith, fee_most skipped))
heavy_body Bundle c s h = heavy_content Bundle c s h
heavy_body Segment c s h = heavy_content Segment c s h
heavy_body End c s h = heavy_content End c s h
heavy_body Cancel c s h = heavy_content Cancel c s h

heavy_read : (v : Version) (xs : List ℕ) → Heavy (read v xs)
unfolding read headed bodied fee
heavy_read v [] = light
heavy_read v (zero ∷ xs) = heavy {m = skipped} {s = 1 + zeros xs} (omega arith)
heavy_read v (suc t ∷ xs) =
    let ys : List ℕ = suc t ∷ xs in
    heavy_cond (ltb (length ys) 4) (λ _. light)
    (λ _. heavy_cond (ltb (length ys) (4 + length_field v ys)) (λ _. light)
    (λ _. heavy_body (kind_of v (suc t)) (hints (hinted v (get_or ys 1 0)) (take (length_field v ys) (drop 4 ys))) (4 + length_field v ys) (omega arith)))

payload_short : (m : Message) → payload m ≤ content_length m
unfolding payload content_length
payload_short skipped = omega arith
payload_short (bundle c) = omega arith
payload_short (segment t i d) = omega arith
payload_short (last t i d) = omega arith
payload_short (cancel t) = omega arith

both_priced : {xs : List ℕ} {r : Read} → Holds xs r → Heavy r → Priced r
both_priced refused light = unpriced
both_priced (Spans.holds {m} {s} h) (heavy f) = priced {m = m} {s = s} (omega (arith, h.short, payload_short m)) f

pub priced_read : (v : Version) (xs : List ℕ) → Priced (read v xs)
priced_read v xs = both_priced (holds_read v xs) (heavy_read v xs)

-- ---- over a frame

-- the items from position p on pay for what they bring, up to position e
abbrev pub Pays : ℕ → List Item → ℕ → Type 0
Pays = Along (λ p m n. (p < n) × (p + payload m ≤ n) × (p + fee m ≤ n))

each_pays : {n : ℕ} (p : ℕ) {r : Read} → Sized n r → Priced r → Each (λ p m n. (p < n) × (p + payload m ≤ n) × (p + fee m ≤ n)) p r
each_pays p none unpriced = amiss
each_pays p (some {m} {s} pos le) (priced pay cost) = holds {m = m} {s = s} (omega arith, omega arith, omega arith)

pub pays : (reader : List ℕ → Read) → ((xs : List ℕ) → Sized (length xs) (reader xs)) → ((xs : List ℕ) → Priced (reader xs))
    → (frame : List ℕ) (is : List Item) → scanned reader frame ≡ row is → Pays 0 is (length frame)
pays reader fit costs = along (λ p m n. (p < n) × (p + payload m ≤ n) × (p + fee m ≤ n)) reader fit (λ p xs. each_pays p (fit xs) (costs xs))

pub pays_within : (p e : ℕ) (is : List Item) → Pays p is e → p ≤ e
unfolding Along
pays_within p e [] l = omega arith
pays_within p e (i ∷ is) l = omega (arith, l.1.0, pays_within i.next e is l.2)
