-- What a caller knows of a span that was read: the frame's octets from its start to its end are the message's content.
use mathlib.Core.Path.{◌≡◌, refl, sym, ap, ◌∙◌}
use mathlib.Core.Bool.{Bool, true, false, cond}
use mathlib.Core.List.{List, [], ◌∷◌}
use Prim.Native.Nat.{ℕ, zero, suc, ◌+◌, ◌-◌, ◌≤◌, ◌<◌}
use native.Mathlib.Nat.{sub-zero}
use native.Mathlib.Omega.{arith}
use lib.ListN.{length, get_or, take, drop, length-take, length-drop}
use lib.Seq.{drop-drop, take-nil}
use lib.Dec.{ltb}
use borrow.Author.Tests.{ltb-false}
use Rattle.std.proofs.Common.{Ok}
use Rattle.wire.specs.declared.Version.{Version}
use Rattle.wire.specs.declared.Kind.{Kind}
use Rattle.wire.specs.declared.Kind.TheVariants.{Skipped, Bundle, Segment, End, Cancel}
use Rattle.wire.specs.declared.Fault.{Fault}
use Rattle.wire.specs.declared.Span.{Span}
use Rattle.wire.specs.Message.{Message, skipped, Read, bad, good, kind, content_length, span, answer}
use Rattle.wire.specs.Layout.{zeros, kind_of, hinted, length_field, Chain, overrun, behind, hints, fitting, message, content, body, bodied, headed, read}
use Rattle.wire.specs.Frame.{Sized, none, some}
use Rattle.wire.proofs.Apart.{good-bad}
use Rattle.wire.proofs.Runs.{zeros_fit}
use Rattle.wire.proofs.Contents.{Tail, from, tail-hints, carrying, kind-message, content-length}

-- A message that takes s of the octets, with its content at the end of them.
pub record Ends (xs : List ℕ) (m : Message) (s : ℕ) : Type 0 where
  pub positive : 0 < s
  pub within : s ≤ length xs
  pub short : content_length m ≤ s
  pub fits : fitting (kind m) (content_length m) ≡ true
  pub means : m ≡ message (kind m) (take (content_length m) (drop (s - content_length m) xs))

pub data Holds (xs : List ℕ) : Read → Type 0 where
  refused : {r : Fault} → Holds xs (bad r)
  holds : {m : Message} {s : ℕ} → Ends xs m s → Holds xs (good m s)

holds-cond : {xs : List ℕ} (b : Bool) {x y : Read} → (b ≡ true → Holds xs x) → (b ≡ false → Holds xs y) → Holds xs (cond b x y)
holds-cond true p q = p refl
holds-cond false p q = q refl

holds-skipped : (xs : List ℕ) (s : ℕ) → 0 < s → s ≤ length xs → Holds xs (good skipped s)
unfolding kind content_length fitting message
holds-skipped xs s p h = holds {m = skipped} {s = s} record { positive = p; within = h; short = omega arith; fits = refl; means = refl }

drop-take : (j n : ℕ) (l : List ℕ) → drop j (take n l) ≡ take (n - j) (drop j l)
drop-take zero n l = rw sub-zero
drop-take (suc j) zero l = let z : 0 - suc j ≡ 0 = omega arith in rw z
drop-take (suc j) (suc n) [] = sym (take-nil (suc n - suc j))
drop-take (suc j) (suc n) (x ∷ l) = let z : suc n - suc j ≡ n - j = omega arith in rw z (drop-take j n l)

module _ (k : Kind) (size : ℕ) (xs : List ℕ) (carries : carrying k) (room : 4 + size ≤ length xs) where
  ends : (ys : List ℕ) (j : ℕ) → j ≤ size → length ys ≡ size - j → ys ≡ drop j (take size (drop 4 xs)) → fitting k (length ys) ≡ true → Ends xs (message k ys) (4 + size)
  ends ys j b l e f =
      let n = content-length k ys carries f in
      let from : 4 + j ≡ 4 + size - length ys = omega arith in
      let part : ys ≡ take (length ys) (drop (4 + size - length ys) xs) = e ∙ drop-take j size (drop 4 xs) ∙ rw (drop-drop j 4 xs, ← l, from) in
      record { positive = omega arith; within = room; short = omega arith; fits = rw (kind-message k ys, n) f; means = rw (kind-message k ys, n) (ap (message k) part) }

  holds-content : (c : Chain) → Tail (take size (drop 4 xs)) c → Holds xs (content k c (4 + size))
  unfolding content
  holds-content overrun t = refused
  holds-content (behind ys) (from j b e) =
      let w : length (take size (drop 4 xs)) ≡ size = simp (length-take, length-drop) (omega arith) in
      let l : length ys ≡ size - j = ap length e ∙ simp (length-drop, w) in
      holds-cond (fitting k (length ys)) (λ f. holds (ends ys j (omega arith) l e f)) λ _. refused

holds-body : (k : Kind) (size : ℕ) (xs : List ℕ) → 4 + size ≤ length xs → (c : Chain) → Tail (take size (drop 4 xs)) c → Holds xs (body k c (4 + size))
unfolding body
holds-body Skipped size xs h c t = holds-skipped xs (4 + size) (omega arith) h
holds-body Bundle size xs h c t = holds-content Bundle size xs (λ e. (cc)) h c t
holds-body Segment size xs h c t = holds-content Segment size xs (λ e. (cc)) h c t
holds-body End size xs h c t = holds-content End size xs (λ e. (cc)) h c t
holds-body Cancel size xs h c t = holds-content Cancel size xs (λ e. (cc)) h c t

holds-headed : (v : Version) (xs : List ℕ) → Holds xs (headed v xs)
unfolding headed bodied
holds-headed v xs =
    holds-cond (ltb (length xs) 4) (λ _. refused)
    λ _. holds-cond (ltb (length xs) (4 + length_field v xs)) (λ _. refused)
    λ e. holds-body (kind_of v (get_or xs 0 0)) (length_field v xs) xs (ltb-false _ _ e) (hints (hinted v (get_or xs 1 0)) (take (length_field v xs) (drop 4 xs))) (tail-hints _ _)

pub holds_read : (v : Version) (xs : List ℕ) → Holds xs (read v xs)
unfolding read
holds_read v [] = refused
holds_read v (zero ∷ xs) = holds-skipped (0 ∷ xs) (1 + zeros xs) (omega arith) (omega (arith, zeros_fit xs))
holds_read v (suc t ∷ xs) = holds-headed v (suc t ∷ xs)

sized-holds : {xs : List ℕ} {r : Read} → Holds xs r → Sized (length xs) r
sized-holds refused = none
sized-holds (holds h) = some h.positive h.within

pub sized : (v : Version) (xs : List ℕ) → Sized (length xs) (read v xs)
sized v xs = sized-holds (holds_read v xs)

-- The message that a span of the frame stands for, and that the span lies within the frame.
pub record Located (v : Version) (frame : List ℕ) (at : ℕ) (m : Span) : Type 0 where
  pub means : read v (drop at frame) ≡ good (message m.kind (take (m.end - m.start) (drop m.start frame))) (m.end - at)
  pub fits : fitting m.kind (m.end - m.start) ≡ true
  pub ordered : m.start ≤ m.end
  pub later : at < m.end
  pub within : m.end ≤ length frame

module _ (v : Version) (frame : List ℕ) (at : ℕ) (here : at ≤ length frame) where
  located_good : (x : Message) (s : ℕ) → Ends (drop at frame) x s → read v (drop at frame) ≡ good x s → Located v frame at (span x (at + s))
  unfolding span
  located_good x s h e =
      let n = content_length x in
      let size : at + s - (at + s - n) ≡ n = omega (arith, h.short) in
      let from : at + s - n ≡ at + (s - n) = omega (arith, h.short) in
      let taken : at + s - at ≡ s = omega arith in
      let w = rw length-drop at h.within in
      record {
        means = rw (size, from, taken, ← drop-drop (s - n) at frame, e) (ap (λ (y : Message). good y s) h.means);
        fits = rw size h.fits;
        ordered = omega arith;
        later = omega (arith, h.positive);
        within = omega arith;
      }

  located_read : (r : Read) (m : Span) → Holds (drop at frame) r → read v (drop at frame) ≡ r → answer at r ≡ Ok m → Located v frame at m
  unfolding answer
  located_read (bad q) m h e a = good-bad (sym a)
  located_read (good x s) m (holds h) e a = let b : span x (at + s) ≡ m = cc in rw b at (located_good x s h e)

  pub located : (m : Span) → answer at (read v (drop at frame)) ≡ Ok m → Located v frame at m
  located m = located_read (read v (drop at frame)) m (holds_read v (drop at frame)) refl
