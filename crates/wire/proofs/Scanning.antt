-- Laws of the scan of a frame: a bound beyond the length changes nothing, and one turn of the check.
use mathlib.Core.Path.{◌≡◌, refl, sym, ap, ◌∙◌}
use mathlib.Core.Bool.{Bool, true, false, cond, ◌||◌}
use mathlib.Core.List.{List, [], ◌∷◌}
use mathlib.Core.Logic.{⊎_elim}
use Prim.Native.Nat.{ℕ, zero, suc, ◌+◌, ◌≤◌, ◌<◌}
use native.Mathlib.Nat.{eq-or-lt_of_le}
use native.Mathlib.Omega.{arith}
use lib.ListN.{length, drop, length-drop, drop_of_length-le}
use lib.Seq.{drop-drop}
use lib.Dec.{eqb}
use Rattle.std.proofs.Common.{Err, Ok}
use Rattle.wire.specs.declared.Rejection.TheVariants.{Malformed, Misplaced}
use Rattle.wire.specs.declared.Fault.{Fault}
use Rattle.wire.specs.declared.Span.{Span}
use Rattle.wire.specs.Message.{Read, bad, good, span, answer}
use Rattle.wire.specs.Frame.{Item, Scan, broken, row, prepend, follow, Sized, none, some, scan, scanned, starts, judged, checked}
use Rattle.wire.proofs.Apart.{good-bad}

follow-same : {n : ℕ} (p : ℕ) (r : Read) (f g : ℕ → Scan) → Sized n r → ((s : ℕ) → 0 < s → f s ≡ g s) → follow p r f ≡ follow p r g
unfolding follow
follow-same p (bad r) f g none h = refl
follow-same p (good m s) f g (some a b) h = ap (prepend _) (h s a)

-- For every draft whose messages take at least one octet and no more than there are.
module _ (reader : List ℕ → Read) (fit : (xs : List ℕ) → Sized (length xs) (reader xs)) where
  steady : (n p : ℕ) (xs : List ℕ) → length xs ≤ n → scan reader n p xs ≡ scan reader (suc n) p xs
  unfolding scan
  steady zero p [] h = refl
  steady zero p (x ∷ xs) h = absurd (omega arith)
  steady (suc n) p [] h = refl
  steady (suc n) p (x ∷ xs) h =
      follow-same p (reader (x ∷ xs)) _ _ (fit (x ∷ xs)) λ s pos. steady n (p + s) (drop s (x ∷ xs)) (simp length-drop (omega arith))

  enough : (n p : ℕ) (xs : List ℕ) → length xs ≤ n → scan reader n p xs ≡ scan reader (length xs) p xs
  enough zero p xs h = ap (λ (k : ℕ). scan reader k p xs) (omega arith)
  enough (suc n) p xs h =
      ⊎_elim (λ e. ap (λ (k : ℕ). scan reader k p xs) (sym e)) (λ l. sym (steady n p xs (omega arith)) ∙ enough n p xs (omega arith)) (eq-or-lt_of_le h)

  -- one message, and the scan of what follows it
  pub scan_step : (p : ℕ) (xs : List ℕ) → 0 < length xs
      → scan reader (length xs) p xs ≡ follow p (reader xs) (λ (s : ℕ). scan reader (length (drop s xs)) (p + s) (drop s xs))
  unfolding scan
  scan_step p [] h = absurd (omega arith)
  scan_step p (x ∷ xs) h =
      follow-same p (reader (x ∷ xs)) _ _ (fit (x ∷ xs)) λ s pos. enough (length xs) (p + s) (drop s (x ∷ xs)) (simp length-drop (omega arith))

-- the scan from a position of the frame
abbrev pub scan_at : (List ℕ → Read) → List ℕ → ℕ → Scan
scan_at reader frame at = scan reader (length (drop at frame)) at (drop at frame)

pub stepped : (reader : List ℕ → Read) (fit : (xs : List ℕ) → Sized (length xs) (reader xs)) (frame : List ℕ) (at : ℕ) → at < length frame
    → scan_at reader frame at ≡ follow at (reader (drop at frame)) (λ (s : ℕ). scan_at reader frame (at + s))
stepped reader fit frame at here = rw (scan_step reader fit at (drop at frame) (simp length-drop (omega arith))) (simp drop-drop)

judged-more : (seen : Bool) (place : ℕ) (i : Item) (s : Scan) → judged seen place (prepend i s) ≡ judged (seen || eqb i.start place) place s
unfolding judged prepend starts
judged-more seen place i (broken r p) = refl
judged-more true place i (row is) = refl
judged-more false place i (row is) = refl

-- What a turn of the check keeps: the judgement, once the place is compared with the message's start.
pub record Turn (reader : List ℕ → Read) (frame : List ℕ) (place : ℕ) (seen : Bool) (at next : ℕ) : Type 0 where
  pub same : judged seen place (scan_at reader frame at) ≡ judged (seen || eqb at place) place (scan_at reader frame next)
  pub later : at < next
  pub within : next ≤ length frame

module _ (reader : List ℕ → Read) (fit : (xs : List ℕ) → Sized (length xs) (reader xs)) (frame : List ℕ) (place : ℕ) (seen : Bool) (at : ℕ) (here : at < length frame) where
  good_turn : (r : Read) (m : Span) → Sized (length (drop at frame)) r → scan_at reader frame at ≡ follow at r (λ (s : ℕ). scan_at reader frame (at + s))
      → answer at r ≡ Ok m → Turn reader frame place seen at m.end
  unfolding follow answer span
  good_turn (bad q) m z e a = good-bad (sym a)
  good_turn (good x s) m (some pos fit) e a =
      let n : m.end ≡ at + s = ap (λ (y : Span). y.end) (let b : m ≡ span x (at + s) = cc in b) in
      record {
        same = rw (n, e) (judged-more seen place _ (scan_at reader frame (at + s)));
        later = omega arith;
        within = let l = rw length-drop at fit in omega arith;
      }

  bad_turn : (r : Read) (q : Fault) → scan_at reader frame at ≡ follow at r (λ (s : ℕ). scan_at reader frame (at + s)) → answer at r ≡ Err q
      → judged seen place (scan_at reader frame at) ≡ Err (Malformed q at)
  unfolding follow answer judged
  bad_turn (bad t) q e a = let b : t ≡ q = cc in rw (e, b)
  bad_turn (good x s) q e a = good-bad a

  pub turn : (m : Span) → answer at (reader (drop at frame)) ≡ Ok m → Turn reader frame place seen at m.end
  turn m = good_turn (reader (drop at frame)) m (fit (drop at frame)) (stepped reader fit frame at here)

  pub stop : (q : Fault) → answer at (reader (drop at frame)) ≡ Err q → judged seen place (scan_at reader frame at) ≡ Err (Malformed q at)
  stop q = bad_turn (reader (drop at frame)) q (stepped reader fit frame at here)

pub over : (reader : List ℕ → Read) (frame : List ℕ) (place : ℕ) (seen : Bool) (at : ℕ) → length frame ≤ at → judged seen place (scan_at reader frame at) ≡ cond seen (Ok (tt {0})) (Err Misplaced)
unfolding judged scan starts
over reader frame place true at h = rw (drop_of_length-le frame h)
over reader frame place false at h = rw (drop_of_length-le frame h)

pub start : (reader : List ℕ → Read) (frame : List ℕ) (place : ℕ) → checked reader frame place ≡ judged (eqb place (length frame)) place (scan_at reader frame 0)
unfolding checked scanned
start reader frame place = refl
