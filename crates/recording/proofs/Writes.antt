-- What the writer writes: `written` and `unwritable` of specs/Recording.antt.
use mathlib.Core.Path.{◌≡◌, sym, ◌∙◌}
use mathlib.Core.Bool.{true, not, ◌&&◌, ◌||◌}
use mathlib.Core.Option.{Option, none}
use mathlib.Core.List.{List, [], ◌∷◌, ◌++◌}
use Prim.Native.Nat.{ℕ, zero, suc, ◌+◌, ◌*◌, ◌≤◌, ◌<◌}
use native.Mathlib.Nat.{zero-add}
use native.Mathlib.Omega.{arith}
use lib.ListN.{length, get_or, length-append}
use lib.Dec.{ltb, leb, eqb}
use borrow.Author.Tests.{ltb-false, leb-true, eqb-true, not-false, le-ltb}
use Rattle.octets.specs.Octets.{be32, spread, put, sum_of}
use Rattle.octets.proofs.Flags.{both, neither, cond_elim}
use Rattle.octets.proofs.Put.{put-put}
use Rattle.octets.proofs.Numbers.{length-be32}
use Rattle.octets.proofs.Pairs.{length-spread}
use Rattle.wire.specs.Frame.{frame_max}
use Rattle.recording.specs.declared.Refusal.{Refusal}
use Rattle.recording.specs.Recording.{Recording, frames_max, octets_max, sized, uneven, written, unwritable}

-- ---- what is written

pub length-written : (r : Recording) → length (written r) ≡ 8 + length r.lengths * 2 + length r.octets
unfolding written
length-written r =
    let n : ℕ = length r.lengths in
    let m : ℕ = length r.octets in
    rw (length-append, length-append, length-append, length-spread r.lengths, length-be32 n, length-be32 m) (omega arith)

-- in four parts
pub put_written : (d d₁ d₂ d₃ d₄ : List ℕ) (r : Recording) → 8 + length r.lengths * 2 + length r.octets ≤ length d
    → d₁ ≡ put d 0 (be32 (length r.lengths)) → d₂ ≡ put d₁ 4 (spread r.lengths) → d₃ ≡ put d₂ (4 + length r.lengths * 2) (be32 (length r.octets))
    → d₄ ≡ put d₃ (8 + length r.lengths * 2) r.octets → d₄ ≡ put d 0 (written r)
unfolding written
put_written d d₁ d₂ d₃ d₄ r h e₁ e₂ e₃ e₄ =
    let n : ℕ = length r.lengths in
    let m : ℕ = length r.octets in
    let a : List ℕ = be32 n ++ spread r.lengths in
    let la : length a ≡ 4 + n * 2 = rw (length-append, length-be32 n, length-spread r.lengths) in
    let lb : length (a ++ be32 m) ≡ 8 + n * 2 = rw (length-append, la, length-be32 m) (omega arith) in
    let two : d₂ ≡ put d 0 a = e₂ ∙ rw e₁ (put-put d 0 4 (be32 n) (spread r.lengths) (sym (zero-add (length (be32 n)) ∙ length-be32 n)) (rw (length-spread r.lengths) (omega arith))) in
    let three : d₃ ≡ put d 0 (a ++ be32 m) = e₃ ∙ rw two (put-put d 0 (4 + n * 2) a (be32 m) (sym (zero-add (length a) ∙ la)) (rw (length-be32 m) (omega arith))) in
    e₄ ∙ rw three (put-put d 0 (8 + n * 2) (a ++ be32 m) r.octets (sym (zero-add (length (a ++ be32 m)) ∙ lb)) (omega arith))

-- ---- what can be written

pub record Writable (r : Recording) : Type 0 where
  pub few : length r.lengths ≤ frames_max
  pub small : length r.octets ≤ octets_max
  pub even : uneven r.lengths (length r.octets) ≡ none

pub writable : (r : Recording) → unwritable r ≡ none → Writable r
unfolding unwritable
writable r =
    cond_elim (λ (z : Option Refusal). z ≡ none → Writable r) (ltb frames_max (length r.lengths) || ltb octets_max (length r.octets)) (λ _ e. absurd (cc))
    (λ t e. let n = neither _ (ltb octets_max (length r.octets)) t in record { few = ltb-false frames_max (length r.lengths) n.0; small = ltb-false octets_max (length r.octets) n.1; even = e })

pub writes-back : (r : Recording) → Writable r → unwritable r ≡ none
unfolding unwritable
writes-back r f = rw (le-ltb frames_max (length r.lengths) f.few, le-ltb octets_max (length r.octets) f.small) f.even

pub sized-at : (ns : List ℕ) → sized ns ≡ true → (k : ℕ) → k < length ns → get_or ns k 0 ≤ frame_max
unfolding sized
sized-at [] e k h = absurd (omega arith)
sized-at (n ∷ ns) e zero h = leb-true n frame_max (both (leb 1 n) (leb n frame_max) (both (leb 1 n && leb n frame_max) (sized ns) e).0).1
sized-at (n ∷ ns) e (suc k) h = sized-at ns (both (leb 1 n && leb n frame_max) (sized ns) e).1 k (omega arith)

-- lengths and octets that belong together
pub even-sized : (ns : List ℕ) (m : ℕ) → uneven ns m ≡ none → (sized ns ≡ true) × (m ≡ sum_of ns)
unfolding uneven
even-sized ns m =
    cond_elim (λ (z : Option Refusal). z ≡ none → (sized ns ≡ true) × (m ≡ sum_of ns)) (not (sized ns)) (λ _ e. absurd (cc))
    (λ s. cond_elim (λ (z : Option Refusal). z ≡ none → (sized ns ≡ true) × (m ≡ sum_of ns)) (not (eqb m (sum_of ns))) (λ _ e. absurd (cc))
    (λ t _. (not-false (sized ns) s, eqb-true m (sum_of ns) (not-false (eqb m (sum_of ns)) t))))
