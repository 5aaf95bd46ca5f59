-- Writing at an offset: `put` of specs/Octets.antt.
--     put-mid        a part that was replaced is a put
--     length-put     a put within a list keeps its length
--     put-none       a put of nothing
--     put_whole      a put of all octets
--     read_back      what was put at the front is read there
--     put-put        a put behind a put is one put of the two joined; put_behind: where the second may reach beyond the end
--     put-part       a turn of a loop that copies in parts; put_all: its end
--     put_next       a store behind what was put; put_one: a store; set_beyond: a store behind the end
--     octets_put     a put of octets into octets
-- Assumes nothing.
use mathlib.Core.Path.{◌≡◌, refl, sym, ap, ◌∙◌}
use mathlib.Core.List.{List, [], ◌∷◌, ◌++◌, append_assoc, append-nil}
use Prim.Native.Nat.{ℕ, zero, suc, ◌+◌, ◌-◌, ◌≤◌, ◌<◌}
use native.Mathlib.Numerals.{add-one}
use native.Mathlib.Nat.{add_assoc, add-zero, zero-add}
use native.Mathlib.Omega.{arith}
use borrow.Rule.Slice.PartMut.{put_mid, Post-is}
use lib.ListN.{length, take, drop, set, get_or, length-append, length-take, length-drop, take-append-drop}
use lib.Seq.{set_split, drop-cons, append_snoc, set-append_seam, take_all, take-add, drop-length, length-take-le, take_at, drop_at, drop-drop}
use Rattle.octets.specs.Octets.{Octets, put}
use Rattle.octets.proofs.Numbers.{octets_drop, octets_take, octets_append}

pub put-mid : (d : List ℕ) (at e : ℕ) (s : List ℕ) → e ≡ at + length s → put_mid at (e - at) d s ≡ put d at s
unfolding put
put-mid d at e s h =
    ap (λ (r : List ℕ). take at d ++ (s ++ r)) (Post-is at e d (omega arith) ∙ ap (λ (n : ℕ). drop n d) h)
    ∙ sym (append_assoc (take at d) s (drop (at + length s) d))

pub length-put : (d : List ℕ) (at : ℕ) (s : List ℕ) → at + length s ≤ length d → length (put d at s) ≡ length d
unfolding put
length-put d at s h = simp (length-append, length-take, length-drop) (omega arith)

pub put-none : (d : List ℕ) (at : ℕ) → put d at [] ≡ d
unfolding put
put-none d at = rw (add-zero at, append-nil (take at d)) (take-append-drop at d)

pub put_whole : (d s : List ℕ) → length s ≡ length d → put d 0 s ≡ s
unfolding put
put_whole d s e = rw (e, zero-add (length d), drop-length d, append-nil s)

pub read_back : (d₀ d s : List ℕ) → d ≡ put d₀ 0 s → take (length s) d ≡ s
unfolding put
read_back d₀ d s e = rw e (take_at s (drop (0 + length s) d₀) (length s) refl)

pub put_behind : (d : List ℕ) (at k : ℕ) (a b : List ℕ) → k ≡ at + length a → at ≤ length d → put (put d at a) k b ≡ put d at (a ++ b)
unfolding put
put_behind d at k a b e h =
    let p : List ℕ = take at d ++ a in
    let q : List ℕ = drop (at + length a) d in
    let lp : length p ≡ k = length-append (take at d) a ∙ ap (λ (n : ℕ). n + length a) (length-take-le at d h) ∙ sym e in
    let e₁ : take k (p ++ q) ≡ p = take_at p q k lp in
    let e₂ : drop (k + length b) (p ++ q) ≡ drop (at + length (a ++ b)) d =
    sym (drop-drop (length b) k (p ++ q)) ∙ ap (λ (r : List ℕ). drop (length b) r) (drop_at p q k lp) ∙ drop-drop (length b) (at + length a) d
    ∙ ap (λ (n : ℕ). drop n d) (add_assoc at (length a) (length b) ∙ ap (λ (n : ℕ). at + n) (sym (length-append a b))) in
    rw (e₁, e₂) (simp append_assoc)

pub put-put : (d : List ℕ) (at k : ℕ) (a b : List ℕ) → k ≡ at + length a → k + length b ≤ length d
    → put (put d at a) k b ≡ put d at (a ++ b)
put-put d at k a b e h = put_behind d at k a b e (omega arith)

-- a put may make a list longer
pub put_reaches : (d : List ℕ) (at : ℕ) (a : List ℕ) → at ≤ length d → at + length a ≤ length (put d at a)
unfolding put
put_reaches d at a h = simp (length-append, length-take, length-drop) (omega arith)

pub put_one : (d : List ℕ) (k x : ℕ) → k < length d → set d k x ≡ put d k (x ∷ [])
unfolding put
put_one d k x h = rw (add-one k) (set_split d k x h ∙ sym (append_snoc (take k d) x (drop (suc k) d)))

pub put-part : (d₀ d : List ℕ) (at : ℕ) (s : List ℕ) (j e : ℕ) → d ≡ put d₀ at (take j s) → j ≤ e → e ≤ length s → at + length s ≤ length d₀
    → put d (at + j) (take (e - j) (drop j s)) ≡ put d₀ at (take e s)
put-part d₀ d at s j e h le fits room =
    let sum : j + (e - j) ≡ e = omega arith in
    let joined : take j s ++ take (e - j) (drop j s) ≡ take e s = sym (take-add j (e - j) s) ∙ ap (λ (n : ℕ). take n s) sum in
    rw h (put-put d₀ at (at + j) (take j s) (take (e - j) (drop j s)) (rw (length-take-le j s (omega arith))) (rw (length-take, length-drop) (omega arith)) ∙ ap (λ (r : List ℕ). put d₀ at r) joined)

pub put_all : (d₀ d : List ℕ) (at : ℕ) (s : List ℕ) (j : ℕ) → d ≡ put d₀ at (take j s) → length s ≤ j → d ≡ put d₀ at s
put_all d₀ d at s j e h = e ∙ ap (λ (r : List ℕ). put d₀ at r) (take_all j s h)

pub put_next : (d xs : List ℕ) (x : ℕ) → length xs < length d → set (put d 0 xs) (length xs) x ≡ put d 0 (xs ++ x ∷ [])
unfolding put
put_next d xs x h =
    let len : length (xs ++ x ∷ []) ≡ suc (length xs) = length-append xs (x ∷ []) ∙ add-one (length xs) in
    rw (zero-add (length xs), drop-cons d (length xs) 0 h, set-append_seam xs (get_or d (length xs) 0) (drop (suc (length xs)) d) x, len, zero-add (suc (length xs)))
    (sym (append_snoc xs x (drop (suc (length xs)) d)))

pub set_beyond : (xs : List ℕ) (k x : ℕ) → length xs ≤ k → xs ≡ set xs k x
set_beyond [] k x h = refl
set_beyond (y ∷ ys) zero x h = absurd (omega arith)
set_beyond (y ∷ ys) (suc k) x h = ap (λ (zs : List ℕ). y ∷ zs) (set_beyond ys k x (omega arith))

pub octets_put : (d : List ℕ) (at : ℕ) (s : List ℕ) → Octets d → Octets s → Octets (put d at s)
unfolding put
octets_put d at s p q =
    octets_append (take at d ++ s) (drop (at + length s) d) (octets_append (take at d) s (octets_take at d p) q) (octets_drop (at + length s) d p)
