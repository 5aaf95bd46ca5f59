-- What bundles add to an output and to lists of entries, one bundle at a time, and what refused frames add.
use mathlib.Core.Path.{◌≡◌, refl, sym, ap, ◌∙◌}
use mathlib.Core.Option.{none, some}
use mathlib.Core.List.{List, [], ◌∷◌, ◌++◌, map, map-append}
use Prim.Native.Nat.{ℕ, ◌+◌, ◌≤◌}
use native.Mathlib.Omega.{arith}
use lib.ListN.{length, set, length-set, length-append, length-map}
use Rattle.octets.specs.Octets.{put}
use Rattle.octets.proofs.Put.{put-none, put_behind, put_reaches, put_one}
use Rattle.rows.specs.Message.{Board, Handed}
use Rattle.messages.specs.Run.{Run, origin_number, progressed, advanced}
use Rattle.rows.specs.Messages.{joined_octets}
use Rattle.frames.specs.Frames.{Note, Reach}

unfoldable pub poured : List ℕ → ℕ → List Handed → List ℕ
poured d k [] = d
poured d k (h ∷ hs) = poured (put d k h.octets) (k + length h.octets) hs

unfoldable pub entries : List ℕ → ℕ → List ℕ → List ℕ
entries d k [] = d
entries d k (x ∷ xs) = entries (set d k x) (k + 1) xs

pub poured_put : (d : List ℕ) (k : ℕ) (hs : List Handed) → k ≤ length d → poured d k hs ≡ put d k (joined_octets hs)
unfolding poured joined_octets
poured_put d k [] le = sym (put-none d k)
poured_put d k (h ∷ hs) le =
    poured_put (put d k h.octets) (k + length h.octets) hs (put_reaches d k h.octets le) ∙ put_behind d k (k + length h.octets) h.octets (joined_octets hs) refl le

pub entries-put : (d : List ℕ) (k : ℕ) (xs : List ℕ) → k + length xs ≤ length d → entries d k xs ≡ put d k xs
unfolding entries
entries-put d k [] le = sym (put-none d k)
entries-put d k (x ∷ xs) le =
    entries-put (set d k x) (k + 1) xs (rw (length-set d k x) (omega arith))
    ∙ ap (λ (e : List ℕ). put e (k + 1) xs) (put_one d k x (omega arith)) ∙ put_behind d k (k + 1) (x ∷ []) xs refl (omega arith)

abbrev pub sizes_of : List Handed → List ℕ
sizes_of hs = map (λ (h : Handed). length h.octets) hs

abbrev pub numbers_of : List Handed → List ℕ
numbers_of hs = map (λ (h : Handed). origin_number h.origin) hs

-- a run that goes on with bundles hs
pub record Adds (r after : Run) (hs : List Handed) : Type 0 where
  pub output : after.output ≡ poured r.output r.progress.used hs
  pub lengths : after.lengths ≡ entries r.lengths r.progress.count (sizes_of hs)
  pub numbers : after.numbers ≡ entries r.numbers r.progress.count (numbers_of hs)
  pub count : after.progress.count ≡ r.progress.count + length hs
  pub used : after.progress.used ≡ r.progress.used + length (joined_octets hs)

pub adds_none : (r : Run) → Adds r r []
unfolding poured entries joined_octets
adds_none r = record { output = refl; lengths = refl; numbers = refl; count = omega arith; used = omega arith }

pub adds_silent : (r after : Run) (b : Board) (next : ℕ) (hs : List Handed) → Adds (advanced r b next none) after hs → Adds r after hs
unfolding advanced progressed
adds_silent r after b next hs A = record { output = A.output; lengths = A.lengths; numbers = A.numbers; count = A.count; used = A.used }

pub adds_bundle : (r after : Run) (b : Board) (next : ℕ) (h : Handed) (hs : List Handed) → Adds (advanced r b next (some h)) after hs → Adds r after (h ∷ hs)
unfolding advanced progressed poured entries joined_octets
adds_bundle r after b next h hs A = record {
  output = A.output;
  lengths = A.lengths;
  numbers = A.numbers;
  count = omega (arith, A.count);
  used = omega (arith, A.used, length-append h.octets (joined_octets hs));
}

-- ---- one run behind another

length-joined : (hs hs' : List Handed) → length (joined_octets (hs ++ hs')) ≡ length (joined_octets hs) + length (joined_octets hs')
unfolding joined_octets
length-joined [] hs' = omega arith
length-joined (h ∷ hs) hs' = omega (arith, length-joined hs hs', length-append h.octets (joined_octets (hs ++ hs')), length-append h.octets (joined_octets hs))

poured_behind : (d : List ℕ) (k n : ℕ) (hs hs' : List Handed) → n ≡ k + length (joined_octets hs) → poured d k (hs ++ hs') ≡ poured (poured d k hs) n hs'
unfolding poured joined_octets
poured_behind d k n [] hs' e = ap (λ (m : ℕ). poured d m hs') (omega arith)
poured_behind d k n (h ∷ hs) hs' e = poured_behind (put d k h.octets) (k + length h.octets) n hs hs' (omega (arith, length-append h.octets (joined_octets hs)))

entries_behind : (d : List ℕ) (k n : ℕ) (xs ys : List ℕ) → n ≡ k + length xs → entries d k (xs ++ ys) ≡ entries (entries d k xs) n ys
unfolding entries
entries_behind d k n [] ys e = ap (λ (m : ℕ). entries d m ys) (omega arith)
entries_behind d k n (x ∷ xs) ys e = entries_behind (set d k x) (k + 1) n xs ys (omega arith)

pub adds_behind : (r mid after : Run) (hs hs' : List Handed) → Adds r mid hs → Adds mid after hs' → Adds r after (hs ++ hs')
adds_behind r mid after hs hs' A B = record {
  output = B.output ∙ rw A.output (sym (poured_behind r.output r.progress.used mid.progress.used hs hs' A.used));
  lengths = B.lengths ∙ rw (A.lengths, map-append _ hs hs') (sym (entries_behind r.lengths r.progress.count mid.progress.count (sizes_of hs) (sizes_of hs') (A.count ∙ ap (λ (n : ℕ). r.progress.count + n) (sym (length-map hs _)))));
  numbers = B.numbers ∙ rw (A.numbers, map-append _ hs hs') (sym (entries_behind r.numbers r.progress.count mid.progress.count (numbers_of hs) (numbers_of hs') (A.count ∙ ap (λ (n : ℕ). r.progress.count + n) (sym (length-map hs _)))));
  count = omega (arith, A.count, B.count, length-append hs hs');
  used = omega (arith, A.used, B.used, length-joined hs hs');
}

-- ---- refused frames

-- refused frames ns are noted
pub record Notes (r after : Reach) (ns : List Note) : Type 0 where
  pub places : after.places ≡ entries r.places r.refused (map (λ (n : Note). n.place) ns)
  pub reasons : after.reasons ≡ entries r.reasons r.refused (map (λ (n : Note). n.reason) ns)
  pub refused : after.refused ≡ r.refused + length ns

pub notes_none : (r : Reach) → Notes r r []
unfolding entries
notes_none r = record { places = refl; reasons = refl; refused = omega arith }
