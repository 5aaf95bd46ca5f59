-- A burst is single calls, and bursts continued are all the single calls of the list: `BurstEquals` and `AllSingles` of specs/Equal.antt.
use mathlib.Core.Bool.{true, false}
use mathlib.Core.List.{List, [], ◌∷◌, ◌++◌}
use mathlib.Core.Logic.{◌⊎◌, inl, inr}
use mathlib.Core.Option.{Option, none, some}
use mathlib.Core.Path.{◌≡◌, refl, sym, ap, ◌∙◌}
use Prim.Native.Nat.{ℕ, suc, ◌+◌, ◌*◌, ◌≤◌, ◌<◌}
use native.Mathlib.Omega.{arith}
use native.Mathlib.Nat.{sub-zero}
use lib.ListN.{length, take, drop, length-drop, length-map}
use lib.Dec.{eqb}
use borrow.Author.Tests.{eqb-true, le-leb, not-false}
use Rattle.std.proofs.Common.{Ok}
use Rattle.octets.specs.Octets.{sum_of}
use Rattle.wire.specs.Frame.{Sized}
use Rattle.wire.specs.declared.Version.{Version}
use Rattle.wire.proofs.Spans.{sized}
use Rattle.window.specs.Window.{Window}
use Rattle.pieces.specs.Pieces.{bundle_max}
use Rattle.rows.specs.Message.{Draft, Board, Handed, draft}
use Rattle.messages.specs.Run.{going, begun}
use Rattle.receiver.proofs.Ready.{Ready}
use Rattle.frames.specs.Frames.{Note, frames_of, Reach, set_out}
use Rattle.frames.specs.Singles.{room_in, over}
use Rattle.frames.proofs.Joined.{octets_in, frames_fit, frames-from, frames_many}
use Rattle.frames.proofs.Adding.{poured_put, entries-put}
use Rattle.frames.proofs.Costs.{Priced, priced_read}
use Rattle.frames.proofs.Burst.{Carried, carried}
use Rattle.frames.proofs.Calls.{few-out, Anyhow, go_on}
use Rattle.burst.specs.declared.Refusal.{Refusal}
use Rattle.burst.specs.declared.Taken.{Taken}
use Rattle.burst.specs.Burst.{took, limits, frames_max, Lists, Reply, taken, misplaced_in, refusal, receive_burst}
use Rattle.burst.specs.Equal.{Sixteen, Long, Shaped, Equals, BurstEquals, Given, Continued, ended, onward, Gave, none as gave-none, then, AllSingles}
use Rattle.burst.proofs.Starts.{none-behind}
use Rattle.burst.proofs.Refusals.{went, refused, treated, Admits, admits}

-- lengths of 16 bits come to no more than 65,535 each
sum_short : (ns : List ℕ) → Sixteen ns → sum_of ns ≤ length ns * 65535
unfolding sum_of
sum_short [] h = omega arith
sum_short (n ∷ ns) h = omega (arith, h 0, sum_short ns (λ j. h (suc j)))

module _ (D : Draft) (M : (xs : List ℕ) → Sized (length xs) (D.read xs)) (C : (xs : List ℕ) → Priced (D.read xs)) (w : ℕ) (win : Window w) where
  module _ (b : Board) (sizes octets : List ℕ) (k place : ℕ) (l : Lists) (Z : Shaped D w b) (T : Sixteen sizes) (A : Admits D w b sizes octets k place l) where
    abbrev fs : List (List ℕ)
    fs = drop k (frames_of sizes octets)

    abbrev first : Reach
    first = set_out (going b.state b.pool l.output l.lengths l.numbers (begun place)) l.places l.reasons k

    ready : Ready w b
    ready = record { window = Z.window; sound = A.state; shaped = λ r r<. record { indexes64 = Z.indexes r r<; lengths64 = Z.lengths r r< }; rows = Z.rows; pool = A.pool }

    few : 0 + octets_in fs < 4194304
    few =
        let s : ℕ = sum_of (take k sizes) in
        let within : octets_in fs ≤ length (drop s octets) = rw (frames-from k sizes octets) (frames_fit (drop k sizes) (drop s octets)) in
        omega (arith, within, length-drop s octets, A.even, sum_short sizes T, A.few)

    room : room_in limits (length l.output) 0 0 ≡ true
    room = rw sub-zero (le-leb bundle_max (length l.output) A.room)

    fronted : (gs : List (List ℕ)) → misplaced_in D gs place ≡ false → (place ≡ 0) ⊎ ((room_in limits (length l.output) 0 0 ≡ true) × (0 < length gs))
    unfolding misplaced_in
    fronted [] e = inl (eqb-true place 0 (not-false (eqb place 0) e))
    fronted (g ∷ gs) e = inr (room, omega arith)

    pub came : Carried D M C w win limits (length l.output) l.output A.room first (went D w b sizes octets k place l) fs
    came = carried D M C w win limits (length l.output) l.output A.room fs first (record { ready = ready; lent = refl; few = few; fronted = fronted fs A.placed })

    abbrev after : Reach
    after = went D w b sizes octets k place l

    abbrev hs : List Handed
    hs = came.handed

    abbrev ns : List Note
    ns = came.notes

    most : (0 + length hs ≤ limits.bundles) × (length ns ≤ length fs)
    most = few-out D w limits (length l.output) came.calls (omega arith)

    notes_few : length ns ≤ frames_max
    notes_few = omega (arith, most.1, length-drop k (frames_of sizes octets), frames_many sizes octets, A.few)

    equals : Long l → Equals D w b sizes octets k place l (taken after).board (taken after).lists after.run.progress.count after.run.progress.used after.frame after.run.progress.next after.refused
    equals L = record {
      handed = hs;
      notes = ns;
      calls = came.calls;
      lists = λ i. record {
        output = (came.adds.output ∙ poured_put l.output 0 hs (omega arith)) i;
        lengths = (came.adds.lengths ∙ entries-put l.lengths 0 _ (rw (length-map hs) (omega (arith, most.0, L.lengths)))) i;
        numbers = (came.adds.numbers ∙ entries-put l.numbers 0 _ (rw (length-map hs) (omega (arith, most.0, L.numbers)))) i;
        places = (came.noted.places ∙ entries-put l.places 0 _ (rw (length-map ns) (omega (arith, notes_few, L.places)))) i;
        reasons = (came.noted.reasons ∙ entries-put l.reasons 0 _ (rw (length-map ns) (omega (arith, notes_few, L.reasons)))) i;
      };
      counted = omega (arith, came.adds.count);
      filled = omega (arith, came.adds.used);
      noted = omega (arith, came.noted.refused);
    }

  module _ (b : Board) (sizes octets : List ℕ) (k place : ℕ) (l : Lists) (bundles used k' place' refused₁ : ℕ) (Z : Shaped D w b) (T : Sixteen sizes)
      (e : (receive_burst D w b sizes octets k place l).answer ≡ Ok (took bundles used k' place' refused₁)) where
    -- a burst that is taken is not refused
    admitting : Admits D w b sizes octets k place l × (receive_burst D w b sizes octets k place l ≡ taken (went D w b sizes octets k place l))
    admitting = go (refusal D w b sizes octets k place l.output) refl
      where
        go : (q : Option Refusal) → refusal D w b sizes octets k place l.output ≡ q → Admits D w b sizes octets k place l × (receive_burst D w b sizes octets k place l ≡ taken (went D w b sizes octets k place l))
        go (some q) h = absurd (let x = ap (λ (r : Reply). r.answer) (refused D w b sizes octets k place l q h) in let z : ◌≡◌ {A = ℕ} 0 1 = cc in omega arith)
        go none h = (admits D w b sizes octets k place l h, treated D w b sizes octets k place l h)

    -- the board stays ready
    pub burst-ready : Ready w (receive_burst D w b sizes octets k place l).board
    burst-ready = rw admitting.1 (came b sizes octets k place l Z T admitting.0).ready

    is_singles : Long l → Equals D w b sizes octets k place l (receive_burst D w b sizes octets k place l).board (receive_burst D w b sizes octets k place l).lists bundles used k' place' refused₁
    is_singles L =
        let E = equals b sizes octets k place l Z T admitting.0 L in
        let x = ap (λ (r : Reply). r.answer) (sym admitting.1) ∙ e in
        let r : Reach = went D w b sizes octets k place l in
        let t : took r.run.progress.count r.run.progress.used r.frame r.run.progress.next r.refused ≡ took bundles used k' place' refused₁ = cc in
        let x₁ = ap (λ (y : Taken). y.bundles) t in
        let x₂ = ap (λ (y : Taken). y.octets) t in
        let x₃ = ap (λ (y : Taken). y.frame) t in
        let x₄ = ap (λ (y : Taken). y.place) t in
        let x₅ = ap (λ (y : Taken). y.refused) t in
        rw admitting.1 (rw (x₁, x₂, x₃, x₄, x₅) at E)

  pub burst-equals : BurstEquals D w
  burst-equals b sizes octets k place l bundles used k' place' refused₁ Z L T e = is_singles b sizes octets k place l bundles used k' place' refused₁ Z T e L

  -- ---- bursts continued

  pub record AllOf (sizes octets : List ℕ) (b : Board) (k place : ℕ) (gs : List Given) (after : Board) : Type 0 where
    pub handed : List Handed
    pub notes : List Note
    pub gave : Gave gs handed notes
    pub calls : Anyhow D w k (drop k (frames_of sizes octets)) b place handed notes after (length sizes) 0

  reshaped : {b : Board} → Ready w b → Shaped D w b
  reshaped R = record { window = R.window; rows = R.rows; indexes = λ r r<. (R.shaped r r<).indexes64; lengths = λ r r<. (R.shaped r r<).lengths64 }

  none_left : (sizes octets : List ℕ) (b : Board) → AllOf sizes octets b (length sizes) 0 [] b
  none_left sizes octets b = record { handed = []; notes = []; gave = gave-none; calls = λ c u. rw (none-behind (length sizes) sizes octets refl) over }

  one_more : (sizes octets : List ℕ) (b after : Board) (k place k' place' : ℕ) (gs : List Given) (l : Lists) (bundles used refused : ℕ)
      → Equals D w b sizes octets k place l (receive_burst D w b sizes octets k place l).board (receive_burst D w b sizes octets k place l).lists bundles used k' place' refused
      → AllOf sizes octets (receive_burst D w b sizes octets k place l).board k' place' gs after
      → AllOf sizes octets b k place (record { before = l; after = (receive_burst D w b sizes octets k place l).lists; bundles = bundles; refused = refused } ∷ gs) after
  one_more sizes octets b after k place k' place' gs l bundles used refused E R = record {
    handed = E.handed ++ R.handed;
    notes = E.notes ++ R.notes;
    gave = then E.handed E.notes E.lists E.counted E.noted R.gave;
    calls = go_on D w (room_in limits (length l.output)) (frames_of sizes octets) E.calls refl R.calls;
  }

  all_of : {sizes octets : List ℕ} {b after : Board} {k place : ℕ} {gs : List Given} → Sixteen sizes → Shaped D w b → Continued D w sizes octets b k place gs after → AllOf sizes octets b k place gs after
  all_of {sizes} {octets} T Z (ended {b}) = none_left sizes octets b
  all_of {sizes} {octets} T Z (onward {b} {after} {k} {place} {k'} {place'} {gs} l bundles used refused₁ L e s) =
      one_more sizes octets b after k place k' place' gs l bundles used refused₁ (is_singles b sizes octets k place l bundles used k' place' refused₁ Z T e L)
      (all_of T (reshaped (burst-ready b sizes octets k place l bundles used k' place' refused₁ Z T e)) s)

  pub all-singles : AllSingles D w
  all-singles sizes octets b after gs Z T s = let R = all_of T Z s in (R.handed, R.notes, R.gave, R.calls 0 0)

-- for a receiver of either draft and any window
pub burst_equals_draft : (v : Version) (w : ℕ) → Window w → BurstEquals (draft v) w
burst_equals_draft v = burst-equals (draft v) (sized v) (priced_read v)

pub all_singles_draft : (v : Version) (w : ℕ) → Window w → AllSingles (draft v) w
all_singles_draft v = all-singles (draft v) (sized v) (priced_read v)
