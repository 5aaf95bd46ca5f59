-- A run over the messages of a frame is single calls, from any progress on: it ends with the frame, or right behind a bundle.
use mathlib.Core.Path.{◌≡◌, refl, sym, ap, ◌∙◌}
use mathlib.Core.Bool.{Bool, true, false, cond, false≢true}
use mathlib.Core.Logic.{◌⊎◌, inl, inr}
use mathlib.Core.Option.{Option, none, some}
use mathlib.Core.List.{List, [], ◌∷◌, ◌++◌}
use Prim.Native.Nat.{ℕ, ◌+◌, ◌-◌, ◌≤◌, ◌<◌}
use native.Mathlib.Omega.{arith}
use lib.ListN.{length, take}
use lib.Dec.{ltb}
use borrow.Author.Tests.{lt-ltb, leb-true}
use Rattle.std.proofs.Common.{Ok}
use Rattle.octets.specs.Octets.{put}
use Rattle.octets.proofs.Flags.{bool, both}
use Rattle.octets.proofs.Put.{read_back, length-put}
use Rattle.wire.specs.Frame.{Item, row, items, from, scanned, Sized, frame_max}
use Rattle.wire.proofs.Order.{Along, few-items, good_place}
use Rattle.wire.proofs.Places.{taken}
use Rattle.window.specs.Window.{Window}
use Rattle.pieces.specs.Pieces.{bundle_max}
use Rattle.rows.specs.Message.{Draft, Board, Handed, step, messages_from}
use Rattle.messages.specs.declared.Limits.{Limits}
use Rattle.messages.specs.declared.Progress.{Progress}
use Rattle.messages.specs.Run.{Run, progressed, advanced, run}
use Rattle.receiver.specs.Receive.{Reply, unfit, delivered, treat, receive_as}
use Rattle.receiver.specs.declared.Answer.TheVariants.{Delivered}
use Rattle.receiver.proofs.Ready.{Ready, step-ready}
use Rattle.receiver.proofs.Calls.{admitted as admitted-call}
use Rattle.receiver.proofs.Standing.{At, at_place, at_next}
use Rattle.receiver.proofs.Limit.{few_messages}
use Rattle.receiver.proofs.Weight.{payload, octets_of, step_fits}
use Rattle.receiver.proofs.Refusals.{fit}
use Rattle.frames.specs.Frames.{Note}
use Rattle.frames.specs.Singles.{room_in, Singles, delivers, finishes}
use Rattle.frames.proofs.Costs.{Priced, Pays, pays, pays_within}
use Rattle.frames.proofs.Adding.{Adds, adds_none, adds_silent, adds_bundle}

-- the tests of `roomy` that only a bundle changes
abbrev room : Progress → Limits → ℕ → Bool
room p limits size = room_in limits size p.count p.used

-- what each message brings has room in a bundle
unfoldable Brief : List Item → Type 0
Brief [] = ◌≡◌ {A = ℕ} 0 0
Brief (i ∷ is) = (payload i.message ≤ bundle_max) × Brief is

brief_frame : (p e : ℕ) (is : List Item) → e ≤ bundle_max → Pays p is e → Brief is
unfolding Brief Along
brief_frame p e [] le l = refl
brief_frame p e (i ∷ is) le l = (omega (arith, l.1.1, pays_within i.next e is l.2), brief_frame i.next e is le l.2)

brief_behind : (xs ys : List Item) → Brief (xs ++ ys) → Brief ys
unfolding Brief
brief_behind [] ys h = h
brief_behind (x ∷ xs) ys h = brief_behind xs ys h.1

module _ (D : Draft) (w : ℕ) (limits : Limits) (size : ℕ) (f : List ℕ) (k : ℕ) (fs : List (List ℕ)) where
  abbrev Single : ℕ → List (List ℕ) → Board → ℕ → ℕ → ℕ → List Handed → List Note → Board → ℕ → ℕ → Type 0
  Single = Singles D w (room_in limits size)

  -- whatever single calls follow frame k₁, a board and a place, calls from b and `at` on get there with the bundles hs
  abbrev pub Leading : Board → ℕ → ℕ → ℕ → List Handed → ℕ → List (List ℕ) → Board → ℕ → Progress → Type 0
  Leading b at count used hs k₁ fs₁ b₁ at₁ p₁ =
      (hs' : List Handed) (ns : List Note) (final : Board) (k' place' : ℕ) → Single k₁ fs₁ b₁ at₁ p₁.count p₁.used hs' ns final k' place' → Single k (f ∷ fs) b at count used (hs ++ hs') ns final k' place'

  pub data Fate (b : Board) (at count used : ℕ) (after : Run) (hs : List Handed) : Type 0 where
    through : after.progress.next ≡ length f → Leading b at count used hs (k + 1) fs after.board 0 after.progress → Fate b at count used after hs
    stopped : after.progress.next < length f → room after.progress limits size ≡ false → Leading b at count used hs k (f ∷ fs) after.board after.progress.next after.progress
        → Fate b at count used after hs

  -- how far a run came that single calls from a board and a place on stand for
  pub record Came (b : Board) (at : ℕ) (r after : Run) : Type 0 where
    pub handed : List Handed
    pub adds : Adds r after handed
    pub fate : Fate b at r.progress.count r.progress.used after handed
    pub ready : Ready w after.board
    pub lent : length after.output ≡ size

  -- a call that hands out x
  hands_out : (b b₁ : Board) (at next count used : ℕ) (spare : List ℕ) (x : Handed) → bundle_max ≤ length spare → room_in limits size count used ≡ true
      → receive_as D w b f at spare ≡ record { answer = Ok (Delivered (length x.octets) next x.origin); board = b₁; output = put spare 0 x.octets }
      → (hs : List Handed) (ns : List Note) (final : Board) (k' place' : ℕ) → Single k (f ∷ fs) b₁ next (count + 1) (used + length x.octets) hs ns final k' place'
      → Single k (f ∷ fs) b at count used (x ∷ hs) ns final k' place'
  hands_out b b₁ at next count used spare x big free q hs ns final k' place' s =
      let os : take (length x.octets) (receive_as D w b f at spare).output ≡ x.octets = rw q (read_back spare (put spare 0 x.octets) x.octets refl) in
      let same : ◌≡◌ {A = Handed} (record { origin = x.origin; octets = take (length x.octets) (receive_as D w b f at spare).output }) x = ap (λ (ys : List ℕ). record { origin = x.origin; octets = ys }) os in
      let s₁ : Single k (f ∷ fs) (receive_as D w b f at spare).board next (count + 1) (used + length x.octets) hs ns final k' place' = rw q s in
      rw same at (delivers spare (length x.octets) next x.origin big free (ap (λ (y : Reply). y.answer) q) s₁)

  behind : (b b₁ : Board) (at next count used : ℕ) (spare : List ℕ) (x : Handed) → bundle_max ≤ length spare → room_in limits size count used ≡ true
      → receive_as D w b f at spare ≡ record { answer = Ok (Delivered (length x.octets) next x.origin); board = b₁; output = put spare 0 x.octets }
      → (after : Run) (hs : List Handed) → Fate b₁ next (count + 1) (used + length x.octets) after hs → Fate b at count used after (x ∷ hs)
  behind b b₁ at next count used spare x big free q after hs (through n l) =
      through n (λ hs' ns final k' place' s. hands_out b b₁ at next count used spare x big free q (hs ++ hs') ns final k' place' (l hs' ns final k' place' s))
  behind b b₁ at next count used spare x big free q after hs (stopped n e l) =
      stopped n e (λ hs' ns final k' place' s. hands_out b b₁ at next count used spare x big free q (hs ++ hs') ns final k' place' (l hs' ns final k' place' s))

  module _ (M : (xs : List ℕ) → Sized (length xs) (D.read xs)) (win : Window w) (spare : List ℕ) (big : bundle_max ≤ length spare)
      (all : List Item) (whole : scanned D.read f ≡ row all) (positive : 0 < length f) (small : length f ≤ frame_max) where
    abbrev Here : ℕ → List Item → Type 0
    Here = At D M f all whole

    -- a single call from b and `at` on comes to the run's board and to the items `is`; it starts there, or there is room
    record Stands (b : Board) (at : ℕ) (r : Run) (is : List Item) : Type 0 where
      ready : Ready w r.board
      here : Here r.progress.next is
      same : receive_as D w b f at spare ≡ treat D w r.board is spare
      fresh : ((b ≡ r.board) × (at ≡ r.progress.next)) ⊎ (room r.progress limits size ≡ true)
      few : r.progress.treated + length is ≤ limits.messages
      brief : Brief is
      lent : length r.output ≡ size

    call : (b : Board) (at : ℕ) (is : List Item) → Ready w b → Here at is → receive_as D w b f at spare ≡ treat D w b is spare
    call b at is R A =
        admitted-call D w b f at spare all R.sound R.pool big positive small whole (rw A.split (good_place at (length f) A.front is A.on))
        ∙ ap (λ (js : List Item). treat D w b js spare) A.here

    abbrev Later : List Item → Type 0
    Later is = (b : Board) (at : ℕ) (r : Run) → Stands b at r is → Came b at r (run w D.order limits r is)

    at-end : Later []
    unfolding run treat Along
    at-end b at r S = record {
      handed = [];
      adds = adds_none r;
      fate = through S.here.on (λ hs' ns final k' place' s.
          let s₁ : Single (k + 1) fs (receive_as D w b f at spare).board 0 r.progress.count r.progress.used hs' ns final k' place' = rw S.same s in
          finishes spare big (go S.fresh) (ap (λ (x : Reply). x.answer) S.same) s₁);
      ready = S.ready;
      lent = S.lent;
    }
      where
        go : ((b ≡ r.board) × (at ≡ r.progress.next)) ⊎ (room r.progress limits size ≡ true) → (room r.progress limits size ≡ true) ⊎ (at ≡ length f)
        go (inl q) = inr (q.1 ∙ S.here.on)
        go (inr q) = inl q

    module _ (i : Item) (is : List Item) (b : Board) (at : ℕ) (r : Run) (S : Stands b at r (i ∷ is)) where
      in_time : ltb r.progress.treated limits.messages ≡ true
      in_time = lt-ltb r.progress.treated limits.messages (omega (arith, S.few))

      -- no room: nothing is treated
      stays : room r.progress limits size ≡ false → Came b at r r
      unfolding Along
      stays e = go S.fresh
        where
          go : ((b ≡ r.board) × (at ≡ r.progress.next)) ⊎ (room r.progress limits size ≡ true) → Came b at r r
          go (inl q) = record {
            handed = [];
            adds = adds_none r;
            fate = stopped (omega (arith, S.here.on.1, few-items i.next (length f) is S.here.on.2)) e (λ hs' ns final k' place' s. rw (q.0, q.1) s);
            ready = S.ready;
            lent = S.lent;
          }
          go (inr q) = absurd (false≢true (sym e ∙ q))

      module _ (free : room r.progress limits size ≡ true) (later : Later is) where
        abbrev b₁ : Board
        b₁ = (step w D.order r.board i.message).board

        ready₁ : Ready w b₁
        ready₁ = step-ready w win D.order r.board i.message S.ready

        here₁ : Here i.next is
        here₁ = at_next D M f all whole S.here [] i is refl

        -- the output keeps its length
        lent₁ : (x : Handed) → (step w D.order r.board i.message).handed ≡ some x → length (put r.output r.progress.used x.octets) ≡ size
        unfolding octets_of Brief
        lent₁ x h =
            let short : length x.octets ≤ bundle_max = rw h at (step_fits w win D.order r.board i.message S.ready S.brief.0) in
            let left : bundle_max ≤ size - r.progress.used = leb-true bundle_max (size - r.progress.used) (both (ltb r.progress.count limits.bundles) _ free).1 in
            length-put r.output r.progress.used x.octets (omega (arith, S.lent)) ∙ S.lent

        -- a message is treated
        turn : (o : Option Handed) → (step w D.order r.board i.message).handed ≡ o → Came b at r (run w D.order limits (advanced r b₁ i.next o) is)
        unfolding treat delivered advanced progressed Brief
        turn none h =
            let c = later b at (advanced r b₁ i.next none) (record { ready = ready₁; here = here₁; same = S.same ∙ rw h; fresh = inr free; few = omega (arith, S.few); brief = S.brief.1; lent = S.lent }) in
            record { handed = c.handed; adds = adds_silent r _ b₁ i.next c.handed c.adds; fate = c.fate; ready = c.ready; lent = c.lent }
        turn (some x) h =
            let c = later b₁ i.next (advanced r b₁ i.next (some x)) (record {
              ready = ready₁;
              here = here₁;
              same = call b₁ i.next is ready₁ here₁;
              fresh = inl (refl, refl);
              few = omega (arith, S.few);
              brief = S.brief.1;
              lent = lent₁ x h;
            }) in
            record { handed = x ∷ c.handed; adds = adds_bundle r _ b₁ i.next x c.handed c.adds; fate = behind b b₁ at i.next r.progress.count r.progress.used spare x big free (S.same ∙ rw h) _ c.handed c.fate; ready = c.ready; lent = c.lent }

    one : (i : Item) (is : List Item) → Later is → Later (i ∷ is)
    unfolding run
    one i is later b at r S = rw (in_time i is b at r S, S.lent) (go (bool (room r.progress limits size)))
      where
        go : (room r.progress limits size ≡ true) ⊎ (room r.progress limits size ≡ false)
            → Came b at r (cond (room r.progress limits size) (run w D.order limits (advanced r (step w D.order r.board i.message).board i.next (step w D.order r.board i.message).handed) is) r)
        go (inl e) = rw e (turn i is b at r S e later (step w D.order r.board i.message).handed refl)
        go (inr e) = rw e (stays i is b at r S e)

    singly : (is : List Item) → Later is
    singly [] = at-end
    singly (i ∷ is) = one i is (singly is)

  -- a frame that is not refused, from any progress on
  pub frame-singly : ((xs : List ℕ) → Sized (length xs) (D.read xs)) → ((xs : List ℕ) → Priced (D.read xs)) → Window w → (spare : List ℕ) → bundle_max ≤ length spare
      → (r : Run) → Ready w r.board → length r.output ≡ size → unfit D f r.progress.next ≡ none → r.progress.treated + length f ≤ limits.messages
      → Came r.board r.progress.next r (run w D.order limits r (messages_from D f r.progress.next))
  unfolding messages_from items
  frame-singly M C win spare big r R L e few =
      let place : ℕ = r.progress.next in
      let u = fit D f place e in
      let a = taken D.read M f place u.accepted in
      let all : List Item = a.items in
      let here : At D M f all a.whole place (from place all) = at_place D M f all a.whole place a.good_place in
      let short : length (from place all) ≤ length f = rw a.whole at (few_messages D M f place u.accepted) in
      let brief : Brief all = brief_frame 0 (length f) all (omega (arith, u.small)) (pays D.read M C f all a.whole) in
      rw a.whole (singly M win spare big all a.whole u.some u.small (from place all) r.board place r (record {
        ready = R;
        here = here;
        same = call M win spare big all a.whole u.some u.small r.board place (from place all) R here;
        fresh = inl (refl, refl);
        few = omega arith;
        brief = brief_behind here.front (from place all) (rw (← here.split) brief);
        lent = L;
      }))
