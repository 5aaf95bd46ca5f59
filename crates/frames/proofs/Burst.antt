-- The loop over frames is single calls, from any progress on, where the limit of messages does not bind.
use mathlib.Core.Path.{◌≡◌, refl, sym, ◌∙◌}
use mathlib.Core.Bool.{Bool, true, false, cond, false≢true}
use mathlib.Core.Logic.{◌⊎◌, inl, inr}
use mathlib.Core.Option.{Option, none, some}
use mathlib.Core.List.{List, [], ◌∷◌, ◌++◌, append-nil}
use Prim.Native.Nat.{ℕ, ◌+◌, ◌*◌, ◌≤◌, ◌<◌}
use native.Mathlib.Omega.{arith}
use lib.ListN.{length}
use lib.Dec.{ltb}
use borrow.Author.Tests.{eq-eqb, lt-ltb, le-ltb}
use Rattle.std.proofs.Common.{Err}
use Rattle.octets.proofs.Flags.{cond_elim}
use Rattle.wire.specs.Frame.{Item, Sized}
use Rattle.window.specs.Window.{Window}
use Rattle.pieces.specs.declared.Order.{Order}
use Rattle.pieces.specs.Pieces.{bundle_max}
use Rattle.rows.specs.Message.{Draft, Board, Handed, Outcome, step, messages_from}
use Rattle.messages.specs.declared.Limits.{Limits}
use Rattle.messages.specs.Run.{Run, roomy, progressed, advanced, run}
use Rattle.receiver.specs.declared.Refusal.{Refusal}
use Rattle.receiver.specs.Receive.{refusal_number, number_of, unfit, refusal, replied, receive_as}
use Rattle.receiver.proofs.Ready.{Ready}
use Rattle.receiver.proofs.Limit.{few_messages}
use Rattle.receiver.proofs.Refusals.{number-some, fit}
use Rattle.frames.specs.Frames.{Note, Reach, noted, passed, within, through}
use Rattle.frames.specs.Singles.{room_in, Singles, over, stops, refuses}
use Rattle.frames.proofs.Joined.{octets_in}
use Rattle.frames.proofs.Adding.{Adds, adds_none, adds_behind, Notes, notes_none, entries}
use Rattle.frames.proofs.Costs.{Priced}
use Rattle.frames.proofs.Singly.{Fate, through as to-its-end, stopped, Came, frame-singly}

module _ (w : ℕ) (order : Order) (limits : Limits) where
  advanced_treated : (r : Run) (b : Board) (next : ℕ) (o : Option Handed) → (advanced r b next o).progress.treated ≡ r.progress.treated + 1
  unfolding advanced progressed
  advanced_treated r b next none = refl
  advanced_treated r b next (some x) = refl

  run_treated : (is : List Item) (r : Run) → (run w order limits r is).progress.treated ≤ r.progress.treated + length is
  unfolding run
  run_treated [] r = omega arith
  run_treated (i ∷ is) r =
      let o : Outcome = step w order r.board i.message in
      cond_elim (λ (x : Run). x.progress.treated ≤ r.progress.treated + length (i ∷ is)) (roomy r.progress limits (length r.output))
      (λ _. omega (arith, run_treated is (advanced r o.board i.next o.handed), advanced_treated r o.board i.next o.handed))
      (λ _. omega arith)

module _ (D : Draft) (M : (xs : List ℕ) → Sized (length xs) (D.read xs)) (C : (xs : List ℕ) → Priced (D.read xs)) (w : ℕ) (win : Window w) (limits : Limits) (size : ℕ)
    (spare : List ℕ) (big : bundle_max ≤ length spare) where
  abbrev free : Reach → Bool
  free r = room_in limits size r.run.progress.count r.run.progress.used

  -- a run over frames and the single calls that come as far
  pub record Carried (r after : Reach) (fs : List (List ℕ)) : Type 0 where
    pub handed : List Handed
    pub notes : List Note
    pub calls : Singles D w (room_in limits size) r.frame fs r.run.board r.run.progress.next r.run.progress.count r.run.progress.used handed notes after.run.board after.frame after.run.progress.next
    pub adds : Adds r.run after.run handed
    pub noted : Notes r after notes
    pub ready : Ready w after.run.board

  -- before frames: at the front, or with room and a frame that is begun
  pub record Stands (r : Reach) (fs : List (List ℕ)) : Type 0 where
    pub ready : Ready w r.run.board
    pub lent : length r.run.output ≡ size
    pub few : r.run.progress.treated + octets_in fs < limits.messages
    pub fronted : (r.run.progress.next ≡ 0) ⊎ ((free r ≡ true) × (0 < length fs))

  abbrev Later : List (List ℕ) → Type 0
  Later fs = (r : Reach) → Stands r fs → Carried r (through D w limits r fs) fs

  -- a single call is refused for its frame
  refused-call : (b : Board) (f : List ℕ) (place : ℕ) (q : Refusal) → Ready w b → unfit D f place ≡ some q → (receive_as D w b f place spare).answer ≡ Err q
  unfolding receive_as refusal replied
  refused-call b f place q R e = rw (R.sound, eq-eqb (length b.pool) (w * bundle_max) R.pool, le-ltb (length spare) bundle_max big, e)

  module _ (f : List ℕ) (fs : List (List ℕ)) (r : Reach) (S : Stands r (f ∷ fs)) where
    stays : free r ≡ false → Carried r r (f ∷ fs)
    stays e = record { handed = []; notes = []; calls = stops e (go S.fronted); adds = adds_none r.run; noted = notes_none r; ready = S.ready }
      where
        go : (r.run.progress.next ≡ 0) ⊎ ((free r ≡ true) × (0 < length (f ∷ fs))) → (r.run.progress.next ≡ 0) ⊎ (r.run.progress.next < length f)
        go (inl z) = inl z
        go (inr z) = absurd (false≢true (sym e ∙ z.0))

    module _ (room : free r ≡ true) (later : Later fs) where
      refused-turn : (q : Refusal) → unfit D f r.run.progress.next ≡ some q → Carried r (through D w limits (noted r (refusal_number q)) fs) (f ∷ fs)
      unfolding entries octets_in
      refused-turn q e =
          let c = later (noted r (refusal_number q)) (record { ready = S.ready; lent = S.lent; few = omega (arith, S.few); fronted = inl refl }) in
          record {
            handed = c.handed;
            notes = record { place = r.frame; reason = refusal_number q } ∷ c.notes;
            calls = refuses spare q big room (refused-call r.run.board f r.run.progress.next q S.ready e) c.calls;
            adds = record { output = c.adds.output; lengths = c.adds.lengths; numbers = c.adds.numbers; count = c.adds.count; used = c.adds.used };
            noted = record { places = c.noted.places; reasons = c.noted.reasons; refused = omega (arith, c.noted.refused) };
            ready = c.ready;
          }

      abbrev mid : Run
      mid = run w D.order limits r.run (messages_from D f r.run.progress.next)

      -- the frame treated, to its end or not
      abbrev treated_as : Run → Reach
      treated_as t = cond (ltb t.progress.next (length f)) (within r t) (through D w limits (passed r t) fs)

      frame-turn : (c : Came D w limits size f r.frame fs r.run.board r.run.progress.next r.run mid)
          → mid.progress.treated + octets_in fs < limits.messages
          → Fate D w limits size f r.frame fs r.run.board r.run.progress.next r.run.progress.count r.run.progress.used mid c.handed
          → Carried r (treated_as mid) (f ∷ fs)
      unfolding entries
      frame-turn c few (to-its-end n l) =
          let d = later (passed r mid) (record { ready = c.ready; lent = c.lent; few = few; fronted = inl refl }) in
          let A : Adds mid (through D w limits (passed r mid) fs).run d.handed =
          record { output = d.adds.output; lengths = d.adds.lengths; numbers = d.adds.numbers; count = d.adds.count; used = d.adds.used } in
          rw (le-ltb mid.progress.next (length f) (omega arith)) (record {
            handed = c.handed ++ d.handed;
            notes = d.notes;
            calls = l d.handed d.notes _ _ _ d.calls;
            adds = adds_behind r.run mid _ c.handed d.handed c.adds A;
            noted = record { places = d.noted.places; reasons = d.noted.reasons; refused = d.noted.refused };
            ready = d.ready;
          })
      frame-turn c few (stopped n e l) =
          rw (lt-ltb mid.progress.next (length f) n) (record {
            handed = c.handed;
            notes = [];
            calls = rw (append-nil c.handed) at (l [] [] mid.board r.frame mid.progress.next (stops e (inr n)));
            adds = c.adds;
            noted = record { places = refl; reasons = refl; refused = omega arith };
            ready = c.ready;
          })

      turn : (q : Option Refusal) → unfit D f r.run.progress.next ≡ q
          → Carried r (cond (ltb 0 (number_of q)) (through D w limits (noted r (number_of q)) fs) (treated_as mid)) (f ∷ fs)
      unfolding octets_in
      turn (some q) e = rw (lt-ltb 0 (refusal_number q) (number-some q)) (refused-turn q e)
      turn none e =
          let place : ℕ = r.run.progress.next in
          let c = frame-singly D w limits size f r.frame fs M C win spare big r.run S.ready S.lent e (omega (arith, S.few)) in
          let short = few_messages D M f place (fit D f place e).accepted in
          frame-turn c (omega (arith, S.few, run_treated w D.order limits (messages_from D f place) r.run, short)) c.fate

    one : Later fs → Carried r (through D w limits r (f ∷ fs)) (f ∷ fs)
    unfolding through octets_in
    one later =
        rw (lt-ltb r.run.progress.treated limits.messages (omega (arith, S.few)), S.lent)
        (cond_elim (λ (x : Reach). Carried r x (f ∷ fs)) (free r) (λ room. turn room later (unfit D f r.run.progress.next) refl) stays)

  none_left : (r : Reach) → (r.run.progress.next ≡ 0) ⊎ ((free r ≡ true) × (◌<◌ 0 (length {A = List ℕ} []))) → Ready w r.run.board → Carried r r []
  none_left r (inl z) R = record { handed = []; notes = []; calls = rw z over; adds = adds_none r.run; noted = notes_none r; ready = R }
  none_left r (inr z) R = absurd (omega (arith, z.1))

  pub carried : (fs : List (List ℕ)) (r : Reach) → Stands r fs → Carried r (through D w limits r fs) fs
  unfolding through
  carried [] r S = none_left r S.fronted S.ready
  carried (f ∷ fs) r S = one f fs r S (carried fs)
