-- All the single calls of a list are a board's calls as demands 2 and 3 speak of them: each frame that is not refused is taken to its end.
use mathlib.Core.Path.{◌≡◌, refl, sym, ap, ◌∙◌}
use mathlib.Core.Bool.{Bool, true, false, cond, false≢true}
use mathlib.Core.Option.{Option, none, some}
use mathlib.Core.List.{List, [], ◌∷◌, ◌++◌, map, map-append, append_assoc}
use Prim.Native.Nat.{ℕ, ◌+◌, ◌*◌, ◌≤◌, ◌<◌}
use native.Mathlib.Omega.{arith}
use lib.Dec.{ltb}
use borrow.Author.Tests.{eq-eqb, le-ltb, lt-ltb}
use lib.ListN.{length, take}
use Rattle.std.proofs.Common.{Err, Ok}
use Rattle.wire.specs.declared.Version.{Version}
use Rattle.wire.specs.Frame.{Item, Sized}
use Rattle.wire.proofs.Order.{good_place}
use Rattle.wire.proofs.Places.{taken as accepted}
use Rattle.wire.proofs.Spans.{sized}
use Rattle.window.specs.Window.{Window}
use Rattle.pieces.specs.Pieces.{bundle_max}
use Rattle.rows.specs.Origin.{Origin}
use Rattle.rows.specs.Message.{Draft, Board, Handed, draft, messages_from}
use Rattle.receiver.specs.declared.Refusal.{Refusal}
use Rattle.receiver.specs.declared.Answer.TheVariants.{Delivered}
use Rattle.receiver.specs.Receive.{Reply, number_of, unfit, refusal, treat, receive_as}
use Rattle.receiver.proofs.Ready.{Ready, receive-ready, fresh-ready}
use Rattle.receiver.proofs.Standing as Standing
use Rattle.receiver.proofs.Standing.{at-start, at_next}
use Rattle.receiver.proofs.Calls.{Treated, through, stops as stops_at, treating, treat-answers, refused-keeps, admitted}
use Rattle.receiver.proofs.Refusals.{number-some, fit, refused, treated}
use Rattle.frames.specs.Frames.{Note, frames_of}
use Rattle.frames.specs.Singles.{always, Singles, over, stops, delivers, finishes, refuses}
use Rattle.claims.specs.Record.{WellFormed}
use Rattle.claims.specs.Calls as Calls
use Rattle.claims.specs.Calls.{Delivery, Entry, handed_of, Takes, delivered, finished}
use Rattle.claims.proofs.Taking.{calls-own}
use Rattle.burst.specs.Equal.{Sixteen, Shaped, Given, Gave, none as gave-none, then, Continued}
use Rattle.burst.proofs.Equal.{all_singles_draft}
use Rattle.demands.specs.Batches.{Batches, over as no-list, batch, bare, fitting, Received, BurstsReceive}

module _ (D : Draft) (M : (xs : List ℕ) → Sized (length xs) (D.read xs)) (w : ℕ) (win : Window w) where
  -- a frame taken to its end from a place on, and the calls behind it
  record Part (f : List ℕ) (fs : List (List ℕ)) (k : ℕ) (b : Board) (place : ℕ) (hs : List Handed) (ns : List Note) (after : Board) (k' place' : ℕ) : Type 0 where
    ds : List Delivery
    rest : List Handed
    mid : Board
    count : ℕ
    used : ℕ
    takes : Takes (receive_as D w) f b place ds mid
    later : Singles D w always (k + 1) fs mid 0 count used rest ns after k' place'
    same : hs ≡ map bare ds ++ rest
    ready : Ready w mid

  module _ {f : List ℕ} (F : WellFormed D f) where
    abbrev At : ℕ → List Item → Type 0
    At = Standing.At D M f F.items F.whole

    treats : (b : Board) (at : ℕ) (is : List Item) (output : List ℕ) → Ready w b → At at is → bundle_max ≤ length output → receive_as D w b f at output ≡ treat D w b is output
    treats b at is output R A big =
        admitted D w b f at output F.items R.sound R.pool big F.some F.small F.whole (rw A.split (good_place at (length f) A.front is A.on))
        ∙ ap (λ (js : List Item). treat D w b js output) A.here

    -- where the next call goes on, a message stands or the frame ends
    onward : (b : Board) (at : ℕ) (is : List Item) (output : List ℕ) (size next : ℕ) (origin : Origin) → Ready w b → At at is → bundle_max ≤ length output
        → (receive_as D w b f at output).answer ≡ Ok (Delivered size next origin) → (js : List Item) × At next js
    onward b at is output size next origin R A big a = go (treating D w b is output)
      where
        r : receive_as D w b f at output ≡ treat D w b is output
        r = treats b at is output R A big

        go : Treated D w b is output → (js : List Item) × At next js
        go (through x h q) = let z : ◌≡◌ {A = ℕ} 0 1 = cc (ap (λ (y : Reply). y.answer) r) in absurd (omega arith)
        go (stops_at pre i suf h q x t hs v) =
            let e : Ok (Delivered size next origin) ≡ Ok (Delivered (length h.octets) i.next h.origin) = sym a ∙ ap (λ (y : Reply). y.answer) r ∙ x in
            let n : next ≡ i.next = cc in
            (suf, rw n (at_next D M f F.items F.whole A pre i suf q))

    part : {k place count used k' place' : ℕ} {fs : List (List ℕ)} {b after : Board} {hs : List Handed} {ns : List Note}
        → Singles D w always k (f ∷ fs) b place count used hs ns after k' place' → Ready w b → (is : List Item) → At place is → Part f fs k b place hs ns after k' place'
    part (stops e p) R is A = absurd (false≢true (sym e))
    part (delivers {place = place} {b = b} output n next origin big free a s) R is A =
        let j = onward b place is output n next origin R A big a in
        let p = part s (receive-ready w win D b f place output R) j.0 j.1 in
        record { ds = record { origin = origin; size = n; octets = take n (receive_as D w b f place output).output } ∷ p.ds; rest = p.rest; mid = p.mid; count = p.count; used = p.used; takes = delivered output n next origin a p.takes; later = p.later; same = ap (λ (l : List Handed). record { origin = origin; octets = take n (receive_as D w b f place output).output } ∷ l) p.same; ready = p.ready }
    part (finishes {place = place} {count} {used} {b = b} output big free a s) R is A =
        record { ds = []; rest = _; mid = (receive_as D w b f place output).board; count = count; used = used; takes = finished output a; later = s; same = refl; ready = receive-ready w win D b f place output R }
    part (refuses {place = place} {b = b} output q big free a s) R is A = treat-answers D w b is output q (sym (ap (λ (y : Reply). y.answer) (treats b place is output R A big)) ∙ a)

  module _ (b : Board) (f output : List ℕ) (R : Ready w b) (big : bundle_max ≤ length output) where
    -- a ready board refuses a frame for itself alone
    for_itself : refusal D w b f 0 output ≡ unfit D f 0
    unfolding refusal
    for_itself = rw (R.sound, eq-eqb (length b.pool) (w * bundle_max) R.pool, le-ltb (length output) bundle_max big)

    not-refused : ((q : Refusal) → (receive_as D w b f 0 output).answer ≡ Err q → ⊥) → unfit D f 0 ≡ none
    not-refused never = go (unfit D f 0) refl
      where
        go : (o : Option Refusal) → unfit D f 0 ≡ o → unfit D f 0 ≡ none
        go none e = e
        go (some q) e = absurd (never q (ap (λ (y : Reply). y.answer) (refused D w b f 0 output q (for_itself ∙ e))))

    is-refused : (q : Refusal) → (receive_as D w b f 0 output).answer ≡ Err q → 0 < number_of (unfit D f 0)
    is-refused q a = go (unfit D f 0) refl
      where
        go : (o : Option Refusal) → unfit D f 0 ≡ o → 0 < number_of (unfit D f 0)
        go none e = treat-answers D w b (messages_from D f 0) output q (sym (ap (λ (y : Reply). y.answer) (treated D w b f 0 output (for_itself ∙ e))) ∙ a)
        go (some r) e = rw e (number-some r)

  well_formed_lem : (f : List ℕ) → unfit D f 0 ≡ none → WellFormed D f
  well_formed_lem f e =
      let u = fit D f 0 e in
      let t = accepted D.read M f 0 u.accepted in
      record { some = u.some; small = u.small; items = t.items; whole = t.whole }

  -- all frames of a list, taken or refused, and whatever calls follow
  record AllTaken (fs : List (List ℕ)) (b : Board) (hs : List Handed) (after : Board) : Type 0 where
    entries : List Entry
    calls : (es : List Entry) → Calls.Calls (receive_as D w) after es → Calls.Calls (receive_as D w) b (entries ++ es)
    same : hs ≡ map bare (handed_of entries)
    taken : map (λ (e : Entry). e.frame) entries ≡ fitting D fs
    ready : Ready w after

  abbrev Later : List (List ℕ) → Type 0
  Later fs = (k count used k' place' : ℕ) (b after : Board) (hs : List Handed) (ns : List Note) → Singles D w always k fs b 0 count used hs ns after k' place' → Ready w b → AllTaken fs b hs after

  taken-first : (f : List ℕ) (fs : List (List ℕ)) → unfit D f 0 ≡ none → Later fs → Later (f ∷ fs)
  unfolding handed_of fitting
  taken-first f fs fits later k count used k' place' b after hs ns s R =
      let F = well_formed_lem f fits in
      let p = part F s R F.items (at-start D M f F.items F.whole) in
      let r = later (k + 1) p.count p.used k' place' p.mid after p.rest ns p.later p.ready in
      record {
        entries = record { frame = f; handed = p.ds } ∷ r.entries;
        calls = λ es c. Calls.taken p.takes (r.calls es c);
        same = p.same ∙ ap (λ (l : List Handed). map bare p.ds ++ l) r.same ∙ sym (map-append bare p.ds (handed_of r.entries));
        taken = rw fits (ap (λ (l : List (List ℕ)). f ∷ l) r.taken);
        ready = r.ready;
      }

  refused-first : (f : List ℕ) (fs : List (List ℕ)) (b after : Board) (hs : List Handed) (output : List ℕ) (q : Refusal) → 0 < number_of (unfit D f 0) → (receive_as D w b f 0 output).answer ≡ Err q
      → AllTaken fs b hs after → AllTaken (f ∷ fs) b hs after
  unfolding fitting
  refused-first f fs b after hs output q n a r = record {
    entries = r.entries;
    calls = λ es c. Calls.between {es = r.entries ++ es} f 0 output q a (rw (refused-keeps D w b f 0 output q a) (r.calls es c));
    same = r.same;
    taken = rw (lt-ltb 0 (number_of (unfit D f 0)) n) r.taken;
    ready = r.ready;
  }

  one : (f : List ℕ) (fs : List (List ℕ)) → Later fs → Later (f ∷ fs)
  one f fs later k count used k' place' b after hs ns (stops e p) R = absurd (false≢true (sym e))
  one f fs later k count used k' place' b after hs ns (delivers output n next origin big free a s) R =
      taken-first f fs (not-refused b f output R big (λ q x. let z : ◌≡◌ {A = ℕ} 0 1 = cc in omega arith)) later k count used k' place' b after _ ns (delivers output n next origin big free a s) R
  one f fs later k count used k' place' b after hs ns (finishes output big free a s) R =
      taken-first f fs (not-refused b f output R big (λ q x. let z : ◌≡◌ {A = ℕ} 0 1 = cc in omega arith)) later k count used k' place' b after hs ns (finishes output big free a s) R
  one f fs later k count used k' place' b after hs ns (refuses {ns = ns₁} output q big free a s) R =
      refused-first f fs b after hs output q (is-refused b f output R big q a) a (later (k + 1) count used k' place' b after hs ns₁ s R)

  none_left : Later []
  unfolding handed_of fitting
  none_left k count used k' place' b after hs ns over R = record { entries = []; calls = λ es c. c; same = refl; taken = refl; ready = R }

  all-taken : (fs : List (List ℕ)) → Later fs
  all-taken [] = none_left
  all-taken (f ∷ fs) = one f fs (all-taken fs)

-- ---- bursts, list after list

gave_behind : {gs gs' : List Given} {hs hs' : List Handed} {ns ns' : List Note} → Gave gs hs ns → Gave gs' hs' ns' → Gave (gs ++ gs') (hs ++ hs') (ns ++ ns')
gave_behind gave-none g = g
gave_behind {hs' = hs'} {ns' = ns'} (then {hs' = hs₁} {ns' = ns₁} hs ns e h n g) g' = rw (append_assoc hs hs₁ hs', append_assoc ns ns₁ ns') (then hs ns e h n (gave_behind g g'))

handed_append : (es es' : List Entry) → handed_of (es ++ es') ≡ handed_of es ++ handed_of es'
unfolding handed_of
handed_append [] es' = refl
handed_append (e ∷ es) es' = ap (λ (l : List Delivery). e.handed ++ l) (handed_append es es') ∙ sym (append_assoc e.handed (handed_of es) (handed_of es'))

fitting-append : (D : Draft) (fs fs' : List (List ℕ)) → fitting D (fs ++ fs') ≡ fitting D fs ++ fitting D fs'
unfolding fitting
fitting-append D [] fs' = refl
fitting-append D (f ∷ fs) fs' = go (ltb 0 (number_of (unfit D f 0))) (fitting-append D fs fs')
  where
    go : (b : Bool) → fitting D (fs ++ fs') ≡ fitting D fs ++ fitting D fs'
        → cond b (fitting D (fs ++ fs')) (f ∷ fitting D (fs ++ fs')) ≡ cond b (fitting D fs) (f ∷ fitting D fs) ++ fitting D fs'
    go true later = later
    go false later = ap (λ (l : List (List ℕ)). f ∷ l) later

shaped : (v : Version) {w : ℕ} {b : Board} → Ready w b → Shaped (draft v) w b
shaped v R = record { window = R.window; rows = R.rows; indexes = λ r r<. (R.shaped r r<).indexes64; lengths = λ r r<. (R.shaped r r<).lengths64 }

one_list : (v : Version) (w : ℕ) (win : Window w) (sizes octets : List ℕ) (b mid : Board) (gs gs' : List Given) (fs : List (List ℕ)) → Sixteen sizes → Ready w b → Continued (draft v) w sizes octets b 0 0 gs mid
    → (Ready w mid → Received v (receive_as (draft v) w) mid gs' fs) → Received v (receive_as (draft v) w) b (gs ++ gs') (frames_of sizes octets ++ fs)
one_list v w win sizes octets b mid gs gs' fs short R c later =
    let x = all_singles_draft v w win sizes octets b mid gs (shaped v R) short c in
    let t = all-taken (draft v) (sized v) w win (frames_of sizes octets) 0 0 0 (length sizes) 0 b mid x.0 x.1 x.3 R in
    let r = later t.ready in
    let all : map bare (handed_of (t.entries ++ r.entries)) ≡ x.0 ++ map bare (handed_of r.entries) =
    ap (map bare) (handed_append t.entries r.entries) ∙ map-append bare (handed_of t.entries) (handed_of r.entries) ∙ ap (λ (l : List Handed). l ++ map bare (handed_of r.entries)) (sym t.same) in
    record {
      entries = t.entries ++ r.entries;
      notes = x.1 ++ r.notes;
      calls = t.calls r.entries r.calls;
      gave = rw all (gave_behind x.2 r.gave);
      taken =
          map-append (λ (e : Entry). e.frame) t.entries r.entries
          ∙ ap (λ (l : List (List ℕ)). l ++ map (λ (e : Entry). e.frame) r.entries) t.taken
          ∙ ap (λ (l : List (List ℕ)). fitting (draft v) (frames_of sizes octets) ++ l) r.taken
          ∙ sym (fitting-append (draft v) (frames_of sizes octets) fs);
    }

received : (v : Version) (w : ℕ) (win : Window w) {b : Board} {gs : List Given} {fs : List (List ℕ)} → Batches v w b gs fs → Ready w b → Received v (receive_as (draft v) w) b gs fs
unfolding handed_of fitting
received v w win no-list R = record { entries = []; notes = []; calls = Calls.over; gave = gave-none; taken = refl }
received v w win (batch {b} {mid} {gs} {gs'} {fs} sizes octets short c bs) R = one_list v w win sizes octets b mid gs gs' fs short R c (λ R₁. received v w win bs R₁)

pub bursts_receive : BurstsReceive
bursts_receive v w win b gs fs F bs =
    let r = received v w win bs (rw (← F.started) at (fresh-ready w win v b.pool F.pooled)) in
    record { entries = r.entries; notes = r.notes; calls = calls-own v w F r.calls; gave = r.gave; taken = r.taken }
