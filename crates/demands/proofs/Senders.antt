-- A sender's calls on images are its calls on states.
use mathlib.Core.Path.{◌≡◌, refl, sym, ap, ◌∙◌}
use mathlib.Core.Bool.{Bool, true, false, cond, ◌&&◌, ◌||◌}
use mathlib.Core.List.Memᴰ
use mathlib.Core.List.{List, [], ◌∷◌, ◌++◌, Memᴰ}
use mathlib.Core.Logic.{⊎_elim}
use Prim.Native.Nat.{ℕ, ◌<◌, ◌^◌}
use native.Mathlib.Omega.{arith}
use lib.ListN.{length, get_or, set}
use lib.Seq.{get_or-set_same}
use lib.Dec.{eqb}
use borrow.Author.Tests.{ne_eqb}
use Rattle.octets.specs.Octets.{Octets}
use Rattle.wire.specs.declared.Version.{Version}
use Rattle.rows.specs.Message.{Handed}
use Rattle.framing.specs.declared.State.{State}
use Rattle.framing.specs.Answers.{Reply, placed, placed_and_ready, ready, nothing, refused, Outcome}
use Rattle.sender.specs.Sound as Sound
use Rattle.sender.specs.Answers.{made, denied, is_refusal}
use Rattle.sender.specs.Calls.{fresh, start, place, flush}
use Rattle.sender.proofs.Kept.{start-sound, place-sound, cancel-sound, flush-sound}
use Rattle.sender.proofs.Bounds.{Numbered, start-numbered, place-numbered, cancel-numbered, flush-numbered, place_octets, cancel_octets, flush_octets}
use Rattle.sender.proofs.Refusals.{place-refused, cancel-refused, flush-refused, place-some, cancel-some, flush-some}
use Rattle.images.specs.Sender.{state_of, image_of}
use Rattle.images.proofs.SenderImages.{StateFits, state_back, image-of-is, sound_state_fits}
use Rattle.answers.specs.Sender.{status, report, kept}
use Rattle.board.specs.Sender.{Exported, exported, unless_image, placed_by, cancelled_by, flushed_by, started_with, started}
use Rattle.claims.specs.Use as Use
use Rattle.claims.specs.Use.{Call, to_place, to_cancel, to_flush, outcome_of, is_ready, is_placed}
use Rattle.claims.specs.Demand2 as States
use Rattle.claims.proofs.EndToEnd.{flushed_last}
use Rattle.demands.specs.Senders as Senders
use Rattle.demands.specs.Senders.{is_begun, begun_number, answers, taken, finished, call_of, Used, Flushed}

-- ---- states

pub record Good (s : State) : Type 0 where
  pub sound : Sound.sound s ≡ true
  pub numbered : Numbered s

pub fits : (s : State) → Good s → StateFits s
fits s g = sound_state_fits s g.sound g.numbered.next g.numbered.number

begun-on : (s : State) → Good s → is_begun (image_of s) ≡ s.begun
unfolding state_of
begun-on s g = ap (λ (x : State). x.begun) (state_back s (fits s g))

pub call_good : (c : Call) (s : State) (d : List ℕ) → Good s → Good (outcome_of c s d).state
unfolding outcome_of
call_good (to_place b) s d g = record { sound = place-sound s b d g.sound; numbered = place-numbered s b d g.numbered }
call_good to_cancel s d g = record { sound = cancel-sound s d g.sound; numbered = cancel-numbered s d g.numbered }
call_good to_flush s d g = record { sound = flush-sound s d g.sound; numbered = flush-numbered s d g.numbered }

call-keeps : (c : Call) (s : State) (d : List ℕ) (n : ℕ) → (outcome_of c s d).answer ≡ refused n → ((outcome_of c s d).state ≡ s) × (0 < n)
unfolding outcome_of is_refusal
call-keeps (to_place b) s d n e = ((place-refused s b d (ap is_refusal e)).0, place-some s b d n e)
call-keeps to_cancel s d n e = ((cancel-refused s d (ap is_refusal e)).0, cancel-some s d n e)
call-keeps to_flush s d n e = ((flush-refused s d (ap is_refusal e)).0, flush-some s d n e)

-- ---- a call

module _ (s : State) (g : Good s) (c : Call) (d result : List ℕ) where
  abbrev o : Outcome
  o = outcome_of c s d

  abbrev e : Exported
  e = call_of c (image_of s) d result

  exports : (c : Call) → call_of c (image_of s) d result ≡ exported (outcome_of c s d) (image_of s) result
  unfolding call_of outcome_of placed_by cancelled_by flushed_by unless_image
  exports (to_place b) = rw (image-of-is s, state_back s (fits s g))
  exports to_cancel = rw (image-of-is s, state_back s (fits s g))
  exports to_flush = rw (image-of-is s, state_back s (fits s g))

  pub image-left : e.image ≡ image_of o.state
  unfolding exported kept
  image-left = ap (λ (x : Exported). x.image) (exports c) ∙ go o.answer refl
    where
      go : (a : Reply) → o.answer ≡ a → kept a (image_of s) o.state ≡ image_of o.state
      go placed q = refl
      go placed_and_ready q = refl
      go ready q = refl
      go nothing q = refl
      go (refused n) q = rw (call-keeps c s d n q).0

  frame-left : e.frame ≡ o.frame
  unfolding exported
  frame-left = ap (λ (x : Exported). x.frame) (exports c)

  pub status-is : e.status ≡ status o.answer
  unfolding exported
  status-is = ap (λ (x : Exported). x.status) (exports c)

  result-is : e.result ≡ report o.answer result
  unfolding exported
  result-is = ap (λ (x : Exported). x.result) (exports c)

  saw_refused : (e.status ≡ 0 → ⊥) → is_refusal o.answer ≡ true
  unfolding status is_refusal
  saw_refused n = go o.answer refl
    where
      go : (a : Reply) → o.answer ≡ a → is_refusal o.answer ≡ true
      go placed q = absurd (n (status-is ∙ ap status q))
      go placed_and_ready q = absurd (n (status-is ∙ ap status q))
      go ready q = absurd (n (status-is ∙ ap status q))
      go nothing q = absurd (n (status-is ∙ ap status q))
      go (refused k) q = ap is_refusal q

  saw_carried : e.status ≡ 0 → is_refusal o.answer ≡ false
  unfolding status is_refusal
  saw_carried z = go o.answer refl
    where
      go : (a : Reply) → o.answer ≡ a → is_refusal o.answer ≡ false
      go placed q = ap is_refusal q
      go placed_and_ready q = ap is_refusal q
      go ready q = ap is_refusal q
      go nothing q = ap is_refusal q
      go (refused k) q = absurd (omega (arith, sym z ∙ status-is ∙ ap status q, (call-keeps c s d k q).1))

  -- what the host reads off number and result
  module _ (four : length result ≡ 4) where
    first : (k : ℕ) → get_or (set result 0 k) 0 0 ≡ k
    first k = get_or-set_same result 0 k 0 (omega arith)

    reads_ready : answers e 1 2 ≡ is_ready o.answer
    unfolding answers is_ready status report
    reads_ready = rw (status-is, result-is) (go o.answer refl)
      where
        go : (a : Reply) → o.answer ≡ a → (eqb (status a) 0 && (eqb (get_or (report a result) 0 0) 1 || eqb (get_or (report a result) 0 0) 2)) ≡ is_ready a
        go placed q = rw (first 0)
        go placed_and_ready q = rw (first 1)
        go ready q = rw (first 2)
        go nothing q = rw (first 3)
        go (refused n) q = rw (ne_eqb n 0 (λ z. omega (arith, (call-keeps c s d n q).1)))

    reads_placed : answers e 0 1 ≡ is_placed o.answer
    unfolding answers is_placed status report
    reads_placed = rw (status-is, result-is) (go o.answer refl)
      where
        go : (a : Reply) → o.answer ≡ a → (eqb (status a) 0 && (eqb (get_or (report a result) 0 0) 0 || eqb (get_or (report a result) 0 0) 1)) ≡ is_placed a
        go placed q = rw (first 0)
        go placed_and_ready q = rw (first 1)
        go ready q = rw (first 2)
        go nothing q = rw (first 3)
        go (refused n) q = rw (ne_eqb n 0 (λ z. omega (arith, (call-keeps c s d n q).1)))

    taken-same : taken e ≡ Use.taken o
    unfolding taken Use.taken
    taken-same = rw (reads_ready, frame-left)

    finished-same : (b : List ℕ) → finished (image_of s) b e ≡ Use.finished s b o
    unfolding finished Use.finished state_of
    finished-same b =
        let number : begun_number (image_of s) ≡ s.number = ap (λ (x : State). x.number) (state_back s (fits s g)) in
        let after : is_begun e.image ≡ o.state.begun = ap is_begun image-left ∙ begun-on o.state (call_good c s d g) in
        rw (reads_placed, begun-on s g, number, after)

-- ---- a use

placed_octets : (a b : List ℕ) → to_place a ≡ to_place b → Octets a → Octets b
placed_octets a b e low = let same : a ≡ b = cc in rw (← same) low

cancel-place : {A : Type 0} {b : List ℕ} → to_cancel ≡ to_place b → A
cancel-place e = absurd (let z : ◌≡◌ {A = ℕ} 0 1 = cc in omega arith)

flush-place : {A : Type 0} {b : List ℕ} → to_flush ≡ to_place b → A
flush-place e = absurd (let z : ◌≡◌ {A = ℕ} 0 1 = cc in omega arith)

call_octets : (c : Call) (s : State) (d : List ℕ) → Good s → ((b : List ℕ) → c ≡ to_place b → Octets b) → Octets d → Octets (outcome_of c s d).frame
unfolding outcome_of
call_octets (to_place b) s d g low h = place_octets s b d g.numbered (low b refl) h
call_octets to_cancel s d g low h = cancel_octets s d g.numbered h
call_octets to_flush s d g low h = flush_octets s d h

abbrev Each : List (List ℕ) → Type 0
Each fs = (f : List ℕ) → Memᴰ f fs → Octets f

-- the state that an image is of, and what is shown of it; frame buffer and frames taken are octets
record Came (T : State → Type 0) (image d : List ℕ) (fs : List (List ℕ)) : Type 0 where
  state : State
  good : Good state
  on : image ≡ image_of state
  octets : Octets d
  each : Each fs
  is : T state

each-taken : (fs : List (List ℕ)) (o : Outcome) → Each fs → Octets o.frame → Each (fs ++ Use.taken o)
unfolding Use.taken
each-taken fs o h low f m = ⊎_elim (h f) (go (is_ready o.answer)) (Memᴰ.append_cases fs m)
  where
    go : (b : Bool) → Memᴰ f (cond b (o.frame ∷ []) []) → Octets f
    go true m = rw (Memᴰ.eq_of_singleton m) low
    go false m = absurd (Memᴰ.not-nil m)

start-made : (v : Version) (p n : ℕ) (old image : List ℕ) → started v old p n ≡ (0, image) → (s : State) × (start v p n ≡ made s) × (image ≡ image_of s)
unfolding started started_with start
start-made v p n old image = go (Sound.sized p)
  where
    go : (b : Bool) → started_with (cond b (made (fresh v p n)) (denied 14)) old ≡ (0, image) → (s : State) × (cond b (made (fresh v p n)) (denied 14) ≡ made s) × (image ≡ image_of s)
    go true e = (fresh v p n, refl, sym (ap (λ (x : ℕ × List ℕ). x.1) e))
    go false e = absurd (let z : ◌≡◌ {A = ℕ} 14 0 = ap (λ (x : ℕ × List ℕ). x.0) e in omega arith)

pub started-on : (v : Version) (p n : ℕ) (old image : List ℕ) → n < 2 ^ 32 → started v old p n ≡ (0, image) → (s : State) × (start v p n ≡ made s) × (image ≡ image_of s) × Good s
started-on v p n old image n< e =
    let m = start-made v p n old image e in
    (m.0, m.1, m.2, record { sound = start-sound v p n m.0 m.1; numbered = start-numbered v p n m.0 m.1 n< })

module _ (v : Version) (p n : ℕ) (n< : n < 2 ^ 32) where
  abbrev OnStates : List ℕ → List ℕ → List (List ℕ) → List Handed → State → Type 0
  OnStates d b fs bs s = Use.Used v p n s d b fs bs

  -- a call that goes on
  on_call : (c : Call) (s : State) → Good s → (d b result : List ℕ) (fs : List (List ℕ)) (bs : List Handed) → length result ≡ 4 → ((b : List ℕ) → c ≡ to_place b → Octets b) → Octets d → Each fs
      → Use.Used v p n (outcome_of c s d).state (outcome_of c s d).frame b (fs ++ Use.taken (outcome_of c s d)) bs
      → let e : Exported = call_of c (image_of s) d result in
      Came (OnStates e.frame b (fs ++ taken e) bs) e.image e.frame (fs ++ taken e)
  on_call c s g d b result fs bs four low h each u =
      let o : Outcome = outcome_of c s d in
      let w = call_octets c s d g low h in
      rw (taken-same s g c d result four, frame-left s g c d result)
      (record { state = o.state; good = call_good c s d g; on = image-left s g c d result; octets = w; each = each-taken fs o each w; is = u })

  module _ (image d b : List ℕ) (fs : List (List ℕ)) (bs : List Handed) (k : Came (OnStates d b fs bs) image d fs) where
    abbrev s : State
    s = k.state

    -- a call on the image is one on that of its state
    same-call : (c : Call) (frame result : List ℕ) → call_of c image frame result ≡ call_of c (image_of s) frame result
    same-call c frame result = ap (λ (i : List ℕ). call_of c i frame result) k.on

    on-placing : (a result : List ℕ) → Octets a → length result ≡ 4 → (is_begun image ≡ true → a ≡ b) → let e : Exported = placed_by image a d result in
        Came (OnStates e.frame a (fs ++ taken e) (bs ++ finished image a e)) e.image e.frame (fs ++ taken e)
    unfolding call_of outcome_of
    on-placing a result low four same =
        let u = Use.placing a (λ q. same (ap is_begun k.on ∙ begun-on s k.good ∙ q)) k.is in
        let h = on_call (to_place a) s k.good d a result fs (bs ++ Use.finished s a (place s a d)) four (λ b e. placed_octets a b e low) k.octets k.each u in
        rw (same-call (to_place a) d result, ap (λ (i : List ℕ). finished i a (placed_by (image_of s) a d result)) k.on, finished-same s k.good (to_place a) d result four a) h

    on-other : (c : Call) (result : List ℕ) → length result ≡ 4 → ((b : List ℕ) → c ≡ to_place b → Octets b)
        → Use.Used v p n (outcome_of c s d).state (outcome_of c s d).frame b (fs ++ Use.taken (outcome_of c s d)) bs → let e : Exported = call_of c image d result in
        Came (OnStates e.frame b (fs ++ taken e) bs) e.image e.frame (fs ++ taken e)
    on-other c result four low u = rw (same-call c d result) (on_call c s k.good d b result fs bs four low k.octets k.each u)

    on_refusing : (c : Call) (other result : List ℕ) → ((call_of c image other result).status ≡ 0 → ⊥) → Came (OnStates d b fs bs) (call_of c image other result).image d fs
    on_refusing c other result r =
        let e = same-call c other result in
        record {
          state = (outcome_of c s other).state;
          good = call_good c s other k.good;
          on = ap (λ (x : Exported). x.image) e ∙ image-left s k.good c other result;
          octets = k.octets;
          each = k.each;
          is = Use.refusing c other (saw_refused s k.good c other result (rw e at r)) k.is;
        }

  used_on : {image d b : List ℕ} {fs : List (List ℕ)} {bs : List Handed} → Used v p n image d b fs bs → Came (OnStates d b fs bs) image d fs
  unfolding call_of outcome_of
  used_on (Senders.started {image} old d b low q) =
      let m = started-on v p n old image n< q in
      record { state = m.0; good = m.3; on = m.2; octets = low; each = λ f m. absurd (Memᴰ.not-nil m); is = Use.started d b m.1 }
  used_on (Senders.placing a result low four same u) = on-placing _ _ _ _ _ (used_on u) a result low four same
  used_on (Senders.cancelling result four u) = let k = used_on u in on-other _ _ _ _ _ k to_cancel result four (λ b e. cancel-place e) (Use.cancelling k.is)
  used_on (Senders.flushing result four u) = let k = used_on u in on-other _ _ _ _ _ k to_flush result four (λ b e. flush-place e) (Use.flushing k.is)
  used_on (Senders.refusing c other result r u) = on_refusing _ _ _ _ _ (used_on u) c other result r

-- ---- the last flush

pub record Sent (v : Version) (fs : List (List ℕ)) (bs : List Handed) : Type 0 where
  pub flushed : States.Flushed v fs bs
  pub octets : Each fs

pub used_states_lem : {v : Version} {p n : ℕ} {image d b : List ℕ} {fs : List (List ℕ)} {bs : List Handed} → n < 2 ^ 32 → Used v p n image d b fs bs → Use.Used v p n (state_of image) d b fs bs
used_states_lem {v} {p} {n} n< u =
    let c = used_on v p n n< u in
    rw (c.on, state_back c.state (fits c.state c.good)) c.is

pub flush_sends : (v : Version) (fs : List (List ℕ)) (bs : List Handed) → Flushed v fs bs → Sent v fs bs
unfolding call_of outcome_of
flush_sends v fs bs F =
    let c = used_on v F.size F.first F.numbered F.used in
    let s : State = c.state in
    let q : Exported = flushed_by F.image F.frame F.result in
    let same : q ≡ flushed_by (image_of s) F.frame F.result = ap (λ (i : List ℕ). flushed_by i F.frame F.result) c.on in
    let t : fs ≡ F.before ++ Use.taken (flush s F.frame) = F.frames ∙ ap (λ (x : Exported). F.before ++ taken x) same ∙ ap (λ (x : List (List ℕ)). F.before ++ x) (taken-same s c.good to_flush F.frame F.result F.four) in
    let idle : s.begun ≡ false = sym (begun-on s c.good) ∙ ap is_begun (sym c.on) ∙ F.idle in
    let carried = saw_carried s c.good to_flush F.frame F.result (ap (λ (x : Exported). x.status) (sym same) ∙ F.flushed) in
    record {
      flushed = rw t (flushed_last F.numbered c.is idle carried);
      octets = rw t (each-taken F.before (flush s F.frame) c.each (flush_octets s F.frame c.octets));
    }
