-- A board's calls on images are its calls on states: what a host sees of each call tells what the call on the state answers.
use mathlib.Core.Path.{◌≡◌, refl, sym, ap, ◌∙◌}
use mathlib.Core.List.{List, [], ◌∷◌, Memᴰ}
use Prim.Native.Nat.{ℕ}
use native.Mathlib.Omega.{arith}
use lib.ListN.{get_or, set, take}
use Rattle.std.proofs.Common.{Err, Ok, Result}
use Rattle.octets.specs.Octets.{Octets}
use Rattle.wire.proofs.Bounds.{read_low}
use Rattle.rows.specs.State.{window_of}
use Rattle.rows.specs.Origin.{Origin}
use Rattle.rows.specs.declared.State.{State}
use Rattle.rows.specs.Message as Rows
use Rattle.rows.specs.Message.{draft_of}
use Rattle.messages.specs.Run.{origin_number}
use Rattle.receiver.specs.declared.Answer.{Answer}
use Rattle.receiver.specs.declared.Answer.TheVariants.{Delivered, Finished}
use Rattle.receiver.specs.declared.Refusal.{Refusal}
use Rattle.receiver.specs.Receive.{Reply, receive}
use Rattle.receiver.proofs.Refusals.{number-some}
use Rattle.receiver.proofs.Calls.{refused-keeps}
use Rattle.receiver.proofs.Bounds.{receive-hands}
use Rattle.images.specs.Receiver.{image_of}
use Rattle.answers.specs.Receiver.{status, report}
use Rattle.board.specs.Receiver.{Exported, received}
use Rattle.claims.specs.Calls as States
use Rattle.claims.specs.Calls.{Delivery, Entry}
use Rattle.demands.specs.Boards.{Board, call, left, entry, bundle_of, Takes, bundle, finished, refused, Calls, over, taken, between}
use Rattle.demands.proofs.Images.{Good, with, call_good, origin_back, image-left, pool_left, output-left, status-is, result-is}

-- a board on an image of a good state
pub record On (s : State) (b : Board) : Type 0 where
  pub image : b.image ≡ image_of s
  pub good : Good s

first-zero : (xs : List ℕ) → get_or (set xs 0 0) 0 0 ≡ 0
first-zero [] = refl
first-zero (x ∷ xs) = refl

module _ (s : State) (b : Board) (O : On s b) (frame : List ℕ) (place : ℕ) (output result : List ℕ) where
  abbrev r : Reply
  r = receive (with s b.pool) frame place output

  abbrev e : Exported
  e = call b frame place output result

  on-image : e ≡ received (image_of s) b.pool frame place output result
  on-image = rw O.image

  status-of : e.status ≡ status r.answer
  status-of = rw on-image (status-is s O.good b.pool frame place output result)

  result-of : e.result ≡ report r.answer result
  result-of = rw on-image (result-is s O.good b.pool frame place output result)

  pool_of : e.pool ≡ r.board.pool
  pool_of = rw on-image (pool_left s O.good b.pool frame place output result)

  output-of : e.output ≡ r.output
  output-of = rw on-image (output-left s O.good b.pool frame place output result)

  image-of : e.image ≡ image_of r.board.state
  image-of = rw on-image (image-left s O.good b.pool frame place output result)

  on-left : Octets frame → On r.board.state (left e)
  on-left low = record { image = image-of; good = call_good s O.good b.pool frame place output low }

  -- what a host sees, and what was answered
  refused-not : (q : Refusal) → r.answer ≡ Err q → e.status ≡ 0 → ⊥
  refused-not q a z = omega (arith, sym status-of ∙ z, ap status a, number-some q)

  saw_bundle : e.status ≡ 0 → entry e 0 ≡ 1 → (n next : ℕ) × (o : Origin) × (r.answer ≡ Ok (Delivered n next o))
  unfolding report
  saw_bundle z one = go r.answer refl
    where
      go : (a : Result Answer Refusal) → r.answer ≡ a → (n next : ℕ) × (o : Origin) × (r.answer ≡ Ok (Delivered n next o))
      go (Ok (Delivered n next o)) q = (n, next, o, q)
      go (Ok Finished) q = absurd (omega (arith, one, ap (λ (l : List ℕ). get_or l 0 0) (result-of ∙ ap (λ (a : Result Answer Refusal). report a result) q), first-zero result))
      go (Err f) q = absurd (refused-not f q z)

  saw_finished : e.status ≡ 0 → entry e 0 ≡ 0 → r.answer ≡ Ok Finished
  unfolding report
  saw_finished z none = go r.answer refl
    where
      go : (a : Result Answer Refusal) → r.answer ≡ a → r.answer ≡ Ok Finished
      go (Ok (Delivered n next o)) q = absurd (omega (arith, none, ap (λ (l : List ℕ). get_or l 0 0) (result-of ∙ ap (λ (a : Result Answer Refusal). report a result) q)))
      go (Ok Finished) q = q
      go (Err f) q = absurd (refused-not f q z)

  saw_refused : (e.status ≡ 0 → ⊥) → (q : Refusal) × (r.answer ≡ Err q)
  saw_refused n = go r.answer refl
    where
      go : (a : Result Answer Refusal) → r.answer ≡ a → (q : Refusal) × (r.answer ≡ Err q)
      go (Ok (Delivered k next o)) q = absurd (n (status-of ∙ ap status q))
      go (Ok Finished) q = absurd (n (status-of ∙ ap status q))
      go (Err f) q = (f, q)

  -- a bundle as the host reads it off the result
  reads_bundle : Octets frame → (n next : ℕ) (o : Origin) → r.answer ≡ Ok (Delivered n next o)
      → (bundle_of e ≡ record { origin = o; size = n; octets = take n r.output }) × (entry e 2 ≡ next) × (entry e 0 ≡ 1) × (e.status ≡ 0)
  unfolding report
  reads_bundle low n next o a =
      let l : e.result ≡ 1 ∷ n ∷ next ∷ origin_number o ∷ [] = result-of ∙ ap (λ (a : Result Answer Refusal). report a result) a in
      let back = origin_back o (rw a at (receive-hands (window_of s) (draft_of s) (read_low s.settings.version) (with s b.pool) frame place output low)) in
      (rw (l, output-of, back), rw l, rw l, status-of ∙ ap status a)

  finished-entry : r.answer ≡ Ok Finished → entry e 0 ≡ 0
  unfolding report
  finished-entry a = rw (result-of, a) (first-zero result)

  -- a refused call leaves the board
  refused-left : (q : Refusal) → r.answer ≡ Err q → On s (left e) × (e.pool ≡ b.pool)
  refused-left q a =
      let k = refused-keeps (draft_of s) (window_of s) (with s b.pool) frame place output q a in
      (record { image = image-of ∙ ap (λ (x : Rows.Board). image_of x.state) k; good = O.good }, pool_of ∙ ap (λ (x : Rows.Board). x.pool) k)

-- ---- a frame taken to its end

-- what a board comes to on states: the state after, and what is shown of it
record Came (T : State → Type 0) (after : Board) : Type 0 where
  state : State
  on : On state after
  is : T state

module _ (frame : List ℕ) (low : Octets frame) where
  abbrev OnStates : State → List ℕ → ℕ → List Delivery → Board → State → Type 0
  OnStates s pool place hs after t = States.Takes receive frame (with s pool) place hs (with t after.pool)

  on_bundle : {hs : List Delivery} {after : Board} (s : State) (pool : List ℕ) (place : ℕ) (output : List ℕ) (n next : ℕ) (o : Origin) (pool' : List ℕ) (next' : ℕ)
      → let r : Reply = receive (with s pool) frame place output in
      r.answer ≡ Ok (Delivered n next o) → pool' ≡ r.board.pool → next' ≡ next → Came (OnStates r.board.state pool' next' hs after) after
      → Came (OnStates s pool place (record { origin = o; size = n; octets = take n r.output } ∷ hs) after) after
  on_bundle s pool place output n next o pool' next' a ep en c = record { state = c.state; on = c.on; is = States.delivered output n next o a (rw (ep, en) at c.is) }

  on-refused : {place : ℕ} {hs : List Delivery} {after : Board} (s : State) (pool other : List ℕ) (at : ℕ) (output : List ℕ) (q : Refusal)
      → (receive (with s pool) other at output).answer ≡ Err q → Came (OnStates s pool place hs after) after → Came (OnStates s pool place hs after) after
  on-refused {place} {hs} {after} s pool other at output q a c =
      let t : States.Takes receive frame (receive (with s pool) other at output).board place hs (with c.state after.pool) =
      rw (refused-keeps (draft_of s) (window_of s) (with s pool) other at output q a) c.is in
      record { state = c.state; on = c.on; is = States.refused other at output q a t }

  -- what the calls after one come to, from the state that it leaves
  abbrev Onward : Board → ℕ → List Delivery → Board → Type 0
  Onward b place hs after = (s : State) → On s b → Came (OnStates s b.pool place hs after) after

  from_bundle : {b after : Board} {place : ℕ} {hs : List Delivery} (output result : List ℕ) → (call b frame place output result).status ≡ 0 → entry (call b frame place output result) 0 ≡ 1
      → Onward (left (call b frame place output result)) (entry (call b frame place output result) 2) hs after → Onward b place (bundle_of (call b frame place output result) ∷ hs) after
  from_bundle {b} {place = place} output result z one later s O =
      let d = saw_bundle s b O frame place output result z one in
      let v = reads_bundle s b O frame place output result low d.0 d.1 d.2 d.3 in
      let c = later (receive (with s b.pool) frame place output).board.state (on-left s b O frame place output result low) in
      rw v.0 (on_bundle s b.pool place output d.0 d.1 d.2 _ _ d.3 (pool_of s b O frame place output result) v.1 c)

  from-finished : {b : Board} {place : ℕ} (output result : List ℕ) → (call b frame place output result).status ≡ 0 → entry (call b frame place output result) 0 ≡ 0
      → Onward b place [] (left (call b frame place output result))
  from-finished {b} {place} output result z none s O =
      let r : Reply = receive (with s b.pool) frame place output in
      record {
        state = r.board.state;
        on = on-left s b O frame place output result low;
        is = rw (pool_of s b O frame place output result) (States.finished output (saw_finished s b O frame place output result z none));
      }

  from-refused : {b after : Board} {place : ℕ} {hs : List Delivery} (other : List ℕ) (at : ℕ) (output result : List ℕ) → ((call b other at output result).status ≡ 0 → ⊥)
      → Onward (left (call b other at output result)) place hs after → Onward b place hs after
  from-refused {b} other at output result n later s O =
      let d = saw_refused s b O other at output result n in
      let k = refused-left s b O other at output result d.0 d.1 in
      on-refused s b.pool other at output d.0 d.1 (rw k.1 at (later s k.0))

  takes_states : {b after : Board} {place : ℕ} {hs : List Delivery} → Takes frame b place hs after → Onward b place hs after
  takes_states (bundle output result z one t) = from_bundle output result z one (takes_states t)
  takes_states (finished output result z none) = from-finished output result z none
  takes_states (refused other at output result n t) = from-refused other at output result n (takes_states t)

-- ---- a board's list

pub calls_states : {b : Board} {es : List Entry} → Calls b es → (s : State) → On s b → States.Calls receive (with s b.pool) es
calls_states over s O = States.over
calls_states (taken low t c) s O = let k = takes_states _ low t s O in States.taken k.is (calls_states c k.state k.on)
calls_states (between {b} {es} other place output result n c) s O =
    let d = saw_refused s b O other place output result n in
    let k = refused-left s b O other place output result d.0 d.1 in
    let u : States.Calls receive (receive (with s b.pool) other place output).board es =
    rw (refused-keeps (draft_of s) (window_of s) (with s b.pool) other place output d.0 d.1) (rw k.1 at (calls_states c s k.0)) in
    States.between other place output d.0 d.1 u

-- ---- from states to images

-- the board on the image of a state
abbrev pub imaged : Rows.Board → Board
imaged b = record { image = image_of b.state; pool = b.pool }

pub on_imaged : (b : Rows.Board) → Good b.state → On b.state (imaged b)
on_imaged b g = record { image = refl; good = g }

abbrev four : List ℕ
four = 0 ∷ 0 ∷ 0 ∷ 0 ∷ []

module _ (b : Rows.Board) (g : Good b.state) (frame : List ℕ) (place : ℕ) (output : List ℕ) where
  abbrev O : On b.state (imaged b)
  O = on_imaged b g

  left_imaged : left (call (imaged b) frame place output four) ≡ imaged (receive b frame place output).board
  left_imaged =
      let i = image-of b.state (imaged b) O frame place output four in
      let p = pool_of b.state (imaged b) O frame place output four in
      λ j. record { image = i j; pool = p j }

  -- a refused call between others
  refused_imaged : (q : Refusal) → (receive b frame place output).answer ≡ Err q → (call (imaged b) frame place output four).status ≡ 0 → ⊥
  refused_imaged = refused-not b.state (imaged b) O frame place output four

module _ (frame : List ℕ) (low : Octets frame) where
  takes_images : {b after : Rows.Board} {place : ℕ} {hs : List Delivery} → States.Takes receive frame b place hs after → Good b.state
      → Takes frame (imaged b) place hs (imaged after) × Good after.state
  takes_images {after = after} (States.delivered {b} {place = place} {hs} output size next origin a t) g =
      let v = reads_bundle b.state (imaged b) (on_imaged b g) frame place output four low size next origin a in
      let ih = takes_images t (call_good b.state g b.pool frame place output low) in
      let u : Takes frame (left (call (imaged b) frame place output four)) (entry (call (imaged b) frame place output four) 2) hs (imaged after) = rw (left_imaged b g frame place output, v.1) ih.0 in
      (rw v.0 at (bundle output four v.3 v.2 u), ih.1)
  takes_images (States.finished {b} {place = place} output a) g =
      let t = finished {b = imaged b} output four (status-of b.state (imaged b) (on_imaged b g) frame place output four ∙ ap status a)
      (finished-entry b.state (imaged b) (on_imaged b g) frame place output four a) in
      (rw (left_imaged b g frame place output) at t, call_good b.state g b.pool frame place output low)
  takes_images {after = after} (States.refused {b} {place = place} {hs} other at output q a t) g =
      let k = refused-keeps (draft_of b.state) (window_of b.state) b other at output q a in
      let ih = takes_images t (rw k g) in
      let u : Takes frame (left (call (imaged b) other at output four)) place hs (imaged after) = rw (left_imaged b g other at output) ih.0 in
      (refused other at output four (refused_imaged b g other at output q a) u, ih.1)

pub calls_images : {b : Rows.Board} {es : List Entry} → States.Calls receive b es → Good b.state → ((e : Entry) → Memᴰ e es → Octets e.frame) → Calls (imaged b) es
calls_images States.over g low = over
calls_images (States.taken t c) g low =
    let k = takes_images _ (low _ (Memᴰ.head refl)) t g in
    taken (low _ (Memᴰ.head refl)) k.0 (calls_images c k.1 (λ e m. low e (Memᴰ.tail m)))
calls_images (States.between {b} {es} other place output q a c) g low =
    let u : Calls (left (call (imaged b) other place output four)) es =
    rw (left_imaged b g other place output) (calls_images c (rw (refused-keeps (draft_of b.state) (window_of b.state) b other place output q a) g) low) in
    between other place output four (refused_imaged b g other place output q a) u
