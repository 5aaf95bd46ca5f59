-- A frame taken to its end by calls, refused calls between, is its messages treated one after the other; and every well-formed frame can be
-- taken to its end by a ready board, so that a fresh board can take any list of well-formed frames.
use mathlib.Core.Path.{◌≡◌, refl, sym, ap, ◌∙◌}
use mathlib.Core.List.Memᴰ
use mathlib.Core.List.{List, [], ◌∷◌, map, Memᴰ}
use Prim.Native.Nat.{ℕ, zero, suc, ◌≤◌, ◌<◌}
use native.Mathlib.Omega.{arith}
use lib.ListN.{length, take, replicate, length-append, length-replicate}
use Rattle.std.proofs.Common.{Err, Ok}
use Rattle.wire.specs.declared.Version.{Version}
use Rattle.wire.specs.Message.{Message}
use Rattle.wire.specs.Frame.{Item, Sized, items, messages}
use Rattle.wire.proofs.Spans.{sized}
use Rattle.wire.proofs.Order.{good_place}
use Rattle.window.specs.Window.{Window}
use Rattle.pieces.specs.Pieces.{bundle_max}
use Rattle.rows.specs.Origin.{Origin}
use Rattle.receiver.specs.declared.Refusal.{Refusal}
use Rattle.receiver.specs.declared.Answer.TheVariants.{Delivered, Finished}
use Rattle.rows.specs.State.{window_of, fresh}
use Rattle.rows.proofs.Keeping.{settings_of}
use Rattle.rows.specs.Message.{Draft, draft, draft_of, Board, messages_from}
use Rattle.receiver.specs.Receive.{Reply, treat, receive_as, receive}
use Rattle.receiver.proofs.Ready.{Ready, treat-ready, fresh-ready}
use Rattle.rows.specs.Messages.{board_after, handed_by, messages_in}
use Rattle.receiver.proofs.Keeping.{receive-keeps, receive-as}
use Rattle.receiver.proofs.Standing as Standing
use Rattle.receiver.proofs.Standing.{at-start, at_next}
use Rattle.receiver.proofs.Calls.{Treated, through, stops, treating, refused-keeps, not-refused, admitted}
use Rattle.claims.specs.Record.{WellFormed, Record}
use Rattle.claims.specs.Calls.{Fresh, Delivery, Entry, Takes, delivered, finished, refused, Calls, over, taken, between}
use Rattle.claims.specs.Demand3.{delivery, Reception}
use Rattle.claims.proofs.Boards.{answered}

-- The draft's messages take at least one octet, and no more than there are.
abbrev pub Measured : Draft → Type 0
Measured D = (xs : List ℕ) → Sized (length xs) (D.read xs)

module _ (D : Draft) (M : Measured D) (w : ℕ) (f : List ℕ) (F : WellFormed D f) where
  abbrev answers_by : Board → List Message → List Delivery
  answers_by b ms = map answered (handed_by w D.order b ms)

  abbrev At : ℕ → List Item → Type 0
  At = Standing.At D M f F.items F.whole

  module _ (b : Board) (at : ℕ) (rest : List Item) (A : At at rest) (output : List ℕ) where
    abbrev reply : Reply
    reply = receive_as D w b f at output

    treats : ((r : Refusal) → reply.answer ≡ Err r → ⊥) → reply ≡ treat D w b rest output
    unfolding messages_from items
    treats never = not-refused D w b f at output never ∙ rw (F.whole, A.here)

    finished-run : reply.answer ≡ Ok Finished → (answers_by b (messages_in rest) ≡ []) × (board_after w D.order b (messages_in rest) ≡ reply.board)
    finished-run e = go (treating D w b rest output)
      where
        r : reply ≡ treat D w b rest output
        r = treats (λ q e'. let z : ◌≡◌ {A = ℕ} 0 1 = cc in omega arith)

        go : Treated D w b rest output → (answers_by b (messages_in rest) ≡ []) × (board_after w D.order b (messages_in rest) ≡ reply.board)
        go (through a h q) = (ap (map answered) h, q ∙ ap (λ (x : Reply). x.board) (sym r))
        go (stops pre i suf h q a t hs v) = let z : ◌≡◌ {A = ℕ} 0 1 = cc (ap (λ (x : Reply). x.answer) r) in absurd (omega arith)

    -- the items behind a bundle that is handed out
    record Resumed (next : ℕ) (h : Delivery) : Type 0 where
      later : List Item
      place : At next later
      hands : answers_by b (messages_in rest) ≡ h ∷ answers_by reply.board (messages_in later)
      leaves : board_after w D.order b (messages_in rest) ≡ board_after w D.order reply.board (messages_in later)

    delivered-run : (size next : ℕ) (origin : Origin) → reply.answer ≡ Ok (Delivered size next origin) → Resumed next (record { origin = origin; size = size; octets = take size reply.output })
    unfolding delivery
    delivered-run size next origin e = go (treating D w b rest output)
      where
        r : reply ≡ treat D w b rest output
        r = treats (λ q e'. let z : ◌≡◌ {A = ℕ} 0 1 = cc in omega arith)

        go : Treated D w b rest output → Resumed next (record { origin = origin; size = size; octets = take size reply.output })
        go (through a h q) = let z : ◌≡◌ {A = ℕ} 0 1 = cc (ap (λ (x : Reply). x.answer) r) in absurd (omega arith)
        go (stops pre i suf h q a t hs v) =
            let same : Ok (Delivered size next origin) ≡ Ok (Delivered (length h.octets) i.next h.origin) = sym e ∙ ap (λ (x : Reply). x.answer) r ∙ a in
            let next≡ : next ≡ i.next = cc in
            let size≡ : size ≡ length h.octets = cc in
            let origin≡ : origin ≡ h.origin = cc in
            let octets≡ : take size reply.output ≡ h.octets = rw (size≡, r) t in
            let h≡ : answered h ≡ record { origin = origin; size = size; octets = take size reply.output } = λ j. record { origin = sym origin≡ j; size = sym size≡ j; octets = sym octets≡ j } in
            record { later = suf; place = rw next≡ (at_next D M f F.items F.whole A pre i suf q); hands = rw (← h≡, r) (ap (map answered) hs); leaves = rw r v }

  take-run : {b after : Board} {at : ℕ} {hs : List Delivery} → Takes (receive_as D w) f b at hs after → (rest : List Item) → At at rest
      → (answers_by b (messages_in rest) ≡ hs) × (board_after w D.order b (messages_in rest) ≡ after)
  take-run (refused {b} other at output r e t) rest A = rw (refused-keeps D w b other at output r e) at (take-run t rest A)
  take-run (delivered {b} {place = at} output size next origin e t) rest A =
      let s = delivered-run b at rest A output size next origin e in
      let ih = take-run t s.later s.place in
      (s.hands ∙ ap (λ l. record { origin = origin; size = size; octets = take size (receive_as D w b f at output).output } ∷ l) ih.0, s.leaves ∙ ih.1)
  take-run (finished {b} {place = at} output e) rest A = finished-run b at rest A output e

  pub frame-run : {b after : Board} {hs : List Delivery} → Takes (receive_as D w) f b 0 hs after
      → (answers_by b (messages D.read f) ≡ hs) × (board_after w D.order b (messages D.read f) ≡ after)
  unfolding messages items
  frame-run t = rw F.whole (take-run t F.items (at-start D M f F.items F.whole))

  -- ---- every frame can be taken

  module _ (win : Window w) where
    -- how a board takes the frame from a place on
    pub record Taking (b : Board) (at : ℕ) : Type 0 where
      pub handed : List Delivery
      pub after : Board
      pub takes : Takes (receive_as D w) f b at handed after
      pub ready : Ready w after

    abbrev buffer : List ℕ
    buffer = replicate bundle_max 0

    call : (b : Board) (at : ℕ) (rest : List Item) → Ready w b → At at rest → ((b' : Board) (at' : ℕ) (rest' : List Item) → length rest' < length rest → Ready w b' → At at' rest' → Taking b' at') → Taking b at
    call b at rest R A later = go (treating D w b rest buffer)
      where
        r : receive_as D w b f at buffer ≡ treat D w b rest buffer
        r =
            admitted D w b f at buffer F.items R.sound R.pool (omega (arith, length-replicate {A = ℕ} bundle_max 0)) F.some F.small F.whole (rw A.split (good_place at (length f) A.front rest A.on))
            ∙ ap (λ is. treat D w b is buffer) A.here

        ready : Ready w (receive_as D w b f at buffer).board
        ready = rw r (treat-ready w win D b rest buffer R)

        go : Treated D w b rest buffer → Taking b at
        go (through a h q) = record { handed = []; after = (receive_as D w b f at buffer).board; takes = finished buffer (ap (λ (x : Reply). x.answer) r ∙ a); ready = ready }
        go (stops pre i suf h q a t hs v) =
            let lt : length suf < length rest = omega (arith, ap length q, length-append pre (i ∷ suf)) in
            let rest' = later (receive_as D w b f at buffer).board i.next suf lt ready (at_next D M f F.items F.whole A pre i suf q) in
            record {
              handed = record { origin = h.origin; size = length h.octets; octets = take (length h.octets) (receive_as D w b f at buffer).output } ∷ rest'.handed;
              after = rest'.after;
              takes = delivered buffer (length h.octets) i.next h.origin (ap (λ (x : Reply). x.answer) r ∙ a) rest'.takes;
              ready = rest'.ready;
            }

    calls_within : (n : ℕ) (b : Board) (at : ℕ) (rest : List Item) → length rest ≤ n → Ready w b → At at rest → Taking b at
    calls_within zero b at rest le R A = call b at rest R A (λ b' at' rest' lt. absurd (omega arith))
    calls_within (suc n) b at rest le R A = call b at rest R A (λ b' at' rest' lt. calls_within n b' at' rest' (omega arith))

    pub takeable : (b : Board) → Ready w b → Taking b 0
    takeable b R = calls_within (length F.items) b 0 F.items (omega arith) R (at-start D M f F.items F.whole)

abbrev pub frames_of : List Entry → List (List ℕ)
frames_of es = map (λ (e : Entry). e.frame) es

module _ (D : Draft) (w : ℕ) where
  -- what a board hands out over a list of frames, message by message
  unfoldable pub entries_of : Board → List (List ℕ) → List Entry
  entries_of b [] = []
  entries_of b (f ∷ fs) =
      let ms : List Message = messages D.read f in
      record { frame = f; handed = map answered (handed_by w D.order b ms) } ∷ entries_of (board_after w D.order b ms) fs

  -- whatever calls are refused, a board hands out just that
  pub determined : Measured D → {b : Board} {es : List Entry} → Calls (receive_as D w) b es → ((e : Entry) → Memᴰ e es → WellFormed D e.frame) → es ≡ entries_of b (frames_of es)
  unfolding entries_of
  determined M over wf = refl
  determined M (between {b} other place output r e c) wf = rw (refused-keeps D w b other place output r e) at (determined M c wf)
  determined M (taken {frame = f} {hs} t c) wf =
      let run = frame-run D M w f (wf (record { frame = f; handed = hs }) (Memᴰ.head refl)) t in
      rw (run.0, run.1) (ap (λ l. record { frame = f; handed = hs } ∷ l) (determined M c (λ e m. wf e (Memᴰ.tail m))))

  module _ (M : Measured D) (win : Window w) where
    ready_receives : (b : Board) → Ready w b → (fs : List (List ℕ)) → ((f : List ℕ) → Memᴰ f fs → WellFormed D f) → Calls (receive_as D w) b (entries_of b fs)
    unfolding entries_of
    ready_receives b R [] wf = over
    ready_receives b R (f ∷ fs) wf =
        let F = wf f (Memᴰ.head refl) in
        let t = takeable D M w f F win b R in
        let run = frame-run D M w f F t.takes in
        taken (rw (← run.0, ← run.1) at t.takes) (ready_receives (board_after w D.order b (messages D.read f)) (rw (← run.1) at t.ready) fs (λ g m. wf g (Memᴰ.tail m)))

  entry_frame : (b : Board) (fs : List (List ℕ)) (e : Entry) → Memᴰ e (entries_of b fs) → Memᴰ e.frame fs
  unfolding entries_of
  entry_frame b [] e m = absurd (Memᴰ.not-nil m)
  entry_frame b (f ∷ fs) e (Memᴰ.head q) = Memᴰ.head (ap (λ (x : Entry). x.frame) q)
  entry_frame b (f ∷ fs) e (Memᴰ.tail m) = Memᴰ.tail (entry_frame (board_after w D.order b (messages D.read f)) fs e m)

-- ---- two receiving calls that agree on the boards that come up

module _ (c₁ c₂ : Board → List ℕ → ℕ → List ℕ → Reply) (P : Board → Type 0)
    (same : (b : Board) → P b → (frame : List ℕ) (place : ℕ) (output : List ℕ) → c₁ b frame place output ≡ c₂ b frame place output)
    (keeps : (b : Board) → P b → (frame : List ℕ) (place : ℕ) (output : List ℕ) → P (c₁ b frame place output).board) where
  takes_alike : {frame : List ℕ} {b after : Board} {place : ℕ} {hs : List Delivery} → P b → Takes c₁ frame b place hs after → Takes c₂ frame b place hs after × P after
  takes_alike {frame} p (delivered {b} {place = place} output size next origin a t) =
      let q = same b p frame place output in
      let (u, after) = takes_alike (keeps b p frame place output) t in
      (rw q (delivered output size next origin (rw q at a) (rw q at u)), after)
  takes_alike {frame} p (finished {b} {place} output a) =
      let q = same b p frame place output in
      (rw q (finished output (rw q at a)), keeps b p frame place output)
  takes_alike p (refused {b} other at output r a t) =
      let q = same b p other at output in
      let (u, after) = takes_alike (keeps b p other at output) t in
      (refused other at output r (rw q at a) (rw q at u), after)

  calls_alike : {b : Board} {es : List Entry} → P b → Calls c₁ b es → Calls c₂ b es
  calls_alike p over = over
  calls_alike p (taken t c) = let (u, after) = takes_alike p t in taken u (calls_alike after c)
  calls_alike p (between {b} other place output r a c) =
      let q = same b p other place output in
      between other place output r (rw q at a) (rw q at (calls_alike (keeps b p other place output) c))

-- ---- a board that is set to a draft and a window: its calls are theirs

module _ (v : Version) (w : ℕ) where
  abbrev Set : Board → Type 0
  Set b = settings_of b ≡ record { version = v; window = w }

  set-kept : (D : Draft) (n : ℕ) (b : Board) → Set b → (frame : List ℕ) (place : ℕ) (output : List ℕ) → Set (receive_as D n b frame place output).board
  set-kept D n b e frame place output = receive-keeps n D b frame place output ∙ e

  fresh_set : {b : Board} → Fresh v w b → Set b
  unfolding fresh
  fresh_set F = rw F.started

  pub calls-as : {b : Board} {es : List Entry} → Fresh v w b → Calls receive b es → Calls (receive_as (draft v) w) b es
  calls-as F =
      calls_alike receive (receive_as (draft v) w) Set (λ b e frame place output. receive-as v w b frame place output e)
      (λ b e. set-kept (draft_of b.state) (window_of b.state) b e) (fresh_set F)

  pub calls-own : {b : Board} {es : List Entry} → Fresh v w b → Calls (receive_as (draft v) w) b es → Calls receive b es
  calls-own F =
      calls_alike (receive_as (draft v) w) receive Set (λ b e frame place output. sym (receive-as v w b frame place output e)) (set-kept (draft v) w) (fresh_set F)

  pub receives : Window w → (b : Board) → Fresh v w b → (fs : List (List ℕ)) → ((f : List ℕ) → Memᴰ f fs → WellFormed (draft v) f)
      → Calls receive b (entries_of (draft v) w b fs)
  receives win b F fs wf =
      calls-own F (ready_receives (draft v) w (sized v) win b (rw (← F.started) at (fresh-ready w win v b.pool F.pooled)) fs wf)

-- any frames of a record, in any order, repeated or not, are taken by any fresh board
pub reception : {v : Version} (R : Record v) (w : ℕ) → Window w → (b : Board) → Fresh v w b → (fs : List (List ℕ)) → ((f : List ℕ) → Memᴰ f fs → Memᴰ f R.frames)
    → Reception R w (entries_of (draft v) w b fs)
reception {v} R w win b F fs d = record {
  board = b;
  fresh = F;
  calls = receives v w win b F fs (λ f m. R.well_formed f (d f m));
  drawn = λ e m. d e.frame (entry_frame (draft v) w b fs e m);
}
