-- The frames of a sender that is used as document 01 says are well formed, and their messages carry the bundles placed to their end.
use Rattle.std.proofs.Common.{None, Some}
use Rattle.wire.specs.declared.Version.{Version}
use mathlib.Core.Path.{◌≡◌, refl, sym, ap, ◌∙◌}
use mathlib.Core.Bool.{Bool, true, false, cond, not, ◌&&◌}
use mathlib.Core.Logic.{◌⊎◌, inl, inr}
use mathlib.Core.List.Memᴰ
use mathlib.Core.List.{List, [], ◌∷◌, ◌++◌, append_assoc, append-nil, Memᴰ}
use Prim.Native.Nat.{ℕ, ◌+◌, ◌-◌, ◌^◌, ◌≤◌, ◌<◌}
use native.Mathlib.Omega.{arith}
use lib.ListN.{length, take, drop, length-append, length-drop, drop_of_length-le}
use lib.Seq.{take_at, length-take-le}
use lib.Dec.{eqb}
use borrow.Author.Tests.{eqb-true, eqb-false, ltb-false, not-false}
use Rattle.octets.specs.Octets.{put}
use Rattle.octets.proofs.Flags.{cond_elim, neither}
use Rattle.wire.specs.Message.{Message, skipped, bundle, cancel as cancelled, content_length}
use Rattle.wire.specs.Layout.{read}
use Rattle.wire.specs.Frame.{items, scan, scanned, messages}
use Rattle.writing.specs.Written.{written, piece, padding}
use Rattle.writing.proofs.Written.{Writable, writable_piece, length-written, length-piece, length-padding}
use Rattle.writing.proofs.Written as Written
use Rattle.pieces.specs.Pieces.{bundle_max}
use Rattle.framing.specs.declared.State.{State}
use Rattle.framing.specs.Answers.{Reply, placed, placed_and_ready, refused, Outcome}
use Rattle.framing.specs.Placing.{room, with_fill, ended, numbered, continued, piece_index, next_index, marks, advanced, added, closed, placing}
use Rattle.framing.proofs.Steps.{index-begun}
use Rattle.framing.proofs.Ways.{placing-ways}
use Rattle.sender.specs.Answers.{StartReply, made, is_refusal}
use Rattle.sender.specs.Sound.{sized, sound}
use Rattle.sender.specs.Calls.{fresh, start, place_cases, place, cancel_cases, cancel, flush_cases, flush}
use Rattle.sender.proofs.Facts.{Ranges, in-range, in-transfer, at_rest, same_length, lies_within}
use Rattle.sender.proofs.Ways.{Passed, unless-ways}
use Rattle.sender.proofs.Kept.{start-sound, place-sound, cancel-sound, flush-sound}
use Rattle.sender.proofs.Refusals.{place-refused, cancel-refused, flush-refused}
use Rattle.rows.specs.Message.{order_of, draft, Handed}
use Rattle.claims.specs.Record.{WellFormed}
use Rattle.claims.specs.Use.{is_ready, is_placed, taken, finished, Call, to_place, to_cancel, to_flush, outcome_of, Used, started, placing as place-used, cancelling, flushing, refusing}
use Rattle.claims.proofs.Carries.{Begun, Carries, begin}
use Rattle.claims.proofs.Flows.{Flow, idle, going, lent-flow, number_small, begun-small, padding-flow, bundle-flow, cancel-flow, end-flow, piece-flow}
use Rattle.claims.proofs.Parts.{Parts, In, At, piece-small, piece-opens, piece-continues, piece-ends}
use Rattle.claims.proofs.Framed.{Reads, reads_none, reads-written, reads-padding, well_formed_lem, reads_messages}

-- the messages of frames
unfoldable pub frame_messages : Version → List (List ℕ) → List Message
frame_messages v [] = []
frame_messages v (f ∷ fs) = messages (read v) f ++ frame_messages v fs

frames-snoc : (v : Version) (fs : List (List ℕ)) (f : List ℕ) → frame_messages v (fs ++ f ∷ []) ≡ frame_messages v fs ++ messages (read v) f
unfolding frame_messages
frames-snoc v [] f = append-nil (messages (read v) f)
frames-snoc v (g ∷ fs) f = rw (frames-snoc v fs f) (sym (append_assoc (messages (read v) g) (frame_messages v fs) (messages (read v) f)))

-- ---- what holds between the calls

-- what the messages carry, for a state
abbrev FlowOf : Version → ℕ → ℕ → State → List ℕ → List Message → List Handed → Type 0
FlowOf v w n s b ms bs = Flow In (At v) (order_of v) w n s.next s.number s.placed s.index b ms bs s.begun

-- The frames taken hold the first messages, the buffer's filled part the others, ms.
record Sends (v : Version) (w n : ℕ) (s : State) (d b : List ℕ) (fs : List (List ℕ)) (bs : List Handed) : Type 0 where
  kept : s.version ≡ v
  ms : List Message
  reads : (rest : List ℕ) (ns : List Message) → Reads s.version rest ns → Reads s.version (take s.fill d ++ rest) (ms ++ ns)
  formed : (f : List ℕ) → Memᴰ f fs → WellFormed (draft s.version) f
  flow : FlowOf s.version w n s b (frame_messages s.version fs ++ ms) bs

-- a put, up to its end
take_put : (d : List ℕ) (at : ℕ) (xs : List ℕ) → at + length xs ≤ length d → take (at + length xs) (put d at xs) ≡ take at d ++ xs
unfolding put
take_put d at xs h = take_at (take at d ++ xs) _ (at + length xs) (length-append (take at d) xs ∙ ap (λ (k : ℕ). k + length xs) (length-take-le at d (omega arith)))

put-end : (d : List ℕ) (at : ℕ) (xs : List ℕ) → at + length xs ≡ length d → put d at xs ≡ take at d ++ xs
unfolding put
put-end d at xs h = let e : length d ≤ at + length xs = omega arith in rw (drop_of_length-le d e, append-nil)

length-end : (d : List ℕ) (at : ℕ) (xs : List ℕ) → at + length xs ≡ length d → length (take at d ++ xs) ≡ length d
length-end d at xs h = length-append (take at d) xs ∙ rw (length-take-le at d (omega arith)) h

-- state t, with the size and fill of s
abbrev over : State → State → State
over s t = record { size = s.size; fill = s.fill; next = t.next; begun = t.begun; number = t.number; length = t.length; placed = t.placed; index = t.index; version = s.version }

module _ {v : Version} {w n : ℕ} {s : State} {d b : List ℕ} {fs : List (List ℕ)} {bs : List Handed} (S : Sends v w n s d b fs bs) (r : Ranges s) (long : length d ≡ s.size) where
  module _ (t : State) (a : List ℕ) (cs : List Handed) where
    -- the frame is full
    full : (x : List ℕ) (ns : List Message) → s.fill + length x ≡ s.size → Reads s.version x ns → FlowOf s.version w n t a ((frame_messages s.version fs ++ S.ms) ++ ns) cs
        → Sends v w n (with_fill (over s t) 0) (put d s.fill x) a (fs ++ put d s.fill x ∷ []) cs
    full x ns e reads f =
        let at : s.fill + length x ≡ length d = omega arith in
        let g : List ℕ = put d s.fill x in
        let whole : Reads s.version g (S.ms ++ ns) = rw (put-end d s.fill x at) (S.reads x ns reads) in
        let size : length g ≡ length d = ap length (put-end d s.fill x at) ∙ length-end d s.fill x at in
        record {
          kept = S.kept;
          ms = [];
          reads = λ rest ms r. r;
          formed = λ h m. either g (well_formed_lem s.version g (S.ms ++ ns) whole (omega arith) (omega arith)) h (Memᴰ.append_cases fs m);
          flow = rw (append-nil, frames-snoc s.version fs g, reads_messages s.version g (S.ms ++ ns) whole, ← append_assoc (frame_messages s.version fs) S.ms ns) f;
        }
      where
        either : (g : List ℕ) → WellFormed (draft s.version) g → (h : List ℕ) → Memᴰ h fs ⊎ Memᴰ h (g ∷ []) → WellFormed (draft s.version) h
        either g G h (inl m) = S.formed h m
        either g G h (inr m) = rw (Memᴰ.eq_of_singleton m) G

    -- the frame has room
    part : (m : Message) → Writable m → s.fill + length (written s.version m) ≤ s.size → FlowOf s.version w n t a ((frame_messages s.version fs ++ S.ms) ++ m ∷ []) cs
        → Sends v w n (with_fill (over s t) (s.fill + length (written s.version m))) (put d s.fill (written s.version m)) a (fs ++ []) cs
    part m W h f =
        record {
          kept = S.kept;
          ms = S.ms ++ m ∷ [];
          reads = λ rest ns y.
              rw (take_put d s.fill (written s.version m) (omega arith), append_assoc (take s.fill d) (written s.version m) rest, append_assoc S.ms (m ∷ []) ns) (S.reads (written s.version m ++ rest) (m ∷ ns) (reads-written s.version m W rest ns y));
          formed = rw (append-nil fs) S.formed;
          flow = rw (append-nil fs, ← append_assoc (frame_messages s.version fs) S.ms (m ∷ [])) f;
        }

    adds : (m : Message) → Writable m → s.fill + length (written s.version m) ≤ s.size → FlowOf s.version w n t a ((frame_messages s.version fs ++ S.ms) ++ m ∷ []) cs
        → Sends v w n (added (over s t) m d).state (added (over s t) m d).frame a (fs ++ taken (added (over s t) m d)) cs
    unfolding added advanced taken is_ready
    adds m W h f = go (eqb (s.fill + length (written s.version m)) s.size) refl
      where
        go : (y : Bool) → eqb (s.fill + length (written s.version m)) s.size ≡ y
            → Sends v w n (with_fill (over s t) (cond y 0 (s.fill + length (written s.version m)))) (put d s.fill (written s.version m)) a
            (fs ++ cond (is_ready (cond y placed_and_ready placed)) (put d s.fill (written s.version m) ∷ []) []) cs
        go true e = full (written s.version m) (m ∷ []) (eqb-true _ _ e) (rw append-nil at (reads-written s.version m W [] [] (reads_none s.version))) f
        go false e = part m W h f

  closes : Sends v w n (closed s d).state (closed s d).frame b (fs ++ taken (closed s d)) bs
  unfolding closed taken is_ready
  closes =
      let p = length-padding (room s) in
      full s b bs (padding (room s)) (skipped ∷ []) (omega arith) (reads-padding s.version (room s) (omega arith) (omega arith)) (padding-flow S.flow)

-- ---- the calls

finished-added : (s : State) (a : List ℕ) (t : State) (m : Message) (d : List ℕ)
    → finished s a (added t m d) ≡ cond (not t.begun) (record { origin = cond s.begun (Some s.number) None; octets = a } ∷ []) []
unfolding added advanced finished is_placed
finished-added s a t m d =
    let hs : List Handed = record { origin = cond s.begun (Some s.number) None; octets = a } ∷ [] in
    cond_elim (λ (r : Reply). cond (is_placed r && not t.begun) hs [] ≡ cond (not t.begun) hs []) (eqb (t.fill + length (written t.version m)) t.size) (λ _. refl) (λ _. refl)

module _ (v : Version) (w n : ℕ) (s : State) (d : List ℕ) (fs : List (List ℕ)) (bs : List Handed) (ok : sound s ≡ true) where
  module _ (a : List ℕ) (S : Sends v w n s d a fs bs) where
    abbrev After : Outcome → Type 0
    After o = Sends v w n o.state o.frame a (fs ++ taken o) (bs ++ finished s a o)

    module _ (long : length d ≡ s.size) (some : 1 ≤ length a) (small : length a ≤ bundle_max) (same : s.begun ≡ true → length a ≡ s.length) (within : (s.placed < length a) × (s.index ≤ 64)) where
      abbrev number : ℕ
      number = (numbered s).number

      whole_sends : length a + 4 ≤ s.size → length a + 4 ≤ room s → After (added s (bundle a) d)
      unfolding content_length
      whole_sends h k =
          let r = in-range s ok in
          let m = length-written s.version (bundle a) in
          rw (finished-added s a s (bundle a) d)
          (adds S r long s a _ (bundle a) (Written.whole (omega arith)) (omega arith)
          (bundle-flow (not-begun s.begun refl) S.flow))
        where
          not-begun : (y : Bool) → s.begun ≡ y → s.begun ≡ false
          not-begun true e = absurd (let f = (in-transfer s ok e).counted in let g = same e in omega arith)
          not-begun false e = e

      abbrev index : ℕ
      index = piece_index s (length a)

      abbrev marked : Bool → Bool
      marked final = marks s.version s.begun final

      begun-index : s.begun ≡ true → index ≡ s.index
      begun-index = index-begun s.version s (length a)

      last_sends : s.size < length a + 4 → 13 ≤ room s → length (drop s.placed a) ≤ room s - 12 → After (added (ended (numbered s)) (piece (marked true) number index (drop s.placed a)) d)
      last_sends h k l =
          let r = in-range s ok in
          let x : List ℕ = drop s.placed a in
          let len = length-drop s.placed a in
          let m = length-piece s.version (marked true) number index x in
          let few = piece-small s ok a small same k some in
          rw (finished-added s a (ended (numbered s)) (piece (marked true) number index x) d)
          (adds S r long (ended (numbered s)) a _ (piece (marked true) number index x) (writable_piece (marked true) number index x (number_small S.flow) (omega arith) (omega arith)) (omega arith)
          (end-flow (marked true) index x busy (piece-ends s ok a small same s.begun index refl busy (begun-index busy) (omega arith)) S.flow))
        where
          busy : s.begun ≡ true
          busy = go s.begun refl
            where
              go : (y : Bool) → s.begun ≡ y → s.begun ≡ true
              go true e = e
              go false e = absurd (let z = at_rest s ok e in let len = length-drop s.placed a in let r = in-range s ok in omega arith)

      more_sends : s.size < length a + 4 → 13 ≤ room s → room s - 12 < length (drop s.placed a)
          → After (added (continued (numbered s) (length a) (room s - 12) (next_index s.version index)) (piece (marked false) number index (take (room s - 12) (drop s.placed a))) d)
      more_sends h k l =
          let r = in-range s ok in
          let x : List ℕ = take (room s - 12) (drop s.placed a) in
          let t : State = continued (numbered s) (length a) (room s - 12) (next_index s.version index) in
          let len = length-drop s.placed a in
          let size : length x ≡ room s - 12 = length-take-le (room s - 12) (drop s.placed a) (omega arith) in
          let m = length-piece s.version (marked false) number index x in
          let few = piece-small s ok a small same k some in
          rw (finished-added s a t (piece (marked false) number index x) d, append-nil bs)
          (adds S r long t a bs (piece (marked false) number index x) (writable_piece (marked false) number index x (number_small S.flow) (omega arith) (omega arith)) (omega arith)
          (piece-flow (marked false) index x (s.placed + (room s - 12)) (next_index s.version index) (λ e. piece-opens s ok a small same s.begun refl e k (omega arith))
          (λ e. piece-continues s ok a small same s.begun index refl e (begun-index e) (omega arith)) S.flow))

      placing_sends : After (placing s a d)
      unfolding finished is_placed closed
      placing_sends =
          let r = in-range s ok in
          placing-ways After s d a whole_sends (rw (append-nil bs) (closes S r long)) last_sends more_sends

    stay : (r : ℕ) → After (record { answer = refused r; state = s; frame = d })
    unfolding taken finished is_ready is_placed
    stay r = rw (append-nil fs, append-nil bs) S

    place_sends : After (place s a d)
    unfolding place place_cases Passed
    place_sends =
        unless-ways After s d (place_cases s a d) (placing s a d) stay
        λ p. let (z, h) = neither _ _ p.1.1.0 in
        let o : length a ≡ 0 → ⊥ = eqb-false _ _ z in
        placing_sends (eqb-true _ _ (not-false _ p.1.0)) (omega arith) (ltb-false _ _ h) (same_length s.begun (length a) s.length p.1.1.1.0) (lies_within s ok (length a) (omega arith) p.1.1.1.0)

  module _ (b : List ℕ) (S : Sends v w n s d b fs bs) where
    abbrev Later : Outcome → Type 0
    Later o = Sends v w n o.state o.frame b (fs ++ taken o) bs

    keep : Sends v w n s d b (fs ++ []) bs
    keep = rw (append-nil fs) S

    cancel_sends : Later (cancel s d)
    unfolding cancel cancel_cases Passed taken is_ready content_length
    cancel_sends =
        unless-ways Later s d (cancel_cases s d) _ (λ _. keep)
        λ p. let r = in-range s ok in
        let e = not-false _ p.1.1.0 in
        let f = (in-transfer s ok e).counted in
        let m = length-written s.version (cancelled s.number) in
        adds S r (eqb-true _ _ (not-false _ p.1.0)) (ended s) b bs (cancelled s.number) (Written.stop (begun-small e S.flow)) (omega arith) (cancel-flow e S.flow)

    flush_sends : Later (flush s d)
    unfolding flush flush_cases Passed taken is_ready
    flush_sends =
        unless-ways Later s d (flush_cases s d) _ (λ _. keep)
        λ p. cond_elim Later (eqb s.fill 0) (λ _. keep) λ _. closes S (in-range s ok) (eqb-true _ _ (not-false _ p.1.0))

-- ---- a use

refused_state : (c : Call) (s : State) (d : List ℕ) → is_refusal (outcome_of c s d).answer ≡ true → (outcome_of c s d).state ≡ s
unfolding outcome_of
refused_state (to_place b) s d e = (place-refused s b d e).0
refused_state to_cancel s d e = (cancel-refused s d e).0
refused_state to_flush s d e = (flush-refused s d e).0

module _ (v : Version) (w p n : ℕ) (n< : n < 2 ^ 32) where
  start_sends : (s : State) (d b : List ℕ) → start v p n ≡ made s → Sends v w n s d b [] []
  unfolding start frame_messages
  start_sends s d b =
      cond_elim (λ (r : StartReply). r ≡ made s → Sends v w n s d b [] []) (sized p)
      (λ e g. let same : fresh v p n ≡ s = cc in
      rw (← same) record { kept = refl; ms = []; reads = λ rest ns r. r; formed = λ f m. absurd (Memᴰ.not-nil m); flow = idle n< begin (λ u. refl) })
      λ e g. absurd (let z : ◌≡◌ {A = ℕ} 0 1 = cc in omega arith)

  use_sends : {s : State} {d b : List ℕ} {fs : List (List ℕ)} {bs : List Handed} → Used v p n s d b fs bs → (sound s ≡ true) × Sends v w n s d b fs bs
  use_sends {s} (started d b e) = (start-sound v p n s e, start_sends s d b e)
  use_sends (place-used {s} {d} {b} {fs} {bs} a h u) =
      let (ok, S) = use_sends u in
      (place-sound s a d ok, place_sends v w n s d fs bs ok a record { kept = S.kept; ms = S.ms; reads = S.reads; formed = S.formed; flow = lent-flow b h S.flow })
  use_sends (cancelling {s} {d} {b} {fs} {bs} u) = let (ok, S) = use_sends u in (cancel-sound s d ok, cancel_sends v w n s d fs bs ok b S)
  use_sends (flushing {s} {d} {b} {fs} {bs} u) = let (ok, S) = use_sends u in (flush-sound s d ok, flush_sends v w n s d fs bs ok b S)
  use_sends (refusing {s} c other r u) = rw (refused_state c s other r) (use_sends u)

-- Frames that are well formed, with messages that carry bundles.
pub record Sent (v : Version) (w n : ℕ) (fs : List (List ℕ)) (bs : List Handed) : Type 0 where
  pub formed : (f : List ℕ) → Memᴰ f fs → WellFormed (draft v) f
  pub next : ℕ
  pub begun : Begun Parts
  pub carry : Carries In (order_of v) w n next begun (frame_messages v fs) bs

sent_flow : {v : Version} {w n : ℕ} {begun : Bool} {k t p i : ℕ} {b : List ℕ} {fs : List (List ℕ)} {bs : List Handed} → ((f : List ℕ) → Memᴰ f fs → WellFormed (draft v) f)
    → Flow In (At v) (order_of v) w n k t p i b (frame_messages v fs) bs begun → Sent v w n fs bs
sent_flow {k = k} h (idle {σ = σ} k< c z) = record { formed = h; next = k; begun = σ; carry = c }
sent_flow {k = k} h (going {σ = σ} q k< t< c e o l) = record { formed = h; next = k; begun = σ; carry = c }

none_left : (v : Version) (fill : ℕ) (d : List ℕ) (ms : List Message) → fill ≡ 0 → ((rest : List ℕ) (ns : List Message) → Reads v rest ns → Reads v (take fill d ++ rest) (ms ++ ns)) → ms ≡ []
unfolding messages scanned scan items
none_left v fill d ms e r =
    let r₀ : Reads v [] ms = rw (append-nil ms, e) at (r [] [] (reads_none v)) in
    sym (reads_messages v [] ms r₀)

-- whatever is begun, where the frame buffer holds nothing that is not taken
pub sends : (v : Version) (w p n : ℕ) → n < 2 ^ 32 → {s : State} {d b : List ℕ} {fs : List (List ℕ)} {bs : List Handed} → Used v p n s d b fs bs → s.fill ≡ 0 → Sent v w n fs bs
sends v w p n n< {s} {d} {fs = fs} u e =
    let S = (use_sends v w p n n< u).1 in
    rw S.kept at (sent_flow S.formed (rw (none_left s.version s.fill d S.ms e S.reads, append-nil (frame_messages s.version fs)) at S.flow))
