-- Nothing but the limit of messages stops a playback, so that the loop over frames plays what the definition says.
use mathlib.Core.Path.{◌≡◌, refl, sym, ap, ◌∙◌}
use mathlib.Core.Bool.{true, false, cond, and-true}
use mathlib.Core.Option.{Option, none, some}
use mathlib.Core.List.{List, [], ◌∷◌, ◌++◌, append-nil, append_assoc}
use Prim.Native.Nat.{ℕ, zero, suc, ◌+◌, ◌-◌, ◌*◌, ◌≤◌, ◌<◌}
use native.Mathlib.Nat.{sub-zero, suc-sub-suc}
use native.Mathlib.Omega.{arith}
use lib.ListN.{length, take, length-append, length-map}
use lib.Seq.{take-nil, take_all}
use lib.Dec.{ltb, eqb}
use borrow.Author.Tests.{lt-ltb, le-ltb, le-leb, ltb-true, ltb-false, ne_eqb}
use Rattle.octets.proofs.Flags.{cond_elim}
use Rattle.octets.proofs.Put.{length-put}
use Rattle.wire.specs.Message.{Read, Message, skipped, bundle, segment, last, cancel}
use Rattle.wire.specs.Frame.{Item, row, scanned, items, messages, Sized}
use Rattle.wire.proofs.Order.{Along, leads, from_start}
use Rattle.wire.proofs.Places.{taken}
use Rattle.window.specs.Window.{Window}
use Rattle.pieces.specs.declared.Order.{Order}
use Rattle.pieces.specs.Pieces.{bundle_max}
use Rattle.rows.specs.Message.{Draft, Board, Handed, step, messages_from}
use Rattle.rows.specs.Messages.{listed, board_after, handed_by, messages_in}
use Rattle.messages.specs.declared.Limits.{Limits}
use Rattle.messages.specs.Run.{Run, roomy, progressed, advanced, run}
use Rattle.receiver.specs.declared.Refusal.{Refusal}
use Rattle.receiver.specs.Receive.{refusal_number, number_of, unfit}
use Rattle.receiver.proofs.Refusals.{fit, number-some}
use Rattle.receiver.proofs.Ready.{Ready, step-ready}
use Rattle.receiver.proofs.Weight.{held, octets_of, payload, step-weight}
use Rattle.recording.specs.Recording.{octets_max}
use Rattle.frames.specs.Frames.{Reach, fronted, noted, passed, within, through}
use Rattle.frames.proofs.Joined.{octets_in}
use Rattle.frames.proofs.Adding.{entries, Adds, adds_none, adds_silent, adds_bundle, adds_behind, Notes, notes_none}
use Rattle.frames.proofs.Costs.{fee, Priced, Pays, pays, pays_within}
use Rattle.playback.specs.Playback.{unless, note_of, all_messages, notes_within}

-- the bundles of a recording are at most a quarter of its octets
abbrev pub bundles_limit : ℕ
bundles_limit = 15361

take_split : {A : Type 0} (n : ℕ) (xs ys : List A) → take n (xs ++ ys) ≡ take n xs ++ take (n - length xs) ys
take_split {A} n [] ys = rw (take-nil {A = A} n, sub-zero n)
take_split zero (x ∷ xs) ys = let z : 0 - suc (length xs) ≡ 0 = omega arith in rw z
take_split {A} (suc n) (x ∷ xs) ys = rw (suc-sub-suc n (length xs)) (ap (λ (l : List A). x ∷ l) (take_split n xs ys))

nothing_left : (D : Draft) (k : ℕ) (fs : List (List ℕ)) → notes_within D 0 k fs ≡ []
unfolding notes_within
nothing_left D k [] = refl
nothing_left D k (f ∷ fs) = refl

module _ (w : ℕ) (order : Order) where
  board_append : (b : Board) (xs ys : List Message) → board_after w order b (xs ++ ys) ≡ board_after w order (board_after w order b xs) ys
  unfolding board_after
  board_append b [] ys = refl
  board_append b (m ∷ xs) ys = board_append (step w order b m).board xs ys

  handed_append : (b : Board) (xs ys : List Message) → handed_by w order b (xs ++ ys) ≡ handed_by w order b xs ++ handed_by w order (board_after w order b xs) ys
  unfolding board_after handed_by
  handed_append b [] ys = refl
  handed_append b (m ∷ xs) ys =
      let b₁ : Board = (step w order b m).board in
      ap (λ (l : List Handed). listed (step w order b m).handed ++ l) (handed_append b₁ xs ys)
      ∙ sym (append_assoc (listed (step w order b m).handed) (handed_by w order b₁ xs) (handed_by w order (board_after w order b₁ xs) ys))

module _ (w : ℕ) (win : Window w) (order : Order) (limits : Limits) (most : limits.bundles ≡ bundles_limit) where
  fee_handed : (b : Board) (m : Message) (h : Handed) → (step w order b m).handed ≡ some h → fee m ≡ 4
  unfolding step fee
  fee_handed b skipped h e = absurd (cc)
  fee_handed b (bundle c) h e = refl
  fee_handed b (segment t i d) h e = refl
  fee_handed b (last t i d) h e = refl
  fee_handed b (cancel t) h e = refl

  -- what is out and what is held came from the octets before position p; up to `end` there are more
  pub record Paid (r : Run) (p end : ℕ) : Type 0 where
    pub ready : Ready w r.board
    pub size : length r.output ≡ octets_max + bundle_max
    pub octets : r.progress.used + held r.board.state.rows + end ≤ octets_max + p
    pub bundles : 4 * r.progress.count + end ≤ octets_max + p
    pub below : p ≤ end

  -- all bundles lie within the octets and the entries of a playback
  abbrev pub Bounded : Run → Type 0
  Bounded r = (r.progress.used ≤ octets_max) × (4 * r.progress.count ≤ octets_max)

  paid_bounded : (r : Run) (p end : ℕ) → Paid r p end → Bounded r
  paid_bounded r p end P = (omega (arith, P.octets, P.below), omega (arith, P.bundles, P.below))

  -- the messages that may still be treated
  abbrev pub left : Run → ℕ
  left r = limits.messages - r.progress.treated

  paid_roomy : (r : Run) (p end : ℕ) → Paid r p end → roomy r.progress limits (length r.output) ≡ ltb r.progress.treated limits.messages
  paid_roomy r p end P =
      let few : r.progress.count < limits.bundles = omega (arith, P.bundles, P.below, most) in
      let room : bundle_max ≤ length r.output - r.progress.used = omega (arith, P.octets, P.below, P.size) in
      rw (lt-ltb r.progress.count limits.bundles few, le-leb bundle_max (length r.output - r.progress.used) room) (and-true (ltb r.progress.treated limits.messages))

  paid_step : (r : Run) (p end : ℕ) (i : Item) → Paid r p end → p + payload i.message ≤ i.next → p + fee i.message ≤ i.next → i.next ≤ end
      → (o : Option Handed) → (step w order r.board i.message).handed ≡ o → Paid (advanced r (step w order r.board i.message).board i.next o) i.next end
  unfolding advanced progressed octets_of
  paid_step r p end i P pay fees le none h =
      let W = rw h at (step-weight w win order r.board i.message P.ready) in
      record { ready = step-ready w win order r.board i.message P.ready; size = P.size; octets = omega (arith, P.octets, W); bundles = omega (arith, P.bundles); below = le }
  paid_step r p end i P pay fees le (some x) h =
      let W = rw h at (step-weight w win order r.board i.message P.ready) in
      record {
        ready = step-ready w win order r.board i.message P.ready;
        size = length-put r.output r.progress.used x.octets (omega (arith, P.octets, P.size, W)) ∙ P.size;
        octets = omega (arith, P.octets, W);
        bundles = omega (arith, P.bundles, fee_handed r.board i.message x h);
        below = le;
      }

  -- ---- one frame

  data Fate (r after : Run) (e end : ℕ) (is : List Item) : Type 0 where
    whole : length is ≤ left r → after.progress.next ≡ e → Paid after e end → Fate r after e end is
    part : left r < length is → after.progress.next < e → Fate r after e end is

  -- a run that has treated messages
  pub record Treats (r after : Run) (ms : List Message) : Type 0 where
    pub board : after.board ≡ board_after w order r.board ms
    pub adds : Adds r after (handed_by w order r.board ms)
    pub treated : after.progress.treated ≡ r.progress.treated + length ms

  treats_none : (r : Run) → Treats r r []
  unfolding board_after handed_by
  treats_none r = record { board = refl; adds = adds_none r; treated = omega arith }

  treats_more : (r after : Run) (m : Message) (next : ℕ) (ms : List Message) (o : Option Handed) → (step w order r.board m).handed ≡ o
      → Treats (advanced r (step w order r.board m).board next o) after ms → Treats r after (m ∷ ms)
  unfolding board_after handed_by listed advanced progressed
  treats_more r after m next ms none h T = record { board = T.board; adds = rw h (adds_silent r after (step w order r.board m).board next _ T.adds); treated = omega (arith, T.treated) }
  treats_more r after m next ms (some x) h T = record { board = T.board; adds = rw h (adds_bundle r after (step w order r.board m).board next x _ T.adds); treated = omega (arith, T.treated) }

  record Goes (r after : Run) (e end : ℕ) (is : List Item) : Type 0 where
    treats : Treats r after (take (left r) (messages_in is))
    fate : Fate r after e end is
    bounded : Bounded after

  advanced-next : (r : Run) (b : Board) (next : ℕ) (o : Option Handed) → ((advanced r b next o).progress.next ≡ next) × ((advanced r b next o).progress.treated ≡ r.progress.treated + 1)
  unfolding advanced progressed
  advanced-next r b next none = (refl, refl)
  advanced-next r b next (some x) = (refl, refl)

  none_left : (i : Item) (is : List Item) (r : Run) (p e end : ℕ) → ltb r.progress.treated limits.messages ≡ false → r.progress.next ≡ p → Paid r p end → Pays p (i ∷ is) e → Goes r r e end (i ∷ is)
  unfolding Along
  none_left i is r p e end t n P l =
      let z : left r ≡ 0 = omega (arith, ltb-false r.progress.treated limits.messages t) in
      record { treats = rw z (treats_none r); fate = part (omega (arith, z)) (omega (arith, n, l.1.0, pays_within i.next e is l.2)); bounded = paid_bounded r p end P }

  one_more : (i : Item) (is : List Item) (r after : Run) (e end : ℕ) (o : Option Handed) → ltb r.progress.treated limits.messages ≡ true → (step w order r.board i.message).handed ≡ o
      → Goes (advanced r (step w order r.board i.message).board i.next o) after e end is → Goes r after e end (i ∷ is)
  one_more i is r after e end o t h G =
      let r₁ : Run = advanced r (step w order r.board i.message).board i.next o in
      let z : left r ≡ suc (left r₁) = omega (arith, ltb-true r.progress.treated limits.messages t, (advanced-next r (step w order r.board i.message).board i.next o).1) in
      record { treats = rw z (treats_more r after i.message i.next _ o h G.treats); fate = onward z G.fate; bounded = G.bounded }
    where
      onward : left r ≡ suc (left (advanced r (step w order r.board i.message).board i.next o))
          → Fate (advanced r (step w order r.board i.message).board i.next o) after e end is → Fate r after e end (i ∷ is)
      onward z (whole le n P) = whole (omega arith) n P
      onward z (part lt n) = part (omega arith) n

  goes : (is : List Item) (r : Run) (p e end : ℕ) → r.progress.next ≡ p → Paid r p end → Pays p is e → e ≤ end → Goes r (run w order limits r is) e end is
  unfolding run Along
  goes [] r p e end n P l le = record { treats = rw (take-nil {A = Message} (left r)) (treats_none r); fate = whole (omega arith) (n ∙ l) (rw l at P); bounded = paid_bounded r p end P }
  goes (i ∷ is) r p e end n P l le =
      let o : Option Handed = (step w order r.board i.message).handed in
      let b₁ : Board = (step w order r.board i.message).board in
      rw (paid_roomy r p end P)
      (cond_elim (λ (x : Run). Goes r x e end (i ∷ is)) (ltb r.progress.treated limits.messages)
      (λ t. one_more i is r _ e end o t refl (goes is (advanced r b₁ i.next o) i.next e end (advanced-next r b₁ i.next o).0
      (paid_step r p end i P l.1.1 l.1.2 (omega (arith, le, pays_within i.next e is l.2)) o refl) l.2 le))
      (λ t. none_left i is r p e end t n P l))

  -- ---- frame after frame

  treats_behind : (r mid after : Run) (xs ys : List Message) → Treats r mid xs → Treats mid after ys → Treats r after (xs ++ ys)
  treats_behind r mid after xs ys A B =
      let hs : handed_by w order r.board (xs ++ ys) ≡ handed_by w order r.board xs ++ handed_by w order mid.board ys =
      handed_append w order r.board xs ys ∙ ap (λ (b : Board). handed_by w order r.board xs ++ handed_by w order b ys) (sym A.board) in
      record {
        board = B.board ∙ ap (λ (b : Board). board_after w order b ys) A.board ∙ sym (board_append w order r.board xs ys);
        adds = rw hs (adds_behind r mid after (handed_by w order r.board xs) (handed_by w order mid.board ys) A.adds B.adds);
        treated = omega (arith, A.treated, B.treated, length-append xs ys);
      }

  treats_fronted : (r after : Run) (ms : List Message) → Treats (fronted r) after ms → Treats r after ms
  treats_fronted r after ms T = record {
    board = T.board;
    adds = record { output = T.adds.output; lengths = T.adds.lengths; numbers = T.adds.numbers; count = T.adds.count; used = T.adds.used };
    treated = T.treated;
  }

  fronted_paid : (r : Run) (e rest : ℕ) → Paid r e (e + rest) → Paid (fronted r) 0 rest
  fronted_paid r e rest P = record { ready = P.ready; size = P.size; octets = omega (arith, P.octets); bundles = omega (arith, P.bundles); below = omega arith }

  module _ (read : List ℕ → Read) (M : (xs : List ℕ) → Sized (length xs) (read xs)) (C : (xs : List ℕ) → Priced (read xs)) where
    abbrev D : Draft
    D = record { read = read; order = order }

    -- a run over frames plays them
    pub record Plays (r after : Reach) (fs : List (List ℕ)) : Type 0 where
      pub treats : Treats r.run after.run (take (left r.run) (all_messages D fs))
      pub notes : Notes r after (notes_within D (left r.run) r.frame fs)
      pub bounded : Bounded after.run

    module _ (f : List ℕ) (fs : List (List ℕ)) (r : Reach) where
      -- the frame treated, to its end or not
      abbrev treated_as : Run → Reach
      treated_as t = cond (ltb t.progress.next (length f)) (within r t) (through D w limits (passed r t) fs)

      no_more : left r.run ≡ 0 → Bounded r.run → Plays r r (f ∷ fs)
      no_more z B = record { treats = rw z (treats_none r.run); notes = rw (z, nothing_left D r.frame (f ∷ fs)) (notes_none r); bounded = B }

      module _ (more : eqb (left r.run) 0 ≡ false) where
        refused-turn : (q : Refusal) → unfit D f 0 ≡ some q → (after : Reach) → Plays (noted r (refusal_number q)) after fs → Plays r after (f ∷ fs)
        unfolding all_messages notes_within unless note_of entries
        refused-turn q e after L = record {
          treats = rw e (treats_fronted r.run after.run _ L.treats);
          notes = rw (more, e, sub-zero (left r.run)) (record { places = L.notes.places; reasons = L.notes.reasons; refused = omega (arith, L.notes.refused) });
          bounded = L.bounded;
        }

        treated_turn : unfit D f 0 ≡ none → (mid : Run) (after : Reach) → Treats r.run mid (messages read f) → length (messages read f) ≤ left r.run
            → Plays (passed r mid) after fs → Plays r after (f ∷ fs)
        unfolding all_messages notes_within unless note_of
        treated_turn e mid after T le L =
            let z : left mid ≡ left r.run - length (messages read f) = omega (arith, T.treated) in
            let B = rw z at (treats_fronted mid after.run _ L.treats) in
            record {
              treats = rw (e, take_split (left r.run) (messages read f) (all_messages D fs), take_all (left r.run) (messages read f) le) (treats_behind r.run mid after.run (messages read f) _ T B);
              notes = rw (more, e) (let N = rw z at L.notes in record { places = N.places; reasons = N.reasons; refused = N.refused });
              bounded = L.bounded;
            }

        part-turn : unfit D f 0 ≡ none → (mid : Run) → Treats r.run mid (take (left r.run) (messages read f)) → left r.run < length (messages read f) → Bounded mid
            → Plays r (within r mid) (f ∷ fs)
        unfolding all_messages notes_within unless note_of entries
        part-turn e mid T lt B =
            let z : left r.run - length (messages read f) ≡ 0 = omega arith in
            record {
              treats = rw (e, take_split (left r.run) (messages read f) (all_messages D fs), z, append-nil (take (left r.run) (messages read f))) T;
              notes = rw (more, e, z, nothing_left D (r.frame + 1) fs) (record { places = refl; reasons = refl; refused = omega arith });
              bounded = B;
            }

        -- a frame of messages
        row-turn : (all : List Item) → scanned read f ≡ row all → unfit D f 0 ≡ none → r.run.progress.next ≡ 0 → Paid r.run 0 (length f + octets_in fs)
            → ((r₁ : Reach) → r₁.run.progress.next ≡ 0 → Paid r₁.run 0 (octets_in fs) → Plays r₁ (through D w limits r₁ fs) fs)
            → (t : Run) → t ≡ run w order limits r.run all → Plays r (treated_as t) (f ∷ fs)
        unfolding messages items
        row-turn all whole₁ e n P later t same = rw same (go G.fate)
          where
            mid : Run
            mid = run w order limits r.run all

            G : Goes r.run mid (length f) (length f + octets_in fs) all
            G = goes all r.run 0 (length f) (length f + octets_in fs) n P (pays read M C f all whole₁) (omega arith)

            ms : messages read f ≡ messages_in all
            ms = rw whole₁

            len : length (messages read f) ≡ length all
            len = ap length ms ∙ length-map all _

            T : Treats r.run mid (take (left r.run) (messages read f))
            T = rw ms G.treats

            go : Fate r.run mid (length f) (length f + octets_in fs) all
                → Plays r (treated_as mid) (f ∷ fs)
            go (whole le nx P₁) =
                rw (le-ltb mid.progress.next (length f) (omega arith))
                (treated_turn e mid _ (rw (take_all (left r.run) (messages read f) (omega (arith, len))) at T) (omega (arith, len)) (later (passed r mid) refl (fronted_paid mid (length f) (octets_in fs) P₁)))
            go (part lt nx) = rw (lt-ltb mid.progress.next (length f) nx) (part-turn e mid T (omega (arith, len)) G.bounded)

        begins : (all : List Item) → scanned read f ≡ row all → messages_from D f 0 ≡ all
        unfolding messages_from items
        begins all e = rw e (from_start 0 (length f) all (leads read M f all e))

        -- a frame, and the frames behind it
        turn : r.run.progress.next ≡ 0 → Paid r.run 0 (length f + octets_in fs) → ((r₁ : Reach) → r₁.run.progress.next ≡ 0 → Paid r₁.run 0 (octets_in fs) → Plays r₁ (through D w limits r₁ fs) fs)
            → (q : Option Refusal) → unfit D f r.run.progress.next ≡ q
            → Plays r (cond (ltb 0 (number_of q)) (through D w limits (noted r (number_of q)) fs) (treated_as (run w order limits r.run (messages_from D f r.run.progress.next)))) (f ∷ fs)
        turn n P later (some q) e =
            let e₀ : unfit D f 0 ≡ some q = ap (λ (at : ℕ). unfit D f at) (sym n) ∙ e in
            let P₁ : Paid (fronted r.run) 0 (octets_in fs) = record { ready = P.ready; size = P.size; octets = omega (arith, P.octets); bundles = omega (arith, P.bundles); below = omega arith } in
            rw (lt-ltb 0 (refusal_number q) (number-some q)) (refused-turn q e₀ _ (later (noted r (refusal_number q)) refl P₁))
        turn n P later none e =
            let e₀ : unfit D f 0 ≡ none = ap (λ (at : ℕ). unfit D f at) (sym n) ∙ e in
            let a = taken read M f 0 (fit D f 0 e₀).accepted in
            row-turn a.items a.whole e₀ n P later _ (ap (λ (at : ℕ). run w order limits r.run (messages_from D f at)) n ∙ ap (run w order limits r.run) (begins a.items a.whole))

    -- the loop over frames plays them, from any progress at a frame's front
    pub plays : (fs : List (List ℕ)) (r : Reach) → r.run.progress.next ≡ 0 → Paid r.run 0 (octets_in fs) → Plays r (through D w limits r fs) fs
    unfolding through octets_in all_messages notes_within
    plays [] r n P = record { treats = rw (take-nil {A = Message} (left r.run)) (treats_none r.run); notes = notes_none r; bounded = paid_bounded r.run 0 0 P }
    plays (f ∷ fs) r n P =
        rw (paid_roomy r.run 0 (length f + octets_in fs) P)
        (cond_elim (λ (x : Reach). Plays r x (f ∷ fs)) (ltb r.run.progress.treated limits.messages)
        (λ t. turn f fs r (ne_eqb (left r.run) 0 (λ z. omega (arith, ltb-true r.run.progress.treated limits.messages t))) n P (λ r₁ n₁ P₁. plays fs r₁ n₁ P₁) (unfit D f r.run.progress.next) refl)
        (λ t. no_more f fs r (omega (arith, ltb-false r.run.progress.treated limits.messages t)) (paid_bounded r.run 0 (length f + octets_in fs) P)))
