-- One record, computed: demand 3's premises are met with a gain, and the claim is false without two of them, and by the first board's window.
-- The record's numbers run from 4,294,967,291 over 0 to 11.
use Rattle.std.proofs.Common.{Some}
use Rattle.wire.specs.declared.Version.TheVariants.{Draft02}
use mathlib.Core.Path.{◌≡◌, refl, ap}
use mathlib.Core.Bool.{cond}
use mathlib.Core.List.{List, [], ◌∷◌, map, Memᴰ}
use Prim.Native.Nat.{ℕ, ◌*◌, ◌≤◌, ◌<◌}
use native.Mathlib.Omega.{arith}
use lib.ListN.{length, replicate, length-replicate}
use lib.Dec.{eqb}
use Rattle.octets.specs.Octets as Octets
use Rattle.octets.proofs.Flags.{cond_elim}
use Rattle.wire.specs.Message.{Message, segment, last, cancel}
use Rattle.wire.specs.Layout as Layout
use Rattle.wire.specs.Layout.{read}
use Rattle.wire.specs.Frame as Frame
use Rattle.wire.specs.Frame.{row, items, scanned, messages}
use Rattle.window.specs.Window as Window
use Rattle.window.specs.Window.{Window, four, sixteen}
use Rattle.pieces.specs.Pieces as Pieces
use Rattle.row.specs.Row as Row
use Rattle.reassembly.specs.Rules as Rules
use Rattle.octets.specs.Octets.{sum_of}
use Rattle.pieces.specs.Pieces.{bundle_max}
use Rattle.rows.specs.State as State
use Rattle.rows.specs.State.{fresh}
use Rattle.rows.specs.Message as Step
use Rattle.rows.specs.Message.{draft, Board}
use Rattle.rows.specs.Messages as Run
use Rattle.receiver.specs.Receive.{receive}
use Rattle.claims.specs.Record.{WellFormed, Transfers, number_at, piece_at, Honest, piece, cancelled, Record}
use Rattle.claims.specs.Calls.{Delivery, Entry, handed_of, Calls}
use Rattle.claims.proofs.Taking.{entries_of, receives, reception}
use Rattle.claims.proofs.MoreReception.{demand3}
use Rattle.claims.specs.Demand3.{delivery, NoTransferTwice, places, NoneBehind, messages_of, NoCancel, With, none, same, more, Kept, Reception}

-- ---- a record

pieces_at : ℕ → List (List ℕ)
pieces_at k = cond (eqb k 0) ((65 ∷ []) ∷ (66 ∷ []) ∷ []) ((67 ∷ []) ∷ [])

transfers : Transfers
unfolding pieces_at sum_of
transfers = record {
  first = 4294967291;
  start = omega arith;
  count = 17;
  few = omega arith;
  pieces = pieces_at;
  short = λ k h. cond_elim (λ (ps : List (List ℕ)). length ps ≤ 64) (eqb k 0) (λ e. omega arith) (λ e. omega arith);
  fits = λ k h. cond_elim (λ (ps : List (List ℕ)). sum_of (map length ps) ≤ bundle_max) (eqb k 0) (λ e. omega arith) (λ e. omega arith);
}

-- the two pieces of the first number, the piece of the last, a cancel of the first, and the piece of the fifth
front : List ℕ
front = 3 ∷ 0 ∷ 0 ∷ 9 ∷ 255 ∷ 255 ∷ 255 ∷ 251 ∷ 0 ∷ 0 ∷ 0 ∷ 0 ∷ 65 ∷ []

back : List ℕ
back = 4 ∷ 0 ∷ 0 ∷ 9 ∷ 255 ∷ 255 ∷ 255 ∷ 251 ∷ 0 ∷ 0 ∷ 0 ∷ 1 ∷ 66 ∷ []

other : List ℕ
other = 4 ∷ 0 ∷ 0 ∷ 9 ∷ 0 ∷ 0 ∷ 0 ∷ 11 ∷ 0 ∷ 0 ∷ 0 ∷ 0 ∷ 67 ∷ []

stop : List ℕ
stop = 5 ∷ 0 ∷ 0 ∷ 4 ∷ 255 ∷ 255 ∷ 255 ∷ 251 ∷ []

fifth : List ℕ
fifth = 4 ∷ 0 ∷ 0 ∷ 9 ∷ 255 ∷ 255 ∷ 255 ∷ 255 ∷ 0 ∷ 0 ∷ 0 ∷ 0 ∷ 67 ∷ []

frames : List (List ℕ)
frames = front ∷ back ∷ other ∷ stop ∷ fifth ∷ []

-- the frame is one message
record One (f : List ℕ) (m : Message) : Type 0 where
  scan : scanned (read Draft02) f ≡ row (record { start = 0; next = length f; message = m } ∷ [])

scans : One front (segment 4294967291 0 (65 ∷ [])) × One back (last 4294967291 1 (66 ∷ [])) × One other (last 11 0 (67 ∷ [])) × One stop (cancel 4294967291) × One fifth (last 4294967295 0 (67 ∷ []))
unfolding front back other stop fifth Octets.number Layout.kind_of Layout.length_field Layout.hints Layout.fitting Layout.message Layout.content Layout.body Layout.bodied Layout.headed Layout.read Frame.prepend Frame.follow Frame.scan Frame.scanned
scans = (record { scan = refl }, record { scan = refl }, record { scan = refl }, record { scan = refl }, record { scan = refl })

only : {f : List ℕ} {m : Message} → One f m → messages (read Draft02) f ≡ m ∷ []
unfolding messages items
only e = rw e.scan

record Fine (f : List ℕ) : Type 0 where
  well_formed : WellFormed (draft Draft02) f
  message : Message
  one : One f message
  honest : Honest transfers message

well_formed_lem : {f : List ℕ} {m : Message} → 0 < length f → length f ≤ 2048 → One f m → WellFormed (draft Draft02) f
well_formed_lem {f} {m} some small e = record { some = some; small = small; items = record { start = 0; next = length f; message = m } ∷ []; whole = e.scan }

fine_one : (f : List ℕ) (m : Message) → 0 < length f → length f ≤ 2048 → One f m → Honest transfers m → Fine f
fine_one f m some small e h = record { well_formed = well_formed_lem some small e; message = m; one = e; honest = h }

fine : (f : List ℕ) → Memᴰ f frames → Fine f
unfolding front back other stop fifth frames transfers pieces_at number_at piece_at
fine f (mathlib.Core.List.Memᴰ.head e) = rw e (fine_one front (segment 4294967291 0 (65 ∷ [])) (omega arith) (omega arith) scans.0 (piece 0 0 (omega arith) (omega arith)))
fine f (mathlib.Core.List.Memᴰ.tail (mathlib.Core.List.Memᴰ.head e)) = rw e (fine_one back (last 4294967291 1 (66 ∷ [])) (omega arith) (omega arith) scans.1 (piece 0 1 (omega arith) (omega arith)))
fine f (mathlib.Core.List.Memᴰ.tail (mathlib.Core.List.Memᴰ.tail (mathlib.Core.List.Memᴰ.head e))) = rw e (fine_one other (last 11 0 (67 ∷ [])) (omega arith) (omega arith) scans.2 (piece 16 0 (omega arith) (omega arith)))
fine f (mathlib.Core.List.Memᴰ.tail (mathlib.Core.List.Memᴰ.tail (mathlib.Core.List.Memᴰ.tail (mathlib.Core.List.Memᴰ.head e)))) = rw e (fine_one stop (cancel 4294967291) (omega arith) (omega arith) scans.3 (cancelled 0 (omega arith)))
fine f (mathlib.Core.List.Memᴰ.tail (mathlib.Core.List.Memᴰ.tail (mathlib.Core.List.Memᴰ.tail (mathlib.Core.List.Memᴰ.tail (mathlib.Core.List.Memᴰ.head e))))) = rw e (fine_one fifth (last 4294967295 0 (67 ∷ [])) (omega arith) (omega arith) scans.4 (piece 4 0 (omega arith) (omega arith)))
fine f (mathlib.Core.List.Memᴰ.tail (mathlib.Core.List.Memᴰ.tail (mathlib.Core.List.Memᴰ.tail (mathlib.Core.List.Memᴰ.tail (mathlib.Core.List.Memᴰ.tail m))))) = absurd (mathlib.Core.List.Memᴰ.not-nil m)

example : Record Draft02
example = record {
  transfers = transfers;
  frames = frames;
  well_formed = λ f d. (fine f d).well_formed;
  honest = λ f m d h. let F = fine f d in rw (mathlib.Core.List.Memᴰ.eq_of_singleton (rw (only F.one) at h)) F.honest;
}

-- ---- what boards hand out

board : ℕ → Board
board w = record { state = fresh Draft02 w; pool = replicate (w * bundle_max) 0 }

bundle : Delivery
bundle = delivery (Some 4294967291) (65 ∷ 66 ∷ [])

abbrev took : List ℕ → List Delivery → Entry
took f hs = record { frame = f; handed = hs }

abbrev short : List Entry
short = took front [] ∷ []

abbrev long : List Entry
long = took front [] ∷ took back (bundle ∷ []) ∷ []

abbrev stopped : List Entry
stopped = took stop [] ∷ took front [] ∷ took back [] ∷ []

abbrev late : List Entry
late = took other (delivery (Some 11) (67 ∷ []) ∷ []) ∷ took front [] ∷ took back [] ∷ []

narrow : List Entry
narrow = took fifth (delivery (Some 4294967295) (67 ∷ []) ∷ []) ∷ took front [] ∷ took back [] ∷ []

computed : (entries_of (draft Draft02) 16 (board 16) (front ∷ []) ≡ short) × (entries_of (draft Draft02) 16 (board 16) (front ∷ back ∷ []) ≡ long)
    × (entries_of (draft Draft02) 16 (board 16) (stop ∷ front ∷ back ∷ []) ≡ stopped) × (entries_of (draft Draft02) 16 (board 16) (other ∷ front ∷ back ∷ []) ≡ late)
    × (entries_of (draft Draft02) 4 (board 4) (fifth ∷ front ∷ back ∷ []) ≡ narrow)
unfolding front back other stop fifth narrow board bundle delivery entries_of Octets.number Octets.put Layout.kind_of Layout.length_field Layout.hints Layout.fitting Layout.message Layout.content Layout.body Layout.bodied Layout.headed Layout.read Frame.prepend Frame.items Frame.follow Frame.scan Frame.scanned Frame.messages Window.standing Window.standing_of Window.enters Pieces.has Pieces.has_above Pieces.has_all Octets.sum_of Row.indexes_of Row.lengths_of Pieces.start_of Pieces.size_of Pieces.piece Pieces.joined Rules.cancelled Row.contradicts Row.judge_live Row.judge Rules.with_piece Rules.complete Rules.bundle_of Rules.settle Rules.carry_out Rules.piece_step Rules.cancel_step State.fresh Step.cell_at Step.put_cell Step.handed_of Step.freed_from Step.moved Step.in_row Step.treat_transfer Step.step Run.listed Run.board_after Run.handed_by
computed = (refl, refl, refl, refl, refl)

unfoldable Among : List (List ℕ) → Type 0
Among [] = Unit {0}
Among (f ∷ fs) = Memᴰ f frames × Among fs

among : (fs : List (List ℕ)) → Among fs → (f : List ℕ) → Memᴰ f fs → Memᴰ f frames
unfolding Among
among [] a f m = absurd (mathlib.Core.List.Memᴰ.not-nil m)
among (g ∷ fs) a f (mathlib.Core.List.Memᴰ.head e) = rw e a.0
among (g ∷ fs) a f (mathlib.Core.List.Memᴰ.tail m) = among fs a.1 f m

received : (w : ℕ) → Window w → (fs : List (List ℕ)) (es : List Entry) → entries_of (draft Draft02) w (board w) fs ≡ es → Among fs → Reception example w es
unfolding board example
received w win fs es e a = rw e at (reception example w win (board w) (record { started = refl; pooled = length-replicate {A = ℕ} (w * bundle_max) 0 }) fs (among fs a))

receptions : Reception example 16 short × Reception example 16 long × Reception example 16 stopped × Reception example 16 late × Reception example 4 narrow
unfolding frames Among
receptions =
    let a : Memᴰ front frames = mathlib.Core.List.Memᴰ.head refl in
    let b : Memᴰ back frames = mathlib.Core.List.Memᴰ.tail (mathlib.Core.List.Memᴰ.head refl) in
    let c : Memᴰ other frames = mathlib.Core.List.Memᴰ.tail (mathlib.Core.List.Memᴰ.tail (mathlib.Core.List.Memᴰ.head refl)) in
    let d : Memᴰ stop frames = mathlib.Core.List.Memᴰ.tail (mathlib.Core.List.Memᴰ.tail (mathlib.Core.List.Memᴰ.tail (mathlib.Core.List.Memᴰ.head refl))) in
    let e : Memᴰ fifth frames = mathlib.Core.List.Memᴰ.tail (mathlib.Core.List.Memᴰ.tail (mathlib.Core.List.Memᴰ.tail (mathlib.Core.List.Memᴰ.tail (mathlib.Core.List.Memᴰ.head refl)))) in (
      received 16 sixteen (front ∷ []) short computed.0 (a, tt),
      received 16 sixteen (front ∷ back ∷ []) long computed.1 (a, (b, tt)),
      received 16 sixteen (stop ∷ front ∷ back ∷ []) stopped computed.2 (d, (a, (b, tt))),
      received 16 sixteen (other ∷ front ∷ back ∷ []) late computed.3 (c, (a, (b, tt))),
      received 4 four (fifth ∷ front ∷ back ∷ []) narrow computed.4 (e, (a, (b, tt))),
    )

-- Demand 3's last part for this record, a first board of window 16 and a second one of window w, with further frames of which F holds and the
-- bound n on how far behind a message may come.
abbrev Claim : ℕ → (List ℕ → Type 0) → ℕ → Type 0
Claim w F n = (x y : List Entry) → Reception example 16 x → Reception example w y → (f : With F x y) → NoneBehind n (places 4294967291 (messages_of (draft Draft02) y)) → Kept [] [] f

holds : Claim 16 (NoCancel (draft Draft02)) 15 × Claim 4 (NoCancel (draft Draft02)) 3
unfolding example transfers
holds = ((demand3 example 16 16 sixteen sixteen).more_never_costs, (demand3 example 16 4 sixteen four).more_never_costs)

uncancelled : (f : List ℕ) {n i : ℕ} {d : List ℕ} → One f (last n i d) → NoCancel (draft Draft02) f
unfolding NoCancel
uncancelled f e t m = let q = mathlib.Core.List.Memᴰ.eq_of_singleton (rw (only e) at m) in let z : ◌≡◌ {A = ℕ} 0 1 = cc in omega arith

-- Its premises are met by two boards of which the second hands out a transfer that the first lacks.
gain : With (NoCancel (draft Draft02)) short long × NoneBehind 15 (places 4294967291 (messages_of (draft Draft02) long))
unfolding places NoneBehind messages_of
gain = (same refl (more (uncancelled back scans.1) none), rw (only scans.0, only scans.1) ((λ j m. omega arith), ((λ j m. omega arith), tt)))

-- It is false where further frames may hold a cancel: one put first costs the transfer.
not_with_cancels : Claim 16 (λ f. Unit {0}) 15 → ⊥
unfolding bundle delivery places NoneBehind messages_of Kept
not_with_cancels claim =
    let k = claim long stopped receptions.1 receptions.2 (more tt (same refl (same refl none)))
    (rw (only scans.0, only scans.1, only scans.3) ((λ j m. omega arith), ((λ j m. omega arith), ((λ j m. omega arith), tt)))) in
    mathlib.Core.List.Memᴰ.not-nil (k.1.0 bundle 4294967291 refl (mathlib.Core.List.Memᴰ.head refl))

-- It is false where a message may come 16 behind one already come.
not_sixteen_behind : Claim 16 (NoCancel (draft Draft02)) 16 → ⊥
unfolding bundle delivery places NoneBehind messages_of Kept
not_sixteen_behind claim =
    let k = claim long late receptions.1 receptions.3 (more (uncancelled other scans.2) (same refl (same refl none)))
    (rw (only scans.0, only scans.1, only scans.2) ((λ j m. omega arith), ((λ j m. omega arith), ((λ j m. omega arith), tt)))) in
    let e = ap (λ (x : Delivery). x.origin) (mathlib.Core.List.Memᴰ.eq_of_singleton (k.1.0 bundle 4294967291 refl (mathlib.Core.List.Memᴰ.head refl))) in
    let z : ◌≡◌ {A = ℕ} 4294967291 11 = cc in omega arith

-- It is false by the first board's window: on a second board of window 4 a message that comes 4 behind costs the transfer.
not-by_the_first : Claim 4 (NoCancel (draft Draft02)) 15 → ⊥
unfolding bundle narrow delivery places NoneBehind messages_of Kept
not-by_the_first claim =
    let k = claim long narrow receptions.1 receptions.4 (more (uncancelled fifth scans.4) (same refl (same refl none)))
    (rw (only scans.0, only scans.1, only scans.4) ((λ j m. omega arith), ((λ j m. omega arith), ((λ j m. omega arith), tt)))) in
    let e = ap (λ (x : Delivery). x.origin) (mathlib.Core.List.Memᴰ.eq_of_singleton (k.1.0 bundle 4294967291 refl (mathlib.Core.List.Memᴰ.head refl))) in
    let z : ◌≡◌ {A = ℕ} 4294967291 4294967295 = cc in omega arith

-- ---- frames of no record

-- Numbers 5 and 2,147,483,653: each is new after the other.
near : List ℕ
near = 4 ∷ 0 ∷ 0 ∷ 9 ∷ 0 ∷ 0 ∷ 0 ∷ 5 ∷ 0 ∷ 0 ∷ 0 ∷ 0 ∷ 65 ∷ []

far : List ℕ
far = 4 ∷ 0 ∷ 0 ∷ 9 ∷ 128 ∷ 0 ∷ 0 ∷ 5 ∷ 0 ∷ 0 ∷ 0 ∷ 0 ∷ 65 ∷ []

abbrev number : ℕ → Delivery
number t = delivery (Some t) (65 ∷ [])

abbrev twice : List Entry
twice = took near (number 5 ∷ []) ∷ took far (number 2147483653 ∷ []) ∷ took near (number 5 ∷ []) ∷ []

computed_twice : (entries_of (draft Draft02) 16 (board 16) (near ∷ far ∷ near ∷ []) ≡ twice) × One near (last 5 0 (65 ∷ [])) × One far (last 2147483653 0 (65 ∷ []))
unfolding near far board delivery entries_of Octets.number Octets.put Layout.kind_of Layout.length_field Layout.hints Layout.fitting Layout.message Layout.content Layout.body Layout.bodied Layout.headed Layout.read Frame.prepend Frame.items Frame.follow Frame.scan Frame.scanned Frame.messages Window.standing Window.standing_of Window.enters Pieces.has Pieces.has_above Pieces.has_all Octets.sum_of Row.indexes_of Row.lengths_of Pieces.start_of Pieces.size_of Pieces.piece Pieces.joined Rules.cancelled Row.contradicts Row.judge_live Row.judge Rules.with_piece Rules.complete Rules.bundle_of Rules.settle Rules.carry_out Rules.piece_step Rules.cancel_step State.fresh Step.cell_at Step.put_cell Step.handed_of Step.freed_from Step.moved Step.in_row Step.treat_transfer Step.step Run.listed Run.board_after Run.handed_by
computed_twice = (refl, record { scan = refl }, record { scan = refl })

both_well_formed : (f : List ℕ) → Memᴰ f (near ∷ far ∷ near ∷ []) → WellFormed (draft Draft02) f
unfolding near far
both_well_formed f (mathlib.Core.List.Memᴰ.head e) = rw e (well_formed_lem (omega arith) (omega arith) computed_twice.1)
both_well_formed f (mathlib.Core.List.Memᴰ.tail (mathlib.Core.List.Memᴰ.head e)) = rw e (well_formed_lem (omega arith) (omega arith) computed_twice.2)
both_well_formed f (mathlib.Core.List.Memᴰ.tail (mathlib.Core.List.Memᴰ.tail (mathlib.Core.List.Memᴰ.head e))) = rw e (well_formed_lem (omega arith) (omega arith) computed_twice.1)
both_well_formed f (mathlib.Core.List.Memᴰ.tail (mathlib.Core.List.Memᴰ.tail (mathlib.Core.List.Memᴰ.tail m))) = absurd (mathlib.Core.List.Memᴰ.not-nil m)

-- "No transfer twice" is false of well-formed frames that are of no honest record.
not-without-a-record : ((es : List Entry) → Calls receive (board 16) es → NoTransferTwice (handed_of es)) → ⊥
unfolding board delivery handed_of NoTransferTwice
not-without-a-record claim =
    let c = receives Draft02 16 sixteen (board 16) (record { started = refl; pooled = length-replicate {A = ℕ} 65536 0 }) (near ∷ far ∷ near ∷ []) both_well_formed in
    (claim twice (rw computed_twice.0 at c)).0 (number 5) 5 (mathlib.Core.List.Memᴰ.tail (mathlib.Core.List.Memᴰ.head refl)) refl refl
