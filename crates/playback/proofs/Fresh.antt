-- Playback on a fresh receiver: the loop over frames gives what the definition says.
use mathlib.Core.Path.{◌≡◌, refl, sym, ap, ◌∙◌}
use mathlib.Core.Option.{Option, none, some}
use mathlib.Core.List.{List, [], ◌∷◌, map}
use Prim.Native.Nat.{ℕ, zero, suc, ◌+◌, ◌≤◌, ◌-◌}
use native.Mathlib.Nat.{zero-add, sub-zero}
use native.Mathlib.Omega.{arith}
use lib.ListN.{length, take, replicate, length-map}
use lib.Dec.{eqb}
use Rattle.wire.specs.declared.Version.TheVariants.{Draft02}
use Rattle.octets.specs.Octets.{put}
use Rattle.octets.proofs.Flags.{cond_elim}
use Rattle.octets.proofs.Put.{read_back}
use Rattle.wire.proofs.Spans.{sized}
use Rattle.window.specs.Window.{sixteen}
use Rattle.pieces.specs.declared.Order.TheVariants.{Rising}
use Rattle.row.specs.declared.Phase.TheVariants.{Free}
use Rattle.row.specs.Row.{empty_row}
use Rattle.reassembly.proofs.Kept.{empty_weight}
use Rattle.rows.specs.State.{fresh}
use Rattle.rows.specs.Message.{Draft, draft, Board, Handed}
use Rattle.rows.specs.Messages.{joined_octets}
use Rattle.messages.specs.declared.Limits.{Limits}
use Rattle.messages.specs.Run.{going, begun}
use Rattle.wire.specs.Layout as Layout
use Rattle.receiver.specs.declared.Refusal.{Refusal}
use Rattle.receiver.specs.Receive.{unfit}
use Rattle.receiver.proofs.Ready.{fresh-ready}
use Rattle.receiver.proofs.Weight.{held}
use Rattle.recording.specs.Recording.{frames_max, octets_max}
use Rattle.frames.specs.Frames.{Note, Reach, frames_of, set_out, through}
use Rattle.frames.proofs.Joined.{octets_in, frames_fit, frames_many}
use Rattle.frames.proofs.Adding.{poured_put, entries-put, sizes_of}
use Rattle.playback.specs.Playback.{Playback, note_of, notes_within, played, treated_in}
use Rattle.playback.specs.Call.{counts, play_window, Results, results, Reply, reply, answered, bundles_max, buffer_size, Enough, played_fresh}
use Rattle.std.specs.Prelude.{Ok}
use Rattle.playback.specs.declared.Played.{Played}
use Rattle.frames.proofs.Costs.{priced_read}
use Rattle.playback.proofs.Fits.{bundles_limit, Paid, Plays, plays}

held-fresh : (n : ℕ) → held (replicate n (empty_row Free)) ≡ 0
unfolding held
held-fresh zero = refl
held-fresh (suc n) = omega (arith, empty_weight Free, held-fresh n)

note_length : (q : Option Refusal) (k n : ℕ) (ns : List Note) → length ns ≤ n → length (note_of q k ns) ≤ suc n
unfolding note_of
note_length none k n ns h = omega arith
note_length (some q) k n ns h = omega arith

few_notes : (D : Draft) (n k : ℕ) (fs : List (List ℕ)) → length (notes_within D n k fs) ≤ length fs
unfolding notes_within
few_notes D n k [] = omega arith
few_notes D n k (f ∷ fs) =
    cond_elim (λ (ns : List Note). length ns ≤ suc (length fs)) (eqb n 0) (λ _. omega arith) (λ _. note_length (unfit D f 0) k (length fs) _ (few_notes D (n - length (treated_in D f)) (k + 1) fs))

abbrev pub play_limits : ℕ → Limits
play_limits limit = record { messages = limit; bundles = bundles_limit }

-- as the loop over frames leaves it
abbrev pub left : Reach → Reply
left a =
    reply (Ok (counts a.run.progress.treated a.run.progress.count a.run.progress.used a.refused)) a.run.board.pool
    (results a.run.output a.run.lengths a.places a.reasons)

module _ (sizes joined : List ℕ) (limit : ℕ) (pool : List ℕ) (r : Results) (numbers : List ℕ) (E : Enough sizes joined pool r) (room : length r.output ≡ buffer_size) where
  abbrev board : Board
  board = record { state = fresh Draft02 play_window; pool = pool }

  abbrev fs : List (List ℕ)
  fs = frames_of sizes joined

  abbrev start : Reach
  start = set_out (going (fresh Draft02 play_window) pool r.output r.lengths numbers (begun 0)) r.places r.reasons 0

  abbrev after : Reach
  after = through (draft Draft02) play_window (play_limits limit) start fs

  at_first : Paid play_window sixteen Rising (play_limits limit) refl start.run 0 (octets_in fs)
  unfolding fresh
  at_first = record {
    ready = fresh-ready play_window sixteen Draft02 pool E.pooled;
    size = room;
    octets = omega (arith, held-fresh play_window, frames_fit sizes joined, E.small);
    bundles = omega (arith, frames_fit sizes joined, E.small);
    below = omega arith;
  }

  P : Plays play_window sixteen Rising (play_limits limit) refl (Layout.read Draft02) (sized Draft02) (priced_read Draft02) start after fs
  P = plays play_window sixteen Rising (play_limits limit) refl (Layout.read Draft02) (sized Draft02) (priced_read Draft02) fs start refl at_first

  abbrev p : Playback
  p = played_fresh limit pool fs

  -- room and lists never stop a playback: the loop gives what the definition says, and the bundles are within 61,440 octets
  pub fits : (left after ≡ answered p r) × (after.run.progress.used ≤ octets_max)
  unfolding played
  fits =
      let T = rw (sub-zero limit) at P.treats in
      let N = rw (sub-zero limit) at P.notes in
      let hs : List Handed = p.bundles in
      let ns : List Note = p.notes in
      let few : length hs ≤ bundles_max = omega (arith, T.adds.count, P.bounded.1) in
      let none_more : length ns ≤ frames_max = omega (arith, few_notes (draft Draft02) limit 0 fs, frames_many sizes joined, E.few) in
      let treated : after.run.progress.treated ≡ length p.messages = T.treated ∙ zero-add (length p.messages) in
      let count : after.run.progress.count ≡ length hs = T.adds.count ∙ zero-add (length hs) in
      let used : after.run.progress.used ≡ length (joined_octets hs) = T.adds.used ∙ zero-add (length (joined_octets hs)) in
      let refused : after.refused ≡ length ns = N.refused ∙ zero-add (length ns) in
      let output : after.run.output ≡ put r.output 0 (joined_octets hs) = T.adds.output ∙ poured_put r.output 0 hs (omega arith) in
      let lengths : after.run.lengths ≡ put r.lengths 0 (sizes_of hs) = T.adds.lengths ∙ entries-put r.lengths 0 (sizes_of hs) (rw (length-map hs) (omega (arith, E.lengths))) in
      let places : after.places ≡ put r.places 0 (map (λ (n : Note). n.place) ns) = N.places ∙ entries-put r.places 0 (map (λ (n : Note). n.place) ns) (rw (length-map ns) (omega (arith, E.places))) in
      let reasons : after.reasons ≡ put r.reasons 0 (map (λ (n : Note). n.reason) ns) = N.reasons ∙ entries-put r.reasons 0 (map (λ (n : Note). n.reason) ns) (rw (length-map ns) (omega (arith, E.reasons))) in
      let pooled : after.run.board.pool ≡ p.board.pool = ap (λ (b : Board). b.pool) T.board in
      (λ i. reply (Ok (counts (treated i) (count i) (used i) (refused i))) (pooled i) (results (output i) (lengths i) (places i) (reasons i)), P.bounded.0)

-- the bundles copied from a buffer to the output
module _ (p : Playback) (buffer : List ℕ) (r : Results) (messages bundles used refused : ℕ) (pool filled lengths places reasons : List ℕ)
    (e : reply (Ok (counts messages bundles used refused)) pool (results filled lengths places reasons) ≡ answered p (results buffer r.lengths r.places r.reasons)) where
  all_used : used ≡ length (joined_octets p.bundles)
  all_used =
      let a = ap (λ (x : Reply). x.answer) e in
      let b : counts messages bundles used refused ≡ counts (length p.messages) (length p.bundles) (length (joined_octets p.bundles)) (length p.notes) = cc in
      ap (λ (x : Played). x.octets) b

  front : take used filled ≡ joined_octets p.bundles
  front = rw (all_used, ap (λ (x : Reply). x.results.output) e) (read_back buffer (put buffer 0 (joined_octets p.bundles)) (joined_octets p.bundles) refl)

  pub front_length : length (take used filled) ≡ used
  front_length = ap length front ∙ sym all_used

  pub copied : (output : List ℕ) → output ≡ put r.output 0 (take used filled) → reply (Ok (counts messages bundles used refused)) pool (results output lengths places reasons) ≡ answered p r
  copied output q =
      let o : output ≡ put r.output 0 (joined_octets p.bundles) = q ∙ ap (λ (xs : List ℕ). put r.output 0 xs) front in
      λ i. reply (e i).answer (e i).pool (results (o i) (e i).results.lengths (e i).results.places (e i).results.reasons)
