-- A use of a sender: a bundle that is cancelled, one whose transfer takes the number after 4,294,967,295, and a bundle message.
use mathlib.Core.Path.{◌≡◌, refl}
use mathlib.Core.Bool.{false≢true}
use mathlib.Core.List.{List, [], ◌∷◌, ◌++◌, map}
use Prim.Native.Nat.{ℕ}
use native.Mathlib.Omega.{arith}
use lib.ListN.{replicate}
use Rattle.std.proofs.Common.{None, Some}
use Rattle.octets.specs.Octets.{be32, put}
use Rattle.wire.specs.declared.Version.TheVariants.{Draft00, Draft02}
use Rattle.wire.specs.Message.{bundle, segment, last, cancel, kind, content_length}
use Rattle.writing.specs.Written.{header, content_of, written, piece, padding}
use Rattle.framing.specs.Placing as Framing
use Rattle.sender.specs.Answers.{unless, is_refusal}
use Rattle.sender.specs.Sound as Sound
use Rattle.sender.specs.Calls as Sender
use Rattle.window.specs.Window.{Window}
use Rattle.rows.specs.Message.{Board, Handed}
use Rattle.receiver.specs.Receive.{receive}
use Rattle.claims.specs.Calls.{Fresh, Entry, handed_of, Calls}
use Rattle.claims.specs.Demand3.{delivery}
use Rattle.claims.specs.Use.{is_ready, is_placed, taken, finished, to_cancel, outcome_of, Used, started, placing, cancelling, flushing, refusing}
use Rattle.claims.specs.Demand2.{Flushed}
use Rattle.claims.proofs.EndToEnd.{demand2}

unfoldable pub long : List ℕ
long = replicate 125 65

unfoldable pub short : List ℕ
short = 1 ∷ 2 ∷ 3 ∷ []

unfoldable pub frames : List (List ℕ)
frames =
    written Draft02 (segment 4294967295 0 (replicate 116 65))
    ∷ (written Draft02 (cancel 4294967295) ++ written Draft02 (segment 0 0 (replicate 108 65)))
    ∷ (written Draft02 (last 0 1 (replicate 17 65)) ++ written Draft02 (bundle short) ++ padding 92)
    ∷ []

unfoldable pub bundles : List Handed
bundles = record { origin = Some 0; octets = long } ∷ record { origin = None; octets = short } ∷ []

pub used : Flushed Draft02 frames bundles
unfolding long short frames bundles be32 put kind content_length header content_of written piece padding unless is_refusal Sound.sound Sender.start Sender.place Sender.place_cases Sender.cancel Sender.cancel_cases Sender.flush Sender.flush_cases Framing.placing Framing.place_piece Framing.added Framing.advanced Framing.closed is_ready is_placed taken finished outcome_of
used =
    let begun : Used Draft02 128 4294967295 _ _ long _ [] = placing long (λ _. refl) (started {s = Sender.fresh Draft02 128 4294967295} (replicate 128 7) long refl) in
    let again : Used Draft02 128 4294967295 _ _ long _ [] = placing long (λ _. refl) (refusing to_cancel [] refl (cancelling begun)) in
    let ended = placing long (λ _. refl) again in
    record {
      size = 128;
      first = 4294967295;
      numbered = omega arith;
      state = Sender.fresh Draft02 128 1;
      frame = written Draft02 (last 0 1 (replicate 17 65)) ++ written Draft02 (bundle short) ++ padding 92;
      lent = short;
      used = flushing (placing short (λ e. absurd (false≢true e)) ended);
      empty = refl;
      idle = refl;
    }

-- any fresh board that takes these frames hands out both bundles, and the cancelled one not
pub both_arrive : (w : ℕ) → Window w → (b : Board) → Fresh Draft02 w b → (es : List Entry) → Calls receive b es → map (λ (e : Entry). e.frame) es ≡ frames
    → handed_of es ≡ delivery (Some 0) long ∷ delivery None short ∷ []
unfolding bundles
both_arrive w win = (demand2 Draft02 w win).arrives frames bundles used

-- ---- draft 00: the start comes first, with the highest index, and the last piece has index 0

unfoldable pub frames00 : List (List ℕ)
frames00 = written Draft00 (last 4294967295 1 (replicate 116 65)) ∷ (written Draft00 (segment 4294967295 0 (replicate 9 65)) ++ written Draft00 (bundle short) ++ padding 100) ∷ []

unfoldable pub bundles00 : List Handed
bundles00 = record { origin = Some 4294967295; octets = long } ∷ record { origin = None; octets = short } ∷ []

pub used00 : Flushed Draft00 frames00 bundles00
unfolding long short frames00 bundles00 be32 put kind content_length header content_of written piece padding unless is_refusal Sound.sound Sender.start Sender.place Sender.place_cases Sender.flush Sender.flush_cases Framing.placing Framing.place_piece Framing.added Framing.advanced Framing.closed is_ready is_placed taken finished
used00 =
    let begun : Used Draft00 128 4294967295 _ _ long _ [] = placing long (λ _. refl) (started {s = Sender.fresh Draft00 128 4294967295} (replicate 128 7) long refl) in
    let ended = placing long (λ _. refl) begun in
    record {
      size = 128;
      first = 4294967295;
      numbered = omega arith;
      state = Sender.fresh Draft00 128 0;
      frame = written Draft00 (segment 4294967295 0 (replicate 9 65)) ++ written Draft00 (bundle short) ++ padding 100;
      lent = short;
      used = flushing (placing short (λ e. absurd (false≢true e)) ended);
      empty = refl;
      idle = refl;
    }

pub both_arrive00 : (w : ℕ) → Window w → (b : Board) → Fresh Draft00 w b → (es : List Entry) → Calls receive b es → map (λ (e : Entry). e.frame) es ≡ frames00
    → handed_of es ≡ delivery (Some 4294967295) long ∷ delivery None short ∷ []
unfolding bundles00
both_arrive00 w win = (demand2 Draft00 w win).arrives frames00 bundles00 used00
