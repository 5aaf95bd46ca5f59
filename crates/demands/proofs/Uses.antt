-- The uses of claims/proofs/Uses.antt by exported calls, computed: what demand 2 asks for can be met in both drafts, and both bundles arrive.
use mathlib.Core.Path.{◌≡◌, refl}
use mathlib.Core.Bool.{false≢true}
use mathlib.Core.List.{List, [], ◌∷◌, map}
use Prim.Native.Nat.{ℕ, zero, suc, ◌<◌}
use native.Mathlib.Omega.{arith}
use lib.ListN.{replicate}
use Rattle.std.proofs.Common.{None, Some}
use Rattle.octets.specs.Octets.{Octets, number, number16, be32, be16, put}
use Rattle.wire.specs.declared.Version.TheVariants.{Draft00, Draft02}
use Rattle.wire.specs.Message.{kind, content_length}
use Rattle.writing.specs.Written.{header, content_of, written, piece, padding}
use Rattle.framing.specs.Placing as Framing
use Rattle.sender.specs.Answers.{unless}
use Rattle.sender.specs.Sound as Sound
use Rattle.sender.specs.Calls as Sender
use Rattle.images.specs.Receiver.{version_of}
use Rattle.images.specs.Sender.{is_image, state_of, image_of}
use Rattle.answers.specs.Sender.{status, report, kept}
use Rattle.board.specs.Sender as Exported
use Rattle.claims.specs.Calls.{Entry, handed_of}
use Rattle.claims.specs.Demand3.{delivery}
use Rattle.claims.specs.Use.{to_cancel}
use Rattle.claims.proofs.Uses.{long, short, frames, bundles, frames00, bundles00}
use Rattle.demands.specs.Boards.{Board, Fresh, Calls}
use Rattle.demands.specs.Senders.{answers, taken, finished, call_of, Used, started, placing, cancelling, refusing, Flushed}
use Rattle.demands.proofs.Demands.{demand2}

octets_same : (n x : ℕ) → x < 256 → Octets (replicate n x)
octets_same zero x h k = omega arith
octets_same (suc n) x h zero = h
octets_same (suc n) x h (suc k) = octets_same n x h k

octets_short : Octets short
unfolding short
octets_short zero = omega arith
octets_short (suc zero) = omega arith
octets_short (suc (suc zero)) = omega arith
octets_short (suc (suc (suc k))) = omega arith

octets_long : Octets long
unfolding long
octets_long = octets_same 125 65 (omega arith)

four : List ℕ
four = 9 ∷ 9 ∷ 9 ∷ 9 ∷ []

pub used : Flushed Draft02 frames bundles
unfolding long short frames bundles four number number16 be32 be16 put kind content_length header content_of written piece padding unless Sound.sound Sender.start Sender.place Sender.place_cases Sender.cancel Sender.cancel_cases Sender.flush Sender.flush_cases Framing.placing Framing.place_piece Framing.added Framing.advanced Framing.closed version_of is_image state_of image_of status report kept Exported.exported Exported.unless_image Exported.placed_by Exported.cancelled_by Exported.flushed_by Exported.started_with Exported.started answers taken finished call_of
used =
    let fresh : Used Draft02 128 4294967295 _ _ long [] [] = started {image = image_of (Sender.fresh Draft02 128 4294967295)} [] (replicate 128 7) long (octets_same 128 7 (omega arith)) refl in
    let begun : Used Draft02 128 4294967295 _ _ long _ [] = placing long four octets_long refl (λ _. refl) fresh in
    let again : Used Draft02 128 4294967295 _ _ long _ [] = placing long four octets_long refl (λ _. refl) (refusing to_cancel [] four (λ e. absurd (let z : ◌≡◌ {A = ℕ} 10 0 = e in omega arith)) (cancelling four refl begun)) in
    let ended = placing long four octets_long refl (λ _. refl) again in
    record {
      size = 128;
      first = 4294967295;
      numbered = omega arith;
      image = _;
      frame = _;
      lent = short;
      before = _;
      used = placing short four octets_short refl (λ e. absurd (false≢true e)) ended;
      idle = refl;
      result = four;
      four = refl;
      flushed = refl;
      frames = refl;
    }

-- any fresh board that takes these frames by `btpu_receive` hands out both bundles, and the cancelled one not
pub both_arrive : (w : ℕ) (b : Board) → Fresh Draft02 w b → (es : List Entry) → Calls b es → map (λ (e : Entry). e.frame) es ≡ frames
    → handed_of es ≡ delivery (Some 0) long ∷ delivery None short ∷ []
unfolding bundles
both_arrive w = (demand2 Draft02 w).arrives frames bundles used

-- ---- draft 00

pub used00 : Flushed Draft00 frames00 bundles00
unfolding long short frames00 bundles00 four number number16 be32 be16 put kind content_length header content_of written piece padding unless Sound.sound Sender.start Sender.place Sender.place_cases Sender.flush Sender.flush_cases Framing.placing Framing.place_piece Framing.added Framing.advanced Framing.closed version_of is_image state_of image_of status report kept Exported.exported Exported.unless_image Exported.placed_by Exported.flushed_by Exported.started_with Exported.started answers taken finished
used00 =
    let fresh : Used Draft00 128 4294967295 _ _ long [] [] = started {image = image_of (Sender.fresh Draft00 128 4294967295)} [] (replicate 128 7) long (octets_same 128 7 (omega arith)) refl in
    let begun : Used Draft00 128 4294967295 _ _ long _ [] = placing long four octets_long refl (λ _. refl) fresh in
    let ended = placing long four octets_long refl (λ _. refl) begun in
    record {
      size = 128;
      first = 4294967295;
      numbered = omega arith;
      image = _;
      frame = _;
      lent = short;
      before = _;
      used = placing short four octets_short refl (λ e. absurd (false≢true e)) ended;
      idle = refl;
      result = four;
      four = refl;
      flushed = refl;
      frames = refl;
    }

pub both_arrive00 : (w : ℕ) (b : Board) → Fresh Draft00 w b → (es : List Entry) → Calls b es → map (λ (e : Entry). e.frame) es ≡ frames00
    → handed_of es ≡ delivery (Some 4294967295) long ∷ delivery None short ∷ []
unfolding bundles00
both_arrive00 w = (demand2 Draft00 w).arrives frames00 bundles00 used00
