-- Reserved flag bits of draft 02 are ignored: frames that differ in them alone get the same answer, and leave the same state, pool and output.
use mathlib.Core.Path.{◌≡◌, sym, ap, ◌∙◌}
use mathlib.Core.List.{List}
use Prim.Native.Nat.{ℕ}
use Rattle.wire.specs.declared.Version.{Version}
use Rattle.wire.specs.declared.Version.TheVariants.{Draft02}
use Rattle.wire.specs.Reserved.{SameButReserved}
use Rattle.wire.proofs.Reserved.{same_length, same_scanned, same-checked}
use Rattle.rows.specs.State.{window_of}
use Rattle.rows.specs.Message.{draft, Board, messages_from}
use Rattle.rows.proofs.Keeping.{settings_of}
use Rattle.receiver.specs.Receive.{refusal, receive_as, receive}
use Rattle.receiver.proofs.Keeping.{receive-as}

read_alike : (w : ℕ) (b : Board) {f g : List ℕ} → SameButReserved f g → (place : ℕ) (output : List ℕ)
    → receive_as (draft Draft02) w b f place output ≡ receive_as (draft Draft02) w b g place output
unfolding receive_as refusal messages_from
read_alike w b r place output = rw (same_length r, same-checked r place, same_scanned r)

pub reserved_ignored : (b : Board) {f g : List ℕ} → b.state.settings.version ≡ Draft02 → SameButReserved f g → (place : ℕ) (output : List ℕ)
    → receive b f place output ≡ receive b g place output
reserved_ignored b {f} {g} e r place output =
    let w : ℕ = window_of b.state in
    let s : settings_of b ≡ record { version = Draft02; window = w } = ap (λ (v : Version). record { version = v; window = w }) e in
    receive-as Draft02 w b f place output s ∙ read_alike w b r place output ∙ sym (receive-as Draft02 w b g place output s)
