-- Reserved flag bits are ignored, and an example with bits set; the flag H is not one of them.
use mathlib.Core.Path.{◌≡◌, refl, sym, ap, ◌∙◌}
use mathlib.Core.List.{List, [], ◌∷◌, map}
use mathlib.Core.Option as Option
use Prim.Native.Nat.{ℕ}
use native.Mathlib.Omega.{arith}
use Rattle.wire.specs.declared.Version.TheVariants.{Draft02}
use Rattle.wire.specs.Layout as Wire
use Rattle.wire.specs.Reserved.{SameButReserved, same, padded, headed}
use Rattle.rows.specs.declared.Settings.{Settings}
use Rattle.rows.specs.State.{window_of, fresh}
use Rattle.rows.specs.Message.{draft_of}
use Rattle.receiver.specs.Receive.{receive}
use Rattle.receiver.proofs.Keeping.{receive-keeps}
use Rattle.receiver.proofs.Reserved as Receiver
use Rattle.claims.proofs.Computing.{computing}
use Rattle.claims.specs.Marked as Cases
use Rattle.claims.specs.Marked.{Marked, bundle_of, finished, refused, output, fresh_board, marked}
use Rattle.claims.specs.Reserved.{Call, replies, none, more, ReservedIgnored}

pub reserved_ignored : ReservedIgnored
unfolding replies
reserved_ignored b z _ _ none = refl
reserved_ignored b z _ _ (more {f} {g} {cs} {ds} place output r rs) =
    let e = Receiver.reserved_ignored b z r place output in
    let set = ap (λ (s : Settings). s.version) (receive-keeps (window_of b.state) (draft_of b.state) b f place output) ∙ z in
    rw (← e) (ap (λ l. receive b f place output ∷ l) (reserved_ignored (receive b f place output).board set cs ds rs))

-- ---- an example: padding, a bundle, an end with a hint and a type that is passed over, without and with reserved bits; and H set alone

abbrev pub plain : List ℕ
plain = 0 ∷ 2 ∷ 0 ∷ 0 ∷ 1 ∷ 65 ∷ 4 ∷ 128 ∷ 0 ∷ 12 ∷ 2 ∷ 1 ∷ 255 ∷ 0 ∷ 0 ∷ 0 ∷ 5 ∷ 0 ∷ 0 ∷ 0 ∷ 0 ∷ 66 ∷ 6 ∷ 0 ∷ 0 ∷ 0 ∷ []

abbrev pub set : List ℕ
set = 0 ∷ 2 ∷ 16 ∷ 0 ∷ 1 ∷ 65 ∷ 4 ∷ 240 ∷ 0 ∷ 12 ∷ 2 ∷ 1 ∷ 255 ∷ 0 ∷ 0 ∷ 0 ∷ 5 ∷ 0 ∷ 0 ∷ 0 ∷ 0 ∷ 66 ∷ 6 ∷ 64 ∷ 0 ∷ 0 ∷ []

abbrev pub hinted : List ℕ
hinted = 0 ∷ 2 ∷ 128 ∷ 0 ∷ 1 ∷ 65 ∷ 4 ∷ 128 ∷ 0 ∷ 12 ∷ 2 ∷ 1 ∷ 255 ∷ 0 ∷ 0 ∷ 0 ∷ 5 ∷ 0 ∷ 0 ∷ 0 ∷ 0 ∷ 66 ∷ 6 ∷ 0 ∷ 0 ∷ 0 ∷ []

-- the calls that take such a frame to its end, and what a fresh board answers
abbrev pub calls : List ℕ → List Call
calls f = call 0 ∷ call 6 ∷ call 22 ∷ []
  where
    call : ℕ → Call
    call place = record { frame = f; place = place; output = output }

unfoldable pub answers : List ℕ → List Marked
answers f = map marked (replies (fresh_board Draft02) (calls f))

-- With reserved bits set both bundles come out. With H set the bundle's content is walked as a hint, and the frame is refused.
pub computed : (answers set ≡ bundle_of (65 ∷ []) 6 Option.none ∷ bundle_of (66 ∷ []) 22 (Option.some 5) ∷ finished ∷ [])
    × (answers hinted ≡ refused 7 (Option.some 1) ∷ refused 7 (Option.some 1) ∷ refused 7 (Option.some 1) ∷ [])
unfolding answers replies computing Cases.output Cases.fresh_board Cases.marked_as Cases.marked
computed = (refl, refl)

same-answers : {f g : List ℕ} → SameButReserved f g → answers f ≡ answers g
unfolding answers fresh_board fresh
same-answers r = ap (map marked) (reserved_ignored (fresh_board Draft02) refl _ _ (more 0 output r (more 6 output r (more 22 output r none))))

pub set-bits : SameButReserved plain set
unfolding Wire.length_field
set-bits = padded (headed 1 0 1 0 1 refl (headed 3 128 7 0 12 refl (headed 5 0 4 0 0 refl (same []))))

-- H is not a reserved bit
pub flag-not_reserved : SameButReserved plain hinted → ⊥
flag-not_reserved r =
    let e : answers set ≡ answers hinted = sym (same-answers set-bits) ∙ same-answers r in
    let f = sym computed.0 ∙ e ∙ computed.1 in
    let z : ◌≡◌ {A = ℕ} 0 1 = cc in
    omega arith
