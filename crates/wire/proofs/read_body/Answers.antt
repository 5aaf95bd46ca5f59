-- `wire::read_body` meets its contract: each return is a law of Contents, over what the hint walk answered.
-- the part that is lent to the hint walk is the message's body
use mathlib.Core.Path.{◌≡◌, sym, ◌∙◌}
use mathlib.Core.List.{List}
use Prim.Native.Nat.{ℕ, ◌+◌, ◌-◌}
use native.Mathlib.Nat.{add-zero, add-sub_cancel_left}
use native.Mathlib.Omega.{arith}
use lib.ListN.{get_or, take, drop}
use lib.Seq.{get_or-drop, drop-drop}
use mathlib.Core.Bool.{Bool}
use Rattle.wire.specs.declared.Version.{Version}
use Rattle.std.proofs.Common.{Option}
use Rattle.wire.specs.Layout.{kind_of, hinted, hints, left, body, bodied}
use Rattle.wire.proofs.Contents.{skip, past, fit, unfit, left-fits}
use Rattle.wire.proofs.read_body.Goals as goal

left-of : (v : Version) (frame : List ℕ) (at size : ℕ) {b : Bool} {h : Option ℕ}
    → h ≡ left (hints b (take (at + 4 + size - (at + 4)) (drop (at + 4) frame))) → b ≡ hinted v (get_or frame (at + 1) 0)
    → h ≡ left (hints (hinted v (get_or frame (at + 1) 0)) (take size (drop (at + 4) frame)))
left-of v frame at size e f = rw (← f) (rw add-sub_cancel_left at e)

-- the message in positions of the frame
bodied-at : (v : Version) (frame : List ℕ) (at size : ℕ)
    → bodied v (drop at frame) size ≡ body (kind_of v (get_or frame at 0)) (hints (hinted v (get_or frame (at + 1) 0)) (take size (drop (at + 4) frame))) (4 + size)
unfolding bodied
bodied-at v frame at size = simp (get_or-drop, drop-drop, add-zero)

pub returns-in-Skipped : goal.returns-in-Skipped
returns-in-Skipped c =
    let a = c.args in
    rw (bodied-at a.version a.frame.now a.at a.size, ← c.kind_of-kind.ensures) (skip a.at a.size _ _ c.in-Skipped.is)

pub returns-in_default-h : goal.returns-in_default-h
returns-in_default-h c =
    let a = c.args in
    let walked = left-of a.version a.frame.now a.at a.size c.after_hints-h.ensures c.is_hinted.ensures in
    rw (bodied-at a.version a.frame.now a.at a.size, ← c.kind_of-kind.ensures) (past a.at (4 + a.size) _ _ c.in_default.not-Skipped (sym walked ∙ c.in_default-h.is))

pub overflow_sub-result : goal.overflow_sub-result
overflow_sub-result c =
    let a = c.args in
    let walked = left-of a.version a.frame.now a.at a.size c.after_hints-h.ensures c.is_hinted.ensures in
    let n = left-fits _ a.size _ _ (sym walked ∙ c.in-Some.is) in
    omega (arith, n)

pub returns-then-fits : goal.returns-then-fits
returns-then-fits c =
    let a = c.args in
    let walked = left-of a.version a.frame.now a.at a.size c.after_hints-h.ensures c.is_hinted.ensures in
    rw (bodied-at a.version a.frame.now a.at a.size, ← c.kind_of-kind.ensures) (fit a.at a.size _ _ c.in-Some.left c.in_default.not-Skipped (sym walked ∙ c.in-Some.is) (sym c.fits.ensures ∙ c.if-fits.true))

pub returns : goal.returns
returns c =
    let a = c.args in
    let walked = left-of a.version a.frame.now a.at a.size c.after_hints-h.ensures c.is_hinted.ensures in
    rw (bodied-at a.version a.frame.now a.at a.size, ← c.kind_of-kind.ensures) (unfit a.at (4 + a.size) _ _ c.in-Some.left c.in_default.not-Skipped (sym walked ∙ c.in-Some.is) (sym c.fits.ensures ∙ c.if-fits.false))
