use mathlib.Core.Path.{sym, ap, ◌∙◌}
use mathlib.Core.Bool.{Bool, cond}
use native.Mathlib.Omega.{arith}
use Rattle.std.proofs.Common.{Result, Ok, Err}
use Rattle.wire.specs.declared.Rejection.TheVariants.{Misplaced}
use Rattle.wire.specs.Layout.{read}
use Rattle.wire.specs.declared.Span.{Span}
use Rattle.wire.specs.declared.Fault.{Fault}
use Rattle.wire.specs.Frame.{reading_checked}
use Rattle.wire.proofs.Spans.{sized}
use Rattle.wire.proofs.Scanning.{start, turn, stop, over}
use Rattle.wire.proofs.check_frame.Goals as goal

pub loop-at-init : goal.loop-at-init
loop-at-init c = (omega arith, start _ _ _)

pub returns-in_default : goal.returns-in_default
returns-in_default c =
    let a = c.args in
    let l = c.loop-at in
    let told = c.in_default.is in
    let stopped = stop (read a.version) (sized a.version) a.frame.now a.place l.seen l.at c.loop-at-test.true _ (sym c.read_message-r.ensures ∙ told) in
    c.reading_checked.ensures ∙ ap (λ (r : Result Span Fault). reading_checked r l.at) told ∙ sym (l.invariant.1 ∙ stopped)

pub loop-at-smaller : goal.loop-at-smaller
loop-at-smaller c =
    let a = c.args in
    let l = c.loop-at in
    let t = turn (read a.version) (sized a.version) a.frame.now a.place l.seen l.at c.loop-at-test.true _ (sym c.read_message-r.ensures ∙ c.in-Ok.is) in
    omega (arith, t.later, t.within)

pub loop-at-preserved : goal.loop-at-preserved
loop-at-preserved c =
    let a = c.args in
    let l = c.loop-at in
    let t = turn (read a.version) (sized a.version) a.frame.now a.place l.seen l.at c.loop-at-test.true _ (sym c.read_message-r.ensures ∙ c.in-Ok.is) in
    (t.within, l.invariant.1 ∙ t.same)

pub returns-then-seen : goal.returns-then-seen
returns-then-seen c =
    let a = c.args in
    let l = c.loop-at in
    sym (l.invariant.1 ∙ over (read a.version) a.frame.now a.place l.seen l.at c.loop-at-test.false ∙ ap (λ (t : Bool). cond t (Ok (tt {0})) (Err Misplaced)) c.if-seen.true)

pub returns : goal.returns
returns c =
    let a = c.args in
    let l = c.loop-at in
    sym (l.invariant.1 ∙ over (read a.version) a.frame.now a.place l.seen l.at c.loop-at-test.false ∙ ap (λ (t : Bool). cond t (Ok (tt {0})) (Err Misplaced)) c.if-seen.false)
