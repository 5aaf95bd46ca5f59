-- `wire::read_message` meets its contract: each return rewrites with the tests that led there.
use mathlib.Core.Path.{◌≡◌, ◌∙◌, ap}
use mathlib.Core.Bool.{cond}
use mathlib.Core.List.{List}
use Prim.Native.Nat.{ℕ, ◌+◌, ◌-◌, ◌≤◌}
use native.Mathlib.Omega.{arith}
use lib.ListN.{length, take, drop, length-drop}
use lib.Seq.{take_all}
use lib.Dec.{ltb}
use borrow.Author.Tests.{lt-ltb, le-ltb}
use Rattle.wire.specs.declared.Fault.TheVariants.{PastFrame}
use Rattle.wire.specs.Message.{bad, answer}
use Rattle.wire.proofs.Runs.{zeros_fit}
use Rattle.wire.specs.Layout.{zeros, length_field, bodied, headed, read}
use Rattle.wire.proofs.Heads.{padded, header}
use Rattle.wire.proofs.read_message.Goals.{After-length_field-size}
use Rattle.wire.proofs.read_message.Goals as goal

-- a message with a whole header: what is read, and the length field
module _ (c : After-length_field-size) where
  abbrev rest : ℕ
  rest = length c.args.frame.now - c.args.at

  abbrev head : List ℕ
  head = drop c.args.at c.args.frame.now

  abbrev size : ℕ
  size = length_field c.args.version head

  whole : read c.args.version head ≡ cond (ltb rest (4 + size)) (bad PastFrame) (bodied c.args.version head size)
  unfolding headed
  whole = header c.args.version c.args.frame.now c.args.at c.requires c.if-frame-at-eq0.false ∙ rw (length-drop, le-ltb rest 4 c.if-frame-at-lt4.false)

-- the part from the position on is what is left of the frame
run-at : (frame : List ℕ) (at n : ℕ) → n ≡ zeros (take (length frame - at) (drop at frame)) → n ≡ zeros (drop at frame)
run-at frame at n e = e ∙ ap zeros (take_all (length frame - at) (drop at frame) (simp length-drop (omega arith)))

within : (frame : List ℕ) (at : ℕ) → zeros (drop at frame) ≤ length frame - at
within frame at = let z = zeros_fit (drop at frame) in let d = length-drop at frame in omega arith

pub returns-then-frame-at-eq0 : goal.returns-then-frame-at-eq0
returns-then-frame-at-eq0 c =
    let a = c.args in
    padded a.version a.frame.now a.at c.requires _ c.if-frame-at-eq0.true (ap (λ (n : ℕ). a.at + n) (run-at a.frame.now a.at _ c.zeros.ensures))

pub overflow_add-end : goal.overflow_add-end
overflow_add-end c =
    let a = c.args in
    let r = run-at a.frame.now a.at _ c.zeros.ensures in
    let z = within a.frame.now a.at in
    omega arith

pub returns-then-frame-at-lt4 : goal.returns-then-frame-at-lt4
unfolding answer headed
returns-then-frame-at-lt4 c =
    let a = c.args in
    rw (header a.version a.frame.now a.at c.requires c.if-frame-at-eq0.false, length-drop, lt-ltb (length a.frame.now - a.at) 4 c.if-frame-at-lt4.true)

pub returns-then-frame-at : goal.returns-then-frame-at
unfolding answer
returns-then-frame-at c =
    rw (whole (goal.at.returns-then-frame-at c).After-length_field-size, lt-ltb (rest (goal.at.returns-then-frame-at c).After-length_field-size) (4 + size (goal.at.returns-then-frame-at c).After-length_field-size) (omega (arith, c.length_field-size.ensures)))

pub returns : goal.returns
returns c =
    rw (whole (goal.at.returns c).After-length_field-size, le-ltb (rest (goal.at.returns c).After-length_field-size) (4 + size (goal.at.returns c).After-length_field-size) (omega (arith, c.length_field-size.ensures)), ← c.length_field-size.ensures) c.read_body.ensures
