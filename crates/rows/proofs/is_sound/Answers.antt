-- `rows::is_sound` meets its contract. The tests in the definition's order.
use borrow.Author.Rules.{rules}
use mathlib.Core.Bool.{◌&&◌}
use mathlib.Core.Path.{◌≡◌, ◌∙◌}
use Prim.Native.Nat.{ℕ}
use lib.Dec.{ltb}
use Rattle.std.proofs.Common.{tests}
use Rattle.std.proofs.lemmas.Iterator.{YieldsList-from_slice}
use Rattle.std.proofs.lemmas.Iterator.Consumers.{YieldsList-from_enumerate}
use Rattle.std.proofs.lemmas.Iterator.Search.{all_from_yields_List}
use Rattle.row.specs.declared.Row.{Row}
use Rattle.rows.specs.State.{sound_in, sound_from, sound}
use Rattle.rows.proofs.Rows.{sound_all}
use Rattle.rows.proofs.is_sound.Goals as goal

pub returns-then-state-eq0 : goal.returns-then-state-eq0
unfolding sound
returns-then-state-eq0 c =
    let s = c.args.state.now in
    let all = all_from_yields_List (λ (p : ℕ × Row). sound_in (s.present && ltb p.0 s.settings.window) p.1) _ _ c.all.result c.all.ensures.ran (YieldsList-from_enumerate (YieldsList-from_slice s.rows cc) cc) (λ x b q k. search (rules, tests)) in
    let rows : c.all.result ≡ sound_from s.settings.window 0 s.present s.rows = all ∙ sound_all s.settings.window s.present 0 s.rows in
    search (rules, rows)

pub returns-else-state-eq0 : goal.returns-else-state-eq0
unfolding sound
returns-else-state-eq0 c = search rules
