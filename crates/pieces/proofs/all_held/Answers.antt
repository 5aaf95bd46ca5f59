use mathlib.Core.Bool.{true, false}
use mathlib.Core.List.{List}
use mathlib.Core.Path.{◌≡◌, refl, sym, ap, ◌∙◌}
use Prim.Native.Nat.{ℕ, ◌+◌, ◌-◌, ◌≤◌, ◌<◌}
use native.Mathlib.Nat.{add-zero}
use native.Mathlib.Omega.{arith}
use lib.ListN.{length, take, drop, get_or, length-drop, drop_of_length-le}
use lib.Seq.{take_all, get_or-drop}
use Rattle.pieces.proofs.Lists.{has_here, has_there, all-turn, all_lacks}
use Rattle.pieces.proofs.Passing.{Left, left-past}
use Rattle.pieces.specs.Pieces.{has, has_all}
use Rattle.pieces.proofs.all_held.Goals.{After-past_lower-place, Then-x-i}
use Rattle.pieces.proofs.all_held.Goals as goal

-- the part from a place on is what is left
part : (xs : List ℕ) (p : ℕ) → take (length xs - p) (drop p xs) ≡ drop p xs
part xs p = take_all (length xs - p) (drop p xs) (simp length-drop (omega arith))

item : (xs : List ℕ) (p k : ℕ) → get_or (take (length xs - p) (drop p xs)) k 0 ≡ get_or xs (p + k) 0
item xs p k = rw (part xs p) (get_or-drop p xs k 0)

inside : (xs : List ℕ) (p k : ℕ) → k < length (take (length xs - p) (drop p xs)) → p + k < length xs
inside xs p k h = let l : k < length xs - p = rw (part xs p, length-drop) at h in omega arith

-- the indexes from i on are held from the place on
left : (c : After-past_lower-place) → Left c.search.i c.past_lower-place.result c.args.indexes.now
left c = left-past c.search.i c.search.place _ c.args.indexes.now c.past_lower-place.ensures.place c.search.invariant.2

pub search-init : goal.search-init
unfolding has_all
search-init c = (refl, refl, (omega arith, λ j g. refl))

pub loop-x-init : goal.loop-x-init
loop-x-init c = rw (add-zero c.past_lower-place.result) ((left (goal.at.loop-x-init c).After-past_lower-place).1 c.search.i (omega arith))

pub loop-x-preserved : goal.loop-x-preserved
loop-x-preserved c =
    let xs = c.args.indexes.now in
    let p = c.past_lower-place.result in
    let k = c.loop-x.x-index in
    c.loop-x.invariant ∙ has_there c.search.i (p + k) xs (inside xs p k c.loop-x-test.true) (λ e. c.if-x-i.false (item xs p k ∙ e)) ∙ ap (λ (n : ℕ). has c.search.i (drop n xs)) (omega arith)

-- the search found the index
found : (c : Then-x-i) → has c.search.i c.args.indexes.now ≡ true
found c =
    let xs = c.args.indexes.now in
    let p = c.past_lower-place.result in
    let k = c.loop-x.x-index in
    c.loop-x.invariant ∙ has_here c.search.i (p + k) xs (inside xs p k c.loop-x-test.true) (sym (item xs p k) ∙ c.if-x-i.true)

pub search-preserved : goal.search-preserved
search-preserved c =
    let s = c.search in
    let z = left (goal.at.search-preserved c).After-past_lower-place in
    (s.invariant.0, all-turn s.i c.args.indexes.now (found (goal.at.search-preserved c).Then-x-i) s.invariant.1, (z.0, λ j g. z.1 j (omega arith)))

pub returns-then-x-i : goal.returns-then-x-i
returns-then-x-i c =
    let s = c.search in
    let i : s.i ≡ c.args.last = omega arith in
    s.invariant.0 ∙ rw (← i) (sym (all-turn s.i c.args.indexes.now (found (goal.at.returns-then-x-i c).Then-x-i) s.invariant.1))

pub returns-2 : goal.returns-2
unfolding has
returns-2 c =
    let xs = c.args.indexes.now in
    let p = c.past_lower-place.result in
    let k = c.loop-x.x-index in
    let n : length xs ≤ p + k = (let l : length (take (length xs - p) (drop p xs)) ≤ k = c.loop-x-test.false in let m : length xs - p ≤ k = rw (part xs p, length-drop) at l in omega arith) in
    let none : has c.search.i (drop (p + k) xs) ≡ false = rw (drop_of_length-le xs {i = p + k} n) in
    sym (all_lacks _ c.search.i xs (omega arith) (c.loop-x.invariant ∙ none))
