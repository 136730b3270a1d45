-- What the two tests say of the count: it is past the hint, it is the hint, or the hint is past it.
use Prim.Native.Nat.{ℕ, ◌-◌, ◌/◌, ◌<◌, ◌≤◌}
use mathlib.Core.Path.{sym, ◌∙◌}
use native.Mathlib.Omega.{arith}
use lib.ListN.{length}
use borrow.Author.Tests.{ltb-true, ltb-false}
use Rattle.list.specs.Cell.{numbers_in}
use Rattle.list.specs.Seek.{count_below}
use Rattle.list.proofs.SeekLaws.{region-within}
use Rattle.list.proofs.seek.seek.Goals as goal
use Rattle.list.proofs.seek.seek.Goals.{Else-past, Start, Then-past}

abbrev count : Start → ℕ
count c = count_below c.args.x (numbers_in c.args.region.now)

most : (c : Start) → count c ≤ length c.args.region.now / 4
most c = region-within c.args.region.now c.args.x

-- the count is past the hint
over : (c : Then-past) → c.args.hint < count (goal.at.Then-past c).Start
over c = ltb-true _ _ (sym c.past.ensures ∙ c.if-past.true)

-- or it is not
under : (c : Else-past) → count (goal.at.Else-past c).Start ≤ c.args.hint
under c = ltb-false _ _ (sym c.past.ensures ∙ c.if-past.false)

pub returns-then-past-2-clause-within : goal.returns-then-past-2-clause-within
returns-then-past-2-clause-within c =
    let u = under (goal.at.returns-then-past-2-clause-within c).Else-past in
    let o : c.args.hint - 1 < count (goal.at.returns-then-past-2-clause-within c).Start = ltb-true _ _ (sym c.past-2.ensures ∙ c.if-past-2.true) in
    omega (arith, c.if-hint-eq0.false, most (goal.at.returns-then-past-2-clause-within c).Start)

pub overflow_add-hint : goal.overflow_add-hint
overflow_add-hint c = omega (arith, over c, most (goal.at.overflow_add-hint c).Start)
