use Rattle.std.specs.Prelude.{Some}
use mathlib.Core.Path.{◌≡◌, refl, sym, ◌∙◌}
use Prim.Native.Nat.{◌≤◌, ◌+◌}
use native.Mathlib.Omega.{arith}
use lib.ListN.{length, get_or}
use borrow.Author.Rules.{rules}
use Rattle.refusal.proofs.FirstLaws.{first-at}
use Rattle.build.specs.Build.{number_fault}
use Rattle.build.proofs.CountLaws.{sum-next, sum-first-none, fair-count, list_hit, list_on, lists-end}
use Rattle.build.proofs.numbers.check_numbers.Goals as goal
use Rattle.build.proofs.numbers.check_numbers.Goals.{In-Some, In-loop-count}

pub loop-count-init : goal.loop-count-init
loop-count-init c = (sum-first-none c.args.counts.now, search rules, λ j h. absurd (omega arith))

-- ---- the list of the turn

room : (c : In-loop-count) → c.loop-count.start + get_or c.args.counts.now c.loop-count.count-index 0 ≤ length c.args.numbers.now
room c = omega (arith, (fair-count c.requires c.loop-count.count-index c.loop-count-test.true).room, c.loop-count.invariant.0)

-- it has a bad number
hit : (c : In-Some) →
    number_fault c.args.n c.args.counts.now (length c.args.counts.now) c.args.numbers.now
    ≡ Some (c.loop-count.start + c.in-Some.k)
hit c =
    let at = c.loop-count in
    list_hit c.args.n c.args.counts.now c.args.numbers.now c.requires at.count-index c.loop-count-test.true at.invariant.0 refl _
    (sym c.first_bad_number.ensures ∙ c.in-Some.is) at.invariant.2

pub overflow_add-result : goal.overflow_add-result
overflow_add-result c = omega (arith, (first-at _ _ _ (hit c)).below)

pub loop-count-preserved : goal.loop-count-preserved
loop-count-preserved c =
    let at = c.loop-count in
    let counts = c.args.counts.now in
    let none = sym c.first_bad_number.ensures ∙ c.in_default.is in (
      omega (arith, sum-next counts at.count-index, at.invariant.0),
      omega (arith, room (goal.at.loop-count-preserved c).In-loop-count),
      list_on c.args.n counts c.args.numbers.now c.requires at.count-index c.loop-count-test.true at.invariant.0 refl none at.invariant.2,
    )

pub returns : goal.returns
returns c =
    let inv = c.loop-count.invariant in
    sym (lists-end _ _ _ c.requires _ _ c.loop-count-test.false (omega arith) inv.0 inv.2)

pub slice_bounds-first_bad_number-end : goal.slice_bounds-first_bad_number-end
slice_bounds-first_bad_number-end c = omega (arith, room (goal.at.slice_bounds-first_bad_number-end c).In-loop-count)

pub returns-in-Some : goal.returns-in-Some
returns-in-Some c = sym (hit c)
