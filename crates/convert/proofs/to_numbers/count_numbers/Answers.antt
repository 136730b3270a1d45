use mathlib.Core.Path.{◌∙◌}
use native.Mathlib.Omega.{arith}
use Rattle.limits.specs.Limits.{record_max}
use Rattle.convert.proofs.IntervalLaws.{Pair, good-proper, good-proper-from, proper-pair, pair-rest}
use Rattle.convert.proofs.SpanLaws.{records-pair, records-none, records-small}
use Rattle.convert.proofs.to_numbers.count_numbers.Goals as goal
use Rattle.convert.proofs.to_numbers.count_numbers.Goals.{In-Some}

pub loop-pair-init : goal.loop-pair-init
loop-pair-init c =
    let cells = c.args.cells.now in
    let made = c.chunks_exact-pair-items.ensures in
    rw (c.into_iter-pair-iterator.ensures.into_iter_gives, made.rest)
    (made.size, good-proper-from cells c.requires, omega arith, records-small record_max cells (good-proper cells c.requires))

-- the interval of the turn
next : (c : In-Some) → Pair record_max 0 c.loop-pair.pair-iterator.rest.now c.in-Some.pair.now c.next.new.self.rest.now
next c =
    let steps = c.in-Some.ensures.steps in
    proper-pair c.in-Some.pair.now c.next.new.self.rest.now steps.1.0 (steps.1.1 ∙ c.loop-pair.invariant.0) c.loop-pair.invariant.1

pub loop-pair-preserved : goal.loop-pair-preserved
loop-pair-preserved c =
    let w = next (goal.at.loop-pair-preserved c).In-Some in
    (c.in-Some.ensures.steps.0 ∙ c.loop-pair.invariant.0, pair-rest w, omega (arith, records-pair w), c.loop-pair.invariant.3)

pub returns : goal.returns
returns c =
    let left = c.loop-pair.pair-iterator.rest.now in
    omega (arith, records-none left (omega (arith, c.in-None.ensures.steps, c.loop-pair.invariant.0)))
