use Rattle.std.specs.Prelude.{Some}
use mathlib.Core.Path.{◌≡◌, refl, sym, ap, ◌∙◌}
use Prim.Native.Nat.{◌+◌, ◌/◌}
use native.Mathlib.Omega.{arith}
use lib.ListN.{length}
use Rattle.refusal.proofs.FirstLaws.{first-start, first-hit, first-miss, first-end}
use Rattle.convert.specs.Convert.{bad_interval}
use Rattle.convert.proofs.IntervalLaws.{Tested, bad-interval-cut, bad-interval, good-interval, least-lower-next}
use Rattle.convert.proofs.to_numbers.first_bad_interval.Goals as goal
use Rattle.convert.proofs.to_numbers.first_bad_interval.Goals.{In-loop-i}

pub loop-i-init : goal.loop-i-init
loop-i-init c =
    let cells = c.args.cells.now in
    (refl, first-start (bad_interval cells) ((length cells + 1) / 2))

-- two cells stand there
tested : (c : In-loop-i) → Tested c.args.cells.now c.loop-i.i c.loop-i.least
tested c = record { least-is = c.loop-i.invariant.0; whole = omega arith }

pub returns-then-l-least : goal.returns-then-l-least
returns-then-l-least c =
    let cells = c.args.cells.now in
    let bad = bad-interval (tested (goal.at.returns-then-l-least c).In-loop-i) c.then-l-least.either in
    sym (c.loop-i.invariant.1 ∙ first-hit (bad_interval cells) c.loop-i.i ((length cells + 1) / 2) (omega arith) bad)

pub loop-i-preserved : goal.loop-i-preserved
loop-i-preserved c =
    let cells = c.args.cells.now in
    let i = c.loop-i.i in
    let good = good-interval (tested (goal.at.loop-i-preserved c).In-loop-i) c.if-l-least.false c.if-u-l.false c.if-u-gt-RECORD_MAX.false in
    (sym (least-lower-next cells i), c.loop-i.invariant.1 ∙ first-miss (bad_interval cells) i ((length cells + 1) / 2) (omega arith) good)

pub returns-then-cells-eq1 : goal.returns-then-cells-eq1
returns-then-cells-eq1 c =
    let cells = c.args.cells.now in
    let i = c.loop-i.i in
    let e : i ≡ length cells / 2 = omega arith in
    let bad = bad-interval-cut cells i (omega arith) in
    sym (c.loop-i.invariant.1 ∙ first-hit (bad_interval cells) i ((length cells + 1) / 2) (omega arith) bad ∙ ap Some e)

pub returns : goal.returns
returns c =
    let cells = c.args.cells.now in
    sym (c.loop-i.invariant.1 ∙ first-end (bad_interval cells) c.loop-i.i ((length cells + 1) / 2) (omega arith))
