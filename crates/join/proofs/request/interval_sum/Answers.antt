use native.Mathlib.Omega.{arith}
use Rattle.join.proofs.JoinBound.{sum-next, sum-end}
use Rattle.join.proofs.request.interval_sum.Goals as goal

pub loop-entry-preserved : goal.loop-entry-preserved
loop-entry-preserved c =
    let n = sum-next c.args.index.now c.args.entries.now c.loop-entry.entry-index c.loop-entry-test.true in
    (omega arith, omega arith)

pub returns-clause-sum : goal.returns-clause-sum
returns-clause-sum c =
    let n = sum-end c.args.index.now c.args.entries.now c.loop-entry.entry-index (omega arith) in
    omega arith
