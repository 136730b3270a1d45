use Rattle.std.proofs.Common.{arith}
use Rattle.merge.proofs.DueLaws.{interval-is}
use Rattle.merge.proofs.KeysLaws.{heaped-more}
use Rattle.merge.proofs.keys.push_each.Goals as goal

pub loop-j-preserved : goal.loop-j-preserved
loop-j-preserved g c =
    let inv = c.loop-j.invariant in
    let pushed = c.push.ensures in (
      heaped-more inv.0 (rw (interval-is c.next_interval-next.ensures.lower c.next_interval-next.ensures.upper) c.number.ensures) (rw inv.1 at pushed.pushes),
      omega (arith, inv.1, pushed.more),
    )
