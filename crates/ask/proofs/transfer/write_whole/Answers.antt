-- A write that is gone on from took the next bytes.
use Rattle.std.proofs.Common.{◌-◌, ◌≤◌, length, drop, arith, length-take}
use Rattle.ask.proofs.TransferLaws.{Appends-on}
use Rattle.ask.proofs.transfer.write_whole.Goals as goal

pub loop-done-preserved : goal.loop-done-preserved
loop-done-preserved g c =
    let done = c.loop-done.done in
    let xs = c.args.bytes.now in
    let most = length-take (length xs - done) (drop done xs) in
    let fits : c.in_ok-taken.taken ≤ length xs - done = omega (arith, c.in_ok-taken.ensures.counts.0) in
    record {
      within = omega arith;
      written = Appends-on _ _ _ _ _ _ c.loop-done.invariant.written fits c.in_ok-taken.ensures.writes;
    }
