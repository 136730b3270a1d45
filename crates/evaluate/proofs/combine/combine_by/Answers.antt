use mathlib.Core.Path.{◌≡◌}
use native.Mathlib.Omega.{arith}
use lib.ListN.{length}
use Rattle.window.proofs.CombineLaws.{upto-combined}
use Rattle.evaluate.proofs.combine.combine_by.Goals as goal

pub returns : goal.returns
returns c =
    let l = c.loop-i in
    let e : l.i ≡ length c.args.ws.now = omega arith in upto-combined (rw e at l.invariant)
