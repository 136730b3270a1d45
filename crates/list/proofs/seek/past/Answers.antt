-- One comparison tells, and behind the last number none is needed.
use Prim.Native.Nat.{◌≤◌}
use mathlib.Core.Path.{sym}
use native.Mathlib.Omega.{arith}
use borrow.Author.Tests.{le-ltb}
use Rattle.list.specs.Cell.{numbers_in}
use Rattle.list.specs.Seek.{count_below}
use Rattle.list.proofs.SeekLaws.{region-past, region-within}
use Rattle.list.proofs.seek.past.Goals as goal

pub returns-then-i-region : goal.returns-then-i-region
returns-then-i-region c =
    let a = c.args in
    region-past a.region.now a.x a.i _ c.requires (omega arith) c.number_at.ensures

pub returns-else-i-region : goal.returns-else-i-region
returns-else-i-region c =
    let a = c.args in
    let most = region-within a.region.now a.x in
    let over : count_below a.x (numbers_in a.region.now) ≤ a.i = omega arith in
    sym (le-ltb a.i (count_below a.x (numbers_in a.region.now)) over)
