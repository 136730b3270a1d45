-- By the laws of the scan line; the measure is how many bounds are left: two for each interval, but for those of the lists that are in one.
use Prim.Native.Nat.{◌+◌, ◌-◌, ◌*◌}
use Rattle.merge.proofs.DueLaws.{left_sum}
use Rattle.union.proofs.ScanLaws.{Scan}
use Rattle.union.proofs.scan.sweep_scan.Given as goal

abbrev pub invariant-loop-keys : goal.invariant-loop-keys
invariant-loop-keys l = Scan l.index l.entries l.writing l.initial.out l.out l.keys.cells l.keys.size l.places l.tally l.count l.lower

abbrev pub decreases-loop-keys : goal.decreases-loop-keys
decreases-loop-keys l = 2 * left_sum l.index l.entries l.places + (16 - l.count)
