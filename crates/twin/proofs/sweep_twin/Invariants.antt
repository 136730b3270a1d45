-- Each turn is one of the laws; the least key in the heap rises with each.
use Prim.Native.Nat.{◌-◌}
use mathlib.Core.Path.{◌≡◌}
use lib.ListN.{length, get_or}
use Rattle.twin.specs.Twin.{AllLowers}
use Rattle.twin.proofs.TwinLaws.{Turning}
use Rattle.twin.proofs.sweep_twin.Given as goal

abbrev pub invariant-loop-places : goal.invariant-loop-places
invariant-loop-places l =
    Turning l.index l.entries l.writing l.initial.out l.out l.places l.uppers.cells l.tally × AllLowers l.index l.entries l.places l.lowers.size l.lowers.cells × (l.uppers.size ≡ length l.entries)

abbrev pub decreases-loop-places : goal.decreases-loop-places
decreases-loop-places l = 268435456 - get_or l.uppers.cells 0 0
