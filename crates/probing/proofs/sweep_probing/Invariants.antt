-- Interval by interval of the shortest list.
use Prim.Native.Nat.{◌+◌}
use mathlib.Core.Path.{◌≡◌}
use lib.ListN.{length, get_or}
use Rattle.index.specs.Format.{entry_singles, entry_lowers}
use Rattle.probing.proofs.GoingLaws.{Going}
use Rattle.probing.proofs.sweep_probing.Given as goal

abbrev pub invariant-loop : goal.invariant-loop
invariant-loop l =
    (l.count ≡ length (entry_singles l.index (get_or l.entries l.j 0)) + length (entry_lowers l.index (get_or l.entries l.j 0)))
    × Going l.index l.entries (get_or l.entries l.j 0) l.writing l.initial.out l.out l.tally l.at l.counter
