-- What is pending is put piece by piece.
use Prim.Native.Nat.{◌+◌, ◌-◌}
use Rattle.merge.specs.Every.{in_all}
use Rattle.probing.proofs.ProbingLaws.{Cut}
use Rattle.probing.proofs.put_within.Given as goal

abbrev pub invariant-loop-x : goal.invariant-loop-x
invariant-loop-x l =
    Cut (in_all l.index l.entries) l.initial.x l.b l.writing l.initial.out l.initial.tally l.out l.tally l.piece l.x

abbrev pub decreases-loop-x : goal.decreases-loop-x
decreases-loop-x l = l.b + 1 - l.x
