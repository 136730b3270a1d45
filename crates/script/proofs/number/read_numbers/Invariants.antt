-- The invariant: what is left of the field's numbers is left to be put.
use Prim.Native.Nat.{◌-◌}
use lib.ListN.{length, drop}
use Rattle.script.specs.Number.{field_numbers}
use Rattle.script.proofs.ReadsLaws.{Left}
use Rattle.script.proofs.number.read_numbers.Given as goal

abbrev pub invariant-loop-at : goal.invariant-loop-at
invariant-loop-at l = Left (field_numbers l.s) l.initial.out 0 (field_numbers (drop l.at l.s)) l.out l.count

abbrev pub decreases-loop-at : goal.decreases-loop-at
decreases-loop-at l = length l.s - l.at
