-- The invariant: what is to be stored from cell 0 is what is left to store from cell k.
use mathlib.Core.Path.{◌≡◌}
use Prim.Native.Nat.{◌≤◌, ◌-◌, ◌+◌}
use lib.ListN.{length, drop}
use lib.Seq.{sets}
use Rattle.convert.specs.Convert.{intervals_of}
use Rattle.convert.proofs.to_intervals.write_intervals.Given as goal

abbrev pub invariant-loop-i : goal.invariant-loop-i
invariant-loop-i l =
    (l.i ≤ length l.numbers)
    × (length l.out ≡ length l.initial.out)
    × (l.k + length (intervals_of (drop l.i l.numbers)) ≤ length l.out)
    × (sets l.initial.out 0 (intervals_of l.numbers) ≡ sets l.out l.k (intervals_of (drop l.i l.numbers)))

abbrev pub decreases-loop-i : goal.decreases-loop-i
decreases-loop-i l = length l.numbers - l.i
