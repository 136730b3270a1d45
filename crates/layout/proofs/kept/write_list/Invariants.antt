-- The invariant: what is to be written into the three regions is what is left to write into them. Rests on the next run, and on one interval (WriteLaws).
use mathlib.Core.Path.{◌≡◌}
use Prim.Native.Nat.{◌≤◌, ◌-◌}
use lib.ListN.{length, drop}
use Rattle.convert.specs.Convert.{intervals_of}
use Rattle.layout.proofs.WriteLaws.{kept_plan, PlacedFor}
use Rattle.layout.proofs.kept.write_list.Given as goal

abbrev pub invariant-loop-i : goal.invariant-loop-i
invariant-loop-i l =
    (l.i ≤ length l.numbers)
    × (length l.out ≡ length l.initial.out)
    × PlacedFor l.at (intervals_of (drop l.i l.numbers)) (length l.initial.out)
    × (kept_plan l.initial.out l.initial.at (intervals_of l.numbers) ≡ kept_plan l.out l.at (intervals_of (drop l.i l.numbers)))

abbrev pub decreases-loop-i : goal.decreases-loop-i
decreases-loop-i l = length l.numbers - l.i
