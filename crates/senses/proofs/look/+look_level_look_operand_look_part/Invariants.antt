-- The measure is the brackets that may still open; in the loop, what is left of the codes.
use Prim.Native.Nat.{◌+◌, ◌-◌, ◌*◌, ◌≤◌}
use mathlib.Core.List.{map}
use lib.ListN.{length}
use Rattle.senses.specs.Look.{Tells}
use Rattle.codes.proofs.ReadsLaws.{Level}
use Rattle.senses.proofs.look.+look_level_look_operand_look_part.Given as goal

abbrev pub decreases-look_level : goal.decreases-look_level
decreases-look_level g l = 3 * l.d + 2

abbrev pub decreases-look_operand : goal.decreases-look_operand
decreases-look_operand g l = 3 * l.d + 1

abbrev pub decreases-look_part : goal.decreases-look_part
decreases-look_part g l = 3 * l.d

abbrev pub invariant-look_level-loop-op : goal.invariant-look_level-loop-op
invariant-look_level-loop-op g l =
    (l.i ≤ l.at) × (l.at ≤ length l.codes) × Level (map g.C.AsCode.code l.codes) l.d l.k l.i l.at l.slot (Tells l.row.senses l.k l.inside l.until)

abbrev pub decreases-look_level-loop-op : goal.decreases-look_level-loop-op
decreases-look_level-loop-op g l = length l.codes - l.at
