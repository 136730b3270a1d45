-- The readers call each other. The measure is twice the bytes left, and one more for a question, whose first operand starts where it does.
use Prim.Native.Nat.{◌+◌, ◌-◌, ◌*◌}
use lib.ListN.{length}
use Rattle.std.proofs.Common.{length, ◌+◌, ◌-◌, ◌*◌}
use Rattle.question.proofs.reader.+links_operand_question.Given as goal

abbrev pub decreases-links : goal.decreases-links
decreases-links l = 2 * (length l.s.now - l.at)

abbrev pub decreases-operand : goal.decreases-operand
decreases-operand l = 2 * (length l.s.now - l.at)

abbrev pub decreases-question : goal.decreases-question
decreases-question l = 2 * (length l.s.now - l.at) + 1
