-- The measure is the brackets that may still open; in the loop, what is left of the codes. A level's loop groups from the left what the window holds so far.
use Prim.Native.Nat.{◌+◌, ◌-◌, ◌*◌, ◌≤◌}
use mathlib.Core.Path.{◌≡◌}
use mathlib.Core.List.{map}
use lib.ListN.{length}
use Rattle.window.specs.Window.{Holds}
use Rattle.slots.specs.Slots.{slot_satisfies}
use Rattle.slots.specs.Row.{HintsMoved}
use Rattle.slots.specs.Having.{having}
use Rattle.codes.proofs.ReadsLaws.{Level}
use Rattle.evaluate.proofs.eval.+eval_level_eval_operand_eval_part.Given as goal

abbrev pub decreases-eval_level : goal.decreases-eval_level
decreases-eval_level g l = 3 * l.d + 2

abbrev pub decreases-eval_operand : goal.decreases-eval_operand
decreases-eval_operand g l = 3 * l.d + 1

abbrev pub decreases-eval_part : goal.decreases-eval_part
decreases-eval_part g l = 3 * l.d

abbrev pub invariant-eval_level-loop-op : goal.invariant-eval_level-loop-op
invariant-eval_level-loop-op g l =
    (l.fn.at.code ≤ l.next.code) × (l.next.code ≤ length l.codes) × HintsMoved l.initial.row l.row × (length l.ws ≡ length l.initial.ws)
    × Level (map g.C.AsCode.code l.codes) l.d l.fn.at.slot l.fn.at.code l.next.code l.next.slot (λ t. Holds (slot_satisfies (having l.over.main.now l.over.arrivals.now l.initial.row) t l.fn.at.slot) l.base l.ws)

abbrev pub decreases-eval_level-loop-op : goal.decreases-eval_level-loop-op
decreases-eval_level-loop-op g l = length l.codes - l.next.code
