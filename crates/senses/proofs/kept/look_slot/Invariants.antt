-- The halves before this one are out; a look at one moves hints alone, so that the range of the next is still the slot's.
use mathlib.Core.Bool.{false}
use Rattle.list.specs.Sense.{Steady}
use Rattle.slots.specs.Row.{HintsMoved}
use Rattle.senses.proofs.RangeSenses.{in_halves}
use Rattle.senses.proofs.kept.look_slot.Given as goal

abbrev pub invariant-loop-half : goal.invariant-loop-half
invariant-loop-half l = HintsMoved l.initial.row l.row × Steady (in_halves l.over.main.now l.over.arrivals.now l.initial.row l.k l.half) l.x false l.out
