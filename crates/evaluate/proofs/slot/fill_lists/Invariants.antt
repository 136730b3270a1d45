-- The window has what the first n lists have; a list that is filled moves hints alone, so that the ranges stay the slot's.
use Rattle.slots.specs.Row.{HintsMoved}
use Rattle.slots.proofs.EntriesLaws.{in_lists}
use Rattle.fill.specs.Added.{Added}
use Rattle.evaluate.proofs.slot.fill_lists.Given as goal

abbrev pub invariant-loop-n : goal.invariant-loop-n
invariant-loop-n l =
    HintsMoved l.initial.row l.row × Added (in_lists l.over.main.now l.over.arrivals.now l.initial.row.ranges l.k l.n) l.base l.initial.ws l.ws
