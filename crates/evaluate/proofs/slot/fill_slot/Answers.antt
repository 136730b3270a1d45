-- Where the slot is out for the window, there is nothing to add.
use Rattle.slots.specs.Having.{having}
use Rattle.slots.proofs.RowLaws.{moved_none}
use Rattle.evaluate.proofs.EvalLaws.{added_out}
use Rattle.evaluate.proofs.slot.fill_slot.Goals as goal

pub returns-then-is_out-clause-moved : goal.returns-then-is_out-clause-moved
returns-then-is_out-clause-moved c =
    let a = c.args in
    moved_none a.row.now

pub returns-then-is_out-clause-adds : goal.returns-then-is_out-clause-adds
returns-then-is_out-clause-adds c =
    let a = c.args in
    added_out (having a.over.main.now a.over.arrivals.now a.row.now) a.k c.requires.sensed (c.is_out.ensures c.if-is_out.true)
