-- The two ranges of the slot, one in each index.
use Rattle.slots.proofs.RowLaws.{main-among}
use Rattle.slots.specs.Bound.{slot_intervals}
use borrow.Author.Rules.{rules}
use Rattle.slots.proofs.bound.slot_intervals.Goals as goal

pub entries_sum-of_main-requires-clause-within : goal.entries_sum-of_main-requires-clause-within
entries_sum-of_main-requires-clause-within c = (main-among c.requires.read c.args.k).within

pub returns-clause-is : goal.returns-clause-is
unfolding slot_intervals
returns-clause-is c = search rules
