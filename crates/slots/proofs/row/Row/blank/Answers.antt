use Rattle.slots.specs.Row.{no_entries}
use Rattle.slots.proofs.RowLaws.{all-at}
use Rattle.slots.proofs.row.Row.blank.Goals as goal

pub returns : goal.returns
returns c = all-at no_entries 32
