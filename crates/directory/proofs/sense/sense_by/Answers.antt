-- The regions that were found are those of the entry.
use Rattle.directory.proofs.EntryLaws.{regions-list}
use Rattle.directory.proofs.sense.sense_by.Goals as goal

pub returns-clause-steady : goal.returns-clause-steady
returns-clause-steady c = λ i found. let k = c.kept_in-kept.ensures in rw (k.singles, k.lower, k.upper, regions-list found) at c.sense_at.ensures
