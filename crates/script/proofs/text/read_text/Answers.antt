-- A text put from the front on.
use Rattle.script.proofs.ReadsLaws.{reads-counts}
use Rattle.script.proofs.text.read_text.Goals as goal

pub returns-clause-reads : goal.returns-clause-reads
returns-clause-reads c = c.put_text.ensures

pub returns-clause-counts : goal.returns-clause-counts
returns-clause-counts c = reads-counts c.put_text.ensures
