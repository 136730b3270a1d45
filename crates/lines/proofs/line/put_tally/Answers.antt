-- Two fields and the intervals, one behind the other.
use Rattle.lines.proofs.PutLaws.{puts_then}
use Rattle.lines.proofs.line.put_tally.Goals as goal
use Rattle.lines.proofs.line.put_tally.Goals.{Start}

pub returns : goal.returns
returns c = puts_then (puts_then c.put_field-behind_intervals.ensures c.put_field-behind_records.ensures) c.put_intervals.ensures
