-- The lower bound, the dash and the upper bound, one behind the other.
use Rattle.lines.proofs.PutLaws.{puts_then, puts-byte}
use Rattle.lines.proofs.put.put_interval.Goals as goal
use Rattle.lines.proofs.put.put_interval.Goals.{After-put_field-dash, Start}

pub returns : goal.returns
returns c = puts_then (puts_then c.put_field-dash.ensures (puts-byte _ c.put_field-dash.result 45)) c.put_number.ensures
