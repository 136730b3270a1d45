-- Three fields, one behind the other.
use Rattle.lines.proofs.PutLaws.{puts_then}
use Rattle.lines.proofs.line.put_head.Goals as goal
use Rattle.lines.proofs.line.put_head.Goals.{After-put_number-behind_number, Start}

pub returns : goal.returns
returns c = puts_then (puts_then c.put_number-behind_number.ensures c.put_field-behind_refusal.ensures) c.put_field.ensures
