-- The space, and the numeral behind it.
use Rattle.lines.proofs.PutLaws.{puts_then, puts-byte}
use Rattle.lines.proofs.put.put_field.Goals as goal

pub returns : goal.returns
returns c =
    let a = c.args in
    puts_then (puts-byte a.out.now a.at 32) c.put_number.ensures
