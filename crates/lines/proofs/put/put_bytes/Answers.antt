use Rattle.lines.proofs.PutLaws.{puts-part}
use Rattle.lines.proofs.put.put_bytes.Goals as goal

pub returns : goal.returns
returns c = puts-part c.args.out.now c.args.at c.args.text.now _ c.requires c.copy_from_slice.ensures.after
