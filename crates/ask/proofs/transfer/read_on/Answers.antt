-- What the tail takes leaves the bytes before it.
use Rattle.std.proofs.Common.{rules}
use Rattle.ask.proofs.TransferLaws.{tail-read}
use Rattle.ask.proofs.transfer.read_on.Goals as goal

pub returns-clause-on : goal.returns-clause-on
returns-clause-on g c = tail-read _ _ c.read_some.new.bytes _ c.requires (search rules) c.read_some.ensures.counts.0
