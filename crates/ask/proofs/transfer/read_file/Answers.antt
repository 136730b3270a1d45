-- A read that is gone on from counts bytes within the buffer, the next that there were.
use Rattle.ask.proofs.TransferLaws.{Consumes-on}
use Rattle.ask.proofs.transfer.read_file.Goals as goal

pub loop-done-preserved : goal.loop-done-preserved
loop-done-preserved g c = record {
  within = c.in_ok-more.ensures.on.within;
  read = Consumes-on _ _ _ _ _ _ _ c.loop-done.invariant.read c.in_ok-more.ensures.on.kept c.in_ok-more.ensures.reads.0;
}
