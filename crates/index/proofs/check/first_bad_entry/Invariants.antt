-- The invariant: the entries passed are good, and add up to the sums at hand.
use Rattle.index.proofs.GoingLaws.{Going}
use Rattle.index.proofs.check.first_bad_entry.Given as goal

abbrev pub invariant-loop-i : goal.invariant-loop-i
invariant-loop-i l = Going l.index l.prior l.words l.lists l.i
