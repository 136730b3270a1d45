-- The invariant: all words before `start` are passed, and none is bad. Rests on one word of the pass (WordsLaws).
use Prim.Native.Nat.{◌-◌}
use lib.ListN.{length}
use Rattle.build.proofs.WordsLaws.{Passing}
use Rattle.build.proofs.words.check_words.Given as goal

abbrev pub invariant-loop-start : goal.invariant-loop-start
invariant-loop-start l = Passing l.words l.prior l.start l.count

abbrev pub decreases-loop-start : goal.decreases-loop-start
decreases-loop-start l = length l.words - l.start
