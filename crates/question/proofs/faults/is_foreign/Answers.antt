-- The answer is the definition's own tests.
use Rattle.question.specs.Reading.{is_foreign}
use Rattle.question.proofs.faults.is_foreign.Goals as goal

pub returns : goal.returns
unfolding is_foreign
returns c = rw c.word_byte.ensures
