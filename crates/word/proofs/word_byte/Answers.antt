-- The answer is the definition's own tests.
use Rattle.word.specs.Word.{is_word_byte}
use borrow.Author.Rules.{rules}
use Rattle.word.proofs.word_byte.Goals as goal

pub returns : goal.returns
unfolding is_word_byte
returns c = search rules
