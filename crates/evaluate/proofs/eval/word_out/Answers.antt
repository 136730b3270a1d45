-- Where no word stands, or no slot is left for one, it is not said to be out.
use mathlib.Core.Path.{sym}
use Rattle.laws.proofs.Tests.{true-false}
use Rattle.evaluate.proofs.eval.word_out.Goals as goal

pub returns-then-not-word_at-clause-word : goal.returns-then-not-word_at-clause-word
returns-then-not-word_at-clause-word g c = λ e. true-false (sym e)

pub returns-then-not-word_at-clause-slot : goal.returns-then-not-word_at-clause-slot
returns-then-not-word_at-clause-slot g c = λ e. true-false (sym e)

pub returns-then-not-word_at-clause-out : goal.returns-then-not-word_at-clause-out
returns-then-not-word_at-clause-out g c = λ e. true-false (sym e)

pub returns-then-k-ge-QUESTION_WORDS_MAX-clause-word : goal.returns-then-k-ge-QUESTION_WORDS_MAX-clause-word
returns-then-k-ge-QUESTION_WORDS_MAX-clause-word g c = λ e. true-false (sym e)

pub returns-then-k-ge-QUESTION_WORDS_MAX-clause-slot : goal.returns-then-k-ge-QUESTION_WORDS_MAX-clause-slot
returns-then-k-ge-QUESTION_WORDS_MAX-clause-slot g c = λ e. true-false (sym e)

pub returns-then-k-ge-QUESTION_WORDS_MAX-clause-out : goal.returns-then-k-ge-QUESTION_WORDS_MAX-clause-out
returns-then-k-ge-QUESTION_WORDS_MAX-clause-out g c = λ e. true-false (sym e)
