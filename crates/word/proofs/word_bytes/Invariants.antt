-- What is gathered and what is left are together the answer.
use Rattle.std.proofs.Common.{◌≡◌, ◌&&◌, drop}
use Rattle.word.specs.Word.{all_word_bytes}
use Rattle.word.proofs.word_bytes.Given as goal

abbrev pub invariant-loop-b : goal.invariant-loop-b
invariant-loop-b l = all_word_bytes l.s ≡ l.all && all_word_bytes (drop l.b-index l.s)
