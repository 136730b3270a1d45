-- The file is checked, and good.
use Rattle.std.proofs.Common.{sym, ◌∙◌}
use Rattle.ask.proofs.OutputLaws.{file-sound}
use Rattle.ask.proofs.answer.answer_line.Goals as goal

pub answer_question-requires : goal.answer_question-requires
answer_question-requires c = file-sound _ (sym c.requires ∙ c.in_ok-checked.was)
