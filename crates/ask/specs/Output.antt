-- Reference 10: what the asking program writes for a question, by what it read of the file.
use Rattle.std.specs.Prelude.{Result, Err}
use Rattle.list.specs.declared.answer.Tally.{Tally}
use Rattle.refusal.specs.declared.Refusal.{Refusal}
use Rattle.std.specs.Prelude.{ℕ, ◌+◌, ◌/◌, cond, List, [], ltb, length}
use Rattle.refusal.specs.declared.Refusal.TheVariants.{IndexLength}
use Rattle.list.specs.Outcome.{Outcome, left_by}
use Rattle.list.specs.Answer.{answer_of, Gives}
use Rattle.index.specs.Check.{check_of}
use Rattle.question.specs.Reading.{asked}
use Rattle.source.specs.Source.{satisfying, of_index}
use Rattle.source.specs.Ask.{question_outcome}
use Rattle.lines.specs.Line.{line_of}

-- Reference 10: the most bytes of a file that are taken as an index
abbrev pub index_most : ℕ
index_most = 65536

-- Reference 10: the check of what was read; of a missing file that is nothing, of one that is too long 65,537 bytes
abbrev pub file_check : List ℕ → Result Unit Refusal
file_check index = cond (ltb index_most (length index)) (Err (IndexLength (index_most + 1))) (check_of index)

-- Reference 10: what comes of a question by the first rule, where so many intervals have room
abbrev pub line_outcome : List ℕ → List ℕ → ℕ → Outcome
line_outcome index question room = question_outcome (file_check index) (asked 1 question) (satisfying (of_index index)) room

-- Reference 8.6: the promise of a line, that of a question by what was read of the file
abbrev pub AnswersLine : List ℕ → List ℕ → List ℕ → List ℕ → Result Tally Refusal → Type 0
AnswersLine index question out out' r = Gives (line_outcome index question (length out / 2)) out out' r

-- Reference 10: a question's line, with room for 8,192 intervals; it shows no cell behind the list, so that those are left out here
abbrev pub question_line : List ℕ → ℕ → List ℕ → List ℕ
question_line index number question = line_of number (answer_of (line_outcome index question 8192)) (left_by (line_outcome index question 8192) [])
