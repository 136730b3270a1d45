-- Reference 8.6 and 9.2: what a call that takes a question answers, and what it writes.
use Rattle.std.specs.Prelude.{ℕ, ◌/◌, List, length, Result, Ok, Err}
use Rattle.refusal.specs.declared.Refusal.{Refusal}
use Rattle.list.specs.declared.answer.Tally.{Tally}
use Rattle.list.specs.Outcome.{Outcome, refused}
use Rattle.list.specs.Answer.{in_room, Gives}
use Rattle.index.specs.Check.{check_of}
use Rattle.question.specs.Grammar.{Tree}
use Rattle.question.specs.Reading.{Parsed, parses, refuses, asked}
use Rattle.source.specs.Source.{satisfying, of_index}

-- Reference 9.2: the order of the refusals of a call that takes a question: what it is asked of is checked, then the rule and the question are read, then
-- the list of the question's tree has room
abbrev pub question_outcome : Result Unit Refusal → Parsed → (Tree → List ℕ) → ℕ → Outcome
-- 1 to 5
question_outcome (Err r) a list room = refused r
-- 22, then 6 to 11
question_outcome (Ok tt) (refuses r) list room = refused r
-- 12, or the list
question_outcome (Ok tt) (parses t k) list room = in_room room (list t)

-- Reference 8.6: the promise of such a call, by what is checked, what is asked and what is listed
abbrev pub Lists : Result Unit Refusal → Parsed → (Tree → List ℕ) → List ℕ → List ℕ → Result Tally Refusal → Type 0
Lists check a list out out' r = Gives (question_outcome check a list (length out / 2)) out out' r

-- Reference 8.6: over any bytes
abbrev pub Asks : ℕ → List ℕ → List ℕ → List ℕ → List ℕ → Result Tally Refusal → Type 0
Asks rule index question out out' r = Lists (check_of index) (asked rule question) (satisfying (of_index index)) out out' r

-- Reference 8.10: over an index that is sound already
abbrev pub Answers : ℕ → List ℕ → List ℕ → List ℕ → List ℕ → Result Tally Refusal → Type 0
Answers rule index question out out' r = Lists (Ok tt) (asked rule question) (satisfying (of_index index)) out out' r
