-- Reference 11, demand 3: the cells that two questions write that are asked of the same, and the exchange of a part in brackets. What they are asked
-- of is sound where its check says so.
use Rattle.std.specs.Prelude.{ℕ, ◌*◌, ◌/◌, ◌≤◌, ◌≡◌, List, [], length, take, Result, Ok, Err}
use Rattle.refusal.specs.declared.Refusal.{Refusal}
use Rattle.refusal.specs.Refusal.{number_of}
use Rattle.list.specs.Front.{in_front}
use Rattle.list.specs.declared.answer.Tally.{Tally}
use Rattle.question.specs.Grammar.{Tree}
use Rattle.question.specs.Meaning.{satisfies}
use Rattle.question.specs.Reading.{Parsed, parses, asked}
use Rattle.question.specs.Limits.{WithinLimits}
use Rattle.question.specs.Exchange.{around, Matched}
use Rattle.source.specs.Source.{Source, satisfying}
use Rattle.source.specs.Ask.{Lists}

-- Reference 11, demand 3: the cells that are compared
abbrev pub written : Tally → List ℕ → List ℕ
written tally out = take (2 * tally.intervals) out

-- Reference 8.6: a call that keeps the promise; over what is sound it accepted the question, whose tree is t, found room in the cells lent,
-- answered with the tally, and left the cells as out'
pub record Answered (check : Result Unit Refusal) (a : Parsed) (s : Source) (t : Tree) (out out' : List ℕ) (tally : Tally) : Type 0 where
  pub sound : check ≡ Ok tt
  pub words : ℕ
  pub accepted : a ≡ parses t words
  pub promise : Lists check a (satisfying s) out out' (Ok tally)

-- Reference 11, demand 3: every record satisfies both questions or neither
abbrev pub SameRecords : Source → Tree → Tree → Type 0
SameRecords s t u = (x : ℕ) → 1 ≤ x → x ≤ s.highest → satisfies s.has t x ≡ satisfies s.has u x

-- ---- the exchange of a part in brackets: Reference 11, demand 3

-- Reference 11, demand 3: the question `before ( a ) behind` is accepted over what is sound; a and b are accepted by themselves, and the same
-- records satisfy them; `before ( b ) behind` is within the limits
pub record Exchanging (check : Result Unit Refusal) (rule : ℕ) (s : Source) (before a b behind : List ℕ) : Type 0 where
  pub sound : check ≡ Ok tt
  pub tree : Tree
  pub words : ℕ
  pub accepted : asked rule (around before a behind) ≡ parses tree words
  pub tree-a : Tree
  pub words-a : ℕ
  pub a-accepted : asked rule a ≡ parses tree-a words-a
  pub tree-b : Tree
  pub words-b : ℕ
  pub b-accepted : asked rule b ≡ parses tree-b words-b
  pub same : SameRecords s tree-a tree-b
  pub within : WithinLimits (around before b behind)

-- Reference 11, demand 3: the same, where of a no more is asked than that the brackets around it are a pair
pub record ExchangingPair (check : Result Unit Refusal) (rule : ℕ) (s : Source) (before a b behind : List ℕ) : Type 0 where
  pub sound : check ≡ Ok tt
  pub tree : Tree
  pub words : ℕ
  pub accepted : asked rule (around before a behind) ≡ parses tree words
  pub matched : Matched a
  pub tree-b : Tree
  pub words-b : ℕ
  pub b-accepted : asked rule b ≡ parses tree-b words-b
  pub same : (t : Tree) (n : ℕ) → asked rule a ≡ parses t n → SameRecords s t tree-b
  pub within : WithinLimits (around before b behind)

-- Reference 7: the cells that a call writes, none where it refuses
abbrev pub written_by : Result Tally Refusal → List ℕ → List ℕ
written_by (Ok tally) out = written tally out
written_by (Err x) out = []

-- Reference 7: they stand in front, and what is behind them is as it was
abbrev pub OnlyWritten : Result Tally Refusal → List ℕ → List ℕ → Type 0
OnlyWritten r out out' = out' ≡ in_front (written_by r out') out

-- Reference 9.2: a list, or 12
abbrev pub ListOrRoom : Result Tally Refusal → Type 0
ListOrRoom (Ok tally) = Unit {0}
ListOrRoom (Err x) = number_of x ≡ 12

-- Reference 11, demand 3: the second question is accepted too, both calls answer the same, and they write the same cells and no others
pub record SameAnswers (rule : ℕ) (second out out' other other' : List ℕ) (r r' : Result Tally Refusal) : Type 0 where
  pub tree : Tree
  pub words : ℕ
  pub accepted : asked rule second ≡ parses tree words
  pub list-or-room : ListOrRoom r
  pub answers : r ≡ r'
  pub cells : written_by r out' ≡ written_by r' other'
  pub first-only : OnlyWritten r out out'
  pub second-only : OnlyWritten r' other other'

-- Reference 11, demand 3: so it is of any two calls that keep the promise, the first question's and the second's, with as much room
abbrev pub CallsAgree : Result Unit Refusal → ℕ → Source → List ℕ → List ℕ → Type 0
CallsAgree check rule s first second =
    (out out' other other' : List ℕ) (r r' : Result Tally Refusal) → length out / 2 ≡ length other / 2 → Lists check (asked rule first) (satisfying s) out out' r →
    Lists check (asked rule second) (satisfying s) other other' r' →
    SameAnswers rule second out out' other other' r r'
