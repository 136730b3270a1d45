-- Reference 8.5 to 8.9: the promises of the exported calls that write, those of the calls behind them with the answer as numbers.
use Rattle.std.specs.Prelude.{Result}
use Rattle.list.specs.declared.answer.Tally.{Tally}
use Rattle.refusal.specs.declared.Refusal.{Refusal}
use Rattle.std.specs.Prelude.{ℕ, ◌≡◌, List}
use Rattle.convert.specs.Convert.{ToIntervals, ToNumbers}
use Rattle.join.specs.Join.{Joins}
use Rattle.source.specs.Ask.{Asks}
use Rattle.build.specs.Build.{Builds}
use Rattle.naburain.specs.declared.WrittenResult.{WrittenResult}
use Rattle.naburain.specs.declared.AnsweredResult.{AnsweredResult}
use Rattle.naburain.specs.Result.{write_result, answer_result}

-- Reference 8.7
pub record IntervalsExported (numbers out out' : List ℕ) (r : WrittenResult) : Type 0 where
  pub written : Result ℕ Refusal
  pub promise : ToIntervals numbers out out' written
  pub result : r ≡ write_result written

-- Reference 8.8
pub record NumbersExported (cells out out' : List ℕ) (r : WrittenResult) : Type 0 where
  pub written : Result ℕ Refusal
  pub promise : ToNumbers cells out out' written
  pub result : r ≡ write_result written

-- Reference 8.5
pub record JoinExported (method : List (List ℕ) → List ℕ) (index entries out out' : List ℕ) (r : AnsweredResult) : Type 0 where
  pub answer : Result Tally Refusal
  pub promise : Joins method index entries out out' answer
  pub result : r ≡ answer_result answer

-- Reference 8.6
pub record AskExported (rule : ℕ) (index question out out' : List ℕ) (r : AnsweredResult) : Type 0 where
  pub answer : Result Tally Refusal
  pub promise : Asks rule index question out out' answer
  pub result : r ≡ answer_result answer

-- Reference 8.9
pub record BuildExported (n : ℕ) (words counts numbers out out' : List ℕ) (r : WrittenResult) : Type 0 where
  pub written : Result ℕ Refusal
  pub promise : Builds n words counts numbers out out' written
  pub result : r ≡ write_result written
