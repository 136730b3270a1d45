-- What a join and a question answer, and what they leave in the cells that are lent. Reference 7.
use Rattle.std.specs.Prelude.{ℕ, ◌≡◌, cond, List, leb, Result, Ok, Err}
use Rattle.refusal.specs.declared.Refusal.{Refusal}
use Rattle.refusal.specs.declared.Refusal.TheVariants.{Room}
use Rattle.list.specs.declared.answer.Tally.{Tally}
use Rattle.list.specs.Interval.{intervals, records}
use Rattle.list.specs.Outcome.{Outcome, writes, refused, left_by}

-- Reference 7: what is reported of the list c
abbrev pub tally_of : List ℕ → Tally
tally_of c = record { intervals = intervals c; records = records c }

-- Reference 9.1, row 12: the list c, or with too little room what the whole list needs
abbrev pub in_room : ℕ → List ℕ → Outcome
in_room room c = cond (leb (intervals c) room) (writes c) (refused (Room (intervals c)))

-- Reference 7: what is answered
abbrev pub answer_of : Outcome → Result Tally Refusal
answer_of (writes c) = Ok (tally_of c)
answer_of (refused r) = Err r

-- Reference 7: the promise of a call of which o comes
pub record Gives (o : Outcome) (out out' : List ℕ) (r : Result Tally Refusal) : Type 0 where
  pub answer : r ≡ answer_of o
  pub cells : out' ≡ left_by o out
