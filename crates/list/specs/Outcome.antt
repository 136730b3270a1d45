-- What comes of a call that is lent cells or bytes to write.
use Rattle.std.specs.Prelude.{ℕ, List, Result, Ok, Err}
use Rattle.refusal.specs.declared.Refusal.{Refusal}
use Rattle.list.specs.Front.{in_front}

-- Reference 7: what the call writes, or the first refusal that holds
pub data Outcome : Type 0 where
  writes : List ℕ → Outcome
  refused : Refusal → Outcome

-- Reference 7: what is written stands in front, and the rest stays; a refused call changes nothing
abbrev pub left_by : Outcome → List ℕ → List ℕ
left_by (writes c) out = in_front c out
left_by (refused r) out = out

-- Reference 7: what a conversion and a build answer, n where they write
abbrev pub written_of : ℕ → Outcome → Result ℕ Refusal
written_of n (writes c) = Ok n
written_of n (refused r) = Err r
