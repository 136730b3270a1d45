-- One run of ascending numbers, as the passes that write lists from numbers take it.
use Rattle.std.specs.Prelude.{ℕ, ◌+◌, ◌-◌, ◌≤◌, ◌≡◌, List, ◌∷◌, length, drop}
use Rattle.convert.specs.declared.runs.Run.{Run}
use Rattle.convert.specs.Convert.{intervals_of}

-- Reference 8.7: the first interval of the numbers from place i on; those behind it make the rest
pub record RunAt (xs : List ℕ) (i : ℕ) (r : Run) : Type 0 where
  pub cells : intervals_of (drop i xs) ≡ r.lower ∷ r.upper ∷ intervals_of (drop r.next xs)
  pub forward : r.lower ≤ r.upper
  pub width : r.next ≡ i + (r.upper + 1 - r.lower)
  pub within : r.next ≤ length xs
