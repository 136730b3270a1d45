-- The lists of a join by their regions, and when one is used up at its reading place.
use Rattle.std.specs.Prelude.{ℕ, ◌+◌, ◌≤◌, ◌<◌, Bool, List, leb, length, get_or, set}
use Rattle.list.specs.declared.Place.{Place}
use Rattle.list.specs.declared.reading.Interval.{Interval}
use Rattle.list.specs.Kept.{start, next_place, lower_at, upper_at}
use Rattle.list.specs.Reading.{Goes}
use Rattle.index.specs.Format.{entry_singles, entry_lowers, entry_uppers}

-- a place of the list of entry i
pub record PlaceIn (index : List ℕ) (i : ℕ) (at : Place) : Type 0 where
  pub single : at.p.0 ≤ length (entry_singles index i)
  pub pair : at.q.0 ≤ length (entry_lowers index i)

-- an interval is next there, its bounds, and the place behind it
abbrev pub GoesIn : List ℕ → ℕ → Place → Type 0
GoesIn index i at = Goes (entry_singles index i) (entry_lowers index i) at

abbrev pub next_lower_in : List ℕ → ℕ → Place → ℕ
next_lower_in index i at = lower_at (entry_singles index i) (entry_lowers index i) at

abbrev pub next_upper_in : List ℕ → ℕ → Place → ℕ
next_upper_in index i at = upper_at (entry_singles index i) (entry_lowers index i) (entry_uppers index i) at

abbrev pub place_behind : List ℕ → ℕ → Place → Place
place_behind index i at = next_place (entry_singles index i) (entry_lowers index i) at

-- in every list of a request an interval is next at its place, and this one in list j
abbrev pub AllGo : List ℕ → List ℕ → List Place → Type 0
AllGo index entries places = (j : ℕ) → j < length entries → GoesIn index (get_or entries j 0) (get_or places j start)

abbrev pub next_at : List ℕ → List ℕ → List Place → ℕ → Interval
next_at index entries places j = record {
  lower = next_lower_in index (get_or entries j 0) (get_or places j start);
  upper = next_upper_in index (get_or entries j 0) (get_or places j start);
}

-- the list of entry i is used up at a place
abbrev pub used_up : List ℕ → ℕ → Place → Bool
used_up index i at = leb (length (entry_singles index i) + length (entry_lowers index i)) (at.p.0 + at.q.0)

-- place j is one of n, and an interval of its list, which has these singles and lower bounds, is next there
abbrev pub CanStep : ℕ → List Place → ℕ → List ℕ → List ℕ → Type 0
CanStep n places j singles lowers = (j < n) × Goes singles lowers (get_or places j start)

-- the places, of which j has moved on
abbrev pub one_on : List Place → ℕ → List ℕ → List ℕ → List Place
one_on places j singles lowers = set places j (next_place singles lowers (get_or places j start))
