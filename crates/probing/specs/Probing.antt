-- Reference 3.3: the method of probing, by which each interval of the shortest list is cut down to the numbers that stand in every list.
use Rattle.std.specs.Prelude.{ℕ, ◌+◌, ◌-◌, ◌*◌, ◌≤◌, ◌<◌, ◌≡◌, Bool, true, false, not, cond, ◌&&◌, Option, is_some, List, length, get_or}
use Rattle.std.proofs.lemmas.List.Edits.{sets}
use Rattle.limits.specs.Limits.{record_max}
use Rattle.list.specs.declared.answer.Tally.{Tally}
use Rattle.list.specs.declared.reading.Interval.{Interval}
use Rattle.list.specs.Interval.{names, intervals, records}
use Rattle.list.specs.Stretches.{stretches}
use Rattle.index.specs.Format.{list_of}
use Rattle.merge.specs.Every.{in_all}
use Rattle.merge.specs.Request.{SoundRequest}

-- list j of the request has no more intervals than any other
pub record Shortest (index entries : List ℕ) (j : ℕ) : Type 0 where
  pub inside : j < length entries
  pub least : (i : ℕ) → i < length entries → intervals (list_of index (get_or entries j 0)) ≤ intervals (list_of index (get_or entries i 0))

-- the proper list of the numbers from a to b at which the test holds
unfoldable pub cells_between : (ℕ → Bool) → ℕ → ℕ → List ℕ
cells_between test a b = stretches test false a (b + 1 - a)

-- the cells c can be counted, and where the list is written they have room, behind what is counted
pub record PiecesFit (writing : Bool) (out : List ℕ) (t : Tally) (c : List ℕ) : Type 0 where
  pub room : writing ≡ true → 2 * t.intervals + length c ≤ length out
  pub intervals-small : t.intervals + intervals c ≤ record_max
  pub records-small : t.records + records c ≤ record_max

-- they are counted, and written where the list is
pub record PiecesPut (writing : Bool) (out out' : List ℕ) (t : Tally) (c : List ℕ) (r : Tally) : Type 0 where
  pub intervals-more : r.intervals ≡ t.intervals + intervals c
  pub records-more : r.records ≡ t.records + records c
  pub cells : out' ≡ cond writing (sets out (2 * t.intervals) c) out

-- what of an interval stands in every list
abbrev pub pieces_in : List ℕ → List ℕ → Interval → List ℕ
pieces_in index entries i = cells_between (in_all index entries) i.lower i.upper

-- [a, b] stands in list j of the request
pub record StandsIn (index entries : List ℕ) (j a b : ℕ) : Type 0 where
  pub asked : SoundRequest index entries
  pub list : j < length entries
  pub high : b ≤ record_max
  pub covers : (y : ℕ) → a ≤ y → y ≤ b → names (list_of index (get_or entries j 0)) y ≡ true

-- a piece of the intersection that is open where x comes is known by its lower bound, and ends before x, unless x is in
abbrev pub closes : Option ℕ → Bool → Bool
closes piece inside = is_some piece && not inside
