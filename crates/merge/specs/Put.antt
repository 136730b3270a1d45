-- One interval more of a join: counted, and written where the list is.
use Rattle.std.specs.Prelude.{ℕ, ◌+◌, ◌-◌, ◌*◌, ◌≤◌, ◌≡◌, Bool, true, false, cond, List, length, set}
use Rattle.limits.specs.Limits.{record_max}
use Rattle.list.specs.declared.answer.Tally.{Tally}
use Rattle.list.specs.declared.reading.Interval.{Interval}

-- an interval can be counted, and where the list is written it has room
pub record Fitting (writing : Bool) (out : List ℕ) (t : Tally) (i : Interval) : Type 0 where
  pub room : writing ≡ true → 2 * t.intervals + 2 ≤ length out
  pub few : t.intervals ≤ record_max
  pub small : t.records ≤ record_max
  pub order : i.lower ≤ i.upper
  pub high : i.upper ≤ record_max

-- it is counted, and written where the list is
pub record Put (writing : Bool) (out out' : List ℕ) (t : Tally) (i : Interval) (r : Tally) : Type 0 where
  pub intervals-more : r.intervals ≡ t.intervals + 1
  pub records-more : r.records ≡ t.records + (i.upper + 1 - i.lower)
  pub cells : out' ≡ cond writing (set (set out (2 * t.intervals) i.lower) (2 * t.intervals + 1) i.upper) out

-- it is put where a test holds, and else all stays as it was
abbrev pub PutWhere : Bool → Bool → List ℕ → List ℕ → Tally → Interval → Tally → Type 0
PutWhere test writing out out' t i r = (test ≡ true → Put writing out out' t i r) × (test ≡ false → (r ≡ t) × (out' ≡ out))

-- the stretch that ends before x
abbrev pub up_to : ℕ → ℕ → Interval
up_to lower x = record { lower = lower; upper = x - 1 }
