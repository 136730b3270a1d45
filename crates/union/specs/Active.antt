-- Reference 3.3: an active interval, which the next one joins, or which is put where the next one lies apart.
use Rattle.std.specs.Prelude.{max, ◌+◌, ◌≡◌, Bool, cond, ltb}
use Rattle.list.specs.declared.reading.Interval.{Interval}

-- whether the next interval lies apart from the active one: intervals that touch are one
abbrev pub is_apart : Interval → Interval → Bool
is_apart active next = ltb (active.upper + 1) next.lower

-- the active interval behind the next one
pub record Joined (active next r : Interval) : Type 0 where
  pub lower-on : r.lower ≡ cond (is_apart active next) next.lower active.lower
  pub upper-on : r.upper ≡ max active.upper next.upper
