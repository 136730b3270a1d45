-- Whether a number is in a set, and up to which number that stays so.
use Rattle.std.specs.Prelude.{◌≡◌, ℕ, ◌+◌, ◌≤◌, ◌<◌, Bool, cond, List, ltb, length, get_or}
use Rattle.limits.specs.Limits.{record_max}

-- the test is `inside` at x, and at all numbers after it that lie below `until`
pub record Steady (test : ℕ → Bool) (x : ℕ) (inside : Bool) (until : ℕ) : Type 0 where
  pub later : x < until
  pub near : until ≤ record_max + 1
  pub same : (y : ℕ) → x ≤ y → y < until → test y ≡ inside

-- the number at place i, and behind the last one a number that no list has
abbrev pub number_or_end : List ℕ → ℕ → ℕ
number_or_end xs i = cond (ltb i (length xs)) (get_or xs i 0) (record_max + 1)
