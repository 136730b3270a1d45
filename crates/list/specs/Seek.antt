-- Seeking in an ascending region.
use Rattle.std.specs.Prelude.{ℕ, ◌+◌, ◌≤◌, List, [], ◌∷◌, ltb}
use Rattle.list.specs.Ginix.{one}

-- how many of the numbers lie below x
unfoldable pub count_below : ℕ → List ℕ → ℕ
count_below x [] = 0
count_below x (y ∷ ys) = one (ltb y x) + count_below x ys

-- each number is above the one before, and the first is at least k
abbrev pub AscendsFrom : ℕ → List ℕ → Type 0
AscendsFrom k [] = Unit {0}
AscendsFrom k (y ∷ ys) = (k ≤ y) × AscendsFrom (y + 1) ys

abbrev pub Ascends : List ℕ → Type 0
Ascends ys = AscendsFrom 0 ys
