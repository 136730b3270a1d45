-- A heap of numbers: the least stands first, and what it holds is a bag.
use Rattle.std.specs.Prelude.{◌≡◌, ℕ, ◌+◌, ◌-◌, ◌/◌, ◌≤◌, ◌<◌, List, [], ◌∷◌, eqb, length, get_or, take}
use Rattle.list.specs.Ginix.{one}

-- how often y stands in the list
unfoldable pub count_of : ℕ → List ℕ → ℕ
count_of y [] = 0
count_of y (x ∷ xs) = one (eqb y x) + count_of y xs

-- each number is at least the one above it: above cell i stands cell (i - 1) / 2
abbrev pub IsHeap : List ℕ → Type 0
IsHeap xs = (i : ℕ) → 0 < i → i < length xs → get_or xs ((i - 1) / 2) 0 ≤ get_or xs i 0

-- x has come to the first `size` cells
pub record Pushed (size x : ℕ) (old new : List ℕ) : Type 0 where
  pub room : length new ≡ length old
  pub heap : IsHeap (take (size + 1) new)
  pub bag : (y : ℕ) → count_of y (take (size + 1) new) ≡ one (eqb y x) + count_of y (take size old)

-- x has come in the place of the least
pub record Replaced (size x : ℕ) (old new : List ℕ) : Type 0 where
  pub room : length new ≡ length old
  pub heap : IsHeap (take size new)
  pub bag : (y : ℕ) → count_of y (take size new) + one (eqb y (get_or old 0 0)) ≡ one (eqb y x) + count_of y (take size old)

-- the least has gone
pub record Dropped (size : ℕ) (old new : List ℕ) : Type 0 where
  pub room : length new ≡ length old
  pub heap : IsHeap (take (size - 1) new)
  pub bag : (y : ℕ) → one (eqb y (get_or old 0 0)) + count_of y (take (size - 1) new) ≡ count_of y (take size old)

-- cell r stands below cell i, and no number below cell i is less than its
pub record Lesser (size i : ℕ) (xs : List ℕ) (r : ℕ) : Type 0 where
  pub within : r < size
  pub after : i < r
  pub under : (r - 1) / 2 ≡ i
  pub least : (j : ℕ) → 0 < j → j < size → (j - 1) / 2 ≡ i → get_or xs r 0 ≤ get_or xs j 0
