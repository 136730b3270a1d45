-- A window with records added, and the pairs of a kept list that are added.
use Rattle.std.specs.Prelude.{◌≡◌, ℕ, ◌+◌, ◌*◌, ◌≤◌, ◌<◌, Bool, ◌||◌, List, [], length, get_or}
use Rattle.list.specs.Cell.{numbers_in}
use Rattle.list.specs.Kept.{walked}
use Rattle.list.specs.Seek.{Ascends}
use Rattle.window.specs.Window.{bit_at}

-- ws is ws₀, whose first bit is record base, with the records added at which p holds
pub record Added (p : ℕ → Bool) (base : ℕ) (ws₀ ws : List ℕ) : Type 0 where
  pub long : length ws ≡ length ws₀
  pub bits : (n : ℕ) → n < 64 * length ws₀ → bit_at ws n ≡ bit_at ws₀ n || p (base + n)

-- the list of the pairs alone
abbrev pub pairs_in : List ℕ → List ℕ → List ℕ
pairs_in lower upper = walked [] (numbers_in lower) (numbers_in upper)

-- the pairs of a kept list: each a stretch that stands apart from the next
pub record Apart (L U : List ℕ) : Type 0 where
  pub long : length L ≡ length U
  pub lower-ascend : Ascends L
  pub upper-ascend : Ascends U
  pub order : (q : ℕ) → q < length L → get_or L q 0 ≤ get_or U q 0
  pub next : (q : ℕ) → q + 1 < length L → get_or U q 0 + 2 ≤ get_or L (q + 1) 0
