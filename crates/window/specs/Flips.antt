-- The cells of a set are the places where membership flips: a flip to in is an l, a flip to out a u + 1.
use Rattle.std.specs.Prelude.{ℕ, zero, suc, ◌+◌, ◌-◌, ◌*◌, ◌%◌, Bool, List, [], ◌∷◌, length}
use Rattle.list.specs.Stretches.{turned, records_from}
use Rattle.window.specs.Bit.{set?, on}
use Rattle.window.specs.Window.{member}

-- where k cells are written, whether a stretch is open
abbrev pub odd : ℕ → Bool
odd k = set? (k % 2)

-- the cells of the k numbers from x on, where b says whether x - 1 is in; a stretch that is open then stays open
unfoldable pub flips : (ℕ → Bool) → Bool → ℕ → ℕ → List ℕ
flips p b x zero = []
flips p b x (suc k) = turned b (p x) x (flips p (p x) (x + 1) k)

-- the cells of a window, whose first bit is record x, where k cells are written
abbrev pub window_cells : List ℕ → ℕ → ℕ → List ℕ
window_cells ws x k = flips (member ws x) (odd k) x (64 * length ws)

-- whether x + k - 1 is in, where b says whether x - 1 is
abbrev pub last_in : (ℕ → Bool) → Bool → ℕ → ℕ → Bool
last_in p b x zero = b
last_in p b x (suc k) = p (x + k)

-- the places of a word's set bits, lowest first
unfoldable pub marks : ℕ → List ℕ
marks w = records_from (on w) 0 64

-- the cells that flips at the places ms bring, where the word's first bit is record x and k cells are written: an even cell is an l, an odd one a u
unfoldable pub cells_at : ℕ → ℕ → List ℕ → List ℕ
cells_at x k [] = []
cells_at x k (m ∷ ms) = (x + m - k % 2) ∷ cells_at x (k + 1) ms
