-- Reference 4.1: cells in bytes.
use Rattle.std.specs.Prelude.{ℕ, ◌+◌, ◌*◌, List, [], ◌∷◌, get_or}

-- Reference 4.1: the number in four bytes, the lowest first
abbrev pub cell : ℕ → ℕ → ℕ → ℕ → ℕ
cell a b c d = a + b * 256 + c * 65536 + d * 16777216

-- Reference 4.1: the cell that stands at byte i
abbrev pub cell_at : List ℕ → ℕ → ℕ
cell_at bytes i = cell (get_or bytes i 0) (get_or bytes (i + 1) 0) (get_or bytes (i + 2) 0) (get_or bytes (i + 3) 0)

-- Reference 4.1: the numbers in a region of whole cells
unfoldable pub numbers_in : List ℕ → List ℕ
numbers_in [] = []
numbers_in (a ∷ []) = []
numbers_in (a ∷ b ∷ []) = []
numbers_in (a ∷ b ∷ c ∷ []) = []
numbers_in (a ∷ b ∷ c ∷ d ∷ r) = cell a b c d ∷ numbers_in r
