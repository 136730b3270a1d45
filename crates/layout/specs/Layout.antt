-- Reference 4: the index of N, words and lists, as bytes.
use Rattle.std.specs.Prelude.{ℕ, ◌+◌, ◌/◌, ◌%◌, ◌<◌, cond, List, [], ◌∷◌, ◌++◌, eqb, length}
use Rattle.list.specs.Stretches.{cells_of}
use Rattle.list.specs.Among.{among}

-- Reference 4: all numbers are below m; with 256, they are bytes
abbrev pub Below : ℕ → List ℕ → Type 0
Below m [] = Unit {0}
Below m (x ∷ xs) = (x < m) × Below m xs

-- Reference 4.1: the four bytes of a cell, and the bytes of several
abbrev pub cell_bytes : ℕ → List ℕ
cell_bytes x = x % 256 ∷ x / 256 % 256 ∷ x / 65536 % 256 ∷ x / 16777216 % 256 ∷ []

unfoldable pub cells_bytes : List ℕ → List ℕ
cells_bytes [] = []
cells_bytes (x ∷ xs) = cell_bytes x ++ cells_bytes xs

-- Reference 3.4: S, L and U of a list that is given as cells
unfoldable pub cell_singles : List ℕ → List ℕ
cell_singles [] = []
cell_singles (l ∷ []) = []
cell_singles (l ∷ u ∷ r) = cond (eqb l u) (l ∷ cell_singles r) (cell_singles r)

unfoldable pub cell_lowers : List ℕ → List ℕ
cell_lowers [] = []
cell_lowers (l ∷ []) = []
cell_lowers (l ∷ u ∷ r) = cond (eqb l u) (cell_lowers r) (l ∷ cell_lowers r)

unfoldable pub cell_uppers : List ℕ → List ℕ
cell_uppers [] = []
cell_uppers (l ∷ []) = []
cell_uppers (l ∷ u ∷ r) = cond (eqb l u) (cell_uppers r) (u ∷ cell_uppers r)

-- Reference 3.4: one list, as it is kept
unfoldable pub kept_bytes : List ℕ → List ℕ
kept_bytes c = cells_bytes (cell_singles c) ++ cells_bytes (cell_lowers c) ++ cells_bytes (cell_uppers c)

-- Reference 3.2: the intervals of a word's records
abbrev pub cells_in : ℕ → List ℕ → List ℕ
cells_in n xs = cells_of (among xs) n

-- Reference 4.1: all lists
unfoldable pub lists_bytes : ℕ → List (List ℕ) → List ℕ
lists_bytes n [] = []
lists_bytes n (xs ∷ xss) = kept_bytes (cells_in n xs) ++ lists_bytes n xss

-- Reference 4.1: all words' bytes
unfoldable pub words_bytes : List (List ℕ) → List ℕ
words_bytes [] = []
words_bytes (w ∷ ws) = w ++ words_bytes ws

-- Reference 4.3: an entry
abbrev pub entry_bytes : ℕ → List ℕ → ℕ → List ℕ → List ℕ
entry_bytes word_at w list_at c = cells_bytes (word_at ∷ length w ∷ list_at ∷ length (cell_singles c) ∷ length (cell_lowers c) ∷ [])

-- Reference 4.3: the directory of words and lists, of which the first start at word_at and list_at
unfoldable pub directory_bytes : ℕ → ℕ → ℕ → List (List ℕ) → List (List ℕ) → List ℕ
directory_bytes n word_at list_at [] xss = []
directory_bytes n word_at list_at (w ∷ ws) [] = []
directory_bytes n word_at list_at (w ∷ ws) (xs ∷ xss) =
    entry_bytes word_at w list_at (cells_in n xs)
    ++ directory_bytes n (word_at + length w) (list_at + length (kept_bytes (cells_in n xs))) ws xss

-- Reference 4.2: the trailer
abbrev pub trailer_bytes : ℕ → ℕ → ℕ → ℕ → List ℕ
trailer_bytes w d count n = cells_bytes (w ∷ d ∷ count ∷ n ∷ 1 ∷ [])

-- Reference 4.1: the four parts, with W and D as the lengths before them
unfoldable pub index_of : ℕ → List (List ℕ) → List (List ℕ) → List ℕ
index_of n ws xss =
    lists_bytes n xss
    ++ (words_bytes ws
    ++ (directory_bytes n (length (lists_bytes n xss)) 0 ws xss
    ++ trailer_bytes (length (lists_bytes n xss)) (length (lists_bytes n xss) + length (words_bytes ws)) (length ws) n))
