-- Reference 4: where everything stands in an index.
use Rattle.std.specs.Prelude.{ℕ, zero, suc, ◌+◌, ◌-◌, ◌*◌, List, length, take, drop}
use Rattle.list.specs.Cell.{cell_at, numbers_in}
use Rattle.list.specs.Kept.{walked}

-- Reference 4.2: W, D, n, N and the edition
abbrev pub words_start : List ℕ → ℕ
words_start index = cell_at index (length index - 20)

abbrev pub directory_start : List ℕ → ℕ
directory_start index = cell_at index (length index - 16)

abbrev pub word_count : List ℕ → ℕ
word_count index = cell_at index (length index - 12)

abbrev pub highest : List ℕ → ℕ
highest index = cell_at index (length index - 8)

abbrev pub edition : List ℕ → ℕ
edition index = cell_at index (length index - 4)

-- Reference 4.3: the bytes of an entry, the same in every edition so far
abbrev pub entry_size : ℕ → ℕ
entry_size e = 20

-- Reference 4.3: where entry i stands, and its five cells
unfoldable pub entry_place : List ℕ → ℕ → ℕ
entry_place index i = directory_start index + entry_size (edition index) * i

unfoldable pub word_start : List ℕ → ℕ → ℕ
word_start index i = cell_at index (entry_place index i)

unfoldable pub word_length : List ℕ → ℕ → ℕ
word_length index i = cell_at index (entry_place index i + 4)

unfoldable pub list_start : List ℕ → ℕ → ℕ
list_start index i = cell_at index (entry_place index i + 8)

unfoldable pub single_count : List ℕ → ℕ → ℕ
single_count index i = cell_at index (entry_place index i + 12)

unfoldable pub pair_count : List ℕ → ℕ → ℕ
pair_count index i = cell_at index (entry_place index i + 16)

-- Reference 3.4: the bytes of a kept list
unfoldable pub list_length : List ℕ → ℕ → ℕ
list_length index i = 4 * (single_count index i + 2 * pair_count index i)

-- Reference 5.2: where the words, and where the lists, of the first i entries end
unfoldable pub words_end : List ℕ → ℕ → ℕ
words_end index zero = words_start index
words_end index (suc i) = words_end index i + word_length index i

unfoldable pub lists_end : List ℕ → ℕ → ℕ
lists_end index zero = 0
lists_end index (suc i) = lists_end index i + list_length index i

-- Reference 4: the size bytes from start on
abbrev pub part : ℕ → ℕ → List ℕ → List ℕ
part start size bytes = take size (drop start bytes)

-- Reference 4.3: the word of entry i
unfoldable pub word_of : List ℕ → ℕ → List ℕ
word_of index i = part (word_start index i) (word_length index i) index

-- Reference 4.3: S, L and U of entry i, as bytes
unfoldable pub singles_of : List ℕ → ℕ → List ℕ
singles_of index i = part (list_start index i) (4 * single_count index i) index

unfoldable pub lower_of : List ℕ → ℕ → List ℕ
lower_of index i = part (list_start index i + 4 * single_count index i) (4 * pair_count index i) index

unfoldable pub upper_of : List ℕ → ℕ → List ℕ
upper_of index i = part (list_start index i + 4 * single_count index i + 4 * pair_count index i) (4 * pair_count index i) index

-- Reference 3.4: their numbers
abbrev pub entry_singles : List ℕ → ℕ → List ℕ
entry_singles index i = numbers_in (singles_of index i)

abbrev pub entry_lowers : List ℕ → ℕ → List ℕ
entry_lowers index i = numbers_in (lower_of index i)

abbrev pub entry_uppers : List ℕ → ℕ → List ℕ
entry_uppers index i = numbers_in (upper_of index i)

-- Reference 3.4: the list of entry i, as cells
unfoldable pub list_of : List ℕ → ℕ → List ℕ
list_of index i = walked (entry_singles index i) (entry_lowers index i) (entry_uppers index i)
