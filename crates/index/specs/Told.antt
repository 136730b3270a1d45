-- What one pass of a check says of an entry that it holds by its cells: the same as the rule says of the index that they are read from.
use Rattle.std.specs.Prelude.{ℕ, ◌≡◌, Bool, not, List}
use Rattle.index.specs.declared.trailer.Trailer.{Trailer}
use Rattle.index.specs.declared.entry.Entry.{Entry}
use Rattle.index.specs.Format.{highest, words_end, lists_end}
use Rattle.index.specs.Read.{TrailerOf, EntryCells}
use Rattle.index.specs.Sound.{bad_directory, bad_list}

-- the directory rule, where the words and the lists before the entry end at `words` and `lists`
abbrev pub DirectoryTold : Trailer → Entry → ℕ → ℕ → Bool → Type 0
DirectoryTold t e words lists r =
    (index : List ℕ) (i : ℕ) → TrailerOf index t → EntryCells index i e → words ≡ words_end index i → lists ≡ lists_end index i → r ≡ not (bad_directory index i)

-- the list rule within 1 to `limit`
abbrev pub ListTold : List ℕ → Entry → ℕ → Bool → Type 0
ListTold index e limit r = (i : ℕ) → EntryCells index i e → limit ≡ highest index → r ≡ not (bad_list index i)
