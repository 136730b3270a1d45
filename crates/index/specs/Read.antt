-- The trailer and one entry as the code holds them: each field is the cell that the format names.
use Rattle.std.specs.Prelude.{ℕ, ◌+◌, ◌*◌, ◌≤◌, ◌<◌, ◌≡◌, List, length}
use Rattle.limits.specs.Limits.{index_max, record_max}
use Rattle.index.specs.declared.trailer.Trailer.{Trailer}
use Rattle.index.specs.declared.entry.Entry.{Entry}
use Rattle.index.specs.Format.{words_start, directory_start, word_count, highest, edition, entry_size, word_start, word_length, list_start}
use Rattle.index.specs.Format.{single_count, pair_count}

pub record TrailerOf (index : List ℕ) (t : Trailer) : Type 0 where
  pub words : t.words ≡ words_start index
  pub directory : t.directory ≡ directory_start index
  pub count : t.count ≡ word_count index
  pub highest : t.highest ≡ highest index
  pub edition : t.edition ≡ edition index
  pub small : t.directory < 4294967296

-- what is known once 1 and 3 are not to be refused: every entry stands within the index
pub record Framed (index : List ℕ) (t : Trailer) : Type 0 where
  pub is : TrailerOf index t
  pub ordered : t.words ≤ t.directory
  pub whole : t.directory + entry_size t.edition * t.count + 20 ≡ length index
  pub long : length index ≤ index_max
  pub highest : t.highest ≤ record_max

-- an entry's numbers are cells, so that their sums fit
pub record Small (e : Entry) : Type 0 where
  pub word-length : e.word_length < 4294967296
  pub singles : e.singles < 4294967296
  pub pairs : e.pairs < 4294967296

pub record EntryCells (index : List ℕ) (i : ℕ) (e : Entry) : Type 0 where
  pub word-start : e.word_start ≡ word_start index i
  pub word-length : e.word_length ≡ word_length index i
  pub list-start : e.list_start ≡ list_start index i
  pub singles : e.singles ≡ single_count index i
  pub pairs : e.pairs ≡ pair_count index i
  pub small : Small e
