-- Reference 5.5: what an index says of a word.
use Rattle.std.specs.Prelude.{ℕ, zero, suc, Bool, false, ◌&&◌, ◌||◌, List}
use Rattle.word.specs.Word.{same}
use Rattle.list.specs.Interval.{names}
use Rattle.index.specs.Format.{word_count, word_of, list_of}

-- Reference 5.5: whether one of the first k entries is the word's, with the record in its list
unfoldable pub has_within : List ℕ → ℕ → List ℕ → ℕ → Bool
has_within index zero word x = false
has_within index (suc k) word x = (same (word_of index k) word && names (list_of index k) x) || has_within index k word x

-- Reference 5.5: whether the index has the word in record x
unfoldable pub has : List ℕ → List ℕ → ℕ → Bool
has index word x = has_within index (word_count index) word x
