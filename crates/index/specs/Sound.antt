-- When an index is sound, rule by rule. Reference 5.
use Rattle.std.specs.Prelude.{ℕ, zero, suc, ◌+◌, ◌*◌, ◌<◌, ◌≡◌, Bool, false, not, ◌||◌, List, [], eqb, ltb, length}
use Rattle.limits.specs.Limits.{index_max, index_min, record_max, words_max}
use Rattle.word.specs.Word.{before, is_word}
use Rattle.list.specs.Kept.{is_kept}
use Rattle.index.specs.Format.{words_start, directory_start, word_count, highest, edition, entry_size, word_start, list_start, single_count, pair_count}
use Rattle.index.specs.Format.{words_end, lists_end, word_of, entry_singles, entry_lowers, entry_uppers}

-- Reference 5.1, rule 1
unfoldable pub bad_length : List ℕ → Bool
bad_length index = ltb (length index) index_min || ltb index_max (length index)

-- Reference 5.1, rule 2
unfoldable pub bad_edition : List ℕ → Bool
bad_edition index = not (eqb (edition index) 1)

-- Reference 5.1, rule 3
unfoldable pub bad_trailer : List ℕ → Bool
bad_trailer index =
    ltb record_max (highest index)
    || ltb words_max (word_count index)
    || ltb (directory_start index) (words_start index)
    || not (eqb (directory_start index + entry_size (edition index) * word_count index + 20) (length index))

-- Reference 5.2: whether entry i breaks the directory rule, in the order of its sentences there; the last two are its two ends
unfoldable pub bad_directory : List ℕ → ℕ → Bool
bad_directory index i =
    not (eqb (word_start index i) (words_end index i))
    || not (eqb (list_start index i) (lists_end index i))
    || eqb (single_count index i + pair_count index i) 0
    || ltb (directory_start index) (words_end index (i + 1))
    || ltb (words_start index) (lists_end index (i + 1))

-- Reference 5.3: the word before entry i's; before the first the empty string, which stands before every word
abbrev pub word_before : List ℕ → ℕ → List ℕ
word_before index zero = []
word_before index (suc i) = word_of index i

-- Reference 5.3: whether entry i breaks the word rule, which bars the operators in small letters alone
unfoldable pub bad_word : List ℕ → ℕ → Bool
bad_word index i = not (is_word false (word_of index i)) || not (before (word_before index i) (word_of index i))

-- Reference 5.1, rule 4: an entry is bad by either rule
unfoldable pub bad_entry : List ℕ → ℕ → Bool
bad_entry index i = bad_directory index i || bad_word index i

-- Reference 5.4: whether the lists or the words stop short
unfoldable pub bad_end : List ℕ → Bool
bad_end index =
    not (eqb (lists_end index (word_count index)) (words_start index))
    || not (eqb (words_end index (word_count index)) (directory_start index))

-- Reference 5.1, rule 5
unfoldable pub bad_list : List ℕ → ℕ → Bool
bad_list index i =
    not (is_kept (highest index) (entry_singles index i) (entry_lowers index i) (entry_uppers index i))

-- Reference 5.1: no rule is broken
pub record Sound (index : List ℕ) : Type 0 where
  pub size : bad_length index ≡ false
  pub edition-one : bad_edition index ≡ false
  pub trailer : bad_trailer index ≡ false
  pub entries : (i : ℕ) → i < word_count index → bad_entry index i ≡ false
  pub ends : bad_end index ≡ false
  pub lists : (i : ℕ) → i < word_count index → bad_list index i ≡ false
