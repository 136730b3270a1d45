-- The words in which it is said that a built index reads back (Reference 8.9), and that a sound one has one encoding (Reference 5.5).
use Rattle.std.specs.Prelude.{ℕ, zero, suc, ◌+◌, ◌≤◌, ◌<◌, ◌≡◌, Bool, true, cond, List, [], ◌∷◌, length, get_or, None}
use Rattle.limits.specs.Limits.{index_max, record_max, words_max}
use Rattle.refusal.specs.First.{first}
use Rattle.word.specs.Word.{same, before, is_word}
use Rattle.list.specs.Interval.{names}
use Rattle.list.specs.Stretches.{records_of}
use Rattle.convert.specs.Convert.{bad_number}
use Rattle.index.specs.Format.{word_count, highest, word_of, list_of}
use Rattle.build.specs.Lent.{lent_before}
use Rattle.layout.specs.Layout.{index_of}

-- Reference 8.9: N, words and lists of which an index is made. Where every spelling of the operators is barred, they are those that no rule of building
-- refuses, 12 apart; where the small letters' alone are, those that a sound index can have
pub record Indexable (every : Bool) (n : ℕ) (ws xss : List (List ℕ)) : Type 0 where
  pub limit : n ≤ record_max
  pub few : length ws ≤ words_max
  pub as_many : length xss ≡ length ws
  pub word : (i : ℕ) → i < length ws → is_word every (get_or ws i []) ≡ true
  pub order : (i : ℕ) → i < length ws → before (lent_before ws i) (get_or ws i []) ≡ true
  pub some : (i : ℕ) → i < length ws → 1 ≤ length (get_or xss i [])
  pub records : (i : ℕ) → i < length ws → first (bad_number n (get_or xss i [])) (length (get_or xss i [])) ≡ None
  pub size : length (index_of n ws xss) ≤ index_max

-- Reference 8.9: the records of word w, of words and their lists: none where it is not among the words
unfoldable pub records_for : List (List ℕ) → List (List ℕ) → List ℕ → List ℕ
records_for [] xss w = []
records_for (v ∷ ws) [] w = []
records_for (v ∷ ws) (xs ∷ xss) w = cond (same v w) xs (records_for ws xss w)

-- Reference 4: what f gives of the k numbers from i on
unfoldable pub listed : (ℕ → List ℕ) → ℕ → ℕ → List (List ℕ)
listed f i zero = []
listed f i (suc k) = f i ∷ listed f (i + 1) k

-- Reference 5.5: an index's words, the records of entry i, and those of all entries
unfoldable pub index_words : List ℕ → List (List ℕ)
index_words index = listed (word_of index) 0 (word_count index)

abbrev pub records_at : List ℕ → ℕ → List ℕ
records_at index i = records_of (names (list_of index i)) (highest index)

unfoldable pub lists_in : List ℕ → List (List ℕ)
lists_in index = listed (records_at index) 0 (word_count index)
