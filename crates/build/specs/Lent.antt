-- Reference 8.9: what is lent to a build, and when it is refused.
use Rattle.std.specs.Prelude.{ℕ, zero, suc, ◌+◌, Bool, true, false, cond, not, ◌||◌, List, [], ◌∷◌, ◌++◌, eqb, leb, ltb, length, get_or, take, drop}
use Rattle.limits.specs.Limits.{words_max}
use Rattle.word.specs.Word.{before, is_word}

-- Reference 8.9: the words that have their byte 10; acc is what stands since the last one
unfoldable pub words_from : List ℕ → List ℕ → List (List ℕ)
words_from acc [] = []
words_from acc (b ∷ bs) = cond (eqb b 10) (acc ∷ words_from [] bs) (words_from (acc ++ b ∷ []) bs)

unfoldable pub lent_words : List ℕ → List (List ℕ)
lent_words bytes = words_from [] bytes

-- Reference 9.1, row 17: the bytes behind the last byte 10
unfoldable pub rest_from : List ℕ → List ℕ → List ℕ
rest_from acc [] = acc
rest_from acc (b ∷ bs) = cond (eqb b 10) (rest_from [] bs) (rest_from (acc ++ b ∷ []) bs)

unfoldable pub rest_of : List ℕ → List ℕ
rest_of bytes = rest_from [] bytes

-- Reference 9.1, row 17: how many words are lent, where a rest without its byte 10 counts as one
abbrev pub one-if-any : List ℕ → ℕ
one-if-any [] = 0
one-if-any (b ∷ bs) = 1

unfoldable pub word_total : List ℕ → ℕ
word_total bytes = length (lent_words bytes) + one-if-any (rest_of bytes)

-- Reference 9.1, row 17: the word before word i; before the first the empty string, which stands before every word
abbrev pub lent_before : List (List ℕ) → ℕ → List ℕ
lent_before ws zero = []
lent_before ws (suc i) = get_or ws i []

-- Reference 9.1, row 17: whether word i is bad, where every spelling of the operators is barred; a word that has no byte 10 is not among ws
unfoldable pub bad_lent : List (List ℕ) → ℕ → Bool
bad_lent ws i = leb words_max i || leb (length ws) i || not (is_word true (get_or ws i [])) || not (before (lent_before ws i) (get_or ws i []))

-- Reference 9.1, row 18: what the first i counts add up to
unfoldable pub sum_to : List ℕ → ℕ → ℕ
sum_to counts zero = 0
sum_to counts (suc i) = sum_to counts i + get_or counts i 0

-- Reference 9.1, row 18: whether count i is bad, for a word i
unfoldable pub bad_count : List ℕ → ℕ → ℕ → Bool
bad_count counts total i = leb (length counts) i || eqb (get_or counts i 0) 0 || ltb total (sum_to counts (i + 1))

-- Reference 9.1, row 18: whether there are more counts than words, or more numbers than the words' counts take
unfoldable pub bad_rest : List ℕ → ℕ → ℕ → Bool
bad_rest counts total words = ltb words (length counts) || ltb (sum_to counts words) total

-- Reference 8.9: whether place k is where the list of one of the first i counts begins
unfoldable pub begins_list : List ℕ → ℕ → ℕ → Bool
begins_list counts zero k = false
begins_list counts (suc i) k = eqb (sum_to counts i) k || begins_list counts i k

-- Reference 9.1, row 15: the number before place k in its list, 0 before the first
abbrev pub listed_before : List ℕ → ℕ → List ℕ → ℕ → ℕ
listed_before counts words numbers zero = 0
listed_before counts words numbers (suc k) = cond (begins_list counts words (suc k)) 0 (get_or numbers k 0)

-- Reference 9.1, row 15: whether number k is bad, with the limit n; each list begins anew
unfoldable pub bad_listed : ℕ → List ℕ → ℕ → List ℕ → ℕ → Bool
bad_listed n counts words numbers k = leb (get_or numbers k 0) (listed_before counts words numbers k) || ltb n (get_or numbers k 0)

-- Reference 8.9: the records of each word
unfoldable pub lists_from : List ℕ → List ℕ → List (List ℕ)
lists_from [] numbers = []
lists_from (c ∷ cs) numbers = take c numbers ∷ lists_from cs (drop c numbers)
