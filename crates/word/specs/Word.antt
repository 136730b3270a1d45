-- Words: their bytes, their order, and the three that are operators. Reference 2.
use Rattle.std.specs.Prelude.{ℕ, ◌+◌, Bool, true, false, not, cond, ◌&&◌, ◌||◌, List, [], ◌∷◌, map, eqb, leb, ltb, length, Option, Some, None, is_some}
use Rattle.limits.specs.Limits.{word_max}
use Rattle.std.specs.declared.cmp.Ordering.{Ordering}
use Rattle.std.specs.declared.cmp.Ordering.TheVariants.{Less, Equal, Greater}
use Rattle.word.specs.declared.Op.{Op}
use Rattle.word.specs.declared.Op.TheVariants.{And, Or, Not}

abbrev pub between : ℕ → ℕ → ℕ → Bool
between a b x = leb a x && leb x b

-- Reference 2: digits, capital letters, small letters
unfoldable pub is_word_byte : ℕ → Bool
is_word_byte b = between 48 57 b || between 65 90 b || between 97 122 b

unfoldable pub all_word_bytes : List ℕ → Bool
all_word_bytes [] = true
all_word_bytes (b ∷ bs) = is_word_byte b && all_word_bytes bs

-- Reference 2: the same bytes in the same order
unfoldable pub same : List ℕ → List ℕ → Bool
same [] [] = true
same [] (y ∷ ys) = false
same (x ∷ xs) [] = false
same (x ∷ xs) (y ∷ ys) = eqb x y && same xs ys

-- Reference 2: whether the first stands before the second, of any two strings of bytes
unfoldable pub before : List ℕ → List ℕ → Bool
before [] [] = false
before [] (y ∷ ys) = true
before (x ∷ xs) [] = false
before (x ∷ xs) (y ∷ ys) = ltb x y || (eqb x y && before xs ys)

-- Reference 2: a capital letter as the small one, any other byte as it is
unfoldable pub small_letter : ℕ → ℕ
small_letter b = cond (between 65 90 b) (b + 32) b

-- Reference 2: which operator the bytes are in small letters, if any
unfoldable pub small_operator_of : List ℕ → Option Op
small_operator_of w =
    cond (same w (97 ∷ 110 ∷ 100 ∷ [])) (Some And)
    (cond (same w (111 ∷ 114 ∷ [])) (Some Or)
    (cond (same w (110 ∷ 111 ∷ 116 ∷ [])) (Some Not) None))

-- Reference 2: which operator they are in any mixture of small and capital letters
unfoldable pub operator_of : List ℕ → Option Op
operator_of w = small_operator_of (map small_letter w)

-- Reference 2: an operator in small letters, and one in any spelling
unfoldable pub is_small_operator : List ℕ → Bool
is_small_operator w = is_some (small_operator_of w)

unfoldable pub is_operator : List ℕ → Bool
is_operator w = is_some (operator_of w)

-- Reference 2: what is barred from being a word: the operators in every spelling, or those in small letters
abbrev pub is_barred : Bool → List ℕ → Bool
is_barred every w = cond every (is_operator w) (is_small_operator w)

-- Reference 2: whether the bytes are a word by what is barred; how it stands to others is no part of that
unfoldable pub is_word : Bool → List ℕ → Bool
is_word every w = between 1 word_max (length w) && all_word_bytes w && not (is_barred every w)

-- Reference 2: how the first stands to the second
unfoldable pub order_of : List ℕ → List ℕ → Ordering
order_of a b = cond (same a b) Equal (cond (before a b) Less Greater)
