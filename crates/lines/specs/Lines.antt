-- Reference 10: the lines of an input, and how much of it is answered.
use Rattle.std.specs.Prelude.{ℕ, zero, suc, ◌+◌, Bool, cond, List, eqb, ltb, length, get_or}
use Rattle.parts.specs.Part.{parts_of}

-- Reference 10: the lines are the parts that byte 10 ends
abbrev pub lines_of : List ℕ → List (List ℕ)
lines_of input = parts_of 10 input

-- Reference 10: the place behind the last byte 10 among the first k bytes, 0 where there is none
unfoldable pub whole_end : ℕ → List ℕ → ℕ
whole_end zero xs = 0
whole_end (suc k) xs = cond (eqb (get_or xs k 0) 10) (k + 1) (whole_end k xs)

-- Reference 10: the most bytes of input that are answered
abbrev pub input_most : ℕ
input_most = 65536

-- Reference 10: whether there is too much input, which `more` tells
abbrev pub is_past : List ℕ → Bool
is_past input = ltb input_most (length input)

-- Reference 10: where the answered bytes end; of too much input, behind the last line that ends within them
abbrev pub answered_end : List ℕ → ℕ
answered_end input = cond (is_past input) (whole_end input_most input) (length input)
