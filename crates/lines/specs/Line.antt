-- Reference 10: the bytes of a line that the asking program writes.
use Rattle.std.specs.Prelude.{ℕ, zero, suc, ◌+◌, ◌*◌, ◌/◌, ◌%◌, ◌≡◌, cond, Result, Ok, Err, List, [], ◌∷◌, ◌++◌, ltb, length, take}
use Rattle.std.proofs.lemmas.List.Edits.{sets}
use Rattle.refusal.specs.Refusal.{number_of, value_of}
use Rattle.list.specs.Front.{in_front}
use Rattle.list.specs.declared.answer.Tally.{Tally}
use Rattle.refusal.specs.declared.Refusal.{Refusal}

-- Reference 10: a number in the fewest decimal digits, of which there are at most k
unfoldable pub numeral_in : ℕ → ℕ → List ℕ
numeral_in zero n = []
numeral_in (suc k) n = cond (ltb n 10) ((48 + n) ∷ []) (numeral_in k (n / 10) ++ ((48 + n % 10) ∷ []))

-- Reference 10: 20 digits hold every number of 64 bits
unfoldable pub numeral : ℕ → List ℕ
numeral n = numeral_in 20 n

-- Reference 10: each field but the first stands behind a space
abbrev pub field : ℕ → List ℕ
field n = 32 ∷ numeral n

-- Reference 10: an interval is one field, with a dash between its bounds
abbrev pub interval_text : ℕ → ℕ → List ℕ
interval_text l u = field l ++ (45 ∷ []) ++ numeral u

unfoldable pub intervals_text : List ℕ → List ℕ
intervals_text [] = []
intervals_text (l ∷ []) = []
intervals_text (l ∷ u ∷ r) = interval_text l u ++ intervals_text r

-- Reference 10: the three fields that every line has
abbrev pub head_text : ℕ → ℕ → ℕ → List ℕ
head_text number refusal value = numeral number ++ field refusal ++ field value

-- Reference 7: the cells that hold an answer's intervals
abbrev pub shown : Result Tally Refusal → ℕ
shown (Ok tally) = 2 * tally.intervals
shown (Err refusal) = 0

-- Reference 10: the fields that follow where the question was answered
abbrev pub tally_text : Tally → List ℕ → List ℕ
tally_text tally cells = field tally.intervals ++ field tally.records ++ intervals_text (take (2 * tally.intervals) cells)

-- Reference 10: the whole line, with the byte 10 that ends it
abbrev pub line_of : ℕ → Result Tally Refusal → List ℕ → List ℕ
line_of number (Ok tally) cells = head_text number 0 0 ++ tally_text tally cells ++ (10 ∷ [])
line_of number (Err refusal) cells = head_text number (number_of refusal) (value_of refusal) ++ (10 ∷ [])

-- Reference 10: a text put into lent bytes from place `at` on, and the place behind it; all else stays
pub record PutText (out : List ℕ) (at : ℕ) (text out' : List ℕ) (r : ℕ) : Type 0 where
  pub end : r ≡ at + length text
  pub bytes : out' ≡ sets out at text

-- Reference 10: a text put from byte 0 on, and how long it is
pub record PutFirst (out text out' : List ℕ) (r : ℕ) : Type 0 where
  pub size : r ≡ length text
  pub bytes : out' ≡ in_front text out
