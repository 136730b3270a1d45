-- Reference 9.1: the refusals as one table, the number of each, and the value that it carries.
use Rattle.std.specs.Prelude.{ℕ, ◌-◌, ◌≡◌, List, [], ◌∷◌, get_or}
use Rattle.refusal.specs.declared.Refusal.{Refusal}
use Rattle.refusal.specs.declared.Refusal.TheVariants.{IndexLength, IndexEdition, IndexTrailer, IndexEntry, IndexList, QuestionLength, QuestionByte}
use Rattle.refusal.specs.declared.Refusal.TheVariants.{QuestionWord, Grammar, Words, Brackets, Room, Lists, EntryNumber, Number, Interval, BuildWord}
use Rattle.refusal.specs.declared.Refusal.TheVariants.{BuildCount, BuildSize, ProbeRange, NoWord, RuleNumber}
use Rattle.refusal.specs.Refusal.{number_of, value_of}

-- Reference 9.1: a row, a number with a refusal that carries any value, or with one whose value is 0
pub data Numbered : Type 0 where
  carries : ℕ → (ℕ → Refusal) → Numbered
  zeroed : ℕ → Refusal → Numbered

abbrev pub refusals : List Numbered
refusals =
    carries 1 IndexLength
    ∷ carries 2 IndexEdition
    ∷ zeroed 3 IndexTrailer
    ∷ carries 4 IndexEntry
    ∷ carries 5 IndexList
    ∷ carries 6 QuestionLength
    ∷ carries 7 QuestionByte
    ∷ carries 8 QuestionWord
    ∷ carries 9 Grammar
    ∷ carries 10 Words
    ∷ carries 11 Brackets
    ∷ carries 12 Room
    ∷ carries 13 Lists
    ∷ carries 14 EntryNumber
    ∷ carries 15 Number
    ∷ carries 16 Interval
    ∷ carries 17 BuildWord
    ∷ carries 18 BuildCount
    ∷ carries 19 BuildSize
    ∷ zeroed 20 ProbeRange
    ∷ carries 21 NoWord
    ∷ carries 22 RuleNumber
    ∷ []

-- Reference 9.1: the numbers that the rows give
abbrev pub row_numbers : List Numbered → List ℕ
row_numbers [] = []
row_numbers (carries n refusal ∷ rows) = n ∷ row_numbers rows
row_numbers (zeroed n refusal ∷ rows) = n ∷ row_numbers rows

abbrev pub RowRight : Numbered → Type 0
RowRight (carries n refusal) = (value : ℕ) → (number_of (refusal value) ≡ n) × (value_of (refusal value) ≡ value)
RowRight (zeroed n refusal) = (number_of refusal ≡ n) × (value_of refusal ≡ 0)

abbrev pub RowsRight : List Numbered → Type 0
RowsRight [] = Unit {0}
RowsRight (row ∷ rows) = RowRight row × RowsRight rows

-- Reference 9.1: the refusal that a row gives with a value
abbrev pub made : Numbered → ℕ → Refusal
made (carries n refusal) value = refusal value
made (zeroed n refusal) value = refusal

-- Reference 9.1: each row is right, the numbers are 1 to 22 in their order, and the row that a refusal's number names gives it back from its value
pub record AllNumbered (rows : List Numbered) : Type 0 where
  pub right : RowsRight rows
  pub ordered : row_numbers rows ≡ 1 ∷ 2 ∷ 3 ∷ 4 ∷ 5 ∷ 6 ∷ 7 ∷ 8 ∷ 9 ∷ 10 ∷ 11 ∷ 12 ∷ 13 ∷ 14 ∷ 15 ∷ 16 ∷ 17 ∷ 18 ∷ 19 ∷ 20 ∷ 21 ∷ 22 ∷ []
  pub complete : (r : Refusal) → made (get_or rows (number_of r - 1) (zeroed 0 ProbeRange)) (value_of r) ≡ r
