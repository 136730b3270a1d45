-- Reference 8.2: where bytes stand among the words of an index.
use Rattle.std.specs.Prelude.{ℕ, zero, suc, ◌+◌, ◌≤◌, ◌<◌, ◌≡◌, true, false, List, Option, Some, None, Result, Ok, Err}
use Rattle.refusal.specs.First.{first}
use Rattle.word.specs.Word.{same, before}
use Rattle.list.specs.Ginix.{one}
use Rattle.index.specs.Format.{word_count, word_of}

-- Reference 8.2: how many of the first k words stand before the bytes
unfoldable pub below_within : List ℕ → ℕ → List ℕ → ℕ
below_within index zero bytes = 0
below_within index (suc k) bytes = one (before (word_of index k) bytes) + below_within index k bytes

-- Reference 8.2: how many of all words do, which is the entry number at which the bytes stand or would stand
unfoldable pub word_place : List ℕ → List ℕ → ℕ
word_place index bytes = below_within index (word_count index) bytes

-- Reference 8.2: the entry whose word has just these bytes, or else the number at which they would stand
abbrev pub standing_by : Option ℕ → ℕ → Result ℕ ℕ
standing_by (Some i) place = Ok i
standing_by None place = Err place

unfoldable pub standing_of : List ℕ → List ℕ → Result ℕ ℕ
standing_of index bytes = standing_by (first (λ i. same (word_of index i) bytes) (word_count index)) (word_place index bytes)

-- ---- what is said of it

-- Reference 8.2: of the first k words those of the entries below p stand before the bytes, and those from p on do not
pub record Splits (index bytes : List ℕ) (k p : ℕ) : Type 0 where
  pub within : p ≤ k
  pub below : (j : ℕ) → j < p → before (word_of index j) bytes ≡ true
  pub rest : (j : ℕ) → p ≤ j → j < k → before (word_of index j) bytes ≡ false

-- Reference 8.2: the words split at the number, and the bytes are the word of that entry, or of none
abbrev pub Stands : List ℕ → List ℕ → Result ℕ ℕ → Type 0
Stands index bytes (Ok i) = Splits index bytes (word_count index) i × (i < word_count index) × (word_of index i ≡ bytes)
Stands index bytes (Err p) = Splits index bytes (word_count index) p × ((j : ℕ) → j < word_count index → word_of index j ≡ bytes → ⊥)
