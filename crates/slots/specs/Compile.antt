-- A question made ready in one pass over its tokens: its codes, one a token, and a range of entries for each word, in its slot.
use Rattle.std.specs.Prelude.{ℕ, ◌+◌, ◌*◌, ◌≤◌, ◌<◌, ◌≡◌, Bool, ◌&&◌, ◌||◌, List, [], ltb, length, get_or, take}
use Rattle.directory.specs.Has.{has}
use Rattle.question.specs.Token.{tokens}
use Rattle.question.specs.Limits.{token_words}
use Rattle.question.specs.Grammar.{Tree, tree_words}
use Rattle.codes.specs.declared.code.Code.{Code}
use Rattle.codes.specs.Code.{written_of}
use Rattle.slots.specs.declared.row.Entries.{Entries}
use Rattle.slots.specs.declared.row.Row.{Row}
use Rattle.slots.specs.Row.{entries_at}
use Rattle.slots.specs.Having.{entries_have, half_of, EntriesIn}

-- a range stands for a word: it is one of the index, and has the word's records
pub record StandsFor (index word : List ℕ) (e : Entries) : Type 0 where
  pub among : EntriesIn index e
  pub have : (x : ℕ) → entries_have index e x ≡ has index word x

-- the first n cells are the question's codes, as they are written
pub record WritesCodes {A : Type 0} (written : Code → A) (question : List ℕ) (codes codes' : List A) (n : ℕ) : Type 0 where
  pub long : length codes' ≡ length codes
  pub within : n ≤ length codes
  pub coded : take n codes' ≡ written_of written (tokens question)

-- the first `halves` halves of slot k, of which 0 is of the main index and 1 of the arrivals, stand for a word
abbrev pub HalvesStand : ℕ → List ℕ → List ℕ → List ℕ → ℕ → List Entries → Type 0
HalvesStand halves main arrivals word k slots = (half : ℕ) → half < halves → StandsFor (half_of main arrivals half) word (entries_at slots (2 * k + half))

-- and all other ranges stay
abbrev pub HalvesAlone : ℕ → ℕ → List Entries → List Entries → Type 0
HalvesAlone halves k slots slots' = (j : ℕ) → ((half : ℕ) → half < halves → j ≡ 2 * k + half → ⊥) → entries_at slots' j ≡ entries_at slots j

-- those of the first n slots stand for the words in their order, and all other ranges stay
pub record FillsSlots (halves : ℕ) (main arrivals question : List ℕ) (row row' : Row) (n : ℕ) : Type 0 where
  pub count : n ≡ length (token_words (tokens question))
  pub stand : (k : ℕ) → k < n → HalvesStand halves main arrivals (get_or (token_words (tokens question)) k []) k row'.ranges
  pub stay : (j : ℕ) → ((k half : ℕ) → k < n → half < halves → j ≡ 2 * k + half → ⊥) → entries_at row'.ranges j ≡ entries_at row.ranges j

-- what the first `halves` of two indexes have of a word: the main one, or both
abbrev pub halves_have : ℕ → List ℕ → List ℕ → List ℕ → ℕ → Bool
halves_have halves main arrivals w x = has main w x || (ltb 1 halves && has arrivals w x)

-- each slot has what is said of the tree's word
abbrev pub TreeSlots : (ℕ → ℕ → Bool) → (List ℕ → ℕ → Bool) → Tree → Type 0
TreeSlots v had t = (i : ℕ) → i < length (tree_words t) → (x : ℕ) → v i x ≡ had (get_or (tree_words t) i []) x
