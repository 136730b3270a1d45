-- Reference 6.3: what a question is asked of, and the records that satisfy it there.
use Rattle.std.specs.Prelude.{ℕ, Bool, List}
use Rattle.list.specs.Stretches.{cells_of}
use Rattle.index.specs.Format.{highest}
use Rattle.directory.specs.Has.{has}
use Rattle.question.specs.Grammar.{Tree}
use Rattle.question.specs.Meaning.{satisfies}

-- Reference 6.3: which records have a word, and the highest record
pub record Source : Type 0 where
  pub has : List ℕ → ℕ → Bool
  pub highest : ℕ

-- Reference 6.3: the answer to a question, by its tree
unfoldable pub satisfying : Source → Tree → List ℕ
satisfying s t = cells_of (satisfies s.has t) s.highest

-- Reference 8.6: an index
abbrev pub of_index : List ℕ → Source
of_index index = record { has = has index; highest = highest index }
