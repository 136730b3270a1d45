-- Each word of a question has a slot, its place in reading order: what fits a question by what its slots have.
use Rattle.std.specs.Prelude.{ℕ, ◌+◌, Bool, length}
use Rattle.question.specs.Grammar.{Tree, word, pair, part, tree_words}
use Rattle.question.specs.Meaning.{combine}

-- whether record x satisfies a tree whose first word has slot k, by what each slot has
unfoldable pub slot_satisfies : (ℕ → ℕ → Bool) → Tree → ℕ → ℕ → Bool
slot_satisfies v (word w) k x = v k x
slot_satisfies v (pair o a b) k x = combine o (slot_satisfies v a k x) (slot_satisfies v b (k + length (tree_words a)) x)
slot_satisfies v (part t) k x = slot_satisfies v t k x
