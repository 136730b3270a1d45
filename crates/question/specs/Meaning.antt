-- Reference 6.3: which records satisfy a question, by its tree.
use Rattle.std.specs.Prelude.{ℕ, ◌≡◌, Bool, not, ◌&&◌, ◌||◌, List, [], ◌∷◌}
use Rattle.word.specs.declared.Op.{Op}
use Rattle.word.specs.declared.Op.TheVariants.{And, Or, Not}
use Rattle.question.specs.Grammar.{Tree, word, pair, part, Link, link, Rule}

-- Reference 6.3: what an operator makes of its two sides
abbrev pub combine : Op → Bool → Bool → Bool
combine And left right = left && right
combine Or left right = left || right
combine Not left right = left && not right

-- Reference 6.3: whether x satisfies a tree, where `has w x` is whether the word w is in the record x
unfoldable pub satisfies : (List ℕ → ℕ → Bool) → Tree → ℕ → Bool
satisfies has (word w) x = has w x
satisfies has (pair o a b) x = combine o (satisfies has a x) (satisfies has b x)
satisfies has (part t) x = satisfies has t x

-- Reference 11, demand 3: two trees that the same records satisfy
abbrev pub Same : (List ℕ → ℕ → Bool) → Tree → Tree → Type 0
Same has a b = (x : ℕ) → satisfies has a x ≡ satisfies has b x

pub data SameLinks (has : List ℕ → ℕ → Bool) : List Link → List Link → Type 0 where
  none : SameLinks has [] []
  more : (o : Op) (a b : Tree) (ls ms : List Link) → Same has a b → SameLinks has ls ms → SameLinks has (link o a ∷ ls) (link o b ∷ ms)

-- Reference 11, demand 3: what is asked of a rule, that operands which the same records satisfy may be exchanged
abbrev pub Respects : Rule → Type 0
Respects rule =
    (has : List ℕ → ℕ → Bool) (a b : Tree) (ls ms : List Link) → Same has a b → SameLinks has ls ms → Same has (rule a ls) (rule b ms)
