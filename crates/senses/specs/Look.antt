-- What a look at one record says: whether it is in, and until which number that stays so.
use Rattle.std.specs.Prelude.{ℕ, ◌+◌, ◌≤◌, Bool, not, ◌&&◌, List, length}
use Rattle.list.specs.declared.sense.Sense.{Sense}
use Rattle.list.specs.Sense.{Steady}
use Rattle.word.specs.declared.Op.{Op}
use Rattle.question.specs.Token.{Tok}
use Rattle.question.specs.Grammar.{Tree, Out, tree_words}
use Rattle.question.specs.Meaning.{combine}
use Rattle.senses.specs.declared.look.Look.{Look}
use Rattle.codes.specs.declared.code.Code.{Code}
use Rattle.slots.specs.Slots.{slot_satisfies}
use Rattle.codes.specs.Reads.{Reads}
use Rattle.senses.specs.Senses.{Known}

-- what a sense says of a test at x
abbrev pub Senses : Sense → (ℕ → Bool) → ℕ → Type 0
Senses a p x = Steady p x a.inside a.until

-- the sense of the opposite, of two tests that both hold, and of two sides under an operator, whatever the tests
abbrev pub Opposite : Sense → Sense → Type 0
Opposite a r = (p : ℕ → Bool) (x : ℕ) → Senses a p x → Senses r (λ y. not (p y)) x

abbrev pub Both : Sense → Sense → Sense → Type 0
Both a b r = (p q : ℕ → Bool) (x : ℕ) → Senses a p x → Senses b q x → Senses r (λ y. p y && q y) x

abbrev pub Paired : Op → Sense → Sense → Sense → Type 0
Paired o a b r = (p q : ℕ → Bool) (x : ℕ) → Senses a p x → Senses b q x → Senses r (λ y. combine o (p y) (q y)) x

-- what a sense says of a tree whose first word has slot k: it is the tree's at each x at which the senses of its slots are known
abbrev pub Tells : List Sense → ℕ → Bool → ℕ → Tree → Type 0
Tells senses k inside until t =
    (v : ℕ → ℕ → Bool) (slots x : ℕ) → k + length (tree_words t) ≤ slots → Known v senses slots x → Steady (slot_satisfies v t k) x inside until

-- what a look by the codes from i on comes to, where k words stand before: the sense of the tree that the codes read as
pub record Looks (reading : ℕ → List Tok → Out Tree) (codes : List Code) (i k : ℕ) (senses : List Sense) (r : Look) : Type 0 where
  pub ahead : i ≤ r.code
  pub inside : r.code ≤ length codes
  pub reads : (f : ℕ) → Reads (reading f) codes i r.code r.slot (Tells senses k r.inside r.until)
