-- Reference 11, demand 3: what the exchange of one bracketed part for another says, of the question alone.
use Rattle.std.specs.Prelude.{ℕ, ◌+◌, ◌-◌, ◌≤◌, ◌≡◌, List, [], ◌∷◌, ◌++◌, Bool}
use Rattle.question.specs.Token.{Tok, word_t, op_t, open_t, close_t, other_t, tokens}
use Rattle.question.specs.Grammar.{Tree, Rule}
use Rattle.question.specs.Meaning.{Same}
use Rattle.question.specs.Reading.{parses, parsed}
use Rattle.question.specs.Limits.{open_after, WithinLimits}

-- Reference 11, demand 3: the bytes `before ( a ) behind`
abbrev pub around : List ℕ → List ℕ → List ℕ → List ℕ
around before a behind = before ++ 40 ∷ (a ++ 41 ∷ behind)

-- Reference 6.2: each bracket that closes among the tokens closes one that is open, where n are open before them
abbrev pub NeverBelow : ℕ → List Tok → Type 0
NeverBelow n [] = Unit {0}
NeverBelow n (word_t w p ∷ r) = NeverBelow n r
NeverBelow n (op_t o p ∷ r) = NeverBelow n r
NeverBelow n (open_t p ∷ r) = NeverBelow (n + 1) r
NeverBelow n (close_t p ∷ r) = (1 ≤ n) × NeverBelow (n - 1) r
NeverBelow n (other_t p ∷ r) = NeverBelow n r

-- Reference 6.2: the brackets of a match, so that those around it do: none closes that is not open, and none is left open
pub record Matched (a : List ℕ) : Type 0 where
  pub above : NeverBelow 0 (tokens a)
  pub ends : open_after 0 (tokens a) ≡ 0

-- Reference 6: s is accepted, with n words
pub record AcceptedBy (rule : Rule) (s : List ℕ) (n : ℕ) : Type 0 where
  pub tree : Tree
  pub accepted : parsed rule s ≡ parses tree n

-- Reference 11, demand 3: a and b are accepted by themselves, and the same records satisfy them
pub record Exchangeable (rule : Rule) (has : List ℕ → ℕ → Bool) (a b : List ℕ) : Type 0 where
  pub tree-a : Tree
  pub tree-b : Tree
  pub words-a : ℕ
  pub words-b : ℕ
  pub a-accepted : parsed rule a ≡ parses tree-a words-a
  pub b-accepted : parsed rule b ≡ parses tree-b words-b
  pub same : Same has tree-a tree-b

-- Reference 11, demand 3: s is accepted, and the records that satisfy t satisfy it
pub record AcceptedToo (rule : Rule) (has : List ℕ → ℕ → Bool) (s : List ℕ) (t : Tree) : Type 0 where
  pub tree : Tree
  pub count : ℕ
  pub accepted : parsed rule s ≡ parses tree count
  pub satisfies-same : Same has t tree

-- Reference 11, demand 3: what follows of `before ( a ) behind`, which is accepted with tree t, and of s, which is `before ( b ) behind`
pub record Exchanged (rule : Rule) (has : List ℕ → ℕ → Bool) (t : Tree) (s : List ℕ) : Type 0 where
  pub satisfies-same : (u : Tree) (m : ℕ) → parsed rule s ≡ parses u m → Same has t u
  pub accepted : WithinLimits s → AcceptedToo rule has s t
