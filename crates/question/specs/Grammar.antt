-- Reference 6.2: the reading of a question, from its tokens to its tree.
use Rattle.std.specs.Prelude.{ℕ, zero, suc, ◌+◌, ◌-◌, ◌*◌, List, [], ◌∷◌, ◌++◌, length, ltb, eqb}
use Rattle.limits.specs.Limits.{brackets_max, question_words_max}
use Rattle.word.specs.declared.Op.{Op}
use Rattle.question.specs.Token.{choose, Tok, word_t, op_t, open_t, close_t, other_t, tokens}

-- Reference 6.3: what a question asks, a word's records, two sides under an operator, or a part that stood in brackets
pub data Tree : Type 0 where
  word : List ℕ → Tree
  pair : Op → Tree → Tree → Tree
  part : Tree → Tree

-- Reference 6.2: an operator with the operand behind it
pub data Link : Type 0 where
  link : Op → Tree → Link

-- Reference 6.3: how the first operand of a level and the links behind it are grouped
abbrev pub Rule : Type 0
Rule = Tree → List Link → Tree

-- Reference 6.3: the left side of each operator is all of its level that stands before it
unfoldable pub from_left : Rule
from_left first [] = first
from_left first (link o operand ∷ links) = from_left (pair o first operand) links

-- Reference 6.2: what was read, with the tokens left and the words read so far; or a refusal's number with the tokens from the refused one on
pub data Out (A : Type 0) : Type 0 where
  good : A → List Tok → ℕ → Out A
  bad : ℕ → List Tok → Out A

abbrev pub bind : {A B : Type 0} → Out A → (A → List Tok → ℕ → Out B) → Out B
bind (good a r k) next = next a r k
bind (bad c r) next = bad c r

-- Reference 6.2: the bracket that closes a part
abbrev pub closed : Tree → List Tok → ℕ → Out Tree
closed t [] k = bad 9 []
closed t (word_t w p ∷ r) k = bad 9 (word_t w p ∷ r)
closed t (op_t o p ∷ r) k = bad 9 (op_t o p ∷ r)
closed t (open_t p ∷ r) k = bad 9 (open_t p ∷ r)
closed t (close_t p ∷ r) k = good (part t) r k
closed t (other_t p ∷ r) k = bad 9 (other_t p ∷ r)

-- f bounds the calls; `whole` gives enough of them, so that none is refused by 0 (`never-used-up` in proofs/StopLaws.antt);
-- d brackets may still open; k words have been read
unfoldable mutual
  -- Reference 6.2: `question`, by its first operand and the links behind that
  pub question : Rule → ℕ → ℕ → ℕ → List Tok → Out Tree
  question rule zero d k ts = bad 0 ts
  question rule (suc f) d k ts = bind (operand rule f d k ts) (λ first r j. bind (links rule f d j r) (λ ls z i. good (rule first ls) z i))

  -- Reference 6.2: `operand`; and 9.1, rows 10 and 11: how many words and brackets can be taken
  pub operand : Rule → ℕ → ℕ → ℕ → List Tok → Out Tree
  operand rule zero d k ts = bad 0 ts
  operand rule (suc f) d k [] = bad 9 []
  operand rule (suc f) d k (word_t w p ∷ r) = choose (ltb k question_words_max) (λ _. good (word w) r (k + 1)) (λ _. bad 10 (word_t w p ∷ r))
  operand rule (suc f) d k (op_t o p ∷ r) = bad 9 (op_t o p ∷ r)
  operand rule (suc f) d k (open_t p ∷ r) = choose (eqb d 0) (λ _. bad 11 (open_t p ∷ r)) (λ _. bind (question rule f (d - 1) k r) closed)
  operand rule (suc f) d k (close_t p ∷ r) = bad 9 (close_t p ∷ r)
  operand rule (suc f) d k (other_t p ∷ r) = bad 9 (other_t p ∷ r)

  -- Reference 6.2: a level ends where no operator stands
  pub links : Rule → ℕ → ℕ → ℕ → List Tok → Out (List Link)
  links rule zero d k ts = bad 0 ts
  links rule (suc f) d k [] = good [] [] k
  links rule (suc f) d k (word_t w p ∷ r) = good [] (word_t w p ∷ r) k
  links rule (suc f) d k (op_t o p ∷ r) = bind (operand rule f d k r) (λ t z j. bind (links rule f d j z) (λ ls y i. good (link o t ∷ ls) y i))
  links rule (suc f) d k (open_t p ∷ r) = good [] (open_t p ∷ r) k
  links rule (suc f) d k (close_t p ∷ r) = good [] (close_t p ∷ r) k
  links rule (suc f) d k (other_t p ∷ r) = good [] (other_t p ∷ r) k

-- Reference 6.2: behind the question nothing may be left
abbrev pub ended : Tree → List Tok → ℕ → Out Tree
ended t [] k = good t [] k
ended t (u ∷ r) k = bad 9 (u ∷ r)

-- Reference 6.2: the whole question, at whose start 8 brackets may open and no word has been read
unfoldable pub whole : Rule → List ℕ → Out Tree
whole rule s = bind (question rule (2 * length s + 2) brackets_max 0 (tokens s)) ended

-- Reference 6.3: the tree's words, in reading order
unfoldable pub tree_words : Tree → List (List ℕ)
tree_words (word w) = w ∷ []
tree_words (pair o a b) = tree_words a ++ tree_words b
tree_words (part t) = tree_words t
