-- Reference 6.2: a question walked token by token, without a tree and without a rule, and where and why the walk stops.
-- The reading stops there too, by the same number, and else counts the same words (`whole-walked` in proofs/WalkLaws.antt).
use Rattle.std.specs.Prelude.{ℕ, ◌+◌, ◌-◌, List, [], ◌∷◌, ltb, eqb}
use Rattle.limits.specs.Limits.{brackets_max, question_words_max}
use Rattle.question.specs.Token.{choose, Tok, word_t, op_t, open_t, close_t, other_t}
use Rattle.question.specs.Grammar.{Tree, Out, good, bad}

-- Reference 6.2: what has to come next, with the brackets that are open and the words that were taken
pub data Stand : Type 0 where
  operand_next operator_next : ℕ → ℕ → Stand

-- Reference 6.2: what one token does, the walk goes on, or the token is refused by a number
pub data Pass : Type 0 where
  goes : Stand → Pass
  refused : ℕ → Pass

-- Reference 6.2 and 9.1, rows 9 to 11: which tokens can be taken, and by what the others are refused
abbrev pub pass : Stand → Tok → Pass
pass (operand_next n k) (word_t w p) = choose (ltb k question_words_max) (λ _. goes (operator_next n (k + 1))) (λ _. refused 10)
pass (operand_next n k) (op_t o p) = refused 9
pass (operand_next n k) (open_t p) = choose (ltb n brackets_max) (λ _. goes (operand_next (n + 1) k)) (λ _. refused 11)
pass (operand_next n k) (close_t p) = refused 9
pass (operand_next n k) (other_t p) = refused 9
pass (operator_next n k) (word_t w p) = refused 9
pass (operator_next n k) (op_t o p) = goes (operand_next n k)
pass (operator_next n k) (open_t p) = refused 9
pass (operator_next n k) (close_t p) = choose (eqb n 0) (λ _. refused 9) (λ _. goes (operator_next (n - 1) k))
pass (operator_next n k) (other_t p) = refused 9

-- Reference 6.2: what a walk came to; or a refusal's number with the tokens from the refused one on
pub data Walked (A : Type 0) : Type 0 where
  reached : A → Walked A
  stopped : ℕ → List Tok → Walked A

-- Reference 6.2: on from the first of the tokens ts
abbrev pub onward : Pass → List Tok → (Stand → Walked Stand) → Walked Stand
onward (goes to) ts next = next to
onward (refused c) ts next = stopped c ts

-- Reference 6.2: where the walk from `at` over the tokens stands behind the last of them
unfoldable pub walk : Stand → List Tok → Walked Stand
walk at [] = reached at
walk at (t ∷ r) = onward (pass at t) (t ∷ r) (λ to. walk to r)

-- Reference 6.2: where the question may end; there, the words that were taken
abbrev pub to_end : Walked Stand → Walked ℕ
to_end (reached (operand_next n k)) = stopped 9 []
to_end (reached (operator_next n k)) = choose (eqb n 0) (λ _. reached k) (λ _. stopped 9 [])
to_end (stopped c r) = stopped c r

unfoldable pub walk_all : Stand → List Tok → Walked ℕ
walk_all at ts = to_end (walk at ts)

-- Reference 6.2: before the first token
abbrev pub fresh : Stand
fresh = operand_next 0 0

-- Reference 6.2: a reading without its tree
abbrev pub verdict : Out Tree → Walked ℕ
verdict (good t r k) = reached k
verdict (bad c r) = stopped c r
