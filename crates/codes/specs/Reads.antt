-- What an evaluation by the codes comes to, where the grammar reads their tokens.
use Rattle.std.specs.Prelude.{ℕ, ◌≤◌, ◌≡◌, List, length, drop}
use Rattle.question.specs.Token.{Tok}
use Rattle.question.specs.Grammar.{Tree, Out, good, from_left, question, operand}
use Rattle.codes.specs.declared.code.Code.{Code}
use Rattle.codes.specs.Code.{codes_of}

-- how the grammar reads a level and an operand, with k words before it and d brackets that may still open, at each bound on its calls
abbrev pub as_level : ℕ → ℕ → ℕ → List Tok → Out Tree
as_level d k bound = question from_left bound d k

abbrev pub as_operand : ℕ → ℕ → ℕ → List Tok → Out Tree
as_operand d k bound = operand from_left bound d k

-- what an evaluation of the codes from i on, with k words before them and d brackets that may still open, must come to, where the tokens read as t:
-- the code and the slot behind it, and in Q of t what the evaluation gives
abbrev pub Reads : (List Tok → Out Tree) → List Code → ℕ → ℕ → ℕ → (Tree → Type 0) → Type 0
Reads reading codes i i' k' Q =
    (toks : List Tok) (t : Tree) (rest : List Tok) (j : ℕ) → codes_of toks ≡ codes → reading (drop i toks) ≡ good t rest j →
    (drop i' toks ≡ rest) × (k' ≡ j) × (i ≤ i') × (i' ≤ length codes) × Q t
