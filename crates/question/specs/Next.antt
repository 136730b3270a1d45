-- What the token reader answers: the first token from a place on, with the tokens behind it.
use Rattle.std.specs.Prelude.{ℕ, ◌+◌, ◌≤◌, ◌<◌, ◌≡◌, List, [], ◌∷◌, length}
use Rattle.word.specs.Word.{operator_of}
use Rattle.question.specs.declared.token.Token.{Token}
use Rattle.question.specs.declared.token.Token.TheVariants.{End, Word, Op, Open, Close, Other}
use Rattle.question.specs.Token.{Tok, word_t, op_t, open_t, close_t, other_t, cut, run_tok, tokens_at}

-- the tokens from a token of the question s on
abbrev pub headed : List ℕ → Token → List Tok
headed s (End p) = []
headed s (Word p q) = word_t (cut s p q) p ∷ tokens_at s q
headed s (Op o p q) = op_t o p ∷ tokens_at s q
headed s (Open p) = open_t p ∷ tokens_at s (p + 1)
headed s (Close p) = close_t p ∷ tokens_at s (p + 1)
headed s (Other p) = other_t p ∷ tokens_at s (p + 1)

-- where a token lies
abbrev pub TokenWithin : ℕ → ℕ → Token → Type 0
TokenWithin at len (End p) = (at ≤ p) × (p ≡ len)
TokenWithin at len (Word p q) = (at ≤ p) × (p < q) × (q ≤ len)
TokenWithin at len (Op o p q) = (at ≤ p) × (p < q) × (q ≤ len)
TokenWithin at len (Open p) = (at ≤ p) × (p < len)
TokenWithin at len (Close p) = (at ≤ p) × (p < len)
TokenWithin at len (Other p) = (at ≤ p) × (p < len)

pub record NextToken (s : List ℕ) (at : ℕ) (t : Token) : Type 0 where
  pub heads : tokens_at s at ≡ headed s t
  pub lies : TokenWithin at (length s) t

-- the run from p to q is the token t
abbrev pub IsRun : List ℕ → ℕ → ℕ → Token → Type 0
IsRun s p q t = (headed s t ≡ run_tok (operator_of (cut s p q)) (cut s p q) p ∷ tokens_at s q) × (p < q → TokenWithin p (length s) t)

-- where a token starts: the length, of the end
abbrev pub start_of : Token → ℕ
start_of (End p) = p
start_of (Word p q) = p
start_of (Op o p q) = p
start_of (Open p) = p
start_of (Close p) = p
start_of (Other p) = p

-- the place behind it
abbrev pub end_of : Token → ℕ
end_of (End p) = p
end_of (Word p q) = q
end_of (Op o p q) = q
end_of (Open p) = p + 1
end_of (Close p) = p + 1
end_of (Other p) = p + 1
