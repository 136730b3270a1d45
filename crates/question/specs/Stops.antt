-- Reference 9.1, rows 9 to 11, said by the walk (proved of the reading in proofs/StopLaws.antt, and of the call in ParsedLaws.antt).
use Rattle.std.specs.Prelude.{ℕ, ◌≤◌, ◌≡◌, List, ◌∷◌, ◌++◌, ◌⊎◌, length, None}
use Rattle.limits.specs.Limits.{brackets_max, question_max, question_words_max}
use Rattle.refusal.specs.First.{first}
use Rattle.question.specs.Token.{Tok, word_t, open_t, tokens}
use Rattle.question.specs.Limits.{token_words, open_after}
use Rattle.question.specs.Reading.{foreign_at, long_at, token_place}
use Rattle.question.specs.Walk.{operand_next, reached, stopped, walk, walk_all, fresh}

-- Reference 9.1, rows 9 to 11: the numbers by which a question is refused for its tokens
abbrev pub StopNumber : ℕ → Type 0
StopNumber c = (c ≡ 9) ⊎ ((c ≡ 10) ⊎ (c ≡ 11))

-- Reference 9.1, row 9: the walk over ts stops at a token that it cannot take, or at the end; r is the tokens from there on
abbrev pub Misplaced : List Tok → List Tok → Type 0
Misplaced ts r = walk_all fresh ts ≡ stopped 9 r

-- Reference 9.1, row 10: a word where an operand has to come, behind 16 words; r is the tokens from it on
pub record WordTooMany (ts r : List Tok) : Type 0 where
  pub front : List Tok
  pub word : List ℕ
  pub place : ℕ
  pub rest : List Tok
  pub splits : ts ≡ front ++ word_t word place ∷ rest
  pub left : r ≡ word_t word place ∷ rest
  pub brackets : ℕ
  pub words : ℕ
  pub stands : walk fresh front ≡ reached (operand_next brackets words)
  pub full : length (token_words front) ≡ question_words_max

-- Reference 9.1, row 11: an opening bracket where an operand has to come, behind 8 that are open; r is the tokens from it on
pub record BracketTooMany (ts r : List Tok) : Type 0 where
  pub front : List Tok
  pub place : ℕ
  pub rest : List Tok
  pub splits : ts ≡ front ++ open_t place ∷ rest
  pub left : r ≡ open_t place ∷ rest
  pub brackets : ℕ
  pub words : ℕ
  pub stands : walk fresh front ≡ reached (operand_next brackets words)
  pub full : open_after 0 front ≡ brackets_max

-- Reference 9.2: 6, 7 and 8 do not hold
pub record Faultless (s : List ℕ) : Type 0 where
  pub bytes : length s ≤ question_max
  pub proper : first (foreign_at s) (length s) ≡ None
  pub short : first (long_at s) (length s) ≡ None

-- Reference 9.2: the walk over the question s stops so, at place p, and no earlier refusal holds
pub record StopsAt (Stop : List Tok → List Tok → Type 0) (s : List ℕ) (p : ℕ) : Type 0 where
  pub faultless : Faultless s
  pub left : List Tok
  pub stop : Stop (tokens s) left
  pub place : p ≡ token_place (length s) left

-- each follows from the other
abbrev pub Exactly : Type 0 → Type 0 → Type 0
Exactly A B = (A → B) × (B → A)
