-- Reference 6.4: what the limits of a question count, its bytes, its words, and the brackets that are open at one place.
use Rattle.std.specs.Prelude.{ℕ, ◌+◌, ◌-◌, ◌≤◌, max, List, [], ◌∷◌, length}
use Rattle.limits.specs.Limits.{brackets_max, question_max, question_words_max}
use Rattle.question.specs.Token.{Tok, word_t, op_t, open_t, close_t, other_t, tokens}

-- Reference 6.4: the words, in order
unfoldable pub token_words : List Tok → List (List ℕ)
token_words [] = []
token_words (word_t w p ∷ r) = w ∷ token_words r
token_words (op_t o p ∷ r) = token_words r
token_words (open_t p ∷ r) = token_words r
token_words (close_t p ∷ r) = token_words r
token_words (other_t p ∷ r) = token_words r

-- Reference 6.4: the most brackets that are open at one place, where n are open before the tokens
unfoldable pub deepest : ℕ → List Tok → ℕ
deepest n [] = n
deepest n (word_t w p ∷ r) = deepest n r
deepest n (op_t o p ∷ r) = deepest n r
deepest n (open_t p ∷ r) = deepest (n + 1) r
deepest n (close_t p ∷ r) = max n (deepest (n - 1) r)
deepest n (other_t p ∷ r) = deepest n r

-- Reference 6.4: how many brackets are open behind the tokens, where n were open before them
unfoldable pub open_after : ℕ → List Tok → ℕ
open_after n [] = n
open_after n (word_t w p ∷ r) = open_after n r
open_after n (op_t o p ∷ r) = open_after n r
open_after n (open_t p ∷ r) = open_after (n + 1) r
open_after n (close_t p ∷ r) = open_after (n - 1) r
open_after n (other_t p ∷ r) = open_after n r

-- Reference 6.4: the limits of a whole question; how long a word is does not depend on what stands around it
pub record WithinLimits (s : List ℕ) : Type 0 where
  pub bytes : length s ≤ question_max
  pub words : length (token_words (tokens s)) ≤ question_words_max
  pub brackets : deepest 0 (tokens s) ≤ brackets_max
