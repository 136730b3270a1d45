-- A question's words: each is a run of word bytes and no operator, in whatever spelling. So what an index has of an operator counts in no answer.
use Prim.Native.Nat.{ℕ, zero, suc, ◌+◌, ◌<◌}
use native.Mathlib.Omega.{arith}
use mathlib.Core.Path.{◌≡◌, refl, sym, subst}
use mathlib.Core.List.{List, [], ◌∷◌, ◌++◌}
use mathlib.Core.Bool.{Bool, true, false}
use lib.Dec.{eqb}
use lib.ListN.{length, get_or}
use Rattle.word.specs.Word.{is_word_byte, all_word_bytes, operator_of, is_operator}
use Rattle.std.specs.Prelude.{Option, Some, None}
use Rattle.word.proofs.WordLaws.{bytes-none, bytes_next}
use Rattle.word.proofs.SpellingLaws.{neither-none}
use Rattle.word.specs.declared.Op.{Op}
use Rattle.question.specs.Token.{choose, Tok, word_t, op_t, open_t, close_t, other_t, run_tok, flush, mark, gather, tokens_at, tokens}
use Rattle.question.specs.Limits.{token_words}
use Rattle.question.specs.Grammar.{Tree, Rule, tree_words}
use Rattle.question.specs.Meaning.{satisfies}
use Rattle.question.specs.Reading.{parses, parsed}
use Rattle.question.proofs.RuleLaws.{Keeps}
use Rattle.question.proofs.TreeWords.{accepted-words}
use Rattle.question.proofs.MeaningLaws.{satisfies-words}

-- ---- what holds of no tokens, and still holds with one more before them, holds of a question's tokens

module _ (Q : List Tok → Type 0) (none : Q [])
    (word : (w : List ℕ) (p : ℕ) (ts : List Tok) → all_word_bytes w ≡ true → operator_of w ≡ None → Q ts → Q (word_t w p ∷ ts))
    (other : (t : Tok) (ts : List Tok) → token_words (t ∷ ts) ≡ token_words ts → Q ts → Q (t ∷ ts)) where
  run_holds : (o : Option Op) (w : List ℕ) (p : ℕ) (ts : List Tok) → all_word_bytes w ≡ true → operator_of w ≡ o → Q ts → Q (run_tok o w p ∷ ts)
  unfolding token_words
  run_holds (Some o) w p ts b e h = other (op_t o p) ts refl h
  run_holds None w p ts b e h = word w p ts b e h

  flush-holds : (start : ℕ) (acc : List ℕ) (ts : List Tok) → all_word_bytes acc ≡ true → Q ts → Q (flush start acc ts)
  flush-holds start [] ts b h = h
  flush-holds start (a ∷ az) ts b h = run_holds (operator_of (a ∷ az)) (a ∷ az) start ts b refl h

  mark-holds : (n : ℕ) (ts : List Tok) (s t u : Bool) → Q ts →
      Q (choose s (λ _. ts) (λ _. choose t (λ _. open_t n ∷ ts) (λ _. choose u (λ _. close_t n ∷ ts) (λ _. other_t n ∷ ts))))
  unfolding token_words
  mark-holds n ts true t u h = h
  mark-holds n ts false true u h = other (open_t n) ts refl h
  mark-holds n ts false false true h = other (close_t n) ts refl h
  mark-holds n ts false false false h = other (other_t n) ts refl h

  gather-holds : (n start : ℕ) (acc bs : List ℕ) → all_word_bytes acc ≡ true → Q (gather n start acc bs)
  unfolding gather
  gather-holds n start acc [] e = flush-holds start acc [] e none
  gather-holds n start acc (b ∷ bs) e = go (is_word_byte b) refl (gather-holds (n + 1) start (acc ++ b ∷ []) bs) (gather-holds (n + 1) (n + 1) [] bs bytes-none)
    where
      go : (t : Bool) → is_word_byte b ≡ t → (all_word_bytes (acc ++ b ∷ []) ≡ true → Q (gather (n + 1) start (acc ++ b ∷ []) bs)) →
          Q (gather (n + 1) (n + 1) [] bs) →
          Q (choose t (λ _. gather (n + 1) start (acc ++ (b ∷ [])) bs) (λ _. flush start acc (mark n b (gather (n + 1) (n + 1) [] bs))))
      go true p more rest = more (bytes_next acc b e p)
      go false p more rest =
          flush-holds start acc (mark n b (gather (n + 1) (n + 1) [] bs)) e
          (mark-holds n (gather (n + 1) (n + 1) [] bs) (eqb b 32) (eqb b 40) (eqb b 41) rest)

  pub tokens-hold : (s : List ℕ) → Q (tokens s)
  unfolding tokens tokens_at
  tokens-hold s = gather-holds 0 0 [] s bytes-none

-- ---- no word is an operator

abbrev NoOperators : List (List ℕ) → Type 0
NoOperators [] = Unit {0}
NoOperators (w ∷ ws) = (is_operator w ≡ false) × NoOperators ws

none-at : (ws : List (List ℕ)) (i : ℕ) → NoOperators ws → i < length ws → is_operator (get_or ws i []) ≡ false
none-at [] i f h = absurd (omega arith)
none-at (w ∷ ws) zero f h = f.0
none-at (w ∷ ws) (suc i) f h = none-at ws i f.1 (omega arith)

no-operators : (s : List ℕ) → NoOperators (token_words (tokens s))
unfolding token_words
no-operators =
    tokens-hold (λ ts. NoOperators (token_words ts)) tt (λ w p ts b e h. (neither-none w e, h)) (λ t ts e h. subst NoOperators (sym e) h)

-- Reference 6.1: no word of a question is an operator, in any spelling
pub words-no-operators : (s : List ℕ) (i : ℕ) → i < length (token_words (tokens s)) → is_operator (get_or (token_words (tokens s)) i []) ≡ false
words-no-operators s i h = none-at (token_words (tokens s)) i (no-operators s) h

-- so what is said of an operator is no part of what satisfies an accepted question
pub operators-unasked : (rule : Rule) → Keeps rule → (has had : List ℕ → ℕ → Bool) (x : ℕ) →
    ((w : List ℕ) → is_operator w ≡ false → has w x ≡ had w x) → (s : List ℕ) (t : Tree) (n : ℕ) → parsed rule s ≡ parses t n →
    satisfies has t x ≡ satisfies had t x
operators-unasked rule keeps has had x agree s t n h =
    let words : token_words (tokens s) ≡ tree_words t = (accepted-words rule keeps s t n h).0 in
    satisfies-words has had x x t (λ i g. agree (get_or (tree_words t) i []) (rw words at (words-no-operators s) i g))
