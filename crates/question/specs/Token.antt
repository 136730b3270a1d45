-- Reference 6.1: the tokens of a question.
use Rattle.std.specs.Prelude.{ℕ, suc, ◌+◌, ◌-◌, List, [], ◌∷◌, ◌++◌, Bool, true, false, take, drop, eqb, Option, Some, None}
use Rattle.word.specs.Word.{is_word_byte, operator_of}
use Rattle.word.specs.declared.Op.{Op}

-- by a test, with each side computed only where it is taken
abbrev pub choose : {A : Type 0} → Bool → (Unit {0} → A) → (Unit {0} → A) → A
choose true a b = a tt
choose false a b = b tt

-- the bytes from place p up to place q
abbrev pub cut : List ℕ → ℕ → ℕ → List ℕ
cut s p q = take (q - p) (drop p s)

-- Reference 6.1: how many word bytes, and how many spaces, stand at the front
unfoldable pub run : List ℕ → ℕ
run [] = 0
run (b ∷ bs) = choose (is_word_byte b) (λ _. suc (run bs)) (λ _. 0)

unfoldable pub spaces : List ℕ → ℕ
spaces [] = 0
spaces (b ∷ bs) = choose (eqb b 32) (λ _. suc (spaces bs)) (λ _. 0)

-- Reference 6.1: a word with its bytes, an operator, a bracket, or a byte that has no place in a question; each with the place where it starts
pub data Tok : Type 0 where
  word_t : List ℕ → ℕ → Tok
  op_t : Op → ℕ → Tok
  open_t close_t other_t : ℕ → Tok

-- Reference 6.1: what a run is, by the operator that its bytes are, if they are one
abbrev pub run_tok : Option Op → List ℕ → ℕ → Tok
run_tok (Some o) w p = op_t o p
run_tok None w p = word_t w p

-- Reference 6.1: the run that has been gathered, if there is one, before the tokens behind it
abbrev pub flush : ℕ → List ℕ → List Tok → List Tok
flush start [] ts = ts
flush start (a ∷ az) ts = run_tok (operator_of (a ∷ az)) (a ∷ az) start ∷ ts

-- Reference 6.1: what a byte that ends a run is, at place n; a space is no token
abbrev pub mark : ℕ → ℕ → List Tok → List Tok
mark n b ts =
    choose (eqb b 32) (λ _. ts)
    (λ _. choose (eqb b 40) (λ _. open_t n ∷ ts)
    (λ _. choose (eqb b 41) (λ _. close_t n ∷ ts) (λ _. other_t n ∷ ts)))

-- Reference 6.1: the tokens of the bytes that stand from place n on, where a run that began at `start` has been gathered
unfoldable pub gather : ℕ → ℕ → List ℕ → List ℕ → List Tok
gather n start acc [] = flush start acc []
gather n start acc (b ∷ bs) =
    choose (is_word_byte b) (λ _. gather (n + 1) start (acc ++ (b ∷ [])) bs)
    (λ _. flush start acc (mark n b (gather (n + 1) (n + 1) [] bs)))

-- Reference 6.1: the tokens of a question from place `at` on, where no run stands across it
unfoldable pub tokens_at : List ℕ → ℕ → List Tok
tokens_at s at = gather at at [] (drop at s)

unfoldable pub tokens : List ℕ → List Tok
tokens s = tokens_at s 0
