-- Laws of codes: reading one, which are operators, and how many are words.
use Prim.Native.Nat.{ℕ}
use mathlib.Core.Path.{◌≡◌, refl, sym, ap, ap₂, ◌∙◌}
use native.Mathlib.Omega.{arith}
use mathlib.Core.List.{List, [], ◌∷◌, map}
use lib.ListN.{length}
use Rattle.std.specs.Prelude.{Option, Some, None}
use Rattle.word.specs.declared.Op.{Op}
use Rattle.word.specs.declared.Op.TheVariants.{And, Or, Not}
use Rattle.question.specs.Token.{Tok, word_t, op_t, open_t, close_t, other_t}
use Rattle.question.specs.Limits.{token_words}
use Rattle.codes.specs.declared.code.Code.{Code}
use Rattle.codes.specs.declared.code.Code.TheVariants as kind
use Rattle.codes.specs.Code.{operator_of_code, codes_of, written_of, word_codes, number_of, code_by}

-- ---- operators

-- what is read as an operator is its code
pub operator-code : (c : Option Code) (o : Op) → operator_of_code c ≡ Some o → c ≡ Some (kind.Op o)
operator-code None o e = absurd (cc)
operator-code (Some kind.Word) o e = absurd (cc)
operator-code (Some (kind.Op a)) o e = let q : a ≡ o = cc in rw q
operator-code (Some kind.Open) o e = absurd (cc)
operator-code (Some kind.Close) o e = absurd (cc)
operator-code (Some kind.Other) o e = absurd (cc)

pub operator-none : (c : Option Code) → operator_of_code c ≡ None → (o : Op) → c ≡ Some (kind.Op o) → ⊥
operator-none c e o h = let z : Some o ≡ None = (rw h at e) in cc

-- ---- words

pub codes-words : (toks : List Tok) → word_codes (codes_of toks) ≡ length (token_words toks)
unfolding codes_of word_codes token_words
codes-words [] = refl
codes-words (word_t w p ∷ r) = omega (arith, codes-words r)
codes-words (op_t o p ∷ r) = codes-words r
codes-words (open_t p ∷ r) = codes-words r
codes-words (close_t p ∷ r) = codes-words r
codes-words (other_t p ∷ r) = codes-words r

-- ---- lists in which something stands for each code

module _ {A : Type 0} (code : A → Code) (written : Code → A) (read_back : (c : Code) → code (written c) ≡ c) where
  all-read : (cs : List Code) → map code (map written cs) ≡ cs
  all-read [] = refl
  all-read (c ∷ cs) = ap₂ (λ (d : Code) (ds : List Code). d ∷ ds) (read_back c) (all-read cs)

  -- a list in which a question's codes are written is read as these
  pub written-read : (toks : List Tok) (codes : List A) → written_of written toks ≡ codes → codes_of toks ≡ map code codes
  written-read toks codes e = sym (all-read (codes_of toks)) ∙ ap (map code) e

number-read : (c : Code) → code_by (number_of c) ≡ c
number-read kind.Word = refl
number-read (kind.Op And) = refl
number-read (kind.Op Or) = refl
number-read (kind.Op Not) = refl
number-read kind.Open = refl
number-read kind.Close = refl
number-read kind.Other = refl

-- and so is one of their numbers: who lends numbers has of them what is promised of codes
pub numbers-read : (toks : List Tok) (codes : List ℕ) → written_of number_of toks ≡ codes → codes_of toks ≡ map code_by codes
numbers-read = written-read code_by number_of number-read
