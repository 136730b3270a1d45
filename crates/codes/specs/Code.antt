-- A question's tokens as codes, which the evaluation reads: it needs no word's bytes, only which word it is.
use Rattle.std.specs.Prelude.{ℕ, zero, suc, ◌+◌, List, [], ◌∷◌, map, Option, Some, None, slice_get}
use Rattle.word.specs.declared.Op.{Op}
use Rattle.word.specs.declared.Op.TheVariants.{And, Or, Not}
use Rattle.question.specs.declared.token.Token.{Token}
use Rattle.question.specs.declared.token.Token.TheVariants as token
use Rattle.question.specs.Token.{Tok, word_t, op_t, open_t, close_t, other_t}
use Rattle.codes.specs.declared.code.Code.{Code}
use Rattle.codes.specs.declared.code.Code.TheVariants as kind

abbrev pub code_of : Tok → Code
code_of (word_t w p) = kind.Word
code_of (op_t o p) = kind.Op o
code_of (open_t p) = kind.Open
code_of (close_t p) = kind.Close
code_of (other_t p) = kind.Other

-- the code of the token that the reader found; the end has none of its own
abbrev pub token_code : Token → Code
token_code (token.End p) = kind.Other
token_code (token.Word p q) = kind.Word
token_code (token.Op o p q) = kind.Op o
token_code (token.Open p) = kind.Open
token_code (token.Close p) = kind.Close
token_code (token.Other p) = kind.Other

unfoldable pub codes_of : List Tok → List Code
codes_of [] = []
codes_of (t ∷ ts) = code_of t ∷ codes_of ts

-- the codes of some tokens, in a list where something is written for each
abbrev pub written_of : {A : Type 0} → (Code → A) → List Tok → List A
written_of written toks = map written (codes_of toks)

-- the operator that a code is, if it is one
abbrev pub operator_of_code : Option Code → Option Op
operator_of_code None = None
operator_of_code (Some kind.Word) = None
operator_of_code (Some (kind.Op o)) = Some o
operator_of_code (Some kind.Open) = None
operator_of_code (Some kind.Close) = None
operator_of_code (Some kind.Other) = None

-- the operator at place i, if one stands there
abbrev pub operator_at : List Code → ℕ → Option Op
operator_at codes i = operator_of_code (slice_get codes i)

-- how many of the codes are a word's
unfoldable pub word_codes : List Code → ℕ
word_codes [] = 0
word_codes (kind.Word ∷ cs) = 1 + word_codes cs
word_codes (kind.Op o ∷ cs) = word_codes cs
word_codes (kind.Open ∷ cs) = word_codes cs
word_codes (kind.Close ∷ cs) = word_codes cs
word_codes (kind.Other ∷ cs) = word_codes cs

-- ---- codes as numbers

-- the number of a code
abbrev pub number_of : Code → ℕ
number_of kind.Word = 0
number_of (kind.Op And) = 1
number_of (kind.Op Or) = 2
number_of (kind.Op Not) = 3
number_of kind.Open = 4
number_of kind.Close = 5
number_of kind.Other = 6

-- and the code that a number stands for: each stands for one
abbrev pub code_by : ℕ → Code
code_by zero = kind.Word
code_by (suc zero) = kind.Op And
code_by (suc (suc zero)) = kind.Op Or
code_by (suc (suc (suc zero))) = kind.Op Not
code_by (suc (suc (suc (suc zero)))) = kind.Open
code_by (suc (suc (suc (suc (suc zero))))) = kind.Close
code_by (suc (suc (suc (suc (suc (suc n)))))) = kind.Other
