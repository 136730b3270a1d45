-- The second rule in brackets: a question's tokens with a pair of brackets around each group behind an `or`, so that from the left they mean what the
-- second rule makes of the question. A group that is one word has none.
use Rattle.std.specs.Prelude.{ℕ, ◌+◌, ◌*◌, ◌/◌, ◌%◌, Bool, true, false, cond, List, [], ◌∷◌, eqb}
use Rattle.limits.specs.Limits.{brackets_max}
use Rattle.word.specs.declared.Op.{Op}
use Rattle.word.specs.declared.Op.TheVariants.{And, Or, Not}
use Rattle.codes.specs.declared.code.Code.{Code}
use Rattle.codes.specs.declared.code.Code.TheVariants as kind
use Rattle.question.specs.Token.{Tok, word_t, op_t, open_t, close_t, other_t}

-- whether an operator is of the higher rank
abbrev pub binds_first : Op → Bool
binds_first And = true
binds_first Or = false
binds_first Not = true

-- whether an operator of the higher rank stands next
abbrev pub goes_on : List Tok → Bool
goes_on [] = false
goes_on (word_t w p ∷ r) = false
goes_on (op_t And p ∷ r) = true
goes_on (op_t Or p ∷ r) = false
goes_on (op_t Not p ∷ r) = true
goes_on (open_t p ∷ r) = false
goes_on (close_t p ∷ r) = false
goes_on (other_t p ∷ r) = false

-- whether the group that begins here is more than one word
abbrev pub is_wide : List Tok → Bool
is_wide [] = true
is_wide (word_t w p ∷ r) = goes_on r
is_wide (op_t o p ∷ r) = true
is_wide (open_t p ∷ r) = true
is_wide (close_t p ∷ r) = true
is_wide (other_t p ∷ r) = true

-- a bracket before the tokens, where one is wanted
abbrev pub opening : Bool → List Tok → List Tok
opening wide ts = cond wide (open_t 0 ∷ ts) ts

abbrev pub closing : Bool → List Tok → List Tok
closing inside ts = cond inside (close_t 0 ∷ ts) ts

-- the levels around a part, as one number with a bit for each, the innermost the lowest: whether a group of it stands in brackets; there are eight at most
abbrev pub levels_around : Bool → ℕ → ℕ
levels_around inside outer = outer % 256 * 2 + cond inside 1 0

-- whether a code ends the group in brackets before it
abbrev pub ends_group : Bool → Code → Bool
ends_group inside kind.Word = false
ends_group inside (kind.Op And) = false
ends_group inside (kind.Op Or) = inside
ends_group inside (kind.Op Not) = false
ends_group inside kind.Open = false
ends_group inside kind.Close = inside
ends_group inside kind.Other = false

abbrev pub innermost : ℕ → Bool
innermost outer = eqb (outer % 2) 1

-- the tokens from here on, where a group in brackets is open on this level, or none
unfoldable pub grouped_on : Bool → ℕ → List Tok → List Tok
grouped_on inside outer [] = closing inside []
grouped_on inside outer (word_t w p ∷ r) = word_t w p ∷ grouped_on inside outer r
grouped_on inside outer (op_t And p ∷ r) = op_t And p ∷ grouped_on inside outer r
grouped_on inside outer (op_t Or p ∷ r) = closing inside (op_t Or p ∷ opening (is_wide r) (grouped_on (is_wide r) outer r))
grouped_on inside outer (op_t Not p ∷ r) = op_t Not p ∷ grouped_on inside outer r
grouped_on inside outer (open_t p ∷ r) = open_t p ∷ grouped_on false (levels_around inside outer) r
grouped_on inside outer (close_t p ∷ r) = closing inside (close_t p ∷ grouped_on (innermost outer) (outer / 2) r)
grouped_on inside outer (other_t p ∷ r) = other_t p ∷ grouped_on inside outer r

abbrev pub grouped : List Tok → List Tok
grouped ts = grouped_on false 0 ts

-- the most brackets that are open at one place: the question's own, and one around a group of each level, that outside all brackets too
abbrev pub grouped_brackets : ℕ
grouped_brackets = 2 * brackets_max + 1
