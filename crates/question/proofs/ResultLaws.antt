-- The two numbers of an answer are pinned: at a word, at no question, at two words with nothing between; and in capital letters at an operator between two
-- words, at one alone, and at a word that begins like one.
use mathlib.Core.Path.{◌≡◌, refl}
use mathlib.Core.List.{[], ◌∷◌}
use Rattle.word.specs.Word.{is_word_byte, same, small_letter, small_operator_of, operator_of}
use Rattle.refusal.specs.First.{first_from, first}
use Rattle.question.specs.Token.{run, gather, tokens_at, tokens}
use Rattle.question.specs.Grammar.{from_left, question, operand, links, whole}
use Rattle.question.specs.Reading.{is_foreign, refusal_of, parsed, asked, verdict_of, verdict_result}

pub results-pinned :
    (verdict_result (verdict_of 1 (97 ∷ [])) ≡ (0, 1))
    × (verdict_result (verdict_of 1 []) ≡ (9, 0))
    × (verdict_result (verdict_of 1 (97 ∷ 32 ∷ 98 ∷ [])) ≡ (9, 2))
    × (verdict_result (verdict_of 1 (97 ∷ 32 ∷ 65 ∷ 78 ∷ 68 ∷ 32 ∷ 98 ∷ [])) ≡ (0, 2))
    × (verdict_result (verdict_of 1 (79 ∷ 82 ∷ [])) ≡ (9, 0))
    × (verdict_result (verdict_of 1 (79 ∷ 82 ∷ 98 ∷ [])) ≡ (0, 1))
unfolding is_word_byte same small_letter small_operator_of operator_of first_from first run gather tokens_at tokens from_left question operand links whole is_foreign refusal_of parsed asked verdict_of
results-pinned = (refl, refl, refl, refl, refl, refl)
