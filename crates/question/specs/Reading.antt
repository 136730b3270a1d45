-- Reference 9.2, question: the refusals 22 and 6 to 11 in their order, or the question's tree.
use Rattle.std.specs.Prelude.{ℕ, List, [], ◌∷◌, Bool, not, cond, ◌||◌, length, get_or, drop, ltb, eqb, Option, Some, None, Result, Ok, Err}
use Rattle.limits.specs.Limits.{question_max, word_max}
use Rattle.word.specs.Word.{is_word_byte}
use Rattle.refusal.specs.First.{first}
use Rattle.refusal.specs.Refusal.{number_of, value_of}
use Rattle.refusal.specs.declared.Refusal.{Refusal}
use Rattle.refusal.specs.declared.Refusal.TheVariants.{QuestionLength, QuestionByte, QuestionWord, Grammar, Words, Brackets, RuleNumber}
use Rattle.question.specs.Token.{choose, run, Tok, word_t, op_t, open_t, close_t, other_t}
use Rattle.question.specs.Grammar.{Tree, Rule, Out, good, bad, whole}
use Rattle.question.specs.Rules.{is_rule, rule_of}

-- Reference 6: accepted, with the tree and the number of words; or refused
pub data Parsed : Type 0 where
  parses : Tree → ℕ → Parsed
  refuses : Refusal → Parsed

-- Reference 9.1, row 7
unfoldable pub is_foreign : ℕ → Bool
is_foreign b = not (is_word_byte b || eqb b 32 || eqb b 40 || eqb b 41)

abbrev pub foreign_at : List ℕ → ℕ → Bool
foreign_at s i = is_foreign (get_or s i 0)

-- Reference 9.1, row 8: at the first such place a run starts, since from a word byte before it the run would be longer still
abbrev pub long_at : List ℕ → ℕ → Bool
long_at s i = ltb word_max (run (drop i s))

-- Reference 9.1, rows 9 to 11: the place of the first token left; where none is left, the question's length
abbrev pub token_place : ℕ → List Tok → ℕ
token_place len [] = len
token_place len (word_t w p ∷ r) = p
token_place len (op_t o p ∷ r) = p
token_place len (open_t p ∷ r) = p
token_place len (close_t p ∷ r) = p
token_place len (other_t p ∷ r) = p

-- Reference 9.1, rows 9 to 11: what is neither 10 nor 11 is 9, for the bound on the calls is never used up
-- (`refused-number` and `never-used-up` in proofs/StopLaws.antt).
unfoldable pub refusal_of : ℕ → ℕ → Refusal
refusal_of number place = cond (eqb number 10) (Words place) (cond (eqb number 11) (Brackets place) (Grammar place))

abbrev pub outcome : ℕ → Out Tree → Parsed
outcome len (good t r k) = parses t k
outcome len (bad number r) = refuses (refusal_of number (token_place len r))

-- Reference 9.2: the refusal where there is a place for it, else what comes next
abbrev pub unless : Option ℕ → (ℕ → Refusal) → (Unit {0} → Parsed) → Parsed
unless (Some i) fault next = refuses (fault i)
unless None fault next = next tt

-- Reference 9.2: each refusal is asked of the whole question before the next one is; the last three are met by reading it
unfoldable pub parsed : Rule → List ℕ → Parsed
parsed rule s =
    choose (ltb question_max (length s)) (λ _. refuses (QuestionLength (length s)))
    (λ _. unless (first (foreign_at s) (length s)) QuestionByte
    (λ _. unless (first (long_at s) (length s)) QuestionWord
    (λ _. outcome (length s) (whole rule s))))

-- Reference 9.2: 22 comes before the refusals of the question; then the question is read by the rule of that number
unfoldable pub asked : ℕ → List ℕ → Parsed
asked rule s = choose (is_rule rule) (λ _. parsed (rule_of rule) s) (λ _. refuses (RuleNumber rule))

-- Reference 8.10: what the call answers
abbrev pub answer : Parsed → Result ℕ Refusal
answer (parses t k) = Ok k
answer (refuses refusal) = Err refusal

unfoldable pub verdict_of : ℕ → List ℕ → Result ℕ Refusal
verdict_of rule s = answer (asked rule s)

-- Reference 8.10: the answer as two numbers, 0 and how many words, or the refusal's number and value
abbrev pub verdict_result : Result ℕ Refusal → ℕ × ℕ
verdict_result (Ok words) = (0, words)
verdict_result (Err refusal) = (number_of refusal, value_of refusal)
