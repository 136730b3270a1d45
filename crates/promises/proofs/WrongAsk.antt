-- The wrong ways to answer a question, by P1, P2, P4, P13 and `boats` over the example's index.
use Rattle.std.specs.Prelude.{Result, Err, Option}
use Rattle.list.specs.declared.answer.Tally.{Tally}
use Rattle.refusal.specs.declared.Refusal.{Refusal}
use Prim.Native.Nat.{ℕ}
use native.Mathlib.Omega.{arith}
use mathlib.Core.Path.{◌≡◌, refl, sym, ap, ◌∙◌}
use mathlib.Core.List.{List, [], ◌∷◌, ◌++◌}
use Rattle.refusal.specs.First.{first_from, first}
use Rattle.refusal.specs.declared.Refusal.TheVariants.{Room}
use Rattle.word.specs.Word.{is_word_byte, same, small_letter, small_operator_of, operator_of}
use Rattle.list.specs.Interval.{names, records}
use Rattle.list.specs.Stretches.{stretches, cells_of}
use Rattle.list.specs.Cell.{numbers_in}
use Rattle.list.specs.Kept.{walk_from, walked}
use Rattle.index.specs.Format.{entry_place, word_start, word_length, list_start, single_count, pair_count, word_of, singles_of, lower_of, upper_of, list_of}
use Rattle.directory.specs.Has.{has_within, has}
use Rattle.question.specs.Token.{run, gather, tokens_at, tokens}
use Rattle.question.specs.Grammar.{from_left, question, operand, links, whole}
use Rattle.question.specs.Meaning.{satisfies}
use Rattle.question.specs.Reading.{is_foreign, refusal_of, parsed, asked}
use Rattle.question.specs.Limits.{token_words}
use Rattle.source.specs.Source.{satisfying}
use Rattle.source.specs.Ask.{Asks}
use Rattle.promises.specs.Example.{boats, harbour, maps, tide, and', or', example}
use Rattle.promises.specs.Outcome.{OneOutcome}
use Rattle.promises.specs.Table.{lent, tallied, table}
use Rattle.promises.specs.Wrong.{Fails, asks, Refusing, Fixed, Silent, FirstOnly, RuleBlind, Inventing, Misreporting, answer_refused, first_word}
use Rattle.promises.specs.Wrong.{intervals_in, records_in, needed_in}
use Rattle.promises.proofs.Determined.{asks-determined}
use Rattle.promises.proofs.Made.{some_is}
use Rattle.promises.proofs.Table.{asks-example, table-right}
use Rattle.promises.proofs.TableLaws.{row-right}
use Rattle.promises.proofs.WrongLaws.{refusing-fails, fixed-fails, silent-fails, first-fails, inventing-fails, misreporting-fails, differ-at}

abbrev boats-or-tide : List ℕ
boats-or-tide = boats ++ or' ++ tide

abbrev boats-or-maps : List ℕ
boats-or-maps = boats ++ or' ++ maps

-- what each comes to, with four cells lent and with none
abbrev Outcomes : Type 0
Outcomes =
    Asks 1 example boats-or-tide lent (2 ∷ 4 ∷ 8 ∷ 9 ∷ []) (tallied 2 5)
    × Asks 1 example boats-or-maps lent (2 ∷ 9 ∷ 0 ∷ 0 ∷ []) (tallied 1 8)
    × Asks 1 example boats lent (2 ∷ 4 ∷ 8 ∷ 8 ∷ []) (tallied 2 4)
    × Asks 1 example boats-or-tide [] [] (Err (Room 2))
    × Asks 1 example boats-or-maps [] [] (Err (Room 1))

outcomes : Outcomes
unfolding first_from first is_word_byte same small_letter small_operator_of operator_of names records stretches cells_of numbers_in walk_from walked entry_place word_start word_length list_start single_count pair_count word_of singles_of lower_of upper_of list_of has_within has run gather tokens_at tokens from_left question operand links whole satisfies is_foreign refusal_of parsed asked satisfying
outcomes = (
  asks-example 1 boats-or-tide _ _ _ (record { answer = refl; cells = refl }),
  asks-example 1 boats-or-maps _ _ _ (record { answer = refl; cells = refl }),
  asks-example 1 boats _ _ _ (record { answer = refl; cells = refl }),
  asks-example 1 boats-or-tide _ _ _ (record { answer = refl; cells = refl }),
  asks-example 1 boats-or-maps _ _ _ (record { answer = refl; cells = refl }),
)

one : (a : List ℕ × ℕ × List ℕ) (out : List ℕ) → OneOutcome (asks a out)
one a out = asks-determined a.1 a.0 a.2 out

abbrev tide-asked : List ℕ × ℕ × List ℕ
tide-asked = (example, 1, boats-or-tide)

abbrev maps-asked : List ℕ × ℕ × List ℕ
maps-asked = (example, 1, boats-or-maps)

pub ask-refusing : Fails asks (Refusing answer_refused)
ask-refusing = refusing-fails one answer_refused tide-asked lent outcomes.0 refl

pub ask-fixed : Fails asks (Fixed answer_refused)
ask-fixed = fixed-fails one answer_refused tide-asked maps-asked lent outcomes.0 outcomes.1 refl refl
    (differ-at 1 (2 ∷ 4 ∷ 8 ∷ 9 ∷ []) (2 ∷ 9 ∷ 0 ∷ 0 ∷ []) (λ e. omega arith))

pub ask-silent : Fails asks (Silent answer_refused)
ask-silent = silent-fails one answer_refused tide-asked lent outcomes.0 refl (differ-at 0 (2 ∷ 4 ∷ 8 ∷ 9 ∷ []) lent (λ e. omega arith))

pub ask-first : Fails asks (FirstOnly answer_refused first_word)
unfolding is_word_byte same small_letter small_operator_of operator_of gather tokens_at tokens token_words
ask-first =
    first-fails one answer_refused first_word tide-asked lent outcomes.0 outcomes.2 refl refl
    (differ-at 3 (2 ∷ 4 ∷ 8 ∷ 9 ∷ []) (2 ∷ 4 ∷ 8 ∷ 8 ∷ []) (λ e. omega arith))

pub ask-inventing-intervals : Fails asks (Inventing intervals_in)
ask-inventing-intervals = inventing-fails one intervals_in tide-asked maps-asked lent 2 1 outcomes.0 outcomes.1 refl refl (λ e. omega arith)

pub ask-inventing-records : Fails asks (Inventing records_in)
ask-inventing-records = inventing-fails one records_in tide-asked maps-asked lent 5 8 outcomes.0 outcomes.1 refl refl (λ e. omega arith)

pub ask-inventing-room : Fails asks (Inventing needed_in)
ask-inventing-room = inventing-fails one needed_in tide-asked maps-asked [] 2 1 outcomes.3 outcomes.4 refl refl (λ e. omega arith)

pub ask-misreporting : (number : Result Tally Refusal → Option ℕ) → Fails asks (Misreporting asks number)
ask-misreporting = misreporting-fails one

-- P4 is answered otherwise by the second rule
pub ask-rule-blind : Fails asks RuleBlind
ask-rule-blind f blind meets =
    let question = boats ++ or' ++ harbour ++ and' ++ maps in
    let first : (f (example, 1, question) lent).0 ≡ tallied 1 2 =
    (one (example, 1, question) lent _ _ _ _ (meets (example, 1, question) lent) (row-right table 3 (omega arith) table-right)).0 in
    let second : (f (example, 2, question) lent).0 ≡ tallied 2 6 =
    (one (example, 2, question) lent _ _ _ _ (meets (example, 2, question) lent) (row-right table 12 (omega arith) table-right)).0 in
    let same : tallied 1 2 ≡ tallied 2 6 = sym first ∙ ap (λ (w : (Result Tally Refusal) × List ℕ). w.0) (blind example question lent) ∙ second in
    let records : ◌≡◌ {A = ℕ} 2 6 = some_is 2 6 (ap records_in same) in
    omega arith
