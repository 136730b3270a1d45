-- The wrong builders, by the words `a` and `b` with one record each: 70 bytes, and 45 of the first word alone.
use Rattle.std.specs.Prelude.{Result, Ok, Err, Option}
use Rattle.refusal.specs.declared.Refusal.{Refusal}
use Prim.Native.Nat.{ℕ}
use native.Mathlib.Omega.{arith}
use mathlib.Core.Path.{◌≡◌, refl, sym, ap, ◌∙◌}
use mathlib.Core.Bool.{false}
use mathlib.Core.List.{List, [], ◌∷◌}
use lib.ListN.{length, get_or, replicate}
use Rattle.refusal.specs.First.{first_from, first}
use Rattle.word.specs.Word.{is_word_byte, all_word_bytes, same, before, small_letter, small_operator_of, operator_of, is_operator, is_word}
use Rattle.list.specs.Stretches.{stretches, cells_of}
use Rattle.list.specs.Among.{among}
use Rattle.question.specs.Token.{run}
use Rattle.list.specs.Outcome.{Outcome, left_by, written_of}
use Rattle.refusal.specs.declared.Refusal.TheVariants.{Room}
use Rattle.build.specs.Lent.{words_from, lent_words, rest_from, rest_of, word_total, bad_lent, sum_to, bad_count, bad_rest, begins_list, bad_listed, lists_from}
use Rattle.layout.specs.Layout.{cells_bytes, cell_singles, cell_lowers, cell_uppers, kept_bytes, lists_bytes, words_bytes, directory_bytes, index_of}
use Rattle.build.specs.Build.{lent_of, index_from, build_outcome}
use Rattle.promises.specs.Outcome.{OneOutcome}
use Rattle.promises.specs.Wrong.{Fails, builds, Refusing, Fixed, Silent, FirstOnly, Inventing, Misreporting, written_refused, first_built}
use Rattle.promises.specs.Wrong.{written_in, needed_by}
use Rattle.promises.proofs.Determined.{builds-determined}
use Rattle.promises.proofs.WrongLaws.{refusing-fails, fixed-fails, silent-fails, first-fails, inventing-fails, misreporting-fails, differ-at}

-- what a build answers, and the bytes afterwards
abbrev Args : Type 0
Args = ℕ × List ℕ × List ℕ × List ℕ

abbrev outcome : Args → List ℕ → Outcome
outcome a out = build_outcome a.0 a.1 a.2 a.3 (length out)

abbrev answered : Args → List ℕ → Result ℕ Refusal
answered a out = written_of (length (index_from a.0 a.1 a.2 a.3)) (outcome a out)

abbrev after : Args → List ℕ → List ℕ
after a out = left_by (outcome a out) out

known : (a : Args) (out : List ℕ) → builds a out (after a out) (answered a out)
known a out = record { answer = refl; bytes = refl }

determined : (a : Args) (out : List ℕ) → OneOutcome (builds a out)
determined a out = builds-determined a.0 a.1 a.2 a.3 out

-- a 1, b 2, with N = 2
abbrev two : Args
two = (2, 97 ∷ 10 ∷ 98 ∷ 10 ∷ [], 1 ∷ 1 ∷ [], 1 ∷ 2 ∷ [])

abbrev one : Args
one = (2, 97 ∷ 10 ∷ [], 1 ∷ [], 1 ∷ [])

abbrev zeros : List ℕ
zeros = replicate 70 0

-- what each comes to, with 70 bytes lent and with none, and a byte or two of it: the list of `a` begins with 1, and behind it stands that of `b`, or `a`
abbrev Outcomes : Type 0
Outcomes =
    (answered two zeros ≡ Ok 70)
    × (answered one zeros ≡ Ok 45)
    × (answered two [] ≡ Err (Room 70))
    × (answered one [] ≡ Err (Room 45))
    × (get_or (after two zeros) 0 0 ≡ 1)
    × (get_or (after two zeros) 4 0 ≡ 2)
    × (get_or (after one zeros) 4 0 ≡ 97)

outcomes : Outcomes
unfolding first_from first is_word_byte all_word_bytes same before small_letter small_operator_of operator_of is_operator is_word stretches cells_of among words_from lent_words rest_from rest_of word_total bad_lent sum_to bad_count bad_rest begins_list bad_listed lists_from cells_bytes cell_singles cell_lowers cell_uppers kept_bytes lists_bytes words_bytes directory_bytes index_of lent_of build_outcome
outcomes = (refl, refl, refl, refl, refl, refl, refl)

differ : after two zeros ≡ after one zeros → ⊥
differ = differ-at 4 (after two zeros) (after one zeros) (λ e. let z : ◌≡◌ {A = ℕ} 2 97 = sym outcomes.5 ∙ e ∙ outcomes.6 in omega arith)

two-written : written_refused (answered two zeros) ≡ false
two-written = ap written_refused outcomes.0

one_written : written_refused (answered one zeros) ≡ false
one_written = ap written_refused outcomes.1

pub build-refusing : Fails builds (Refusing written_refused)
build-refusing = refusing-fails determined written_refused two zeros (known two zeros) two-written

pub build-fixed : Fails builds (Fixed written_refused)
build-fixed = fixed-fails determined written_refused two one zeros (known two zeros) (known one zeros) two-written one_written differ

pub build-silent : Fails builds (Silent written_refused)
build-silent =
    silent-fails determined written_refused two zeros (known two zeros) two-written
    (differ-at 0 (after two zeros) zeros (λ e. let z : ◌≡◌ {A = ℕ} 1 0 = sym outcomes.4 ∙ e in omega arith))

pub build-first : Fails builds (FirstOnly written_refused first_built)
unfolding is_word_byte run
build-first = first-fails determined written_refused first_built two zeros (known two zeros) (known one zeros) two-written one_written differ

-- the bytes that are reported, and the room that is needed
pub build-inventing : Fails builds (Inventing written_in)
build-inventing =
    inventing-fails determined written_in two one zeros 70 45 (known two zeros) (known one zeros) (ap written_in outcomes.0) (ap written_in outcomes.1)
    (λ e. omega arith)

pub build-inventing-room : Fails builds (Inventing needed_by)
build-inventing-room =
    inventing-fails determined needed_by two one [] 70 45 (known two []) (known one []) (ap needed_by outcomes.2) (ap needed_by outcomes.3)
    (λ e. omega arith)

pub build-misreporting : (number : Result ℕ Refusal → Option ℕ) → Fails builds (Misreporting builds number)
build-misreporting = misreporting-fails determined
