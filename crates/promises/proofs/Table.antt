-- P1 to P13, computed: the questions from the index's bytes on, the unions and intersections up to 9, above which none of their lists names anything.
use Rattle.std.specs.Prelude.{Result}
use Rattle.list.specs.declared.answer.Tally.{Tally}
use Rattle.refusal.specs.declared.Refusal.{Refusal}
use Prim.Native.Nat.{ℕ}
use native.Mathlib.Omega.{arith}
use mathlib.Core.Path.{◌≡◌, refl, sym, ◌∙◌}
use mathlib.Core.Bool.{true}
use mathlib.Core.List.{List, [], ◌∷◌}
use Rattle.refusal.specs.First.{first_from, first}
use Rattle.word.specs.Word.{is_word_byte, same, small_letter, small_operator_of, operator_of}
use Rattle.list.specs.Interval.{proper_from, is_proper, names, records}
use Rattle.list.specs.Stretches.{stretches, cells_of}
use Rattle.list.specs.Ginix.{in_some, in_every, union_of, intersection_of, below_count, overlap_count}
use Rattle.list.specs.Cell.{numbers_in}
use Rattle.list.specs.Kept.{walk_from, walked}
use Rattle.list.proofs.JoinLaws.{AllProper, union-limit, intersection-limit}
use Rattle.index.specs.Format.{entry_place, word_start, word_length, list_start, single_count, pair_count, word_of, singles_of, lower_of, upper_of, list_of}
use Rattle.directory.specs.Has.{has_within, has}
use Rattle.question.specs.Token.{run, gather, tokens_at, tokens}
use Rattle.question.specs.Grammar.{from_left, question, operand, links, whole}
use Rattle.question.specs.Meaning.{satisfies}
use Rattle.question.specs.Rules.{first_group, later_groups, and_first}
use Rattle.question.specs.Reading.{is_foreign, refusal_of, parsed, asked}
use Rattle.source.specs.Source.{satisfying, of_index}
use Rattle.source.specs.Ask.{Answers, Asks}
use Rattle.source.proofs.AskLaws.{good-asks}
use Rattle.promises.specs.Example.{example}
use Rattle.promises.specs.Table.{Row, line, union, intersection, probe, lent, Right, AllRight, table}
use Rattle.promises.proofs.Rows.{◌&◌}
use Rattle.promises.proofs.ExampleLaws.{example-good}

-- a question over the example's index: once that is good, what the question comes to
pub asks-example : (rule : ℕ) (q out out' : List ℕ) (r : Result Tally Refusal) → Answers rule example q out out' r → Asks rule example q out out' r
asks-example rule q out out' r a = good-asks (asked rule q) (satisfying (of_index example)) example-good a

pub union-is : (lists : List (List ℕ)) (c : List ℕ) → AllProper 9 lists → cells_of (in_some lists) 9 ≡ c → union_of lists ≡ c
union-is lists c p e = sym (union-limit 9 lists (omega arith) p) ∙ e

pub intersection-is : (l : List ℕ) (lists : List (List ℕ)) (c : List ℕ) → is_proper 9 l ≡ true → cells_of (in_every (l ∷ lists)) 9 ≡ c →
    intersection_of (l ∷ lists) ≡ c
intersection-is l lists c p e = sym (intersection-limit 9 l lists (omega arith) p) ∙ e

-- a row, where of a question it says what that comes to once the index is good
abbrev Comes : Row → Type 0
Comes (line rule question answer cells) = Answers rule example question lent cells answer
Comes (union lists cells) = Right (union lists cells)
Comes (intersection lists cells) = Right (intersection lists cells)
Comes (probe a b list below overlapping) = Right (probe a b list below overlapping)

abbrev AllCome : List Row → Type 0
AllCome [] = Unit {0}
AllCome (r ∷ rs) = Comes r × AllCome rs

row-comes : (r : Row) → Comes r → Right r
row-comes (line rule question answer cells) p = asks-example rule question lent cells answer p
row-comes (union lists cells) p = p
row-comes (intersection lists cells) p = p
row-comes (probe a b list below overlapping) p = p

all_right : (rows : List Row) → AllCome rows → AllRight rows
all_right [] p = tt
all_right (r ∷ rs) p = (row-comes r p.0, all_right rs p.1)

pub table-right : AllRight table
unfolding first_from first is_word_byte same small_letter small_operator_of operator_of proper_from is_proper names records stretches cells_of in_some in_every below_count overlap_count numbers_in walk_from walked entry_place word_start word_length list_start single_count pair_count word_of singles_of lower_of upper_of list_of has_within has run gather tokens_at tokens from_left first_group later_groups and_first question operand links whole satisfies is_foreign refusal_of parsed asked satisfying
table-right =
    all_right table
    (record { answer = refl; cells = refl }
    & record { answer = refl; cells = refl }
    & record { answer = refl; cells = refl }
    & record { answer = refl; cells = refl }
    & record { answer = refl; cells = refl }
    & record { answer = refl; cells = refl }
    & record { answer = refl; cells = refl }
    & union-is _ _ (refl, (refl, tt)) refl
    & union-is _ _ (refl, (refl, tt)) refl
    & intersection-is _ _ _ refl refl
    & intersection-is _ _ _ refl refl
    & (refl, refl)
    & record { answer = refl; cells = refl }
    & tt)
