-- The table of refusals, by computing.
use mathlib.Core.Path.{◌≡◌, refl, sym, ap, ◌∙◌}
use Prim.Native.Nat.{ℕ, ◌-◌}
use native.Mathlib.Omega.{arith}
use mathlib.Core.List.{List, [], ◌∷◌, ◌++◌}
use lib.ListN.{length, get_or}
use Rattle.refusal.specs.declared.Refusal.{Refusal}
use Rattle.refusal.specs.declared.Refusal.TheVariants.{IndexLength, IndexEdition, IndexTrailer, IndexEntry, IndexList, QuestionLength, QuestionByte}
use Rattle.refusal.specs.declared.Refusal.TheVariants.{QuestionWord, Grammar, Words, Brackets, Room, Lists, EntryNumber, Number, Interval, BuildWord}
use Rattle.refusal.specs.declared.Refusal.TheVariants.{BuildCount, BuildSize, ProbeRange, NoWord, RuleNumber}
use Rattle.refusal.specs.Refusal.{number_of, value_of}
use Rattle.promises.proofs.Rows.{◌&◌}
use Rattle.promises.specs.Numbers.{Numbered, carries, zeroed, refusals, row_numbers, RowRight, RowsRight, made, AllNumbered}

given_back : (r : Refusal) → made (get_or refusals (number_of r - 1) (zeroed 0 ProbeRange)) (value_of r) ≡ r
given_back (IndexLength v) = refl
given_back (IndexEdition v) = refl
given_back IndexTrailer = refl
given_back (IndexEntry v) = refl
given_back (IndexList v) = refl
given_back (QuestionLength v) = refl
given_back (QuestionByte v) = refl
given_back (QuestionWord v) = refl
given_back (Grammar v) = refl
given_back (Words v) = refl
given_back (Brackets v) = refl
given_back (Room v) = refl
given_back (Lists v) = refl
given_back (EntryNumber v) = refl
given_back (Number v) = refl
given_back (Interval v) = refl
given_back (BuildWord v) = refl
given_back (BuildCount v) = refl
given_back (BuildSize v) = refl
given_back ProbeRange = refl
given_back (NoWord v) = refl
given_back (RuleNumber v) = refl

rows_right : RowsRight refusals
rows_right =
    (λ v. (refl, refl))
    & (λ v. (refl, refl))
    & (refl, refl)
    & (λ v. (refl, refl))
    & (λ v. (refl, refl))
    & (λ v. (refl, refl))
    & (λ v. (refl, refl))
    & (λ v. (refl, refl))
    & (λ v. (refl, refl))
    & (λ v. (refl, refl))
    & (λ v. (refl, refl))
    & (λ v. (refl, refl))
    & (λ v. (refl, refl))
    & (λ v. (refl, refl))
    & (λ v. (refl, refl))
    & (λ v. (refl, refl))
    & (λ v. (refl, refl))
    & (λ v. (refl, refl))
    & (λ v. (refl, refl))
    & (refl, refl)
    & (λ v. (refl, refl))
    & (λ v. (refl, refl))
    & tt

pub refusals-numbered : AllNumbered refusals
refusals-numbered = record {
  right = rows_right;
  ordered = refl;
  complete = given_back;
}

-- ---- what the statement gives, of any rows for which it holds

-- two refusals with one number and one value are one
pub numbers-tell : (rows : List Numbered) → AllNumbered rows → (r s : Refusal) → number_of r ≡ number_of s → value_of r ≡ value_of s → r ≡ s
numbers-tell rows all r s e f =
    sym (all.complete r) ∙ ap (λ n. made (get_or rows (n - 1) (zeroed 0 ProbeRange)) (value_of r)) e
    ∙ ap (λ v. made (get_or rows (number_of s - 1) (zeroed 0 ProbeRange)) v) f ∙ all.complete s

pub refusals-tell : (r s : Refusal) → number_of r ≡ number_of s → value_of r ≡ value_of s → r ≡ s
refusals-tell = numbers-tell refusals refusals-numbered

pub numbers-many : (rows : List Numbered) → AllNumbered rows → length (row_numbers rows) ≡ 22
numbers-many rows all = ap length all.ordered

-- ---- a row with another number or another value is wrong, and so are rows with one such

pub number-wrong : RowRight (carries 7 QuestionLength) → ⊥
number-wrong p = let e : ◌≡◌ {A = ℕ} 6 7 = (p 300).0 in omega arith

pub value-wrong : RowRight (carries 20 (λ v. ProbeRange)) → ⊥
value-wrong p = let e : ◌≡◌ {A = ℕ} 0 1 = (p 1).1 in omega arith

pub zero-number-wrong : RowRight (zeroed 21 ProbeRange) → ⊥
zero-number-wrong p = let e : ◌≡◌ {A = ℕ} 20 21 = p.0 in omega arith

pub zero-value-wrong : RowRight (zeroed 6 (QuestionLength 300)) → ⊥
zero-value-wrong p = let e : ◌≡◌ {A = ℕ} 300 0 = p.1 in omega arith

pub wrong-numbered : (before after : List Numbered) (row : Numbered) → (RowRight row → ⊥) → RowsRight (before ++ row ∷ after) → ⊥
wrong-numbered [] after row wrong p = wrong p.0
wrong-numbered (b ∷ bs) after row wrong p = wrong-numbered bs after row wrong p.1

pub refusals-wrong : (before after : List Numbered) → AllNumbered (before ++ carries 7 QuestionLength ∷ after) → ⊥
refusals-wrong before after all = wrong-numbered before after (carries 7 QuestionLength) number-wrong all.right
