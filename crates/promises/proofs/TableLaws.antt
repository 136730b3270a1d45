-- The rows of the table say something: none is right with two results, each is wrong with another, and a table with a wrong row is not right.
use Rattle.std.specs.Prelude.{Result, Ok, Err}
use Rattle.list.specs.declared.answer.Tally.{Tally}
use Rattle.refusal.specs.declared.Refusal.{Refusal}
use Prim.Native.Nat.{ℕ, zero, suc, ◌<◌}
use native.Mathlib.Omega.{arith}
use mathlib.Core.Path.{◌≡◌, refl, sym, ap, ◌∙◌}
use mathlib.Core.List.{List, [], ◌∷◌, ◌++◌}
use lib.ListN.{length, get_or}
use Rattle.laws.proofs.Tests.{true-false}
use Rattle.refusal.specs.declared.Refusal.TheVariants.{Grammar, NoWord}
use Rattle.refusal.specs.Refusal.{value_of}
use Rattle.list.specs.Outcome.{Outcome}
use Rattle.list.specs.Answer.{Gives}
use Rattle.list.proofs.ListingLaws.{gives-agree}
use Rattle.promises.specs.Example.{boats, harbour, maps, tide, tables, pier, and', or', not', example}
use Rattle.promises.specs.Table.{Row, line, union, intersection, probe, lent, Right, AllRight, tallied, table}
use Rattle.promises.specs.Wrong.{answer_refused, records_in}
use Rattle.promises.proofs.Determined.{asks-determined}
use Rattle.promises.proofs.Table.{table-right}
use Rattle.promises.proofs.WrongLaws.{differ-at}
use Rattle.promises.proofs.Made.{some_is}

-- ---- one result for each row

pub line-one : (rule : ℕ) (question : List ℕ) (r s : Result Tally Refusal) (c d : List ℕ) → Right (line rule question r c) → Right (line rule question s d) →
    (r ≡ s) × (c ≡ d)
line-one rule question r s c d p q = asks-determined rule example question lent c d r s p q

pub union-one : (lists : List (List ℕ)) (c d : List ℕ) → Right (union lists c) → Right (union lists d) → c ≡ d
union-one lists c d p q = sym p ∙ q

pub intersection-one : (lists : List (List ℕ)) (c d : List ℕ) → Right (intersection lists c) → Right (intersection lists d) → c ≡ d
intersection-one lists c d p q = sym p ∙ q

pub probe-one : (a b : ℕ) (list : List ℕ) (i j k l : ℕ) → Right (probe a b list i j) → Right (probe a b list k l) → (i ≡ k) × (j ≡ l)
probe-one a b list i j k l p q = (sym p.0 ∙ q.0, sym p.1 ∙ q.1)

-- ---- all rows: thirteen, and each is right where all are

pub table-rows : length table ≡ 13
table-rows = refl

pub row-right : (rows : List Row) (i : ℕ) → i < length rows → AllRight rows → Right (get_or rows i (union [] []))
row-right [] i h p = absurd (omega arith)
row-right (r ∷ rs) zero h p = p.0
row-right (r ∷ rs) (suc i) h p = row-right rs i (omega arith) p.1

pub wrong-among : (before after : List Row) (r : Row) → (Right r → ⊥) → AllRight (before ++ r ∷ after) → ⊥
wrong-among [] after r wrong p = wrong p.0
wrong-among (b ∷ bs) after r wrong p = wrong-among bs after r wrong p.1

-- ---- each row with what a slip would make of it

-- a line with another answer, or with other cells
not_answer : {o : Outcome} {out c d : List ℕ} {r s : (Result Tally Refusal)} → Gives o out c r → (r ≡ s → ⊥) → Gives o out d s → ⊥
not_answer right differ p = differ (gives-agree right p).0

not-cells : {o : Outcome} {out c d : List ℕ} {r s : (Result Tally Refusal)} → Gives o out c r → (c ≡ d → ⊥) → Gives o out d s → ⊥
not-cells right differ p = differ (gives-agree right p).1

other-records : {i j : ℕ} (k l : ℕ) → (k ≡ l → ⊥) → tallied i k ≡ tallied j l → ⊥
other-records k l differ e = differ (some_is k l (ap records_in e))

-- a record too many
pub p1-records : Right (line 1 (boats ++ or' ++ tide) (tallied 2 6) (2 ∷ 4 ∷ 8 ∷ 9 ∷ [])) → ⊥
p1-records = not_answer (row-right table 0 (omega arith) table-right) (other-records 5 6 (λ e. omega arith))

-- the second word's last record lost
pub p1-cells : Right (line 1 (boats ++ or' ++ tide) (tallied 2 5) (2 ∷ 4 ∷ 8 ∷ 8 ∷ [])) → ⊥
p1-cells = not-cells (row-right table 0 (omega arith) table-right) (differ-at 3 (2 ∷ 4 ∷ 8 ∷ 9 ∷ []) (2 ∷ 4 ∷ 8 ∷ 8 ∷ []) (λ e. omega arith))

-- intervals that touch left apart
pub p2-apart : Right (line 1 (boats ++ or' ++ maps) (tallied 2 8) (2 ∷ 4 ∷ 5 ∷ 9 ∷ [])) → ⊥
p2-apart = not-cells (row-right table 1 (omega arith) table-right) (differ-at 1 (2 ∷ 9 ∷ 0 ∷ 0 ∷ []) (2 ∷ 4 ∷ 5 ∷ 9 ∷ []) (λ e. omega arith))

-- `and` read as `or`
pub p3-either : Right (line 1 (harbour ++ and' ++ maps ++ not' ++ tide) (tallied 2 5) (1 ∷ 2 ∷ 5 ∷ 7 ∷ [])) → ⊥
p3-either = not_answer (row-right table 2 (omega arith) table-right) (other-records 2 5 (λ e. omega arith))

-- `and` before `or`
pub p4-ranked : Right (line 1 (boats ++ or' ++ harbour ++ and' ++ maps) (tallied 2 6) (2 ∷ 4 ∷ 6 ∷ 8 ∷ [])) → ⊥
p4-ranked = not_answer (row-right table 3 (omega arith) table-right) (other-records 2 6 (λ e. omega arith))

-- brackets passed over
pub p5-flat : Right (line 1 (boats ++ or' ++ 40 ∷ (harbour ++ and' ++ maps ++ 41 ∷ [])) (tallied 1 2) (6 ∷ 7 ∷ 0 ∷ 0 ∷ [])) → ⊥
p5-flat = not_answer (row-right table 4 (omega arith) table-right) (other-records 6 2 (λ e. omega arith))

-- the place before the word that may not stand there
pub p6-place : Right (line 1 (tide ++ 32 ∷ tables) (Err (Grammar 4)) lent) → ⊥
p6-place = not_answer (row-right table 5 (omega arith) table-right) (λ e. let z : ◌≡◌ {A = ℕ} 5 4 = ap value e in omega arith)
  where
    value : Result Tally Refusal → ℕ
    value (Ok t) = 0
    value (Err r) = value_of r

-- a word that no record has, refused
pub p7-refused : Right (line 1 pier (Err (NoWord 3)) lent) → ⊥
p7-refused = not_answer (row-right table 6 (omega arith) table-right) (λ e. true-false (sym (ap answer_refused e)))

-- intervals that touch left apart
pub p8-apart : Right (union ((1 ∷ 3 ∷ []) ∷ (4 ∷ 5 ∷ []) ∷ []) (1 ∷ 3 ∷ 4 ∷ 5 ∷ [])) → ⊥
p8-apart p = differ-at 1 (1 ∷ 5 ∷ []) (1 ∷ 3 ∷ 4 ∷ 5 ∷ []) (λ e. omega arith) (union-one _ _ _ (row-right table 7 (omega arith) table-right) p)

-- intervals with a record between them made one
pub p9-joined : Right (union ((1 ∷ 3 ∷ []) ∷ (5 ∷ 6 ∷ []) ∷ []) (1 ∷ 6 ∷ [])) → ⊥
p9-joined p = differ-at 1 (1 ∷ 3 ∷ 5 ∷ 6 ∷ []) (1 ∷ 6 ∷ []) (λ e. omega arith) (union-one _ _ _ (row-right table 8 (omega arith) table-right) p)

-- an upper bound before the lower one that equals it
pub p10-empty : Right (intersection ((1 ∷ 3 ∷ []) ∷ (3 ∷ 5 ∷ []) ∷ []) []) → ⊥
p10-empty p = differ-at 0 (3 ∷ 3 ∷ []) [] (λ e. omega arith) (intersection-one _ _ _ (row-right table 9 (omega arith) table-right) p)

-- going on when one list is used up
pub p11-on : Right (intersection ((1 ∷ 2 ∷ []) ∷ (1 ∷ 9 ∷ []) ∷ (4 ∷ 6 ∷ []) ∷ []) (4 ∷ 6 ∷ [])) → ⊥
p11-on p = differ-at 0 [] (4 ∷ 6 ∷ []) (λ e. omega arith) (intersection-one _ _ _ (row-right table 10 (omega arith) table-right) p)

abbrev probed : ℕ → ℕ → Row
probed below overlapping = probe 4 6 (1 ∷ 4 ∷ 6 ∷ 6 ∷ 8 ∷ 9 ∷ []) below overlapping

-- an interval that ends in the range counted below it
pub p12-below : Right (probed 1 2) → ⊥
p12-below p =
    let e : ◌≡◌ {A = ℕ} 0 1 = (probe-one 4 6 _ 0 2 1 2 (row-right table 11 (omega arith) table-right) p).0 in
    omega arith

-- an interval that ends with the range left out
pub p12-overlapping : Right (probed 0 1) → ⊥
p12-overlapping p =
    let e : ◌≡◌ {A = ℕ} 2 1 = (probe-one 4 6 _ 0 2 0 1 (row-right table 11 (omega arith) table-right) p).1 in
    omega arith

-- `or` and `and` in one rank
pub p13-flat : Right (line 2 (boats ++ or' ++ harbour ++ and' ++ maps) (tallied 1 2) (6 ∷ 7 ∷ 0 ∷ 0 ∷ [])) → ⊥
p13-flat = not_answer (row-right table 12 (omega arith) table-right) (other-records 6 2 (λ e. omega arith))

-- wherever such a row stands, the table is not right
pub table-wrong : (before after : List Row) → AllRight (before ++ probed 0 1 ∷ after) → ⊥
table-wrong before after = wrong-among before after (probed 0 1) p12-overlapping
