-- Two outcomes that a contract allows are equal: one theorem for each public call.
use Prim.Native.Nat.{ℕ}
use mathlib.Core.Path.{◌≡◌, sym, ap, ◌∙◌}
use mathlib.Core.List.{List}
use Rattle.list.specs.Outcome.{Outcome}
use Rattle.list.specs.Answer.{Gives}
use Rattle.list.proofs.ListingLaws.{gives-agree}
use Rattle.convert.specs.Convert.{ToIntervals, ToNumbers}
use Rattle.index.specs.Part.{Slice}
use Rattle.index.specs.Check.{check_of}
use Rattle.directory.specs.Entry.{lookup_of, entry_check, entry_word, probe_of}
use Rattle.join.specs.Join.{Joins}
use Rattle.question.specs.Reading.{verdict_of}
use Rattle.source.specs.Ask.{Answers, Asks}
use Rattle.build.specs.Build.{Builds}
use Rattle.naburain.specs.Result.{check_result, lookup_result, part_result, probe_result, write_result, answer_result}
use Rattle.naburain.specs.Exported.{IntervalsExported, NumbersExported, JoinExported, AskExported, BuildExported}
use Rattle.promises.specs.Outcome.{OneReturn, OneOutcome}

-- a contract that is an equation
one_value : {R : Type 0} (v : R) → OneReturn (λ r. r ≡ v)
one_value v r s p q = p ∙ sym q

-- ---- calls that write nothing

pub check-determined : (index : List ℕ) → OneReturn (λ r. r ≡ check_of index)
check-determined index = one_value (check_of index)

pub lookup-determined : (index word : List ℕ) → OneReturn (λ r. r ≡ lookup_of index word)
lookup-determined index word = one_value (lookup_of index word)

-- Reference 8.3: the refusal, and the part of the index
pub entry-determined : (index : List ℕ) (i : ℕ) → OneReturn (λ r. r ≡ entry_check index i)
entry-determined index i = one_value (entry_check index i)

pub word-determined : (index : Slice) (i : ℕ) → OneReturn (λ r. r ≡ entry_word index i)
word-determined index i = one_value (entry_word index i)

pub probe-determined : (index : List ℕ) (i a b : ℕ) → OneReturn (λ r. r ≡ probe_of index i a b)
probe-determined index i a b = one_value (probe_of index i a b)

pub reading-determined : (rule : ℕ) (question : List ℕ) → OneReturn (λ r. r ≡ verdict_of rule question)
reading-determined rule question = one_value (verdict_of rule question)

-- ---- calls that write

pub intervals-determined : (xs out : List ℕ) → OneOutcome (ToIntervals xs out)
intervals-determined xs out a b r s p q = (p.answer ∙ sym q.answer, p.cells ∙ sym q.cells)

pub numbers-determined : (c out : List ℕ) → OneOutcome (ToNumbers c out)
numbers-determined c out a b r s p q = (p.answer ∙ sym q.answer, p.cells ∙ sym q.cells)

-- whatever comes of it: joins and questions are instances
pub gives-determined : (o : Outcome) (out : List ℕ) → OneOutcome (Gives o out)
gives-determined o out a b r s p q = gives-agree p q

-- all four joins: `method` is the union or the intersection
pub joins-determined : (method : List (List ℕ) → List ℕ) (index entries out : List ℕ) → OneOutcome (Joins method index entries out)
joins-determined method index entries out = gives-determined _ out

pub answers-determined : (rule : ℕ) (index question out : List ℕ) → OneOutcome (Answers rule index question out)
answers-determined rule index question out = gives-determined _ out

pub asks-determined : (rule : ℕ) (index question out : List ℕ) → OneOutcome (Asks rule index question out)
asks-determined rule index question out = gives-determined _ out

pub builds-determined : (n : ℕ) (words counts numbers out : List ℕ) → OneOutcome (Builds n words counts numbers out)
builds-determined n words counts numbers out a b r s p q = (p.answer ∙ sym q.answer, p.bytes ∙ sym q.bytes)

-- ---- the exported calls

pub check-exported-determined : (index : List ℕ) → OneReturn (λ r. r ≡ check_result (check_of index))
check-exported-determined index = one_value (check_result (check_of index))

pub lookup-exported-determined : (index word : List ℕ) → OneReturn (λ r. r ≡ lookup_result (lookup_of index word))
lookup-exported-determined index word = one_value (lookup_result (lookup_of index word))

pub word-exported-determined : (index : List ℕ) (i : ℕ) → OneReturn (λ r. r ≡ part_result index i)
word-exported-determined index i = one_value (part_result index i)

pub probe-exported-determined : (index : List ℕ) (i a b : ℕ) → OneReturn (λ r. r ≡ probe_result (probe_of index i a b))
probe-exported-determined index i a b = one_value (probe_result (probe_of index i a b))

pub intervals-exported-determined : (numbers out : List ℕ) → OneOutcome (IntervalsExported numbers out)
intervals-exported-determined numbers out a b r s p q =
    let same = intervals-determined numbers out a b p.written q.written p.promise q.promise in
    (p.result ∙ ap write_result same.0 ∙ sym q.result, same.1)

pub numbers-exported-determined : (cells out : List ℕ) → OneOutcome (NumbersExported cells out)
numbers-exported-determined cells out a b r s p q =
    let same = numbers-determined cells out a b p.written q.written p.promise q.promise in
    (p.result ∙ ap write_result same.0 ∙ sym q.result, same.1)

pub join-exported-determined : (method : List (List ℕ) → List ℕ) (index entries out : List ℕ) → OneOutcome (JoinExported method index entries out)
join-exported-determined method index entries out a b r s p q =
    let same = joins-determined method index entries out a b p.answer q.answer p.promise q.promise in
    (p.result ∙ ap answer_result same.0 ∙ sym q.result, same.1)

pub ask-exported-determined : (rule : ℕ) (index question out : List ℕ) → OneOutcome (AskExported rule index question out)
ask-exported-determined rule index question out a b r s p q =
    let same = asks-determined rule index question out a b p.answer q.answer p.promise q.promise in
    (p.result ∙ ap answer_result same.0 ∙ sym q.result, same.1)

pub build-exported-determined : (n : ℕ) (words counts numbers out : List ℕ) → OneOutcome (BuildExported n words counts numbers out)
build-exported-determined n words counts numbers out a b r s p q =
    let same = builds-determined n words counts numbers out a b p.written q.written p.promise q.promise in
    (p.result ∙ ap write_result same.0 ∙ sym q.result, same.1)
