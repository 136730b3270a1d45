-- For each call: one implementation meets its promise, and made wrong in any of the ways none does.
use Prim.Native.Nat.{ℕ}
use native.Mathlib.Omega.{arith}
use mathlib.Core.Path.{◌≡◌, refl, sym, ap, ◌∙◌}
use mathlib.Core.List.{List, ◌++◌}
use Rattle.list.specs.Ginix.{union_of, intersection_of}
use Rattle.index.specs.Check.{check_of}
use Rattle.promises.specs.Example.{boats, tide, or', example}
use Rattle.promises.specs.Table.{lent, tallied, table}
use Rattle.promises.specs.Wrong.{Meets, Misreporting, to_intervals, to_numbers, joins, asks, builds, lookup, entry, word, probe, reads, written_refused}
use Rattle.promises.specs.Wrong.{answer_refused, check_refused, lookup_refused, part_refused, probe_refused, verdict_refused, first_entry, first_word}
use Rattle.promises.specs.Wrong.{first_built, intervals_in}
use Rattle.promises.specs.Made.{right_intervals, right_numbers, right_join, right_ask, right_build, returning, with_intervals, WrongWays, WrongFirst}
use Rattle.promises.specs.Made.{WrongCounts, WrongWritten, WrongRefusal, WrongPlace, WrongProbe}
use Rattle.promises.proofs.Made.{misreporting-kind, some_is, wrong-ways, wrong_first, wrong-counts, wrong-written, wrong-refusal, wrong-place, wrong-probe}
use Rattle.promises.proofs.Table.{table-right}
use Rattle.promises.proofs.TableLaws.{row-right}
use Rattle.promises.proofs.FirstLaws.{first-entry-twice, first-word-twice, first-built-twice}
use Rattle.promises.proofs.WrongConversions as conversions
use Rattle.promises.proofs.WrongReturns as returns
use Rattle.promises.proofs.WrongAsk as ask
use Rattle.promises.proofs.WrongJoins as join
use Rattle.promises.proofs.WrongBuild as build

-- ---- conversions

intervals-met : Meets to_intervals right_intervals
intervals-met xs out = record { answer = refl; cells = refl }

numbers-met : Meets to_numbers right_numbers
numbers-met c out = record { answer = refl; cells = refl }

pub to-intervals-ways : WrongWays to_intervals written_refused right_intervals
to-intervals-ways =
    wrong-ways to_intervals written_refused right_intervals intervals-met conversions.to-intervals-refusing conversions.to-intervals-fixed
    conversions.to-intervals-silent conversions.to-intervals-misreporting

pub to-intervals-counts : WrongWritten to_intervals right_intervals
to-intervals-counts = wrong-written right_intervals conversions.to-intervals-inventing conversions.to-intervals-inventing-room

pub to-numbers-ways : WrongWays to_numbers written_refused right_numbers
to-numbers-ways =
    wrong-ways to_numbers written_refused right_numbers numbers-met conversions.to-numbers-refusing conversions.to-numbers-fixed conversions.to-numbers-silent
    conversions.to-numbers-misreporting

pub to-numbers-counts : WrongWritten to_numbers right_numbers
to-numbers-counts = wrong-written right_numbers conversions.to-numbers-inventing conversions.to-numbers-inventing-room

-- ---- joins

join-met : (method : List (List ℕ) → List ℕ) → Meets (joins method) (right_join method)
join-met method a out = record { answer = refl; cells = refl }

pub union-ways : WrongWays (joins union_of) answer_refused (right_join union_of)
union-ways =
    wrong-ways (joins union_of) answer_refused (right_join union_of) (join-met union_of) join.union-refusing join.union-fixed join.union-silent
    (join.join-misreporting union_of)

pub union-first-way : WrongFirst (joins union_of) answer_refused first_entry (right_join union_of)
union-first-way = wrong_first (joins union_of) answer_refused (right_join union_of) first_entry first-entry-twice join.union-first

pub union-counts : WrongCounts (joins union_of) (right_join union_of)
union-counts = wrong-counts (right_join union_of) join.union-inventing-intervals join.union-inventing-records join.union-inventing-room

pub intersection-ways : WrongWays (joins intersection_of) answer_refused (right_join intersection_of)
intersection-ways =
    wrong-ways (joins intersection_of) answer_refused (right_join intersection_of) (join-met intersection_of) join.intersection-refusing join.intersection-fixed
    join.intersection-silent (join.join-misreporting intersection_of)

pub intersection-first-way : WrongFirst (joins intersection_of) answer_refused first_entry (right_join intersection_of)
intersection-first-way = wrong_first (joins intersection_of) answer_refused (right_join intersection_of) first_entry first-entry-twice join.intersection-first

pub intersection-counts : WrongCounts (joins intersection_of) (right_join intersection_of)
intersection-counts =
    wrong-counts (right_join intersection_of) join.intersection-inventing-intervals join.intersection-inventing-records join.intersection-inventing-room

-- ---- a question

ask-met : Meets asks right_ask
ask-met a out = record { answer = refl; cells = refl }

pub ask-ways : WrongWays asks answer_refused right_ask
ask-ways = wrong-ways asks answer_refused right_ask ask-met ask.ask-refusing ask.ask-fixed ask.ask-silent ask.ask-misreporting

pub ask-first-way : WrongFirst asks answer_refused first_word right_ask
ask-first-way = wrong_first asks answer_refused right_ask first_word first-word-twice ask.ask-first

pub ask-counts : WrongCounts asks right_ask
ask-counts = wrong-counts right_ask ask.ask-inventing-intervals ask.ask-inventing-records ask.ask-inventing-room

-- P1 with seven intervals for its two
pub ask-misreports : Misreporting asks intervals_in (returning (λ a out. with_intervals 7) right_ask)
ask-misreports =
    misreporting-kind right_ask ask-met intervals_in (λ a out. with_intervals 7) (example, 1, boats ++ or' ++ tide) lent
    (λ e. let z : ◌≡◌ {A = ℕ} 7 2 = some_is 7 2 (sym (ap (λ r. intervals_in (with_intervals 7 r)) answered) ∙ e ∙ ap intervals_in answered) in omega arith)
  where
    answered : (right_ask (example, 1, boats ++ or' ++ tide) lent).0 ≡ tallied 2 5
    answered = sym (row-right table 0 (omega arith) table-right).answer

-- ---- a build

build-met : Meets builds right_build
build-met a out = record { answer = refl; bytes = refl }

pub build-ways : WrongWays builds written_refused right_build
build-ways = wrong-ways builds written_refused right_build build-met build.build-refusing build.build-fixed build.build-silent build.build-misreporting

pub build-first-way : WrongFirst builds written_refused first_built right_build
build-first-way = wrong_first builds written_refused right_build first_built first-built-twice build.build-first

pub build-counts : WrongWritten builds right_build
build-counts = wrong-written right_build build.build-inventing build.build-inventing-room

-- ---- the calls that write nothing

pub check-way : WrongRefusal check_of check_refused
check-way = wrong-refusal check_of check_refused returns.check-refusing

pub lookup-way : WrongRefusal lookup lookup_refused
lookup-way = wrong-refusal lookup lookup_refused returns.lookup-refusing

pub lookup-place : WrongPlace lookup
lookup-place = wrong-place lookup returns.lookup-inventing-place

pub entry-way : WrongRefusal entry check_refused
entry-way = wrong-refusal entry check_refused returns.entry-refusing

pub word-way : WrongRefusal word part_refused
word-way = wrong-refusal word part_refused returns.word-refusing

pub probe-way : WrongRefusal probe probe_refused
probe-way = wrong-refusal probe probe_refused returns.probe-refusing

pub probe-counts : WrongProbe probe
probe-counts = wrong-probe probe returns.probe-inventing-below returns.probe-inventing-overlapping

pub reading-way : WrongRefusal reads verdict_refused
reading-way = wrong-refusal reads verdict_refused returns.reading-refusing
