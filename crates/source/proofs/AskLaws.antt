-- Laws of the promise of a call that takes a question, by what its check and its reading say.
use Prim.Native.Nat.{ℕ}
use mathlib.Core.Path.{◌≡◌}
use mathlib.Core.List.{List}
use Rattle.std.specs.Prelude.{Result, Ok, Err}
use Rattle.refusal.specs.declared.Refusal.{Refusal}
use Rattle.list.specs.declared.answer.Tally.{Tally}
use Rattle.list.specs.Sweeps.{Listing}
use Rattle.question.specs.Grammar.{Tree}
use Rattle.question.specs.Reading.{Parsed, parses, refuses}
use Rattle.source.specs.Ask.{Lists}

module _ (list : Tree → List ℕ) {a : Parsed} {out : List ℕ} where
  -- the question is accepted: its list, or refusal 12
  pub listing-answers : {out' : List ℕ} {r : Result Tally Refusal} {t : Tree} {k : ℕ} → a ≡ parses t k → Listing (list t) out out' r → Lists (Ok tt) a list out out' r
  listing-answers e l = record { answer = rw e l.answer; cells = rw e l.cells }

  pub answers-listing : {out' : List ℕ} {r : Result Tally Refusal} {t : Tree} {k : ℕ} → a ≡ parses t k → Lists (Ok tt) a list out out' r → Listing (list t) out out' r
  answers-listing e l = rw e at l

  pub refused-answers : {x : Refusal} → a ≡ refuses x → Lists (Ok tt) a list out out (Err x)
  refused-answers e = record { answer = rw e; cells = rw e }

-- what it is asked of is checked first
module _ {check : Result Unit Refusal} (a : Parsed) (list : Tree → List ℕ) {out : List ℕ} where
  pub good-asks : {out' : List ℕ} {r : Result Tally Refusal} → check ≡ Ok tt → Lists (Ok tt) a list out out' r → Lists check a list out out' r
  good-asks e l = rw e l

  pub asks-good : {out' : List ℕ} {r : Result Tally Refusal} → check ≡ Ok tt → Lists check a list out out' r → Lists (Ok tt) a list out out' r
  asks-good e l = rw e at l

  pub refused-asks : {x : Refusal} → check ≡ Err x → Lists check a list out out (Err x)
  refused-asks e = record { answer = rw e; cells = rw e }
