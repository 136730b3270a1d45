-- Reference 8.2: what a C program learns from a lookup of the words of an index: below the number that it is told they stand before the bytes, and from
-- it on they do not.
use Rattle.std.specs.Prelude.{Result, Ok, Err}
use Rattle.refusal.specs.declared.Refusal.{Refusal}
use mathlib.Core.Path.{◌≡◌, refl, ap}
use Prim.Native.Nat.{ℕ}
use native.Mathlib.Omega.{arith}
use mathlib.Core.List.{List}
use Rattle.refusal.specs.declared.Refusal.TheVariants.{NoWord}
use Rattle.refusal.specs.Refusal.{value_of}
use Rattle.directory.specs.Standing.{Stands}
use Rattle.directory.specs.Entry.{lookup_of}
use Rattle.directory.proofs.AnswerLaws.{lookup-stands}
use Rattle.naburain.specs.declared.FoundResult.{FoundResult}
use Rattle.naburain.specs.Result.{lookup_result}
use Rattle.naburain.proofs.AgreeLaws.{number-above-zero}
use Rattle.promises.proofs.Numbers.{refusals-tell}

-- ---- the answer that the numbers stand for

answered : (l : Result ℕ Refusal) → (lookup_result l).refusal ≡ 0 → l ≡ Ok (lookup_result l).entry
answered (Ok i) e = refl
answered (Err r) e = let above = number-above-zero r in absurd (omega arith)

missed : (l : Result ℕ Refusal) → (lookup_result l).refusal ≡ 21 → l ≡ Err (NoWord (lookup_result l).value)
missed (Ok i) e = absurd (omega arith)
missed (Err r) e = ap Err (refusals-tell r (NoWord (value_of r)) e refl)

-- ---- any return that the contract of naburain_lookup allows

module _ (index word : List ℕ) (r : FoundResult) (is : r ≡ lookup_result (lookup_of index word)) where
  pub lookup-tells-entry : r.refusal ≡ 0 → Stands index word (Ok r.entry)
  lookup-tells-entry e = rw is (lookup-stands index word (Ok _) (answered (lookup_of index word) (rw is at e)))

  pub lookup-tells-place : r.refusal ≡ 21 → Stands index word (Err r.value)
  lookup-tells-place e = rw is (lookup-stands index word (Err _) (missed (lookup_of index word) (rw is at e)))
