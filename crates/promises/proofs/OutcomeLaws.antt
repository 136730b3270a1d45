-- What is determined says something: it is false of a contract that allows two returns, or two contents of what is lent.
use Prim.Native.Nat.{ℕ}
use native.Mathlib.Omega.{arith}
use mathlib.Core.Path.{◌≡◌, refl}
use mathlib.Core.List.{[], ◌∷◌}
use Rattle.promises.specs.Outcome.{OneReturn, OneOutcome}
use Rattle.promises.proofs.WrongLaws.{differ-at}

pub two-returns : OneReturn {R = ℕ} (λ r. Unit {0}) → ⊥
two-returns one = let z : ◌≡◌ {A = ℕ} 0 1 = one 0 1 tt tt in omega arith

-- the lent cells are told, the return is not
pub two-answers : OneOutcome {R = ℕ} (λ out r. out ≡ []) → ⊥
two-answers one = let z : ◌≡◌ {A = ℕ} 0 1 = (one [] [] 0 1 refl refl).0 in omega arith

-- the return is told, the lent cells are not, not even where their number is
pub two-contents : OneOutcome {R = ℕ} (λ out r. r ≡ 0) → ⊥
two-contents one = differ-at 0 (0 ∷ []) (1 ∷ []) (λ e. omega arith) (one (0 ∷ []) (1 ∷ []) 0 0 refl refl).1
