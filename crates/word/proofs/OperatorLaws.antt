-- Which numbers stand for which operator.
use mathlib.Core.Path.{◌≡◌, refl}
use Prim.Native.Nat.{ℕ, zero, suc, ◌≤◌, ◌<◌}
use native.Mathlib.Omega.{arith}
use Rattle.word.specs.declared.Op.TheVariants.{And, Or, Not}
use Rattle.word.specs.Code.{op_of}

pub op-and : (c : ℕ) → c ≤ 1 → op_of c ≡ And
op-and zero h = refl
op-and (suc zero) h = refl
op-and (suc (suc c)) h = absurd (omega arith)

pub op-or : (c : ℕ) → c ≡ 2 → op_of c ≡ Or
op-or c e = rw e

pub op-not : (c : ℕ) → 2 < c → op_of c ≡ Not
op-not zero h = absurd (omega arith)
op-not (suc zero) h = absurd (omega arith)
op-not (suc (suc zero)) h = absurd (omega arith)
op-not (suc (suc (suc c))) h = refl
