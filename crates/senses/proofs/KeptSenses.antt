-- Laws of kept senses: none says anything at first, and what is said at x is said at each later record.
use Prim.Native.Nat.{ℕ, ◌≤◌}
use native.Mathlib.Omega.{arith}
use mathlib.Core.Path.{◌≡◌, ap}
use mathlib.Core.Bool.{Bool}
use mathlib.Core.List.{List}
use lib.ListN.{replicate}
use Rattle.list.specs.declared.sense.Sense.{Sense}
use Rattle.slots.specs.Row.{no_sense, until_of}
use Rattle.slots.proofs.RowLaws.{all-at}
use Rattle.senses.specs.Senses.{Sensed}

pub sensed-none : (v : ℕ → ℕ → Bool) (n x : ℕ) → Sensed v (replicate n no_sense) x
sensed-none v n x =
    let none : (k : ℕ) → until_of (replicate n no_sense) k ≡ 0 = λ k. ap (λ (s : Sense). s.until) (all-at no_sense n k) in
    record { near = λ k. omega (arith, none k); same = λ k y h l. absurd (omega (arith, none k)) }

pub sensed-later : (v : ℕ → ℕ → Bool) (senses : List Sense) (x : ℕ) → Sensed v senses x → (y : ℕ) → x ≤ y → Sensed v senses y
sensed-later v senses x s y h = record { near = s.near; same = λ k z g l. s.same k z (omega arith) l }
