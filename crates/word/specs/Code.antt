-- The operator that a number stands for: every number stands for one.
use Rattle.std.specs.Prelude.{ℕ, zero, suc}
use Rattle.word.specs.declared.Op.{Op}
use Rattle.word.specs.declared.Op.TheVariants.{And, Or, Not}

abbrev pub op_of : ℕ → Op
op_of zero = And
op_of (suc zero) = And
op_of (suc (suc zero)) = Or
op_of (suc (suc (suc n))) = Not
