-- A bound is at most the largest record number, so that a key fits.
use Prim.Native.Nat.{◌≤◌}
use native.Mathlib.Omega.{arith}
use Rattle.limits.specs.Limits.{record_max}
use Rattle.merge.proofs.DueLaws.{bounds-high}
use Rattle.merge.proofs.keys.to_upper.Goals as goal
use Rattle.merge.proofs.keys.to_upper.Goals.{After-next_interval-next}

high : (c : After-next_interval-next) → c.next_interval-next.result.upper ≤ record_max
high c = let asked = c.requires in omega (arith, bounds-high asked.entry asked.goes, c.next_interval-next.ensures.upper)

pub overflow_add-key : goal.overflow_add-key
overflow_add-key c = omega (arith, high (goal.at.overflow_add-key c).After-next_interval-next)

pub overflow_mul-key : goal.overflow_mul-key
overflow_mul-key c = omega (arith, high (goal.at.overflow_mul-key c).After-next_interval-next)

pub overflow_add-key-2 : goal.overflow_add-key-2
overflow_add-key-2 c = omega (arith, high (goal.at.overflow_add-key-2 c).After-next_interval-next)

pub overflow_add-key-3 : goal.overflow_add-key-3
overflow_add-key-3 c = omega (arith, high (goal.at.overflow_add-key-3 c).After-next_interval-next)
