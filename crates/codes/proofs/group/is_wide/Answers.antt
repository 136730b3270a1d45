-- A place at which a word stands lies within the codes.
use native.Mathlib.Omega.{arith}
use Rattle.codes.proofs.PassLaws.{at-within}
use Rattle.codes.proofs.group.is_wide.Goals as goal

pub overflow_add-i : goal.overflow_add-i
overflow_add-i g c = omega (arith, at-within g.C.AsCode.code c.args.codes.now c.args.i (c.word_at.ensures.0 c.if-not-word_at.false))
