-- The list that the probe stands in has all of it; any other is searched.
use native.Mathlib.Omega.{arith}
use Rattle.probing.proofs.sense_of.Goals as goal

pub returns-then-k-j : goal.returns-then-k-j
returns-then-k-j c =
    let w = c.requires.within in
    let m = w.high in
    record {
      later = omega arith;
      near = omega arith;
      same = λ y f g. rw c.if-k-j.true (w.covers y f (omega arith));
    }

pub returns : goal.returns
returns c =
    let said = c.sense_in.ensures in
    said.steady
