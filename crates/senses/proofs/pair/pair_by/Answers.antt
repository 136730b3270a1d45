-- `or` by `and` of the opposites, `not` by `and` with the opposite of the right side.
use mathlib.Core.Bool.{not, ◌&&◌}
use Rattle.senses.proofs.PairedSenses.{paired-or}
use Rattle.senses.proofs.pair.pair_by.Goals as goal

pub returns-in-And : goal.returns-in-And
returns-in-And c p q x s t = rw c.in-And.is (c.both.ensures p q x s t)

pub returns-in-Or : goal.returns-in-Or
returns-in-Or c p q x s t =
    let a = c.opposite.ensures p x s in
    let b = c.opposite-in-Or.ensures q x t in
    rw c.in-Or.is
    (paired-or p q (c.opposite-in-Or-2.ensures (λ y. not (p y) && not (q y)) x (c.both-in-Or.ensures (λ y. not (p y)) (λ y. not (q y)) x a b)))

pub returns-in-Not : goal.returns-in-Not
returns-in-Not c p q x s t =
    let b = c.opposite-in-Not.ensures q x t in
    rw c.in-Not.is (c.both-in-Not.ensures p (λ y. not (q y)) x s b)
