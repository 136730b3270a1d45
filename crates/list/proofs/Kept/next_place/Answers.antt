-- The side that is next moves on.
use mathlib.Core.Path.{sym, ◌∙◌}
use native.Mathlib.Omega.{arith}
use Rattle.list.proofs.ReadingLaws.{single-inside, pair_inside}
use Rattle.list.proofs.Kept.next_place.Goals as goal

pub overflow_add-result : goal.overflow_add-result
overflow_add-result c =
    let t = sym c.single_next.ensures ∙ c.if-single_next.true in
    let h = single-inside c.args.self.singles.now c.args.self.lower.now c.args.at c.requires t in
    omega arith

pub overflow_add-result-else-single_next : goal.overflow_add-result-else-single_next
overflow_add-result-else-single_next c =
    let t = sym c.single_next.ensures ∙ c.if-single_next.false in
    let h = pair_inside c.args.self.singles.now c.args.self.lower.now c.args.at c.requires t in
    omega arith
