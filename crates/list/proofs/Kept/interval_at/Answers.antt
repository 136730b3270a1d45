-- The side that is next has a number left, and gives the bounds.
use Prim.Native.Nat.{◌+◌, ◌*◌, ◌≤◌}
use mathlib.Core.Path.{sym, ◌∙◌}
use native.Mathlib.Omega.{arith}
use lib.ListN.{length}
use Rattle.list.proofs.ReadingLaws.{single-inside, pair_inside}
use Rattle.list.proofs.Kept.interval_at.Goals as goal
use Rattle.list.proofs.Kept.interval_at.Goals.{Else-single_next}

pub number_at-s-requires : goal.number_at-s-requires
number_at-s-requires c = single-inside c.args.self.singles.now c.args.self.lower.now c.args.at c.requires.goes (sym c.single_next.ensures ∙ c.if-single_next.true)

-- the pair that is next
pair : (c : Else-single_next) → 4 * c.args.at.q.0 + 4 ≤ length c.args.self.lower.now
pair c =
    pair_inside c.args.self.singles.now c.args.self.lower.now c.args.at c.requires.goes (sym c.single_next.ensures ∙ c.if-single_next.false)

pub number_at-requires : goal.number_at-requires
number_at-requires c = pair (goal.at.number_at-requires c).Else-single_next

pub number_at-requires-else-single_next : goal.number_at-requires-else-single_next
number_at-requires-else-single_next c = omega (arith, pair (goal.at.number_at-requires-else-single_next c).Else-single_next, c.requires.paired)
