use mathlib.Core.Path.{◌≡◌, refl, ap}
use Prim.Native.Nat.{ℕ, ◌≤◌, ◌-◌, ◌+◌}
use native.Mathlib.Omega.{arith}
use mathlib.Core.List.{List}
use lib.ListN.{length, drop, get_or, take}
use borrow.Author.Rules.{rules}
use Rattle.limits.specs.Limits.{record_max}
use Rattle.convert.specs.Convert.{intervals_of}
use Rattle.build.specs.Lent.{lists_from}
use Rattle.layout.specs.Layout.{lists_bytes}
use Rattle.layout.proofs.KeptBytesLaws.{kept-length}
use Rattle.build.proofs.CountLaws.{sum-next, sum-first-none}
use Rattle.build.proofs.ListsLaws.{lists-next, list-long, list-within, lists-none, lists-bytes-next, lists-bytes-none}
use Rattle.build.proofs.size.lists_size.Goals as goal
use Rattle.build.proofs.size.lists_size.Goals.{After-count_kept, In-loop-count}

pub loop-count-init : goal.loop-count-init
loop-count-init c = (sum-first-none c.args.counts.now, search rules, search rules, omega arith)

-- ---- the next list

abbrev counts : In-loop-count → List ℕ
counts c = c.args.counts.now

abbrev numbers : In-loop-count → List ℕ
numbers c = c.args.numbers.now

abbrev end : In-loop-count → ℕ
end c = c.loop-count.start + get_or (counts c) c.loop-count.count-index 0

abbrev list : In-loop-count → List ℕ
list c = take (end c - c.loop-count.start) (drop c.loop-count.start (numbers c))

within : (c : In-loop-count) → end c ≤ length (numbers c)
within c = list-within c.requires c.loop-count.count-index c.loop-count-test.true c.loop-count.invariant.0 refl

long : (c : In-loop-count) → length (list c) ≡ get_or (counts c) c.loop-count.count-index 0
long c = list-long c.requires c.loop-count.count-index c.loop-count-test.true c.loop-count.invariant.0 refl

pub loop-count-preserved : goal.loop-count-preserved
loop-count-preserved c =
    let at = c.loop-count in
    let kept = c.count_kept.ensures in
    let next = ap (λ (xss : List (List ℕ)). length (lists_bytes record_max xss))
    (lists-next (counts (goal.at.loop-count-preserved c).In-loop-count) (numbers (goal.at.loop-count-preserved c).In-loop-count) at.count-index at.start c.loop-count-test.true refl) in
    let bytes = lists-bytes-next record_max (list (goal.at.loop-count-preserved c).In-loop-count) (lists_from (drop (at.count-index + 1) (counts (goal.at.loop-count-preserved c).In-loop-count)) (drop (end (goal.at.loop-count-preserved c).In-loop-count) (numbers (goal.at.loop-count-preserved c).In-loop-count))) in (
      omega (arith, sum-next (counts (goal.at.loop-count-preserved c).In-loop-count) at.count-index),
      omega (arith, within (goal.at.loop-count-preserved c).In-loop-count),
      omega (arith, long (goal.at.loop-count-preserved c).In-loop-count, kept.most, c.list_size-size.ensures),
      omega (arith, kept.singles, kept.pairs, kept-length (intervals_of (list (goal.at.loop-count-preserved c).In-loop-count)), c.list_size-size.ensures, at.invariant.3),
    )

pub returns : goal.returns
returns c =
    let at = c.loop-count in
    let counts = c.args.counts.now in
    let numbers = c.args.numbers.now in
    let none = ap (λ (xss : List (List ℕ)). length (lists_bytes record_max xss)) (lists-none counts (drop at.start numbers) at.count-index c.loop-count-test.false) in
    omega (arith, lists-bytes-none record_max, at.invariant.3)
