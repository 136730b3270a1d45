-- Each outcome by the size of the index, which is what is counted (GoodLaws).
use mathlib.Core.Path.{◌≡◌}
use Prim.Native.Nat.{ℕ, ◌+◌, ◌-◌, ◌*◌}
use native.Mathlib.Omega.{arith}
use lib.ListN.{length}
use Rattle.build.specs.Build.{index_from}
use Rattle.build.proofs.GoodLaws.{build-large, build-cramped, build-wrote}
use Rattle.build.proofs.build.Lent.build_checked.Goals as goal
use Rattle.build.proofs.build.Lent.build_checked.Goals.{After-lists_size-lists}

-- ---- the lists' bytes are counted

abbrev size : After-lists_size-lists → ℕ
size c =
    let a = c.args.self in
    c.lists_size-lists.result + (length a.words.now - length a.counts.now) + 20 * length a.counts.now + 20

sized : (c : After-lists_size-lists) →
    length (index_from c.args.self.n c.args.self.words.now c.args.self.counts.now c.args.self.numbers.now) ≡ size c
sized c = omega (arith, c.requires.size, c.lists_size-lists.ensures)

-- ---- the outcomes

pub returns-then-lists-gt-INDEX_MAX : goal.returns-then-lists-gt-INDEX_MAX
returns-then-lists-gt-INDEX_MAX c = build-large c.requires (omega (arith, sized (goal.at.returns-then-lists-gt-INDEX_MAX c).After-lists_size-lists, c.if-lists-gt-INDEX_MAX.true))

pub returns-then-size-gt-INDEX_MAX : goal.returns-then-size-gt-INDEX_MAX
returns-then-size-gt-INDEX_MAX c = build-large c.requires (omega (arith, sized (goal.at.returns-then-size-gt-INDEX_MAX c).After-lists_size-lists, c.if-size-gt-INDEX_MAX.true))

pub returns-then-out-size : goal.returns-then-out-size
returns-then-out-size c = build-cramped c.requires (sized (goal.at.returns-then-out-size c).After-lists_size-lists) c.if-size-gt-INDEX_MAX.false (omega (arith, c.if-out-size.true))

pub returns : goal.returns
returns c = build-wrote c.requires (sized (goal.at.returns c).After-lists_size-lists) c.if-size-gt-INDEX_MAX.false (omega (arith, c.if-out-size.false)) c.write_index.ensures
