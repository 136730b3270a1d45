use Prim.Native.Nat.{◌+◌, ◌*◌, ◌<◌}
use native.Mathlib.Omega.{arith}
use mathlib.Core.Path.{sym}
use Rattle.directory.proofs.EntryLaws.{regions-list}
use Rattle.slots.specs.Row.{entries_at}
use Rattle.slots.specs.Having.{entry_has}
use Rattle.slots.proofs.RowLaws.{moved_none, lists-few, list-few}
use Rattle.slots.proofs.EntriesLaws.{IsList, in_lists, entry-lists, list-among, no-list}
use Rattle.fill.proofs.AddedLaws.{added_none, added-agree}
use Rattle.evaluate.proofs.EvalLaws.{added-list, added-lists}
use Rattle.evaluate.proofs.slot.fill_lists.Goals as goal
use Rattle.evaluate.proofs.slot.fill_lists.Goals.{After-list_at-half}

is-list : (c : After-list_at-half) →
    let list = c.list_at-half.result in IsList c.args.row.now.ranges c.args.k c.loop-n.n list.half list.m
is-list c = record { first = c.list_at-half.ensures.first; second = c.list_at-half.ensures.second }

taken : (c : After-list_at-half) →
    let list = c.list_at-half.result in
    (list.half < 2) × (list.m < (entries_at c.args.row.now.ranges (2 * c.args.k + list.half)).count)
taken c = list-among c.args.row.now.ranges c.args.k c.loop-n.n c.list_at-half.result.half c.list_at-half.result.m (is-list c) c.loop-n-test.true

pub overflow_add-count-2 : goal.overflow_add-count-2
overflow_add-count-2 c = record { fits = omega (arith, lists-few c.requires.lends c.args.k) }

pub loop-n-init : goal.loop-n-init
loop-n-init c =
    let a = c.args in (
      moved_none a.row.now,
      added_none (in_lists a.over.main.now a.over.arrivals.now a.row.now.ranges a.k 0) a.base a.ws.now (no-list a.over.main.now a.over.arrivals.now a.row.now.ranges a.k),
    )

pub hint_number-requires-clause-few : goal.hint_number-requires-clause-few
hint_number-requires-clause-few c =
    let list = c.list_at-half.result in
    list-few c.requires.lends c.args.k c.loop-n.n list.half list.m (is-list (goal.at.hint_number-requires-clause-few c).After-list_at-half) c.loop-n-test.true

pub loop-n-preserved : goal.loop-n-preserved
loop-n-preserved c =
    let a = c.args in
    let l = c.loop-n in
    let list = c.list_at-half.result in
    let index = c.half-index.result.now in
    let kept = c.kept_in-kept.ensures in
    let same = l.invariant.0.stay.slots in
    let here = taken (goal.at.loop-n-preserved c).After-list_at-half in
    let i = (entries_at l.row.ranges (2 * a.k + list.half)).first + list.m in
    let below = rw (← same, ← c.half-index.ensures) at ((c.requires.lends.ranges a.k list.half here.0).within) in
    let more = rw (← same) at here.1 in
    let filled = rw (kept.singles, kept.lower, kept.upper, regions-list c.regions_in.ensures) at c.fill_list.ensures in (
      record { stay = record { slots = same }; senses = l.invariant.0.senses },
      added-list a.over.main.now a.over.arrivals.now a.row.now a.k l.n list.half list.m l.row same c.half-index.ensures
          (is-list (goal.at.loop-n-preserved c).After-list_at-half) l.invariant.1
          (added-agree _ (entry_has index i) _ _ _ (λ x. sym (entry-lists index i x (omega (arith, below, more)))) filled),
    )

pub returns-clause-adds : goal.returns-clause-adds
returns-clause-adds c =
    let l = c.loop-n in
    let a = c.args in
    added-lists a.over.main.now a.over.arrivals.now a.row.now a.k l.n (omega (arith, c.loop-n-test.false)) l.invariant.1
