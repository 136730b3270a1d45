use Rattle.std.proofs.Common.{rules}
use Prim.Native.Nat.{ℕ}
use mathlib.Core.Path.{ap}
use native.Mathlib.Omega.{arith}
use lib.ListN.{length, get_or}
use Rattle.list.specs.Reading.{Goes}
use Rattle.index.specs.Format.{entry_singles, entry_lowers}
use Rattle.directory.specs.Regions.{EntryIn}
use Rattle.directory.proofs.EntryLaws.{entry-walked, entry-intervals}
use Rattle.merge.proofs.ListsLaws.{asked_entry}
use Rattle.probing.proofs.GoingLaws.{going_start, going-goes, going_end, going-within, going-ordered, going-fits, going_next}
use Rattle.probing.proofs.sweep_probing.Goals as goal
use Rattle.probing.proofs.sweep_probing.Goals.{After-shortest-j, In-loop}

-- the entry whose list is shortest
abbrev entry : After-shortest-j → ℕ
entry c = get_or c.args.entries.now c.shortest-j.result 0

named : (c : After-shortest-j) → EntryIn c.args.index.now (entry c)
named c = asked_entry c.requires.sound c.shortest-j.result c.shortest-j.ensures.inside

pub loop-init : goal.loop-init
loop-init c =
    let g = c.kept_of-kept.ensures in
    let s = ap length g.singles in
    let l = ap length g.lower in
    (omega (arith, entry-walked (named (goal.at.loop-init c).After-shortest-j), entry-intervals (named (goal.at.loop-init c).After-shortest-j)), going_start c.requires.sound c.shortest-j.ensures.inside (search rules) (search rules))

-- where the loop goes on, an interval is left
left : (c : In-loop) →
    Goes (entry_singles c.args.index.now (entry (goal.at.In-loop c).After-shortest-j)) (entry_lowers c.args.index.now (entry (goal.at.In-loop c).After-shortest-j))
    c.loop.at
left c =
    let n = c.loop.invariant.0 in
    let m = c.loop-test.true in
    going-goes c.requires.sound c.shortest-j.ensures.inside c.loop.invariant.1 (omega arith)

pub put_within-tally-requires : goal.put_within-tally-requires
put_within-tally-requires c =
    let r = c.kept_of-kept.ensures in
    let e = c.interval_at-within.ensures in
    let a = c.requires.sound in
    let h = c.shortest-j.ensures.inside in
    let g = c.loop.invariant.1 in
    rw (e.lower, e.upper, r.singles, r.lower, r.upper)
    record {
      within = going-within a h g (left (goal.at.put_within-tally-requires c).In-loop);
      order = going-ordered a h g (left (goal.at.put_within-tally-requires c).In-loop);
      fits = going-fits a h g (left (goal.at.put_within-tally-requires c).In-loop) c.requires.room;
    }

pub loop-preserved : goal.loop-preserved
loop-preserved c =
    let r = c.kept_of-kept.ensures in
    let e = c.interval_at-within.ensures in
    let p = c.put_within-tally.ensures in
    let q = rw (e.lower, e.upper, r.singles, r.lower, r.upper) at p in
    let inv = c.loop.invariant in (
      inv.0,
      rw (c.next_place-at.ensures, r.singles, r.lower) (going_next c.requires.sound c.shortest-j.ensures.inside inv.1 (left (goal.at.loop-preserved c).In-loop) q),
    )

pub returns : goal.returns
returns c =
    let n = c.loop.invariant.0 in
    let m = c.loop-test.false in
    going_end c.requires.sound c.shortest-j.ensures.inside c.loop.invariant.1 (omega arith) c.requires.room
