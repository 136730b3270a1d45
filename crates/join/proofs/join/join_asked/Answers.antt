-- Room for the lists together is room for the join; otherwise the join is counted.
use Prim.Native.Nat.{◌/◌, ◌≤◌}
use mathlib.Core.Path.{sym}
use native.Mathlib.Omega.{arith}
use lib.ListN.{length}
use Rattle.laws.proofs.Tests.{true-false}
use Rattle.list.specs.Interval.{intervals}
use Rattle.list.proofs.ListingLaws.{listed, counted-refused, counted-room, counted-listed}
use Rattle.merge.specs.Request.{lists_of}
use Rattle.join.proofs.AnswerLaws.{join-bound, join-whole}
use Rattle.join.proofs.join.join_asked.Goals as goal
use Rattle.join.proofs.join.join_asked.Goals.{Then-interval_sum-room}

-- the bound fits
fits : (g : _) (c : Then-interval_sum-room g) → intervals (g.M.Method.join_of (lists_of c.args.index.now c.args.entries.now)) ≤ length c.args.out.now / 2
fits g c = omega (arith, join-bound g.met.M.Method.kind c.requires, c.interval_sum.ensures.sum, c.if-interval_sum-room.true)

pub sweep-requires-2-clause-room : goal.sweep-requires-2-clause-room
sweep-requires-2-clause-room g c = λ w. counted-room c.sweep-needed.ensures (join-whole g.met.M.Method.kind _) c.if-room-needed.false

pub returns : goal.returns
returns g c = counted-listed c.sweep-needed.ensures c.if-room-needed.false c.sweep-2.ensures

pub sweep-requires-clause-room : goal.sweep-requires-clause-room
sweep-requires-clause-room g c = λ w. omega (arith, join-whole g.met.M.Method.kind (lists_of c.args.index.now c.args.entries.now), fits g (goal.at.sweep-requires-clause-room g c).Then-interval_sum-room)

pub returns-then-interval_sum-room : goal.returns-then-interval_sum-room
returns-then-interval_sum-room g c = listed (fits g (goal.at.returns-then-interval_sum-room g c).Then-interval_sum-room) c.sweep.ensures

pub sweep-needed-requires-clause-room : goal.sweep-needed-requires-clause-room
sweep-needed-requires-clause-room g c = λ w. true-false (sym w)

pub returns-then-room-needed : goal.returns-then-room-needed
returns-then-room-needed g c = counted-refused c.sweep-needed.ensures c.if-room-needed.true
