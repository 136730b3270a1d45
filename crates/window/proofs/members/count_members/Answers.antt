use mathlib.Core.Path.{sym, ◌∙◌}
use native.Mathlib.Nat.{add-zero}
use native.Mathlib.Omega.{arith}
use lib.Count.{ones-le}
use lib.ListN.{get_or}
use Rattle.window.proofs.MemberLaws.{members-none, members-turn}
use Rattle.window.proofs.members.count_members.Goals as goal

pub loop-w-preserved : goal.loop-w-preserved
loop-w-preserved c =
    let l = c.loop-w in
    let ws = c.args.ws.now in
    let fits = (c.type_inv.ws l.w-index).fits in
    (omega arith, omega (arith, ones-le 64 (get_or ws l.w-index 0) fits), λ base. omega (arith, l.invariant.2 base, members-turn ws base l.w-index (omega arith) fits))

pub returns : goal.returns
returns c base =
    let l = c.loop-w in
    sym (l.invariant.2 base ∙ rw (members-none c.args.ws.now base l.w-index (omega arith)) (add-zero l.n))
