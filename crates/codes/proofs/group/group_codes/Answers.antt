use Rattle.codes.proofs.PassLaws.{pass-start, pass-next, pass-end}
use Rattle.codes.proofs.group.group_codes.Goals as goal

pub loop-i-init : goal.loop-i-init
loop-i-init g c =
    let a = c.args in pass-start g.C.AsCode.written a.codes.now a.out.now

pub loop-i-preserved : goal.loop-i-preserved
loop-i-preserved g c = pass-next g.C.AsCode.written c.loop-i-test.true c.loop-i.invariant c.group_code-at.ensures

pub returns : goal.returns
returns g c = pass-end g.C.AsCode.written c.loop-i-test.false c.requires c.loop-i.invariant c.of_code.ensures c.put_code.ensures
