-- One code more, or none.
use Rattle.codes.proofs.PassLaws.{put_some, put-none}
use Rattle.codes.proofs.group.put_code.Goals as goal

pub returns-then-wanted : goal.returns-then-wanted
returns-then-wanted g c =
    let a = c.args in rw c.if-wanted.true (put_some a.code a.n a.out.now c.requires)

pub returns : goal.returns
returns g c =
    let a = c.args in rw c.if-wanted.false (put-none a.code a.n a.out.now)
