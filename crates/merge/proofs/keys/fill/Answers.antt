use Rattle.std.proofs.Common.{arith, rules}
use Rattle.merge.proofs.KeysLaws.{keys-filled}
use Rattle.merge.proofs.DueLaws.{go-start, first_high, due-goes}
use Rattle.merge.proofs.keys.fill.Goals as goal

pub push_each-requires : goal.push_each-requires
push_each-requires c =
    let asked = c.requires.sound in
    let few = asked.few in
    (omega arith, (asked, (rw c.all_at_start.ensures (go-start asked), (omega arith, rw c.all_at_start.ensures (λ j h. ((first_high asked j h).0, omega arith))))))

pub returns-clause-fills : goal.returns-clause-fills
returns-clause-fills c =
    keys-filled (rw c.all_at_start.ensures at c.push_each.ensures.pushes)
    (λ j x h e. (_, due-goes _ _ _ (go-start c.requires.sound j h), search rules))
