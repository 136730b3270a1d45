-- A full heap is filled with one lower bound of each list.
use Rattle.std.proofs.Common.{rules}
use Rattle.twin.proofs.LowersLaws.{lowers-filled}
use Rattle.twin.proofs.with_room.Goals as goal

pub returns-clause-fills : goal.returns-clause-fills
returns-clause-fills c = rw c.push_each.ensures.size (lowers-filled c.push_each.ensures.pushes (λ j x h e. search rules))
