-- The last number replaces the least among the others; where it is the only one, nothing is left.
use Rattle.heap.proofs.SiftLaws.{drop-replaced, drop-only}
use Rattle.heap.proofs.drop_least.Goals as goal

pub returns-then-left-gt0 : goal.returns-then-left-gt0
returns-then-left-gt0 c = drop-replaced c.requires.some c.requires.within c.replace_least.ensures

pub returns-else-left-gt0 : goal.returns-else-left-gt0
returns-else-left-gt0 c = drop-only c.requires.some c.requires.within c.requires.ordered c.if-left-gt0.false
