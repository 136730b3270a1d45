-- The lists below j have their numbers in the heap.
use Rattle.std.proofs.Common.{◌≡◌}
use Rattle.merge.specs.Keys.{Heaped}
use Rattle.merge.specs.Places.{next_at}
use Rattle.merge.proofs.keys.push_each.Given as goal

abbrev pub invariant-loop-j : goal.invariant-loop-j
invariant-loop-j g l = Heaped (λ j x. goal.F-post g l.number j (next_at l.index l.entries l.places j) x) l.j l.heap.cells × (l.heap.size ≡ l.j)
