-- A list that a number is not in decides that it is not in all.
use mathlib.Core.Path.{◌≡◌}
use Prim.Native.Nat.{ℕ, zero, suc, ◌<◌}
use native.Mathlib.Omega.{arith}
use mathlib.Core.Bool.{false, and-false}
use mathlib.Core.List.{List, [], ◌∷◌}
use lib.ListN.{length, get_or}
use Rattle.list.specs.Interval.{names}
use Rattle.list.specs.Ginix.{in_every}
use Rattle.index.specs.Format.{list_of}
use Rattle.merge.specs.Request.{lists_of}
use Rattle.merge.specs.Every.{in_all}

pub every-out : (index entries : List ℕ) (k y : ℕ) → k < length entries → names (list_of index (get_or entries k 0)) y ≡ false → in_all index entries y ≡ false
unfolding lists_of in_every
every-out index [] k y h e = absurd (omega arith)
every-out index (i ∷ es) zero y h e = rw e
every-out index (i ∷ es) (suc k) y h e = rw (every-out index es k y (omega arith) e) (and-false (names (list_of index i) y))
