-- A hint that is kept is the one that is read.
use mathlib.Core.Path.{◌≡◌}
use Prim.Native.Nat.{ℕ, ◌<◌}
use mathlib.Core.List.{List}
use lib.ListN.{length, get_or, set}
use lib.Seq.{get_or-set_same}
use Rattle.list.specs.declared.Place.{Place}

-- what is kept for a list is what is read for it, both positions at their sides
pub hint-kept : (hints : List Place) (k : ℕ) (place other : Place) → k < length hints → get_or (set hints k place) k other ≡ place
hint-kept hints k place other h = get_or-set_same hints k place other h
