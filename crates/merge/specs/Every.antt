-- The records that the lists of a request have in common.
use Rattle.std.specs.Prelude.{ℕ, Bool, List}
use Rattle.list.specs.Ginix.{in_every}
use Rattle.merge.specs.Request.{lists_of}

-- the records in every list of a request
abbrev pub in_all : List ℕ → List ℕ → ℕ → Bool
in_all index entries = in_every (lists_of index entries)
