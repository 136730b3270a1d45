-- Parts of a line: what stands before a byte b, what behind it, and its fields.
use Rattle.std.specs.Prelude.{ℕ, zero, suc, List, take, drop}
use Rattle.parts.specs.Part.{part_length}

-- what stands before the first b, or everything
abbrev pub front_of : ℕ → List ℕ → List ℕ
front_of b s = take (part_length b s) s

-- what stands behind the first b, or nothing
abbrev pub behind_of : ℕ → List ℕ → List ℕ
behind_of b s = drop (suc (part_length b s)) s

-- field k of a line, from 0, between bytes `|`
unfoldable pub field_of : ℕ → List ℕ → List ℕ
field_of zero line = front_of 124 line
field_of (suc k) line = field_of k (behind_of 124 line)
