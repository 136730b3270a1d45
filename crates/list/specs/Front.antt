-- What a writer leaves that begins at the start of what it is lent.
use Rattle.std.specs.Prelude.{ℕ, List, ◌++◌, length, drop}

-- Reference 7: what is written stands in front, and the rest stays
abbrev pub in_front : List ℕ → List ℕ → List ℕ
in_front written out = written ++ drop (length written) out
