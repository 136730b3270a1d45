-- What a reader lays into lent cells.
use Rattle.std.specs.Prelude.{ℕ, ◌+◌, ◌-◌, min, ◌≡◌, List, length}
use Rattle.std.proofs.lemmas.List.Edits.{sets}

-- the values vs from `from` on, as many as there is room for, and where they end
pub record Lays (vs out : List ℕ) (from : ℕ) (out' : List ℕ) (r : ℕ) : Type 0 where
  pub cells : out' ≡ sets out from vs
  pub end : r ≡ from + min (length vs) (length out - from)
