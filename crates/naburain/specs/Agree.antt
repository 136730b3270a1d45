-- Reference 8.3: the call in Rattle, which hands back a part of the index, and the call for C, which says where it stands, asked the same.
use Rattle.std.specs.Prelude.{ℕ, ◌+◌, ◌≤◌, ◌≡◌, [], length}
use Rattle.index.specs.Format.{word_of}
use Rattle.index.specs.Part.{Slice, part_of}
use Rattle.naburain.specs.declared.PartResult.{PartResult}

-- Reference 8.3: r is the part that w reports, and lies in the index; it is the word where w reports no refusal, and empty where it does
pub record Reported (index : Slice) (i : ℕ) (r : Slice) (w : PartResult) : Type 0 where
  pub part : r ≡ part_of w.start w.length index
  pub within : w.start + w.length ≤ length index.bytes
  pub long : length r.bytes ≡ w.length
  pub word : w.refusal ≡ 0 → r.bytes ≡ word_of index.bytes i
  pub empty : (w.refusal ≡ 0 → ⊥) → r.bytes ≡ []
