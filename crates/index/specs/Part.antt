-- Reference 8.3: a lent slice as its borrower holds it, and a part of it.
use Rattle.std.specs.Prelude.{ℕ, ◌+◌, List}
use Rattle.std.specs.Borrow.{Bor}
use Rattle.index.specs.Format.{part}

-- Reference 7: the memory that a slice stands in, where in it the slice begins, and its bytes
pub record Slice : Type 0 where
  pub memory : ℕ
  pub place : ℕ
  pub bytes : List ℕ

-- Reference 7: what a reference to bytes shows of its slice
abbrev pub slice_of : Bor (List ℕ) → Slice
slice_of r = record { memory = r.ref_ptr.0; place = r.ref_ptr.1; bytes = r.now }

-- Reference 8.3: the part of a slice from its byte `start` on, `size` bytes long, which stands in the same memory and is no copy
abbrev pub part_of : ℕ → ℕ → Slice → Slice
part_of start size s = record { memory = s.memory; place = s.place + start; bytes = part start size s.bytes }
