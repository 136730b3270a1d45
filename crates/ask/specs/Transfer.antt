-- Reading a file into a buffer and writing from one: what a call says, what it leaves as it was, and which bytes it takes where those are known.
use Rattle.std.specs.Prelude.{ℕ, ◌+◌, ◌<◌, ◌≤◌, ◌≡◌, min, List, length, take, Option, Result, Ok, Err, MatchResult}
use Rattle.std.specs.declared.io.Error.{Error}
use Rattle.std.specs.Io.KnownBytes.{Keeps, Appends, Consumes, IsAtEnd}

-- how many bytes were read
abbrev pub read_count : Result ℕ Error → ℕ
read_count (Ok n) = n
read_count (Err e) = 0

-- what a read into n bytes says by its answer
abbrev pub file_read_of : Result ℕ Error → ℕ → Result ℕ Error
file_read_of (Ok k) n = Ok (min k n)
file_read_of (Err e) n = Err e

-- one read behind the first `from` bytes: it leaves those as they are, and counts no byte outside the buffer
pub record ReadsOn (from : ℕ) (bytes bytes' : List ℕ) (r : Result ℕ Error) : Type 0 where
  pub kept : take from bytes' ≡ take from bytes
  pub within : from + read_count r ≤ length bytes'

-- one read: the bytes that it counts are the next that there were, and it counts none only at their end or with no room; one that failed took none
abbrev pub ReadsOnce : Option (List ℕ) → Option (List ℕ) → List ℕ → Result ℕ Error → Type 0
ReadsOnce left left' bytes (Ok n) = Consumes left left' (take n bytes) × (n ≡ 0 → 0 < length bytes → IsAtEnd left')
ReadsOnce left left' bytes (Err e) = Keeps left left'

-- the bytes that are counted are the next that there were, and where there is room behind them, all that there were; where a read failed, some stand in front
abbrev pub ReadsFront : Option (List ℕ) → Option (List ℕ) → List ℕ → Result ℕ Error → Type 0
ReadsFront left left' bytes (Ok n) = Consumes left left' (take n bytes) × (n < length bytes → IsAtEnd left')
ReadsFront left left' bytes (Err e) = (n : ℕ) × (n ≤ length bytes) × Consumes left left' (take n bytes)

-- the bytes that are counted were written, from the front, and where a write failed some that are not counted
abbrev pub WritesFront : Option (List ℕ) → Option (List ℕ) → List ℕ → Result ℕ Error → Type 0
WritesFront held held' bytes r = MatchResult r (λ n. Appends held held' (take n bytes)) (λ e. (n : ℕ) × (n ≤ length bytes) × Appends held held' (take n bytes))
