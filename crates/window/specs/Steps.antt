-- One step over the records from x on, for any test: its cells are counted, or written.
use Rattle.std.specs.Prelude.{ℕ, ◌+◌, ◌-◌, ◌≤◌, ◌<◌, ◌≡◌, Bool, true, cond, List, length}
use Rattle.std.proofs.lemmas.List.Edits.{sets}
use Rattle.list.specs.Stretches.{records_from}
use Rattle.window.specs.Flips.{odd, flips}
use Rattle.window.specs.declared.steps.Done.{Done}

-- where the list is written, the cells vs have room behind the first k
abbrev pub RoomFor : Bool → List ℕ → ℕ → List ℕ → Type 0
RoomFor writing vs k out = writing ≡ true → k + length vs ≤ length out

-- the cells vs behind the first k: they are counted, and where the list is written, written
pub record PutCells (vs : List ℕ) (k : ℕ) (writing : Bool) (out out' : List ℕ) (k' : ℕ) : Type 0 where
  pub count : k' ≡ k + length vs
  pub written : out' ≡ cond writing (sets out k vs) out

-- p is v from x to below y
abbrev pub Constant : (ℕ → Bool) → ℕ → ℕ → Bool → Type 0
Constant p x y v = (z : ℕ) → x ≤ z → z < y → p z ≡ v

-- a step over the m records from x on: behind k cells and recs records, there are k' and recs'
pub record Stepped (p : ℕ → Bool) (x m : ℕ) (writing : Bool) (k recs : ℕ) (out out' : List ℕ) (k' recs' : ℕ) : Type 0 where
  pub cells : k' ≡ k + length (flips p (odd k) x m)
  pub records : recs' ≡ recs + length (records_from p x m)
  pub written : out' ≡ cond writing (sets out k (flips p (odd k) x m)) out

-- a jump from x to below y, for any test that is constant there
abbrev pub Jumps : Bool → ℕ → ℕ → Bool → ℕ → ℕ → List ℕ → List ℕ → Done → Type 0
Jumps inside x y writing k recs out out' r = (p : ℕ → Bool) → Constant p x y inside → Stepped p x (y - x) writing k recs out out' r.cells r.records
