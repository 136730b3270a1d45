-- Reference 3.3: the twin heap, which holds the bounds of the intervals that are next, one in each list.
use Rattle.std.specs.Prelude.{◌≡◌, ℕ, ◌+◌, ◌-◌, ◌*◌, ◌≤◌, ◌<◌, List, length, get_or, take}
use Rattle.limits.specs.Limits.{join_max, record_max}
use Rattle.list.specs.declared.Place.{Place}
use Rattle.list.specs.Kept.{start, next_place, lower_at, upper_at}
use Rattle.list.specs.Reading.{Goes}
use Rattle.index.specs.Format.{entry_singles, entry_lowers, entry_uppers}
use Rattle.heap.specs.Heap.{count_of, IsHeap}

-- the place behind the interval that is next in list i of a request at a reading place, and the bounds of that interval
abbrev pub next_of : List ℕ → List ℕ → ℕ → Place → Place
next_of index entries i at = next_place (entry_singles index (get_or entries i 0)) (entry_lowers index (get_or entries i 0)) at

abbrev pub next_lower : List ℕ → List ℕ → ℕ → Place → ℕ
next_lower index entries i at = lower_at (entry_singles index (get_or entries i 0)) (entry_lowers index (get_or entries i 0)) at

abbrev pub next_upper : List ℕ → List ℕ → ℕ → Place → ℕ
next_upper index entries i at = upper_at (entry_singles index (get_or entries i 0)) (entry_lowers index (get_or entries i 0)) (entry_uppers index (get_or entries i 0)) at

-- an upper bound and whose it is, as one number: the least of them has the least upper bound
abbrev pub key_of : ℕ → ℕ → ℕ
key_of u i = u * join_max + i

-- in every list of a request an interval is next, and its lower bound is a record's number
pub record Standing (index entries : List ℕ) (at : ℕ → Place) : Type 0 where
  pub goes : (i : ℕ) → i < length entries → Goes (entry_singles index (get_or entries i 0)) (entry_lowers index (get_or entries i 0)) (at i)
  pub small : (i : ℕ) → i < length entries → next_lower index entries i (at i) ≤ record_max

-- so of places of their own
abbrev pub StandingAt : List ℕ → List ℕ → List Place → Type 0
StandingAt index entries places = Standing index entries (λ i. get_or places i start)

-- the upper bounds of the intervals that are next in the first `size` lists, in a heap
pub record Frontier (index entries : List ℕ) (at : ℕ → Place) (size : ℕ) (uppers : List ℕ) : Type 0 where
  pub heap : IsHeap (take size uppers)
  pub keys : List ℕ
  pub long : length keys ≡ size
  pub key : (i : ℕ) → i < size → get_or keys i 0 ≡ key_of (next_upper index entries i (at i)) i
  pub bag : (y : ℕ) → count_of y (take size uppers) ≡ count_of y keys

-- a lower bound by what it lacks to a number above them all: the least of these is of the largest lower bound
abbrev pub lack_of : ℕ → ℕ
lack_of l = record_max + 1 - l

-- the lower bounds of the intervals that are next in the first `lists` lists, in a heap whose front is the largest:
-- each is there, and whatever else is there is no larger than one of them
pub record Lowers (index entries : List ℕ) (at : ℕ → Place) (lists size : ℕ) (lowers : List ℕ) : Type 0 where
  pub heap : IsHeap (take size lowers)
  pub all : (i : ℕ) → i < lists → 0 < count_of (lack_of (next_lower index entries i (at i))) (take size lowers)
  pub others : (y : ℕ) → 0 < count_of y (take size lowers) → (i : ℕ) × (i < lists) × (lack_of (next_lower index entries i (at i)) ≤ y)

-- those of all lists, each at its own place
abbrev pub AllLowers : List ℕ → List ℕ → List Place → ℕ → List ℕ → Type 0
AllLowers index entries places size lowers = Lowers index entries (λ i. get_or places i start) (length entries) size lowers
