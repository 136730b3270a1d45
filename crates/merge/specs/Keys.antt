-- Which list's next bound is the least: a heap holds a key for each list that is not used up.
use Rattle.std.specs.Prelude.{◌≡◌, ℕ, zero, suc, ◌+◌, ◌*◌, ◌≤◌, ◌<◌, Bool, false, cond, List, [], ◌∷◌, eqb, length, get_or, take, replicate}
use Rattle.limits.specs.Limits.{join_max}
use Rattle.list.specs.declared.Place.{Place}
use Rattle.list.specs.Ginix.{one}
use Rattle.list.specs.Kept.{start}
use Rattle.heap.specs.Heap.{count_of, IsHeap}
use Rattle.merge.specs.Places.{next_lower_in, used_up}

-- f 0 + .. + f (n - 1)
unfoldable pub sum_of : (ℕ → ℕ) → ℕ → ℕ
sum_of f zero = 0
sum_of f (suc n) = f n + sum_of f n

-- Reference 3.3: a bound as a key has it, the lower bound l as 2l, the upper bound u as 2(u + 1) + 1, so that of a lower bound and an upper one at the same
-- number the lower comes first
abbrev pub lower_mark : ℕ → ℕ
lower_mark l = l * 2

abbrev pub upper_mark : ℕ → ℕ
upper_mark u = (u + 1) * 2 + 1

-- whether y is the key of list j, whose next mark, where there is one, is the first of ms
abbrev pub is_key : ℕ → ℕ → List ℕ → Bool
is_key y j [] = false
is_key y j (m ∷ ms) = eqb y (m * join_max + j)

-- the first n cells are a heap of n numbers, each of which is one for its list
pub record Heaped (IsFor : ℕ → ℕ → Type 0) (n : ℕ) (cells : List ℕ) : Type 0 where
  pub heap : IsHeap (take n cells)
  pub numbers : List ℕ
  pub long : length numbers ≡ n
  pub number : (j : ℕ) → j < n → IsFor j (get_or numbers j 0)
  pub bag : (y : ℕ) → count_of y (take n cells) ≡ count_of y numbers

-- the first `size` cells are a heap of the keys of n lists; list j's next mark is the first of `due j`
pub record Keys (n size : ℕ) (cells : List ℕ) (due : ℕ → List ℕ) : Type 0 where
  pub heap : IsHeap (take size cells)
  pub bag : (y : ℕ) → count_of y (take size cells) ≡ sum_of (λ j. one (is_key y j (due j))) n

-- the key of list j has come in the place of the least; where the list has no mark left, the least has gone
pub record Refilled (j : ℕ) (due : List ℕ) (size : ℕ) (old : List ℕ) (size' : ℕ) (new : List ℕ) : Type 0 where
  pub room : length new ≡ length old
  pub fewer : size' ≤ size
  pub heap : IsHeap (take size' new)
  pub bag : (y : ℕ) → count_of y (take size' new) + one (eqb y (get_or old 0 0)) ≡ one (is_key y j due) + count_of y (take size old)

-- the mark of the lower bound that is next in the list of an entry
abbrev pub lower_due : List ℕ → ℕ → Place → List ℕ
lower_due index entry at = cond (used_up index entry at) [] (lower_mark (next_lower_in index entry at) ∷ [])

-- the same of list j of a request, each list at its own place
abbrev pub due_at : List ℕ → List ℕ → List Place → ℕ → List ℕ
due_at index entries places j = lower_due index (get_or entries j 0) (get_or places j start)

-- the keys of all lists of a request, each at its start
abbrev pub FirstKeys : List ℕ → List ℕ → List ℕ → Type 0
FirstKeys index entries keys = Keys (length entries) (length entries) keys (due_at index entries (replicate join_max start))
