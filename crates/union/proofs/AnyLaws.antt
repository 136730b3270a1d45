-- The records in some list of a request, and when none is: behind what is read, and before the least lower bound.
use mathlib.Core.Path.{◌≡◌, refl}
use Prim.Native.Nat.{ℕ, zero, suc, ◌+◌, ◌≤◌, ◌<◌}
use native.Mathlib.Omega.{arith}
use mathlib.Core.Bool.{Bool, true, false, or-true}
use mathlib.Core.List.{List, [], ◌∷◌}
use lib.ListN.{length, get_or}
use Rattle.list.specs.declared.Place.{Place}
use Rattle.list.specs.Interval.{names}
use Rattle.list.specs.Ginix.{in_some}
use Rattle.index.specs.Format.{list_of}
use Rattle.merge.specs.Request.{lists_of}
use Rattle.merge.specs.Keys.{lower_mark, due_at}
use Rattle.merge.proofs.DueLaws.{AllRead, quiet-below, quiet-end}

-- ---- in some list

abbrev pub in_any : List ℕ → List ℕ → ℕ → Bool
in_any index entries = in_some (lists_of index entries)

pub any-in : (index entries : List ℕ) (j x : ℕ) → j < length entries → names (list_of index (get_or entries j 0)) x ≡ true → in_any index entries x ≡ true
unfolding lists_of in_some
any-in index [] j x h e = absurd (omega arith)
any-in index (i ∷ es) zero x h e = rw e
any-in index (i ∷ es) (suc j) x h e = rw (any-in index es j x (omega arith) e) (or-true (names (list_of index i) x))

pub any_out : (index entries : List ℕ) (x : ℕ) → ((j : ℕ) → j < length entries → names (list_of index (get_or entries j 0)) x ≡ false) →
    in_any index entries x ≡ false
unfolding lists_of in_some
any_out index [] x f = refl
any_out index (i ∷ es) x f = rw (f 0 (omega arith)) (any_out index es x (λ j h. f (suc j) (omega arith)))

-- ---- in none

-- no mark that is due is of a lower bound below m
abbrev pub DueFrom : List ℕ → List ℕ → List Place → ℕ → Type 0
DueFrom index entries places m = (i b : ℕ) (bs : List ℕ) → i < length entries → due_at index entries places i ≡ b ∷ bs → lower_mark m ≤ b

module _ {index entries : List ℕ} {places : List Place} {most : ℕ} (r : AllRead index entries places most) where
  -- nothing is in below the least
  pub none_below : (m : ℕ) → DueFrom index entries places m → (x : ℕ) → most ≤ x + 1 → x < m → in_any index entries x ≡ false
  none_below m f x h g = any_out index entries x (λ i w. quiet-below (r.list i w) m (λ b bs e. f i b bs w e) x h g)

  -- every list is used up
  pub none_left : ((i : ℕ) → i < length entries → due_at index entries places i ≡ []) → (x : ℕ) → most ≤ x + 1 → in_any index entries x ≡ false
  none_left f x h = any_out index entries x (λ i w. quiet-end (r.list i w) (f i w) x h)
