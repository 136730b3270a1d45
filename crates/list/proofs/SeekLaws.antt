-- Laws of how many numbers of an ascending list lie below x: what one comparison says of it, and what it says of each number.
use mathlib.Core.Path.{◌≡◌, refl}
use Prim.Native.Nat.{ℕ, zero, suc, ◌+◌, ◌/◌, ◌≤◌, ◌<◌}
use native.Mathlib.Omega.{arith}
use mathlib.Core.Bool.{Bool, true, false}
use mathlib.Core.List.{List, [], ◌∷◌}
use lib.Dec.{ltb}
use lib.ListN.{length, get_or}
use borrow.Author.Tests.{lt-ltb, le-ltb}
use Rattle.laws.proofs.Tests.{leb-cases}
use Rattle.list.specs.Ginix.{one}
use Rattle.list.specs.Cell.{numbers_in}
use Rattle.list.specs.Seek.{count_below, AscendsFrom, Ascends}
use Rattle.list.proofs.CellLaws.{numbers_in-length}

pub ascends-weaker : (j k : ℕ) (ys : List ℕ) → j ≤ k → AscendsFrom k ys → AscendsFrom j ys
ascends-weaker j k [] h p = tt
ascends-weaker j k (y ∷ ys) h p = (omega arith, p.1)

-- every number of an ascending list is at least the least that its first may be
pub ascends-at : (k : ℕ) (ys : List ℕ) → AscendsFrom k ys → (i : ℕ) → i < length ys → k + i ≤ get_or ys i 0
ascends-at k [] p i h = absurd (omega arith)
ascends-at k (y ∷ ys) p zero h = omega (arith, p.0)
ascends-at k (y ∷ ys) p (suc i) h = let g = ascends-at (y + 1) ys p.1 i (omega arith) in omega arith

pub one-small : (t : Bool) → one t ≤ 1
one-small true = omega arith
one-small false = omega arith

pub count-length : (x : ℕ) (ys : List ℕ) → count_below x ys ≤ length ys
unfolding count_below
count-length x [] = omega arith
count-length x (y ∷ ys) = let h = count-length x ys in let g = one-small (ltb y x) in omega arith

-- none lies below a number that the first reaches
pub count_none : (k x : ℕ) (ys : List ℕ) → AscendsFrom k ys → x ≤ k → count_below x ys ≡ 0
unfolding count_below
count_none k x [] p h = refl
count_none k x (y ∷ ys) p h = rw (le-ltb y x (omega arith), count_none (y + 1) x ys p.1 (omega arith))

-- one comparison, at place i
pub count-over : (k x : ℕ) (ys : List ℕ) → AscendsFrom k ys → (i : ℕ) → i < length ys → get_or ys i 0 < x → i < count_below x ys
unfolding count_below
count-over k x [] p i h g = absurd (omega arith)
count-over k x (y ∷ ys) p zero h g = rw (lt-ltb y x g) (omega arith)
count-over k x (y ∷ ys) p (suc i) h g =
    let w = ascends-at (y + 1) ys p.1 i (omega arith) in
    rw (lt-ltb y x (omega arith)) (let r = count-over (y + 1) x ys p.1 i (omega arith) g in omega arith)

pub count_under : (k x : ℕ) (ys : List ℕ) → AscendsFrom k ys → (i : ℕ) → i < length ys → x ≤ get_or ys i 0 → count_below x ys ≤ i
unfolding count_below
count_under k x [] p i h g = absurd (omega arith)
count_under k x (y ∷ ys) p zero h g = rw (le-ltb y x g, count_none (y + 1) x ys p.1 (omega arith)) (omega arith)
count_under k x (y ∷ ys) p (suc i) h g =
    let w = one-small (ltb y x) in
    let r = count_under (y + 1) x ys p.1 i (omega arith) g in
    omega arith

-- by a number that was read in a region
module _ (region : List ℕ) (x i v : ℕ) (up : Ascends (numbers_in region)) (h : i < length region / 4) (e : v ≡ get_or (numbers_in region) i 0) where
  pub region-over : v < x → i < count_below x (numbers_in region)
  region-over g = count-over 0 x (numbers_in region) up i (omega (arith, numbers_in-length region)) (omega arith)

  pub region-under : x ≤ v → count_below x (numbers_in region) ≤ i
  region-under g = count_under 0 x (numbers_in region) up i (omega (arith, numbers_in-length region)) (omega arith)

  pub region-past : ltb v x ≡ ltb i (count_below x (numbers_in region))
  region-past =
      leb-cases x v (λ g. rw (le-ltb v x g, le-ltb i (count_below x (numbers_in region)) (region-under g)))
      (λ g. rw (lt-ltb v x g, lt-ltb i (count_below x (numbers_in region)) (region-over g)))

pub region-within : (region : List ℕ) (x : ℕ) → count_below x (numbers_in region) ≤ length region / 4
region-within region x = omega (arith, numbers_in-length region, count-length x (numbers_in region))

-- and back: what the count says of the number at place i
pub count-passed : (k x : ℕ) (ys : List ℕ) → AscendsFrom k ys → (i : ℕ) → i < count_below x ys → get_or ys i 0 < x
count-passed k x ys p i h =
    let l = count-length x ys in
    leb-cases x (get_or ys i 0) (λ g. absurd (let r = count_under k x ys p i (omega arith) g in omega arith)) (λ g. g)

pub count-ahead : (k x : ℕ) (ys : List ℕ) → AscendsFrom k ys → (i : ℕ) → i < length ys → count_below x ys ≤ i → x ≤ get_or ys i 0
count-ahead k x ys p i h l =
    leb-cases x (get_or ys i 0) (λ g. g) (λ g. absurd (let r = count-over k x ys p i h g in omega arith))

-- a higher number has as many below it or more
ltb-mono : (x y z : ℕ) → x ≤ y → one (ltb z x) ≤ one (ltb z y)
ltb-mono x y z h = leb-cases x z (λ e. rw (le-ltb z x e) (omega arith)) (λ e. rw (lt-ltb z x e, lt-ltb z y (omega arith)) (omega arith))

pub count-mono : (x y : ℕ) (zs : List ℕ) → x ≤ y → count_below x zs ≤ count_below y zs
unfolding count_below
count-mono x y [] h = omega arith
count-mono x y (z ∷ zs) h = let e = ltb-mono x y z h in let f = count-mono x y zs h in omega arith
