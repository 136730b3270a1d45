-- Laws of the lower bounds of the intervals that are next, one in each list: the front is the largest, and what a list that moves on left behind never is.
use mathlib.Core.Path.{◌≡◌, ap}
use mathlib.Core.Logic.{⊎_elim}
use Prim.Native.Nat.{ℕ, ◌+◌, ◌-◌, ◌≤◌, ◌<◌}
use native.Mathlib.Omega.{arith}
use native.Mathlib.Decide.{ℕ_discrete}
use mathlib.Core.List.{List}
use lib.ListN.{length, get_or, take}
use Rattle.laws.proofs.Tests.{leb-cases}
use Rattle.limits.specs.Limits.{record_max}
use Rattle.list.specs.declared.Place.{Place}
use Rattle.heap.specs.Heap.{count_of, Pushed}
use Rattle.merge.specs.Keys.{Heaped}
use Rattle.heap.proofs.HeapLaws.{count_none, count_at, count-where, least-front, front-counted, pushed-either, pushed-kept, pushed-new}
use Rattle.twin.specs.Twin.{next_lower, lack_of, Lowers}

-- `largest` is the largest lower bound of the first `lists` lists
pub record Largest (index entries : List ℕ) (at : ℕ → Place) (lists largest : ℕ) : Type 0 where
  pub most : (i : ℕ) → i < lists → next_lower index entries i (at i) ≤ largest
  pub reached : (i : ℕ) × (i < lists) × (next_lower index entries i (at i) ≡ largest)

module _ {index entries : List ℕ} {at : ℕ → Place} where
  -- a heap of one lower bound of each list
  pub lowers-filled : {P : ℕ → ℕ → Type 0} {lists : ℕ} {lowers : List ℕ} → Heaped P lists lowers →
      ((i x : ℕ) → i < lists → P i x → x ≡ lack_of (next_lower index entries i (at i))) → Lowers index entries at lists lists lowers
  lowers-filled {P} {lists} {lowers} h is = record {
    heap = h.heap;
    all = λ i g. let l = h.long in let c = rw (own i g) at (count_at h.numbers i (omega arith)) in omega (arith, h.bag (lack_of (next_lower index entries i (at i))));
    others = λ y g.
        let w = count-where y h.numbers (omega (arith, h.bag y)) in
        let k : w.0 < lists = let l = h.long in let m = w.1 in omega arith in
        (w.0, k, let e = own w.0 k in let v = w.2 in omega arith);
  }
    where
      own : (i : ℕ) → i < lists → get_or h.numbers i 0 ≡ lack_of (next_lower index entries i (at i))
      own i g = is i (get_or h.numbers i 0) g (h.number i g)

  module _ {lists size : ℕ} {lowers : List ℕ} (w : Lowers index entries at lists size lowers) where
    -- list j moves on
    module _ {at' : ℕ → Place} {lowers' : List ℕ} {j : ℕ} (h : j < lists) (same : (i : ℕ) → (i ≡ j → ⊥) → at' i ≡ at i)
        (rises : next_lower index entries j (at j) ≤ next_lower index entries j (at' j))
        (p : Pushed size (lack_of (next_lower index entries j (at' j))) lowers lowers') where
      moved_all : (i : ℕ) → i < lists → 0 < count_of (lack_of (next_lower index entries i (at' i))) (take (size + 1) lowers')
      moved_all i g = go (ℕ_discrete i j)
        where
          go : Dec (i ≡ j) → 0 < count_of (lack_of (next_lower index entries i (at' i))) (take (size + 1) lowers')
          go (yes z) = rw z (pushed-new p)
          go (no ne) = rw (same i ne) (pushed-kept p (lack_of (next_lower index entries i (at i))) (w.all i g))

      moved-bound : (i y : ℕ) → lack_of (next_lower index entries i (at i)) ≤ y → lack_of (next_lower index entries i (at' i)) ≤ y
      moved-bound i y g = go (ℕ_discrete i j)
        where
          go : Dec (i ≡ j) → lack_of (next_lower index entries i (at' i)) ≤ y
          go (yes z) =
              let a = ap (λ (k : ℕ). next_lower index entries k (at k)) z in
              let b = ap (λ (k : ℕ). next_lower index entries k (at' k)) z in
              omega arith
          go (no ne) = rw (same i ne) g

      pub lowers-moved : Lowers index entries at' lists (size + 1) lowers'
      lowers-moved = record {
        heap = p.heap;
        all = moved_all;
        others = λ y g. ⊎_elim
            (λ e. (j, h, omega arith))
            (λ k. let o = w.others y k in (o.0, o.1, moved-bound o.0 y o.2))
            (pushed-either p y g);
      }

    -- ---- the front

    pub lowers-some : 0 < lists → 0 < size
    lowers-some some = leb-cases 1 size (λ g. g)
        (λ g. let z : size ≡ 0 = omega arith in
        absurd (omega (arith, rw z at (w.all 0 some), count_none (lack_of (next_lower index entries 0 (at 0))) lowers)))

    module _ (some : 0 < lists) (fits : size ≤ length lowers) (small : (i : ℕ) → i < lists → next_lower index entries i (at i) ≤ record_max) where
      front_above : (i : ℕ) → i < lists → get_or lowers 0 0 ≤ lack_of (next_lower index entries i (at i))
      front_above i h = least-front (lack_of (next_lower index entries i (at i))) size lowers (lowers-some some) w.heap (w.all i h)

      pub front-small : get_or lowers 0 0 ≤ record_max + 1
      front-small = let a = front_above 0 some in omega arith

      pub lowers-largest : Largest index entries at lists (record_max + 1 - get_or lowers 0 0)
      lowers-largest = record {
        most = λ i h. let a = front_above i h in let s = small i h in omega arith;
        reached =
            let o = w.others (get_or lowers 0 0) (front-counted size lowers (lowers-some some) fits) in
            let l = o.2 in
            let a = front_above o.0 o.1 in
            let s = small o.0 o.1 in
            (o.0, o.1, omega arith);
      }
