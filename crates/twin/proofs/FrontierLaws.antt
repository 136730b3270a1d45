-- Laws of the upper bounds of the intervals that are next, one in each list: whose the least upper bound is, and what changes where that list moves on.
use mathlib.Core.Path.{◌≡◌, sym, ap, ◌∙◌}
use Prim.Native.Nat.{ℕ, ◌/◌, ◌%◌, ◌≤◌, ◌<◌}
use native.Mathlib.Omega.{arith}
use native.Mathlib.Decide.{ℕ_discrete}
use mathlib.Core.List.{List}
use lib.Dec.{eqb}
use lib.ListN.{length, get_or, take, set, length-set}
use lib.Seq.{get_or-set_same, get_or-set_other}
use Rattle.list.specs.declared.Place.{Place}
use Rattle.list.specs.Ginix.{one}
use Rattle.heap.specs.Heap.{count_of, Replaced}
use Rattle.merge.specs.Keys.{Heaped}
use Rattle.heap.proofs.HeapLaws.{count_set, count_at, count-where, least-front, front-counted}
use Rattle.twin.specs.Twin.{next_upper, key_of, Frontier}

-- the least upper bound by the least key, and whose it is
abbrev pub least_of : ℕ → ℕ
least_of key = key / 16

abbrev pub whose : ℕ → ℕ
whose key = key % 16

abbrev key_at : List ℕ → List ℕ → (ℕ → Place) → ℕ → ℕ
key_at index entries at i = key_of (next_upper index entries i (at i)) i

module _ {index entries : List ℕ} {at : ℕ → Place} where
  -- a heap of one key of each list
  pub frontier-filled : {P : ℕ → ℕ → Type 0} {size : ℕ} {uppers : List ℕ} → Heaped P size uppers →
      ((i x : ℕ) → i < size → P i x → x ≡ key_at index entries at i) → Frontier index entries at size uppers
  frontier-filled h is =
      record { heap = h.heap; keys = h.numbers; long = h.long; key = λ i g. is i (get_or h.numbers i 0) g (h.number i g); bag = h.bag }

  module _ {size : ℕ} {uppers : List ℕ} (f : Frontier index entries at size uppers) where
    -- ---- whose the least upper bound is

    module _ (some : 0 < size) (few : size ≤ 16) (fits : size ≤ length uppers) {key : ℕ} (least : key ≡ get_or uppers 0 0) where
      -- nothing is less than the front
      front-least : (i : ℕ) → i < size → key ≤ key_at index entries at i
      front-least i h =
          let l = f.long in
          let c = count_at f.keys i (omega arith) in
          let k = f.key i h in
          omega (arith, least-front (get_or f.keys i 0) size uppers some f.heap (omega (arith, f.bag (get_or f.keys i 0))))

      front-whose : (i : ℕ) × (i < size) × (key ≡ key_at index entries at i)
      front-whose =
          let c = front-counted size uppers some fits in
          let w = count-where (get_or uppers 0 0) f.keys (omega (arith, f.bag (get_or uppers 0 0))) in
          let l = f.long in
          let h = w.1 in
          let g : w.0 < size = omega arith in
          (w.0, g, least ∙ sym w.2 ∙ f.key w.0 g)

      pub front-list : whose key < size
      front-list = let w = front-whose in let h = w.1 in let e = w.2 in omega arith

      pub front-upper : next_upper index entries (whose key) (at (whose key)) ≡ least_of key
      front-upper =
          let w = front-whose in
          let h = w.1 in
          let e = w.2 in
          let z : w.0 ≡ whose key = omega arith in
          let u : next_upper index entries w.0 (at w.0) ≡ least_of key = omega arith in
          ap (λ (i : ℕ). next_upper index entries i (at i)) (sym z) ∙ u

      pub front_below : (i : ℕ) → i < size → least_of key ≤ next_upper index entries i (at i)
      front_below i h = let k = front-least i h in omega arith

      -- ---- that list moves on

      module _ {at' : ℕ → Place} {uppers' : List ℕ} (others : (i : ℕ) → (i ≡ whose key → ⊥) → at' i ≡ at i)
          (r : Replaced size (key_of (next_upper index entries (whose key) (at' (whose key))) (whose key)) uppers uppers') where
        front-key : get_or f.keys (whose key) 0 ≡ get_or uppers 0 0
        front-key = let e = front-upper in f.key (whose key) front-list ∙ omega arith

        moved : List ℕ
        moved = set f.keys (whose key) (key_at index entries at' (whose key))

        moved-long : length moved ≡ size
        unfolding moved
        moved-long = length-set f.keys (whose key) (key_at index entries at' (whose key)) ∙ f.long

        moved-key : (i : ℕ) → i < size → get_or moved i 0 ≡ key_at index entries at' i
        unfolding moved
        moved-key i h = go (ℕ_discrete i (whose key))
          where
            go : Dec (i ≡ whose key) → get_or moved i 0 ≡ key_at index entries at' i
            go (yes e) =
                let l = f.long in
                ap (λ (k : ℕ). get_or moved k 0) e
                ∙ get_or-set_same f.keys (whose key) (key_at index entries at' (whose key)) 0 (omega arith)
                ∙ ap (key_at index entries at') (sym e)
            go (no ne) =
                get_or-set_other f.keys (whose key) i (key_at index entries at' (whose key)) 0 ne
                ∙ f.key i h
                ∙ ap (λ (a : Place). key_of (next_upper index entries i a) i) (sym (others i ne))

        moved-bag : (y : ℕ) → count_of y (take size uppers') ≡ count_of y moved
        unfolding moved
        moved-bag y =
            let h = front-list in
            let l = f.long in
            let k = ap (λ (v : ℕ). one (eqb y v)) front-key in
            omega (arith, r.bag y, f.bag y, count_set y f.keys (whose key) (key_at index entries at' (whose key)) (omega arith))

        pub frontier-moved : Frontier index entries at' size uppers'
        frontier-moved = record { heap = r.heap; keys = moved; long = moved-long; key = moved-key; bag = moved-bag }

        -- where its upper bound rises
        pub front-rises : next_upper index entries (whose key) (at (whose key)) < next_upper index entries (whose key) (at' (whose key)) →
            get_or uppers 0 0 < get_or uppers' 0 0
        front-rises rises =
            let c = front-counted size uppers' some (let l = r.room in omega arith) in
            let w = count-where (get_or uppers' 0 0) moved (omega (arith, moved-bag (get_or uppers' 0 0))) in
            let m = moved-long in
            let h = w.1 in
            let g : w.0 < size = omega arith in
            go w.0 g (sym w.2 ∙ moved-key w.0 g) (ℕ_discrete w.0 (whose key))
          where
            go : (i : ℕ) → i < size → get_or uppers' 0 0 ≡ key_at index entries at' i → Dec (i ≡ whose key) → get_or uppers 0 0 < get_or uppers' 0 0
            go i h e (yes z) = let u = front-upper in let s = ap (λ (k : ℕ). next_upper index entries k (at' k)) z in omega arith
            go i h e (no ne) = let s = ap (next_upper index entries i) (others i ne) in let k = front-least i h in omega arith
