-- The scan line over the lists: which of them are in, and what the next bound says of the numbers up to it.
use mathlib.Core.Path.{◌≡◌, refl, sym, ap, ◌∙◌}
use Prim.Native.Nat.{ℕ, ◌+◌, ◌/◌, ◌%◌, ◌≤◌, ◌<◌}
use native.Mathlib.Omega.{arith}
use native.Mathlib.Decide.{ℕ_discrete}
use mathlib.Core.Bool.{Bool, true, false, cond}
use mathlib.Core.List.{List, [], ◌∷◌}
use lib.Dec.{eqb}
use lib.ListN.{length}
use borrow.Author.Tests.{eq-eqb, ne_eqb}
use Rattle.laws.proofs.Tests.{true-false, by-test, leb-cases}
use Rattle.limits.specs.Limits.{record_max}
use Rattle.list.specs.declared.Place.{Place}
use Rattle.list.specs.Ginix.{one}
use Rattle.list.proofs.SeekLaws.{one-small}
use Rattle.merge.specs.Request.{SoundRequest}
use Rattle.merge.specs.Keys.{sum_of, lower_mark, upper_mark, due_at}
use Rattle.merge.proofs.KeysLaws.{sum-change, sum-at, sum-where, sum-most, Front}
use Rattle.merge.proofs.DueLaws.{AllRead, GoesAt, lower_next, upper_next, places_on, marked-goes, marked-lower, next-bounds, next-inside, all-read-later}
use Rattle.merge.proofs.DueLaws.{all-read-on, read-at-on, on-later, places-other, due-other}
use Rattle.union.specs.Scan.{lower_from}
use Rattle.union.proofs.AnyLaws.{in_any, any-in, DueFrom, none_below, none_left}

-- ---- which lists are in

-- list j turns to b
abbrev pub turned_to : Bool → ℕ → (ℕ → Bool) → ℕ → Bool
turned_to b j f i = cond (eqb i j) b (f i)

turned-own : (b : Bool) (j : ℕ) (f : ℕ → Bool) → turned_to b j f j ≡ b
turned-own b j f = rw (eq-eqb j j refl)

turned-other : (b : Bool) (j : ℕ) (f : ℕ → Bool) (i : ℕ) → (i ≡ j → ⊥) → turned_to b j f i ≡ f i
turned-other b j f i ne = rw (ne_eqb i j ne)

turned-sum : (b : Bool) (j : ℕ) (f : ℕ → Bool) (n : ℕ) → j < n → sum_of (λ i. one (f i)) n + one b ≡ sum_of (λ i. one (turned_to b j f i)) n + one (f j)
turned-sum b j f n h =
    let c = sum-change (λ i. one (f i)) (λ i. one (turned_to b j f i)) n j h (λ i k ne. ap one (sym (turned-other b j f i ne))) in
    let a = ap one (turned-own b j f) in
    omega arith

-- the mark that is due in a list that is in, and in one that is not
abbrev pub due_scan : List ℕ → List ℕ → List Place → (ℕ → Bool) → ℕ → List ℕ
due_scan index entries places f j = cond (f j) (upper_mark (upper_next index entries places j) ∷ []) (due_at index entries places j)

-- the line is at s: f says which lists are in, all of them since `lower` or later
pub record Over (index entries : List ℕ) (places : List Place) (f : ℕ → Bool) (s count lower : ℕ) : Type 0 where
  pub read : AllRead index entries places (s + 1)
  pub sum : count ≡ sum_of (λ j. one (f j)) (length entries)
  pub goes : (j : ℕ) → j < length entries → f j ≡ true → GoesAt index entries places j
  pub spans : (j : ℕ) → j < length entries → f j ≡ true →
      (lower_next index entries places j ≤ s) × (s ≤ upper_next index entries places j + 1) × (lower ≤ lower_next index entries places j)
  pub ahead : (j m : ℕ) (ms : List ℕ) → j < length entries → f j ≡ false → due_at index entries places j ≡ m ∷ ms → lower_mark s ≤ m

by-list : {A : Type 0} (i j : ℕ) → (i ≡ j → A) → ((i ≡ j → ⊥) → A) → A
by-list {A = A} i j a b = go (ℕ_discrete i j)
  where
    go : Dec (i ≡ j) → A
    go (yes e) = a e
    go (no ne) = b ne

one-true : (b : Bool) → 0 < one b → b ≡ true
one-true true h = refl
one-true false h = absurd (omega arith)

-- how many lists are in
module _ {index entries : List ℕ} {places : List Place} {f : ℕ → Bool} {s count lower : ℕ} (o : Over index entries places f s count lower) where
  over-one : (i : ℕ) → i < length entries → f i ≡ true → 0 < count
  over-one i h e = let a = ap one e in let b = o.sum in omega (arith, sum-at (λ j. one (f j)) (length entries) i h)

  over-some : 0 < count → (i : ℕ) × (i < length entries) × (f i ≡ true)
  over-some c = let e = o.sum in let w = sum-where (λ j. one (f j)) (length entries) (omega arith) in (w.0, w.1, one-true (f w.0) w.2)

  over-out : count ≡ 0 → (i : ℕ) → i < length entries → f i ≡ false
  over-out c i h = by-test (f i) (λ e. absurd (let a = over-one i h e in omega arith)) (λ e. e)

module _ {index entries : List ℕ} (asked : SoundRequest index entries) {places : List Place} {f : ℕ → Bool} {s count lower : ℕ}
    (o : Over index entries places f s count lower) where
  pub over-few : count ≤ 16
  over-few = let few = asked.few in let e = o.sum in omega (arith, sum-most (λ j. one (f j)) (length entries) (λ i. one-small (f i)))

  span-in : (i : ℕ) → i < length entries → f i ≡ true → (z : ℕ) → s ≤ z → z ≤ upper_next index entries places i → in_any index entries z ≡ true
  span-in i h e z a b = let n = o.spans i h e in any-in index entries i z h (next-inside (o.read.list i h) (o.goes i h e) z (omega arith) b)

  -- all lists are used up
  pub over-end : ((i : ℕ) → i < length entries → due_scan index entries places f i ≡ []) → (count ≡ 0) × ((z : ℕ) → s ≤ z → in_any index entries z ≡ false)
  over-end none = (
    leb-cases count 0 (λ h. omega arith) (λ h. absurd (let w = over-some o h in true-false (sym w.2 ∙ out w.0 w.1))),
    λ z h. none_left o.read (λ i w. rw (out i w) at (none i w)) z (omega arith),
  )
    where
      out : (i : ℕ) → i < length entries → f i ≡ false
      out i h = by-test (f i) (λ e. absurd (let z = rw e at (none i h) in let w : ◌≡◌ {A = ℕ} 0 1 = cc in omega arith)) (λ e. e)

  -- the least mark is that of key y
  module _ {y : ℕ} (fr : Front (length entries) y (due_scan index entries places f)) where
    least-in : (i : ℕ) → i < length entries → f i ≡ true → y / 16 ≤ upper_mark (upper_next index entries places i)
    least-in i h e = fr.least i (upper_mark (upper_next index entries places i)) [] h (rw e)

    least-out : (i b : ℕ) (bs : List ℕ) → i < length entries → f i ≡ false → due_at index entries places i ≡ b ∷ bs → y / 16 ≤ b
    least-out i b bs h e d = fr.least i b bs h (rw e d)

    due-out : f (y % 16) ≡ false → due_at index entries places (y % 16) ≡ (y / 16) ∷ fr.rest
    due-out e = rw e at fr.mark

    mark-out : f (y % 16) ≡ false → y / 16 ≡ lower_mark (lower_next index entries places (y % 16))
    mark-out e = marked-lower (o.read.list (y % 16) fr.list) (due-out e)

    mark-in : f (y % 16) ≡ true → y / 16 ≡ upper_mark (upper_next index entries places (y % 16))
    mark-in e = let m = rw e at fr.mark in cc

    over-wide : 0 < count → (z : ℕ) → s ≤ z → z < y / 32 → in_any index entries z ≡ true
    over-wide c z a b = let w = over-some o c in let l = least-in w.0 w.1 w.2 in span-in w.0 w.1 w.2 z a (omega arith)

    -- a lower bound
    module _ (even : y / 16 % 2 ≡ 0) where
      front_out : f (y % 16) ≡ false
      front_out = by-test (f (y % 16)) (λ e. absurd (let m = mark-in e in omega arith)) (λ e. e)

      pub begun-goes : GoesAt index entries places (y % 16)
      begun-goes = marked-goes (o.read.list (y % 16) fr.list) (due-out front_out)

      lower-at : y / 32 ≡ lower_next index entries places (y % 16)
      lower-at = let m = mark-out front_out in omega arith

      pub begun-reach : (s ≤ y / 32) × (y / 32 ≤ record_max + 1)
      begun-reach =
          let a = o.ahead (y % 16) (y / 16) fr.rest fr.list front_out (due-out front_out) in
          let b = next-bounds (o.read.list (y % 16) fr.list) begun-goes in
          let l = lower-at in
          (omega arith, omega arith)

      begun-least : count ≡ 0 → DueFrom index entries places (y / 32)
      begun-least c i b bs h d = let l = least-out i b bs h (over-out o c i h) d in omega arith

      pub begun-shut : count ≡ 0 → (z : ℕ) → s ≤ z → z < y / 32 → in_any index entries z ≡ false
      begun-shut c z a b = none_below o.read (y / 32) (begun-least c) z (omega arith) b

      pub begun-wide : 0 < count → (z : ℕ) → s ≤ z → z < y / 32 → in_any index entries z ≡ true
      begun-wide = over-wide

      module _ {lower' : ℕ} (e : lower' ≡ lower_from count lower (y / 32)) where
        stays : (count ≡ 0 → ⊥) → lower' ≡ lower
        stays c = e ∙ rw (ne_eqb count 0 c)

        since : lower' ≤ y / 32
        since = by-list count 0
            (λ c. let a : lower' ≡ y / 32 = e ∙ rw (eq-eqb count 0 c) in omega arith)
            (λ c. let a = stays c in let r = begun-reach in let w = over-some o (omega arith) in let p = o.spans w.0 w.1 w.2 in omega arith)

        pub begun-over : Over index entries places (turned_to true (y % 16) f) (y / 32) (count + 1) lower'
        begun-over =
            let j = y % 16 in
            let reach = begun-reach in
            let was : (i : ℕ) → (i ≡ j → ⊥) → turned_to true j f i ≡ f i = turned-other true j f in
            record {
              read = all-read-later o.read (omega arith);
              sum = let c = turned-sum true j f (length entries) fr.list in let b = ap one front_out in let m = o.sum in omega arith;
              goes = λ i h d. by-list i j (λ q. rw q begun-goes) (λ ne. o.goes i h (sym (was i ne) ∙ d));
              spans = λ i h d. by-list i j
                  (λ q. let b = next-bounds (o.read.list j fr.list) begun-goes in
                  let l = lower-at in
                  let n = since in
                  rw q (omega arith, omega arith, omega arith))
                  (λ ne. let t = sym (was i ne) ∙ d in
                  let p = o.spans i h t in
                  let l = least-in i h t in
                  let c = over-one o i h t in
                  let n = stays (λ (z : count ≡ 0). omega arith) in
                  (omega arith, omega arith, omega arith));
              ahead = λ i m ms h d q. by-list i j
                  (λ w. true-false (sym (turned-own true j f) ∙ sym (ap (turned_to true j f) w) ∙ d))
                  (λ ne. let l = least-out i m ms h (sym (was i ne) ∙ d) q in omega arith);
            }

    -- an upper bound
    module _ (odd : y / 16 % 2 ≡ 0 → ⊥) where
      front-in : f (y % 16) ≡ true
      front-in = by-test (f (y % 16)) (λ e. e) (λ e. absurd (odd (let m = mark-out e in omega arith)))

      upper-at : y / 32 ≡ upper_next index entries places (y % 16) + 1
      upper-at = let m = mark-in front-in in omega arith

      pub ended-goes : GoesAt index entries places (y % 16)
      ended-goes = o.goes (y % 16) fr.list front-in

      pub ended_some : 0 < count
      ended_some = over-one o (y % 16) fr.list front-in

      pub ended-reach : (s ≤ y / 32) × (y / 32 ≤ record_max + 1) × (lower < y / 32)
      ended-reach =
          let b = next-bounds (o.read.list (y % 16) fr.list) ended-goes in
          let p = o.spans (y % 16) fr.list front-in in
          let u = upper-at in
          (omega arith, omega arith, omega arith)

      pub ended-wide : (z : ℕ) → s ≤ z → z < y / 32 → in_any index entries z ≡ true
      ended-wide = over-wide ended_some

      ended-read : AllRead index entries (places_on index entries places (y % 16)) (y / 32 + 1)
      ended-read = let u = upper-at in let r = ended-reach in all-read-on asked o.read (y % 16) fr.list ended-goes (omega arith) (omega arith)

      -- what is left of a list that is out begins behind the bound
      ended-ahead : (i m : ℕ) (ms : List ℕ) → i < length entries → turned_to false (y % 16) f i ≡ false →
          due_at index entries (places_on index entries places (y % 16)) i ≡ m ∷ ms → lower_mark (y / 32 + 1) ≤ m
      ended-ahead i m ms h d q =
          let j = y % 16 in
          let u = upper-at in
          by-list i j
          (λ w.
          let r = read-at-on asked o.read j fr.list ended-goes in
          let own = rw w at q in
          let e = marked-lower r own in
          let b = on-later asked o.read j fr.list ended-goes (marked-goes r own) in
          omega arith)
          (λ ne.
          let was = due-other index entries places j i ne ∙ q in
          let l = least-out i m ms h (sym (turned-other false j f i ne) ∙ d) was in
          let e = marked-lower (o.read.list i h) was in
          let k = mark-in front-in in
          omega arith)

      module _ {count' : ℕ} (e : count ≡ count' + 1) where
        pub ended-over : Over index entries (places_on index entries places (y % 16)) (turned_to false (y % 16) f) (y / 32) count' lower
        ended-over =
            let j = y % 16 in
            let u = upper-at in
            let was : (i : ℕ) → (i ≡ j → ⊥) → turned_to false j f i ≡ f i = turned-other false j f in
            let own : (i : ℕ) → i ≡ j → turned_to false j f i ≡ true → ⊥ = λ i w d. true-false (sym d ∙ ap (turned_to false j f) w ∙ turned-own false j f) in
            record {
              read = ended-read;
              sum = let c = turned-sum false j f (length entries) fr.list in let b = ap one front-in in let m = o.sum in omega arith;
              goes = λ i h d. by-list i j (λ w. absurd (own i w d)) (λ ne. rw (places-other index entries places j i ne) (o.goes i h (sym (was i ne) ∙ d)));
              spans = λ i h d. by-list i j
                  (λ w. absurd (own i w d))
                  (λ ne. let t = sym (was i ne) ∙ d in
                  let p = o.spans i h t in
                  let l = least-in i h t in
                  let k = mark-in front-in in
                  let r = ended-reach in
                  rw (places-other index entries places j i ne) (omega arith, omega arith, omega arith));
              ahead = λ i m ms h d q. let a = ended-ahead i m ms h d q in omega arith;
            }

        pub ended-stop : count' ≡ 0 → in_any index entries (y / 32) ≡ false
        ended-stop c =
            none_below ended-read (y / 32 + 1) (λ i b bs h d. ended-ahead i b bs h (over-out ended-over c i h) d) (y / 32) (omega arith) (omega arith)
