-- Probing by counts: what begins by b and does not end before a overlaps [a, b].
use mathlib.Core.Path.{◌≡◌, refl}
use Prim.Native.Nat.{ℕ, ◌+◌, ◌-◌, ◌≤◌}
use native.Mathlib.Omega.{arith}
use mathlib.Core.Bool.{◌&&◌, and-true}
use mathlib.Core.List.{List, [], ◌∷◌}
use lib.Dec.{leb, ltb}
use borrow.Author.Tests.{lt-ltb, le-ltb, le-leb, lt-leb}
use Rattle.laws.proofs.Tests.{leb-cases}
use Rattle.list.specs.Ginix.{one, below_count, overlap_count}
use Rattle.list.specs.Kept.{walked}
use Rattle.list.specs.Seek.{count_below}
use Rattle.list.proofs.ProperLaws.{ProperFrom}
use Rattle.list.proofs.SeekLaws.{count-length, count-over, count-passed}
use Rattle.list.proofs.WalkLaws.{begun_count, walked-below, walked-begun}
use Rattle.list.proofs.KeptLaws.{Kept}

overlap-one : (a b l u : ℕ) → a ≤ b → l ≤ u → one (leb l b && leb a u) + one (ltb u a) ≡ one (leb l b)
overlap-one a b l u h g =
    leb-cases a u
    (λ e. rw (le-leb a u e, le-ltb u a e, and-true (leb l b)) (omega arith))
    (λ e. rw (lt-leb a u e, lt-ltb u a e, le-leb l b (omega arith)))

pub overlap-begun : (a b n k : ℕ) (c : List ℕ) → a ≤ b → ProperFrom n k c → overlap_count a b c + below_count a c ≡ begun_count b c
unfolding overlap_count below_count begun_count
overlap-begun a b n k [] h p = refl
overlap-begun a b n k (l ∷ u ∷ r) h p =
    let e = overlap-one a b l u h p.1 in
    let f = overlap-begun a b n (u + 2) r h p.3 in
    omega arith
overlap-begun a b n k (l ∷ []) h p = elim p [ ]

-- a pair that ends before a begins by b
pub ended-begun : (n a b : ℕ) (S L U : List ℕ) → Kept n S L U → a ≤ b → count_below a U ≤ count_below (b + 1) L
ended-begun n a b S L U k h =
    leb-cases (count_below a U) (count_below (b + 1) L) (λ e. e)
    (λ e. absurd
    (let i = count_below (b + 1) L in
    let lu = count-length a U in
    let long = k.long in
    let ended = count-passed 0 a U k.upper-ascend i e in
    let pair = k.pair-at i (omega arith) in
    let begun = count-over 0 (b + 1) L k.lower-ascend i (omega arith) (omega arith) in
    omega arith))

-- ---- the probe of a kept list

pub probe-overlap : (n a b : ℕ) (S L U : List ℕ) → Kept n S L U → a ≤ b →
    overlap_count a b (walked S L U) ≡ count_below (b + 1) S + count_below (b + 1) L - (count_below a S + count_below a U)
probe-overlap n a b S L U k h =
    let e = overlap-begun a b n 1 (walked S L U) h k.proper in
    let f = walked-below S L U k.long a in
    let g = walked-begun S L U k.long b in
    omega arith
