-- Laws of a pass over singles, and of the list rule for what is left behind a place.
use mathlib.Core.Path.{◌≡◌, refl, sym, ◌∙◌}
use mathlib.Core.Logic.{◌⊎◌, inl, inr, ⊎_elim}
use Prim.Native.Nat.{ℕ, zero, suc, ◌+◌, ◌-◌, ◌≤◌, ◌<◌}
use native.Mathlib.Omega.{arith}
use mathlib.Core.Bool.{Bool, true, false, ◌&&◌, and-false}
use mathlib.Core.List.{List, ◌∷◌}
use lib.Dec.{eqb, leb}
use lib.ListN.{length, get_or, drop, length-drop}
use lib.Seq.{get_or-drop}
use borrow.Author.Tests.{lt-ltb, le-ltb, le-leb, lt-leb, eq-eqb, ne_eqb}
use Rattle.laws.proofs.Tests.{and_both, by-test, leb-cases}
use Rattle.laws.proofs.Lists.{drop-next, drop-none}
use Rattle.limits.specs.Limits.{record_max}
use Rattle.list.specs.declared.rule.Pass.{Pass}
use Rattle.list.specs.Interval.{proper_from, is_proper}
use Rattle.list.specs.Kept.{walk_from, walked, are_longer, is_kept}
use Rattle.list.specs.Passed.{passed}
use Rattle.list.proofs.ProperLaws.{proper-facts}
use Rattle.list.proofs.WalkLaws.{place_at, single-next-is, pair-next-is, walk-weaves}
use Rattle.list.proofs.KeptLaws.{weave-pairs, pairs-at, longer-at}

-- ---- one turn of the pass

abbrev pub ended : ℕ → ℕ → Pass
ended i least = record { p = record { 0 = i }; least = least }

module _ (bound least : ℕ) (S : List ℕ) (i : ℕ) where
  pub passed-end : length S ≤ i → passed bound least i (drop i S) ≡ ended i least
  unfolding passed
  passed-end h = rw (drop-none S i h)

  pub passed-stop : i < length S → bound ≤ get_or S i 0 → passed bound least i (drop i S) ≡ ended i least
  unfolding passed
  passed-stop h g = rw (drop-next S i h, le-ltb (get_or S i 0) bound g)

  pub passed-bad : i < length S → get_or S i 0 < bound → get_or S i 0 < least → passed bound least i (drop i S) ≡ ended i (record_max + 1)
  unfolding passed
  passed-bad h g l = rw (drop-next S i h, lt-ltb (get_or S i 0) bound g, lt-ltb (get_or S i 0) least l)

  pub passed_on : i < length S → get_or S i 0 < bound → least ≤ get_or S i 0 →
      passed bound least i (drop i S) ≡ passed bound (get_or S i 0 + 2) (i + 1) (drop (i + 1) S)
  unfolding passed
  passed_on h g l = rw (drop-next S i h, lt-ltb (get_or S i 0) bound g, le-ltb (get_or S i 0) least l)

-- ---- the list rule for what is left

-- from place p and q on, where the next interval begins at least at k
unfoldable pub kept_from : ℕ → List ℕ → List ℕ → List ℕ → ℕ → ℕ → ℕ → Bool
kept_from n S L U k p q = are_longer (drop q L) (drop q U) && proper_from n k (walk_from S L U (place_at p q) (length S - p + (length L - q)))

module _ (n : ℕ) (S L U : List ℕ) where
  pub kept-start : is_kept n S L U ≡ kept_from n S L U 1 0 0
  unfolding is_kept is_proper walked kept_from
  kept-start = let e : length S - 0 + (length L - 0) ≡ length S + length L = omega arith in rw e

  pub kept-end : length L ≡ length U → (k : ℕ) → kept_from n S L U k (length S) (length L) ≡ true
  unfolding kept_from are_longer walk_from proper_from
  kept-end e k =
      let z : length S - length S + (length L - length L) ≡ 0 = omega arith in
      rw (drop-none L (length L) (omega arith), drop-none U (length L) (omega arith), z)

  -- the walk's next step
  walk-single : (p q : ℕ) → p < length S → (q < length L → get_or S p 0 < get_or L q 0) →
      walk_from S L U (place_at p q) (length S - p + (length L - q))
      ≡ get_or S p 0 ∷ get_or S p 0 ∷ walk_from S L U (place_at (p + 1) q) (length S - (p + 1) + (length L - q))
  unfolding walk_from
  walk-single p q h f =
      let e : length S - p + (length L - q) ≡ suc (length S - (p + 1) + (length L - q)) = omega arith in
      rw (e, single-next-is S L p q h f)

  walk_pair : (p q : ℕ) → q < length L → (p < length S → get_or L q 0 ≤ get_or S p 0) →
      walk_from S L U (place_at p q) (length S - p + (length L - q))
      ≡ get_or L q 0 ∷ get_or U q 0 ∷ walk_from S L U (place_at p (q + 1)) (length S - p + (length L - (q + 1)))
  unfolding walk_from
  walk_pair p q h f =
      let e : length S - p + (length L - q) ≡ suc (length S - p + (length L - (q + 1))) = omega arith in
      rw (e, pair-next-is S L p q h f)

  -- a single is next
  module _ (k p q : ℕ) (h : p < length S) (f : q < length L → get_or S p 0 < get_or L q 0) where
    pub kept-single-on : k ≤ get_or S p 0 → get_or S p 0 ≤ n → kept_from n S L U k p q ≡ kept_from n S L U (get_or S p 0 + 2) (p + 1) q
    unfolding kept_from proper_from
    kept-single-on a b = rw (walk-single p q h f, le-leb k (get_or S p 0) a, le-leb (get_or S p 0) (get_or S p 0) (omega arith), le-leb (get_or S p 0) n b)

    pub kept-single-near : get_or S p 0 < k → kept_from n S L U k p q ≡ false
    unfolding kept_from proper_from
    kept-single-near a = rw (walk-single p q h f, lt-leb k (get_or S p 0) a) (and-false (are_longer (drop q L) (drop q U)))

    pub kept-single-over : n < get_or S p 0 → kept_from n S L U k p q ≡ false
    unfolding kept_from proper_from
    kept-single-over a =
        rw (walk-single p q h f, lt-leb (get_or S p 0) n a, and-false (leb k (get_or S p 0) && leb (get_or S p 0) (get_or S p 0)))
        (and-false (are_longer (drop q L) (drop q U)))

  -- a pair is next
  module _ (k p q : ℕ) (long : length L ≡ length U) (h : q < length L) (f : p < length S → get_or L q 0 ≤ get_or S p 0) where
    pub kept-pair-on : get_or L q 0 < get_or U q 0 → k ≤ get_or L q 0 → get_or U q 0 ≤ n → kept_from n S L U k p q ≡ kept_from n S L U (get_or U q 0 + 2) p (q + 1)
    unfolding kept_from proper_from are_longer
    kept-pair-on a b c =
        rw (
          walk_pair p q h f,
          drop-next L q h,
          drop-next U q (omega arith),
          lt-ltb (get_or L q 0) (get_or U q 0) a,
          le-leb k (get_or L q 0) b,
          le-leb (get_or L q 0) (get_or U q 0) (omega arith),
          le-leb (get_or U q 0) n c,
        )

    pub kept-pair-near : get_or L q 0 < k → kept_from n S L U k p q ≡ false
    unfolding kept_from proper_from
    kept-pair-near a = rw (walk_pair p q h f, lt-leb k (get_or L q 0) a) (and-false (are_longer (drop q L) (drop q U)))

  -- a pair that breaks the rule, whatever stands before it
  module _ (k p q : ℕ) (long : length L ≡ length U) (g : p ≤ length S) (h : q < length L) where
    kept-pair-good : kept_from n S L U k p q ≡ true → (get_or L q 0 < get_or U q 0) × (get_or U q 0 ≤ n)
    unfolding kept_from
    kept-pair-good e =
        let w = and_both (are_longer (drop q L) (drop q U)) (proper_from n k (walk_from S L U (place_at p q) (length S - p + (length L - q)))) e in
        let ll = length-drop q L in
        let lu = length-drop q U in
        let c = walk-weaves S L U long (length S - p + (length L - q)) p q g (omega arith) (omega arith) in
        let ps = weave-pairs n k c (proper-facts n k (walk_from S L U (place_at p q) (length S - p + (length L - q))) w.1) in
        let i = pairs-at n k (drop q L) (drop q U) (omega arith) ps 0 (omega arith) in
        let j = longer-at (drop q L) (drop q U) w.0 0 (omega arith) in
        let z : q + 0 ≡ q = omega arith in
        let a : get_or (drop q L) 0 0 ≡ get_or L q 0 = get_or-drop q L 0 0 ∙ rw z in
        let b : get_or (drop q U) 0 0 ≡ get_or U q 0 = get_or-drop q U 0 0 ∙ rw z in
        (omega arith, omega arith)

    pub kept-pair-short : get_or U q 0 ≤ get_or L q 0 → kept_from n S L U k p q ≡ false
    kept-pair-short a = by-test (kept_from n S L U k p q) (λ e. absurd (let w = kept-pair-good e in omega arith)) (λ e. e)

    pub kept-pair-over : n < get_or U q 0 → kept_from n S L U k p q ≡ false
    kept-pair-over a = by-test (kept_from n S L U k p q) (λ e. absurd (let w = kept-pair-good e in omega arith)) (λ e. e)

-- ---- a pass moves on without a change to the rule, or breaks it

module _ (n : ℕ) (S L U : List ℕ) (bound q : ℕ) (near : bound ≤ n + 1) (f : q < length L → bound ≤ get_or L q 0) where
  pub record Moved (k p : ℕ) (r : Pass) : Type 0 where
    pub inside : r.p.0 ≤ length S
    pub stops : r.p.0 < length S → bound ≤ get_or S r.p.0 0
    pub rule : kept_from n S L U k p q ≡ kept_from n S L U r.least r.p.0 q

  pub record Broken (k p : ℕ) (r : Pass) : Type 0 where
    pub inside : r.p.0 < length S
    pub least : r.least ≡ record_max + 1
    pub rule : kept_from n S L U k p q ≡ false

  moved_here : (k p : ℕ) → p ≤ length S → (p < length S → bound ≤ get_or S p 0) → Moved k p (ended p k)
  moved_here k p h g = record { inside = h; stops = g; rule = refl }

  pass-moves : (i k p : ℕ) → p + i ≡ length S → Moved k p (passed bound k p (drop p S)) ⊎ Broken k p (passed bound k p (drop p S))
  pass-moves zero k p e = rw (passed-end bound k S p (omega arith)) (inl (moved_here k p (omega arith) (λ w. absurd (omega arith))))
  pass-moves (suc i) k p e =
      leb-cases bound (get_or S p 0)
      (λ g. rw (passed-stop bound k S p (omega arith) g) (inl (moved_here k p (omega arith) (λ w. g))))
      (λ g. leb-cases k (get_or S p 0)
      (λ l.
      let next = kept-single-on n S L U k p q (omega arith) (λ w. let b = f w in omega arith) l (omega arith) in
      rw (passed_on bound k S p (omega arith) g l)
      (⊎_elim
      (λ m. inl (record { inside = m.inside; stops = m.stops; rule = next ∙ m.rule }))
      (λ b. inr (record { inside = b.inside; least = b.least; rule = next ∙ b.rule }))
      (pass-moves i (get_or S p 0 + 2) (p + 1) (omega arith))))
      (λ l.
      rw (passed-bad bound k S p (omega arith) g l)
      (inr (record {
        inside = omega arith;
        least = refl;
        rule = kept-single-near n S L U k p q (omega arith) (λ w. let b = f w in omega arith) l;
      }))))

  pub pass-keeps : (k p : ℕ) → p ≤ length S → (r : Pass) → r ≡ passed bound k p (drop p S) → Moved k p r ⊎ Broken k p r
  pass-keeps k p h r e = rw e (pass-moves (length S - p) k p (omega arith))

-- ---- a turn over the pairs, and the end

module _ (n : ℕ) (S L U : List ℕ) (high : n ≤ record_max) (long : length L ≡ length U) (k p q : ℕ) (g : p ≤ length S) where
  -- r is the pass before pair q, from l to u
  module _ (l u : ℕ) (r : Pass) (h : q < length L) (el : l ≡ get_or L q 0) (eu : u ≡ get_or U q 0) (lu : l < u) (un : u ≤ n)
      (e : r ≡ passed l k p (drop p S))
    where
      before-pair : Moved n S L U l q (omega arith) (λ w. omega arith) k p r ⊎ Broken n S L U l q (omega arith) (λ w. omega arith) k p r
      before-pair = pass-keeps n S L U l q (omega arith) (λ w. omega arith) k p g r e

      pub turn_near : l < r.least → kept_from n S L U k p q ≡ false
      turn_near a =
          ⊎_elim
          (λ m. m.rule ∙ kept-pair-near n S L U r.least r.p.0 q long h (λ w. let b = m.stops w in omega arith) (omega arith))
          (λ b. b.rule)
          before-pair

      pub turn_on : r.least ≤ l → (r.p.0 ≤ length S) × (kept_from n S L U k p q ≡ kept_from n S L U (u + 2) r.p.0 (q + 1))
      turn_on a =
          ⊎_elim
          (λ m. (
            m.inside,
            m.rule
                ∙ kept-pair-on n S L U r.least r.p.0 q long h (λ w. let b = m.stops w in omega arith) (omega arith) (omega arith) (omega arith)
                ∙ rw eu,
          ))
          (λ b. absurd (let w = b.least in omega arith))
          before-pair

  -- no pair is left: r is the pass over the other singles
  module _ (r : Pass) (h : q ≡ length L) (e : r ≡ passed (n + 1) k p (drop p S)) where
    left_over : r.p.0 < length S → eqb r.p.0 (length S) ≡ false
    left_over a = ne_eqb r.p.0 (length S) (λ w. let v : r.p.0 ≡ length S = w in omega arith)

    pub end-decides : kept_from n S L U k p q ≡ eqb r.p.0 (length S)
    end-decides =
        ⊎_elim
        (λ m. m.rule
        ∙ leb-cases (length S) r.p.0
        (λ a.
        let z : r.p.0 ≡ length S = let i = m.inside in omega arith in
        rw (z, h, eq-eqb (length S) (length S) refl) (kept-end n S L U long r.least))
        (λ a.
        let b = m.stops a in
        rw (left_over a) (kept-single-over n S L U r.least r.p.0 q a (λ w. absurd (omega arith)) (omega arith))))
        (λ b. b.rule ∙ sym (left_over b.inside))
        (pass-keeps n S L U (n + 1) q (omega arith) (λ w. omega arith) k p g r e)
