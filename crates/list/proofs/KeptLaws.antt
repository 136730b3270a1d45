-- What the list rule says of the three regions.
use mathlib.Core.Path.{◌≡◌, refl, sym, ap}
use mathlib.Core.Logic.{◌⊎◌, inl, inr}
use Prim.Native.Nat.{ℕ, zero, suc, ◌+◌, ◌≤◌, ◌<◌}
use native.Mathlib.Omega.{arith}
use native.Mathlib.Numerals.{add-one}
use mathlib.Core.Bool.{true}
use mathlib.Core.List.{List, [], ◌∷◌}
use lib.Dec.{ltb}
use lib.ListN.{length, get_or}
use borrow.Author.Tests.{ltb-true}
use Rattle.laws.proofs.Tests.{true-false, and_both, both-and}
use Rattle.list.specs.Interval.{proper_from, is_proper}
use Rattle.list.specs.Kept.{walked, are_longer, is_kept}
use Rattle.list.specs.Seek.{AscendsFrom, Ascends}
use Rattle.list.proofs.ProperLaws.{ProperFrom, proper-facts, facts-proper, proper-weaker}
use Rattle.list.proofs.SeekLaws.{ascends-weaker}
use Rattle.list.proofs.WalkLaws.{Weave, none, single, pair, pairs, walked-weaves}

-- ---- each side of a proper woven list

-- the singles, each at least the one before plus 2
abbrev pub SpacedFrom : ℕ → ℕ → List ℕ → Type 0
SpacedFrom n k [] = Unit {0}
SpacedFrom n k (s ∷ S) = (k ≤ s) × (s ≤ n) × SpacedFrom n (s + 2) S

pub spaced-weaker : (n j k : ℕ) (S : List ℕ) → j ≤ k → SpacedFrom n k S → SpacedFrom n j S
spaced-weaker n j k [] h p = tt
spaced-weaker n j k (s ∷ S) h p = (omega arith, p.1, p.2)

pub spaced-ascends : (n k : ℕ) (S : List ℕ) → SpacedFrom n k S → AscendsFrom k S
spaced-ascends n k [] p = tt
spaced-ascends n k (s ∷ S) p = (p.0, ascends-weaker (s + 1) (s + 2) S (omega arith) (spaced-ascends n (s + 2) S p.2))

pub spaced-at : (n k : ℕ) (S : List ℕ) → SpacedFrom n k S → (i : ℕ) → i < length S → (k ≤ get_or S i 0) × (get_or S i 0 ≤ n)
spaced-at n k [] p i h = absurd (omega arith)
spaced-at n k (s ∷ S) p zero h = (p.0, p.1)
spaced-at n k (s ∷ S) p (suc i) h = let w = spaced-at n (s + 2) S p.2 i (omega arith) in (omega arith, w.1)

spaced-step : (n k : ℕ) (S : List ℕ) → SpacedFrom n k S → (i : ℕ) → suc i < length S → get_or S i 0 + 2 ≤ get_or S (suc i) 0
spaced-step n k [] p i h = absurd (omega arith)
spaced-step n k (s ∷ S) p zero h = (spaced-at n (s + 2) S p.2 0 (omega arith)).0
spaced-step n k (s ∷ S) p (suc i) h = spaced-step n (s + 2) S p.2 i (omega arith)

pub spaced-next : (n k : ℕ) (S : List ℕ) → SpacedFrom n k S → (i : ℕ) → i + 1 < length S → get_or S i 0 + 2 ≤ get_or S (i + 1) 0
spaced-next n k S p i h = rw (add-one i) (spaced-step n k S p i (omega arith))

pub weave-singles : {S L U c : List ℕ} (n k : ℕ) → Weave S L U c → ProperFrom n k c → SpacedFrom n k S
weave-singles n k none p = tt
weave-singles n k (single s S L U c w) p = (p.0, p.2, weave-singles n (s + 2) w p.3)
weave-singles n k (pair l u S L U c w) p = spaced-weaker n k (u + 2) S (omega arith) (weave-singles n (u + 2) w p.3)

pub weave-pairs : {S L U c : List ℕ} (n k : ℕ) → Weave S L U c → ProperFrom n k c → ProperFrom n k (pairs L U)
unfolding pairs
weave-pairs n k none p = tt
weave-pairs n k (single s S L U c w) p = proper-weaker n n k (s + 2) (pairs L U) (omega arith) (omega arith) (weave-pairs n (s + 2) w p.3)
weave-pairs n k (pair l u S L U c w) p = (p.0, p.1, p.2, weave-pairs n (u + 2) w p.3)

-- ---- the pairs, over both regions at once

module _ (n : ℕ) where
  pub pairs-at : (k : ℕ) (L U : List ℕ) → length L ≡ length U → ProperFrom n k (pairs L U) → (q : ℕ) → q < length L →
      (k ≤ get_or L q 0) × (get_or L q 0 ≤ get_or U q 0) × (get_or U q 0 ≤ n)
  unfolding pairs
  pairs-at k [] U e p q h = absurd (omega arith)
  pairs-at k (l ∷ L) [] e p q h = absurd (omega arith)
  pairs-at k (l ∷ L) (u ∷ U) e p zero h = (p.0, p.1, p.2)
  pairs-at k (l ∷ L) (u ∷ U) e p (suc q) h = let w = pairs-at (u + 2) L U (omega arith) p.3 q (omega arith) in (omega arith, w.1, w.2)

  pairs-step : (k : ℕ) (L U : List ℕ) → length L ≡ length U → ProperFrom n k (pairs L U) → (q : ℕ) → suc q < length L →
      get_or U q 0 + 2 ≤ get_or L (suc q) 0
  unfolding pairs
  pairs-step k [] U e p q h = absurd (omega arith)
  pairs-step k (l ∷ L) [] e p q h = absurd (omega arith)
  pairs-step k (l ∷ L) (u ∷ U) e p zero h = (pairs-at (u + 2) L U (omega arith) p.3 0 (omega arith)).0
  pairs-step k (l ∷ L) (u ∷ U) e p (suc q) h = pairs-step (u + 2) L U (omega arith) p.3 q (omega arith)

  pub pairs_next : (k : ℕ) (L U : List ℕ) → length L ≡ length U → ProperFrom n k (pairs L U) → (q : ℕ) → q + 1 < length L →
      get_or U q 0 + 2 ≤ get_or L (q + 1) 0
  pairs_next k L U e p q h = rw (add-one q) (pairs-step k L U e p q (omega arith))

  pub pairs-lower : (k : ℕ) (L U : List ℕ) → length L ≡ length U → ProperFrom n k (pairs L U) → AscendsFrom k L
  unfolding pairs
  pairs-lower k [] U e p = tt
  pairs-lower k (l ∷ L) [] e p = absurd (omega arith)
  pairs-lower k (l ∷ L) (u ∷ U) e p = (p.0, ascends-weaker (l + 1) (u + 2) L (omega arith) (pairs-lower (u + 2) L U (omega arith) p.3))

  pub pairs-upper : (k : ℕ) (L U : List ℕ) → length L ≡ length U → ProperFrom n k (pairs L U) → AscendsFrom k U
  unfolding pairs
  pairs-upper k [] [] e p = tt
  pairs-upper k [] (u ∷ U) e p = absurd (omega arith)
  pairs-upper k (l ∷ L) [] e p = absurd (omega arith)
  pairs-upper k (l ∷ L) (u ∷ U) e p = (omega arith, ascends-weaker (u + 1) (u + 2) U (omega arith) (pairs-upper (u + 2) L U (omega arith) p.3))

  -- no single lies in a pair or touches one
  pub weave-apart : {S L U c : List ℕ} (k : ℕ) → Weave S L U c → length L ≡ length U → ProperFrom n k c → (p q : ℕ) → p < length S → q < length L →
      (get_or S p 0 + 2 ≤ get_or L q 0) ⊎ (get_or U q 0 + 2 ≤ get_or S p 0)
  weave-apart k none e h p q a b = absurd (omega arith)
  weave-apart k (single s S L U c w) e h zero q a b = inl (pairs-at (s + 2) L U e (weave-pairs n (s + 2) w h.3) q b).0
  weave-apart k (single s S L U c w) e h (suc p) q a b = weave-apart (s + 2) w e h.3 p q (omega arith) b
  weave-apart k (pair l u S L U c w) e h p zero a b = inr (spaced-at n (u + 2) S (weave-singles n (u + 2) w h.3) p a).0
  weave-apart k (pair l u S L U c w) e h p (suc q) a b = weave-apart (u + 2) w (omega arith) h.3 p q a (omega arith)

-- ---- the pairs are longer than one

pub longer-long : (L U : List ℕ) → are_longer L U ≡ true → length L ≡ length U
unfolding are_longer
longer-long [] [] e = refl
longer-long [] (u ∷ U) e = true-false (sym e)
longer-long (l ∷ L) [] e = true-false (sym e)
longer-long (l ∷ L) (u ∷ U) e = ap suc (longer-long L U (and_both (ltb l u) (are_longer L U) e).1)

pub longer-at : (L U : List ℕ) → are_longer L U ≡ true → (q : ℕ) → q < length L → get_or L q 0 < get_or U q 0
unfolding are_longer
longer-at [] U e q h = absurd (omega arith)
longer-at (l ∷ L) [] e q h = true-false (sym e)
longer-at (l ∷ L) (u ∷ U) e zero h = ltb-true l u (and_both (ltb l u) (are_longer L U) e).0
longer-at (l ∷ L) (u ∷ U) e (suc q) h = longer-at L U (and_both (ltb l u) (are_longer L U) e).1 q (omega arith)

-- ---- a kept list

pub record Kept (n : ℕ) (S L U : List ℕ) : Type 0 where
  pub long : length L ≡ length U
  pub proper : ProperFrom n 1 (walked S L U)
  pub pairs-proper : ProperFrom n 1 (pairs L U)
  pub singles-ascend : Ascends S
  pub lower-ascend : Ascends L
  pub upper-ascend : Ascends U
  pub single-at : (p : ℕ) → p < length S → (1 ≤ get_or S p 0) × (get_or S p 0 ≤ n)
  pub single-next : (p : ℕ) → p + 1 < length S → get_or S p 0 + 2 ≤ get_or S (p + 1) 0
  pub pair-at : (q : ℕ) → q < length L → (1 ≤ get_or L q 0) × (get_or L q 0 < get_or U q 0) × (get_or U q 0 ≤ n)
  pub pair-next : (q : ℕ) → q + 1 < length L → get_or U q 0 + 2 ≤ get_or L (q + 1) 0
  pub apart : (p q : ℕ) → p < length S → q < length L → (get_or S p 0 + 2 ≤ get_or L q 0) ⊎ (get_or U q 0 + 2 ≤ get_or S p 0)

pub kept-facts : (n : ℕ) (S L U : List ℕ) → is_kept n S L U ≡ true → Kept n S L U
unfolding is_kept is_proper
kept-facts n S L U e =
    let b = and_both (are_longer L U) (proper_from n 1 (walked S L U)) e in
    let long = longer-long L U b.0 in
    let p = proper-facts n 1 (walked S L U) b.1 in
    let w = walked-weaves S L U long in
    let ss = weave-singles n 1 w p in
    let ps = weave-pairs n 1 w p in
    record {
      long = long;
      proper = p;
      pairs-proper = ps;
      singles-ascend = ascends-weaker 0 1 S (omega arith) (spaced-ascends n 1 S ss);
      lower-ascend = ascends-weaker 0 1 L (omega arith) (pairs-lower n 1 L U long ps);
      upper-ascend = ascends-weaker 0 1 U (omega arith) (pairs-upper n 1 L U long ps);
      single-at = spaced-at n 1 S ss;
      single-next = spaced-next n 1 S ss;
      pair-at = λ q h. let i = pairs-at n 1 L U long ps q h in (i.0, longer-at L U b.0 q h, i.2);
      pair-next = pairs_next n 1 L U long ps;
      apart = weave-apart n 1 w long p;
    }

-- a list within 1 to n is one within 1 to any higher number
pub kept-weaker : (n m : ℕ) (S L U : List ℕ) → n ≤ m → is_kept n S L U ≡ true → is_kept m S L U ≡ true
unfolding is_kept is_proper
kept-weaker n m S L U h e =
    let b = and_both (are_longer L U) (proper_from n 1 (walked S L U)) e in
    both-and (are_longer L U) (proper_from m 1 (walked S L U)) b.0
    (facts-proper m 1 (walked S L U) (proper-weaker n m 1 1 (walked S L U) h (omega arith) (proper-facts n 1 (walked S L U) b.1)))
