-- Cells with no bad interval: where one is bad, one interval on; and that none is bad says that the cells are a proper list.
use Rattle.std.specs.Prelude.{None}
use mathlib.Core.Path.{◌≡◌, refl, ◌∙◌}
use Prim.Native.Nat.{ℕ, zero, suc, ◌+◌, ◌*◌, ◌/◌, ◌≤◌, ◌<◌}
use native.Mathlib.Omega.{arith}
use native.Mathlib.Nat.{lt_of_not-le}
use native.Mathlib.Numerals.{add-one}
use native.Mathlib.Decide.{dec_le}
use mathlib.Core.Logic.{◌⊎◌, inl, inr}
use mathlib.Core.Bool.{true, false, ◌||◌}
use mathlib.Core.List.{List, [], ◌∷◌, ◌++◌}
use lib.Dec.{leb, ltb}
use lib.ListN.{length, get_or, drop}
use borrow.Author.Tests.{leb-false, ltb-false, le-leb, lt-leb, lt-ltb, le-ltb}
use Rattle.laws.proofs.Tests.{or-neither}
use Rattle.laws.proofs.Lists.{drop-next, drop-two, drop-none}
use Rattle.limits.specs.Limits.{record_max}
use Rattle.refusal.proofs.FirstLaws.{first-none, first-none-is}
use Rattle.list.specs.Interval.{is_proper}
use Rattle.convert.specs.Convert.{least_lower, bad_interval, bad_interval_of}
use Rattle.list.proofs.ProperLaws.{ProperFrom, proper-facts, facts-proper, proper-weaker}

-- ---- the interval at place i

-- a last cell without a second
pub bad-interval-cut : (c : List ℕ) (i : ℕ) → length c ≤ 2 * i + 1 → bad_interval c i ≡ true
unfolding bad_interval
bad-interval-cut c i h = rw (le-leb (length c) (2 * i + 1) h)

-- two cells, where l may be no less than least
pub record Tested (c : List ℕ) (i least : ℕ) : Type 0 where
  pub least-is : least ≡ least_lower c i
  pub whole : 2 * i + 1 < length c

module _ {c : List ℕ} {i least : ℕ} (is : Tested c i least) where
  abbrev l : ℕ
  l = get_or c (2 * i) 0

  abbrev u : ℕ
  u = get_or c (2 * i + 1) 0

  bad-interval-at : bad_interval c i ≡ ltb l least || ltb u l || ltb record_max u
  unfolding bad_interval
  bad-interval-at = rw (← is.least-is, lt-leb (length c) (2 * i + 1) is.whole)

  pub bad-interval : (l < least) ⊎ ((least ≤ l × u < l) ⊎ (least ≤ l × l ≤ u × record_max < u)) → bad_interval c i ≡ true
  bad-interval (inl low) = bad-interval-at ∙ rw (lt-ltb l least low)
  bad-interval (inr (inl h)) = bad-interval-at ∙ rw (le-ltb l least h.0, lt-ltb u l h.1)
  bad-interval (inr (inr h)) = bad-interval-at ∙ rw (le-ltb l least h.0, le-ltb u l h.1, lt-ltb record_max u h.2)

  pub good-interval : least ≤ get_or c (2 * i) 0 → get_or c (2 * i) 0 ≤ get_or c (2 * i + 1) 0 → get_or c (2 * i + 1) 0 ≤ record_max → bad_interval c i ≡ false
  good-interval low back high = bad-interval-at ∙ rw (le-ltb l least low, le-ltb u l back, le-ltb record_max u high)

pub least-lower-next : (c : List ℕ) (i : ℕ) → least_lower c (i + 1) ≡ get_or c (2 * i + 1) 0 + 2
least-lower-next c i = rw (add-one i)

good-interval-facts : (c : List ℕ) (i : ℕ) → bad_interval c i ≡ false →
    (2 * i + 1 < length c)
    × (least_lower c i ≤ get_or c (2 * i) 0)
    × (get_or c (2 * i) 0 ≤ get_or c (2 * i + 1) 0)
    × (get_or c (2 * i + 1) 0 ≤ record_max)
unfolding bad_interval
good-interval-facts c i e =
    let cut = leb (length c) (2 * i + 1) in
    let low = ltb (get_or c (2 * i) 0) (least_lower c i) in
    let back = ltb (get_or c (2 * i + 1) 0) (get_or c (2 * i) 0) in
    let high = ltb record_max (get_or c (2 * i + 1) 0) in
    let a = or-neither (cut || low || back) high e in
    let b = or-neither (cut || low) back a.0 in
    let d = or-neither cut low b.0 in
    (leb-false _ _ d.0, ltb-false _ _ d.1, ltb-false _ _ b.1, ltb-false _ _ a.1)

-- ---- one interval of a proper list that stands in a slice from cell i on

pub record Next (n k i : ℕ) (c : List ℕ) : Type 0 where
  pub whole : i + 1 < length c
  pub least : k ≤ get_or c i 0
  pub forward : get_or c i 0 ≤ get_or c (i + 1) 0
  pub within : get_or c (i + 1) 0 ≤ n
  pub rest : ProperFrom n (get_or c (i + 1) 0 + 2) (drop (i + 2) c)

lone-cell : (n k x : ℕ) (r : List ℕ) → r ≡ [] → ProperFrom n k (x ∷ r) → ⊥
lone-cell n k x r e p = rw e at p

pub proper-next : {n k i : ℕ} {c : List ℕ} → i < length c → ProperFrom n k (drop i c) → Next n k i c
proper-next {n} {k} {i} {c} h p = go (dec_le (length c) (i + 1))
  where
    go : Dec (length c ≤ i + 1) → Next n k i c
    go (yes w) = absurd (lone-cell n k (get_or c i 0) (drop (i + 1) c) (drop-none c (i + 1) w) (rw (drop-next c i h) at p))
    go (no w) =
        let g = lt_of_not-le w in
        let q = rw (drop-two c i g) at p in
        record { whole = g; least = q.0; forward = q.1; within = q.2; rest = q.3 }

-- ---- the first interval of a proper list, as two cells in front of the rest

pub record Pair (n k : ℕ) (c pair rest : List ℕ) : Type 0 where
  pub is : c ≡ get_or pair 0 0 ∷ get_or pair 1 0 ∷ rest
  pub least : k ≤ get_or pair 0 0
  pub forward : get_or pair 0 0 ≤ get_or pair 1 0
  pub within : get_or pair 1 0 ≤ n
  pub behind : ProperFrom n (get_or pair 1 0 + 2) rest

pub proper-pair : {n k : ℕ} {c : List ℕ} (pair rest : List ℕ) → c ≡ pair ++ rest → length pair ≡ 2 → ProperFrom n k c → Pair n k c pair rest
proper-pair (l ∷ u ∷ []) rest e h p =
    let q = rw e at p in
    record { is = e; least = q.0; forward = q.1; within = q.2; behind = q.3 }
proper-pair [] rest e h p = absurd (omega (arith, h))
proper-pair (l ∷ []) rest e h p = absurd (omega (arith, h))
proper-pair (l ∷ u ∷ m ∷ r) rest e h p = absurd (omega (arith, h))

-- a loop forgets the least lower bound
pub pair-rest : {n k : ℕ} {c pair rest : List ℕ} → Pair n k c pair rest → ProperFrom n 0 rest
pair-rest {n} {k} {c} {pair} {rest} w = proper-weaker n n 0 (get_or pair 1 0 + 2) rest (omega arith) (omega arith) w.behind

-- ---- none is bad

proper-none : (n k : ℕ) (c : List ℕ) → c ≡ [] → ProperFrom n k c
proper-none n k c e = rw e tt

proper-rest : (i m : ℕ) (c : List ℕ) → i + m ≡ (length c + 1) / 2 → ((j : ℕ) → j < (length c + 1) / 2 → bad_interval c j ≡ false) →
    ProperFrom record_max (least_lower c i) (drop (2 * i) c)
proper-rest i zero c e f = proper-none record_max (least_lower c i) (drop (2 * i) c) (drop-none c (2 * i) (omega arith))
proper-rest i (suc m) c e f =
    let w = good-interval-facts c i (f i (omega arith)) in
    let s : 2 * (i + 1) ≡ 2 * i + 2 = omega arith in
    let ih = rw (least-lower-next c i, s) at (proper-rest (i + 1) m c (omega arith) f) in
    rw (drop-two c (2 * i) w.0) (w.1, w.2, w.3, ih)

good-proper-facts : (c : List ℕ) → bad_interval_of c ≡ None → ProperFrom record_max 1 c
good-proper-facts c e = proper-rest 0 ((length c + 1) / 2) c (omega arith) (first-none (bad_interval c) ((length c + 1) / 2) e)

pub good-proper : (c : List ℕ) → bad_interval_of c ≡ None → is_proper record_max c ≡ true
unfolding is_proper
good-proper c e = facts-proper record_max 1 c (good-proper-facts c e)

pub good-proper-from : (c : List ℕ) → bad_interval_of c ≡ None → ProperFrom record_max 0 c
good-proper-from c e = proper-weaker record_max record_max 0 1 c (omega arith) (omega arith) (good-proper-facts c e)

proper-at : (c : List ℕ) → ProperFrom record_max 1 c → (i : ℕ) → 2 * i ≤ length c + 1 → ProperFrom record_max (least_lower c i) (drop (2 * i) c)
proper-at c p zero h = p
proper-at c p (suc i) h =
    let s : 2 * i + 2 ≡ 2 * suc i = omega arith in
    let w : Next record_max (least_lower c i) (2 * i) c = proper-next (omega arith) (proper-at c p i (omega arith)) in
    rw (← s) w.rest

proper-good-at : (c : List ℕ) → ProperFrom record_max 1 c → (i : ℕ) → 2 * i < length c → bad_interval c i ≡ false
proper-good-at c p i h =
    let w : Next record_max (least_lower c i) (2 * i) c = proper-next h (proper-at c p i (omega arith)) in
    good-interval (record { least-is = refl; whole = w.whole }) w.least w.forward w.within

pub proper-good : (c : List ℕ) → is_proper record_max c ≡ true → bad_interval_of c ≡ None
unfolding is_proper
proper-good c e = first-none-is (bad_interval c) ((length c + 1) / 2) (λ i h. proper-good-at c (proper-facts record_max 1 c e) i (omega arith))
