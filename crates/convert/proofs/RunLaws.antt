-- Ascending numbers turned to stretches by one pass: the cells that the pass gives are the proper list of the numbers.
use Rattle.std.specs.Prelude.{None}
use mathlib.Core.Path.{◌≡◌, refl, sym, ap, ◌∙◌}
use Prim.Native.Nat.{ℕ, ◌+◌, ◌*◌, ◌≤◌, ◌<◌}
use native.Mathlib.Omega.{arith}
use mathlib.Core.Bool.{Bool, true, false, cond, ◌&&◌, ◌||◌, or-false, or_assoc}
use mathlib.Core.List.{List, [], ◌∷◌}
use lib.Dec.{eqb, leb}
use lib.ListN.{length, get_or, drop}
use borrow.Author.Tests.{eqb-true, eqb-false, le-leb, lt-leb, eq-eqb, ne_eqb}
use Rattle.laws.proofs.Tests.{leb-cases, leb-both}
use Rattle.laws.proofs.Lists.{drop-next, drop-none}
use Rattle.limits.specs.Limits.{record_max}
use Rattle.refusal.specs.First.{first}
use Rattle.list.specs.Interval.{is_proper, names, intervals}
use Rattle.list.specs.Stretches.{cells_of}
use Rattle.list.specs.Among.{among}
use Rattle.convert.specs.Convert.{bad_number, bad_number_of, intervals_of}
use Rattle.list.proofs.ProperLaws.{ProperFrom, facts-proper}
use Rattle.list.proofs.StretchLaws.{is-cells}
use Rattle.list.proofs.RecordLaws.{Ascends}
use Rattle.convert.proofs.NumberLaws.{good-ascends, ascends-good, good-rest}

-- the cells l, u in front of r, unless the stretch goes on
abbrev pub closed : Bool → ℕ → ℕ → List ℕ → List ℕ
closed true l u r = r
closed false l u r = l ∷ u ∷ r

-- the cells of the stretch from l to u that is open, and of the numbers after it
unfoldable pub runs_from : ℕ → ℕ → List ℕ → List ℕ
runs_from l u [] = l ∷ u ∷ []
runs_from l u (x ∷ xs) = closed (eqb x (u + 1)) l u (runs_from (cond (eqb x (u + 1)) l x) x xs)

-- the cells of the numbers
unfoldable pub runs : List ℕ → List ℕ
runs [] = []
runs (x ∷ xs) = runs_from x x xs

-- how often a stretch breaks off in xs, where the number before xs is u
unfoldable pub breaks : ℕ → List ℕ → ℕ
breaks u [] = 0
breaks u (x ∷ xs) = cond (eqb x (u + 1)) 0 1 + breaks x xs

-- ---- one number of a slice

pub breaks-at : (u : ℕ) (xs : List ℕ) (i : ℕ) → i < length xs →
    breaks u (drop i xs) ≡ cond (eqb (get_or xs i 0) (u + 1)) 0 1 + breaks (get_or xs i 0) (drop (i + 1) xs)
unfolding breaks
breaks-at u xs i h = rw (drop-next xs i h)

pub breaks-end : (u : ℕ) (xs : List ℕ) (i : ℕ) → length xs ≤ i → breaks u (drop i xs) ≡ 0
unfolding breaks
breaks-end u xs i h = rw (drop-none xs i h)

runs_from-at : (l u : ℕ) (xs : List ℕ) (i : ℕ) → i < length xs →
    runs_from l u (drop i xs) ≡ closed (eqb (get_or xs i 0) (u + 1)) l u
    (runs_from (cond (eqb (get_or xs i 0) (u + 1)) l (get_or xs i 0)) (get_or xs i 0) (drop (i + 1) xs))
unfolding runs_from
runs_from-at l u xs i h = rw (drop-next xs i h)

-- the stretch goes on
pub runs_from-on : (l u : ℕ) (xs : List ℕ) (i : ℕ) → i < length xs → get_or xs i 0 ≡ u + 1 → runs_from l u (drop i xs) ≡ runs_from l (get_or xs i 0) (drop (i + 1) xs)
runs_from-on l u xs i h e = runs_from-at l u xs i h ∙ simp (eq-eqb (get_or xs i 0) (u + 1) e)

pub runs-at : (xs : List ℕ) (i : ℕ) → i < length xs → runs (drop i xs) ≡ runs_from (get_or xs i 0) (get_or xs i 0) (drop (i + 1) xs)
unfolding runs
runs-at xs i h = rw (drop-next xs i h)

-- the stretch breaks off
pub runs_from-off : (l u : ℕ) (xs : List ℕ) (i : ℕ) → i < length xs → (get_or xs i 0 ≡ u + 1 → ⊥) → runs_from l u (drop i xs) ≡ l ∷ u ∷ runs (drop i xs)
runs_from-off l u xs i h e = runs_from-at l u xs i h ∙ simp (ne_eqb (get_or xs i 0) (u + 1) e) (ap (λ (r : List ℕ). l ∷ u ∷ r) (sym (runs-at xs i h)))

pub runs_from-end : (l u : ℕ) (xs : List ℕ) (i : ℕ) → length xs ≤ i → runs_from l u (drop i xs) ≡ l ∷ u ∷ runs (drop i xs)
unfolding runs_from runs
runs_from-end l u xs i h = rw (drop-none xs i h)

pub runs_none : (xs : List ℕ) → length xs ≡ 0 → runs xs ≡ []
unfolding runs
runs_none [] h = refl
runs_none (x ∷ xs) h = absurd (omega arith)

-- ---- how many cells

cells-step : (l u x : ℕ) (xs : List ℕ) (t : Bool) → ((l : ℕ) → length (runs_from l x xs) ≡ 2 * (1 + breaks x xs)) →
    length (closed t l u (runs_from (cond t l x) x xs)) ≡ 2 * (1 + (cond t 0 1 + breaks x xs))
cells-step l u x xs true ih = omega (arith, ih l)
cells-step l u x xs false ih = omega (arith, ih x)

runs_from-length : (l u : ℕ) (xs : List ℕ) → length (runs_from l u xs) ≡ 2 * (1 + breaks u xs)
unfolding runs_from breaks
runs_from-length l u [] = refl
runs_from-length l u (x ∷ xs) = cells-step l u x xs (eqb x (u + 1)) (λ l. runs_from-length l x xs)

-- the intervals of the numbers: one, and one for each break
pub runs-count : (xs : List ℕ) → 0 < length xs → intervals (runs xs) ≡ 1 + breaks (get_or xs 0 0) (drop 1 xs)
runs-count xs h =
    let e = ap length (runs-at xs 0 h) in
    omega (arith, runs_from-length (get_or xs 0 0) (get_or xs 0 0) (drop 1 xs))

-- ---- the cells are proper. A `where` helper does not see its own function, so the recursive call is handed in

proper-step : (n k l u x : ℕ) (xs : List ℕ) (t : Bool) → eqb x (u + 1) ≡ t → k ≤ l → l ≤ u → u ≤ n → u < x →
    ((k l : ℕ) → k ≤ l → l ≤ x → ProperFrom n k (runs_from l x xs)) →
    ProperFrom n k (closed t l u (runs_from (cond t l x) x xs))
proper-step n k l u x xs true e a b d q ih = ih k l a (omega arith)
proper-step n k l u x xs false e a b d q ih =
    let ne = eqb-false x (u + 1) e in
    (a, b, d, ih (u + 2) x (omega arith) (omega arith))

runs_from-proper : (n k l u : ℕ) (xs : List ℕ) → k ≤ l → l ≤ u → u ≤ n → Ascends n u xs → ProperFrom n k (runs_from l u xs)
unfolding runs_from
runs_from-proper n k l u [] a b d p = (a, b, d, tt)
runs_from-proper n k l u (x ∷ xs) a b d p =
    proper-step n k l u x xs (eqb x (u + 1)) refl a b d p.0 (λ k l a b. runs_from-proper n k l x xs a b p.1 p.2)

runs-proper-from : (n : ℕ) (xs : List ℕ) → Ascends n 0 xs → ProperFrom n 1 (runs xs)
unfolding runs
runs-proper-from n [] p = tt
runs-proper-from n (x ∷ xs) p = runs_from-proper n 1 x x xs p.0 (omega arith) p.1 p.2

pub runs-proper : (n : ℕ) (xs : List ℕ) → Ascends n 0 xs → is_proper n (runs xs) ≡ true
unfolding is_proper
runs-proper n xs p = facts-proper n 1 (runs xs) (runs-proper-from n xs p)

-- ---- the cells name just the numbers

-- a stretch with one number more
one_more : (l u x : ℕ) → l ≤ u + 1 → leb l x && leb x (u + 1) ≡ leb l x && leb x u || eqb x (u + 1)
one_more l u x b =
    leb-cases x u
    (λ h. rw (le-leb x u h, le-leb x (u + 1) (omega arith), ne_eqb x (u + 1) (λ (e : x ≡ u + 1). omega arith)) (sym (or-false (leb l x && true))))
    (λ h. leb-cases x (u + 1)
    (λ g. rw (lt-leb x u h, le-leb x (u + 1) g, le-leb l x (omega arith), eq-eqb x (u + 1) (omega arith)))
    (λ g. rw (lt-leb x u h, lt-leb x (u + 1) g, le-leb l x (omega arith), ne_eqb x (u + 1) (λ (e : x ≡ u + 1). omega arith))))

names-step : (l u x y : ℕ) (xs : List ℕ) (t : Bool) → eqb y (u + 1) ≡ t → l ≤ u →
    ((l : ℕ) → l ≤ y → names (runs_from l y xs) x ≡ leb l x && leb x y || among xs x) →
    names (closed t l u (runs_from (cond t l y) y xs)) x ≡ leb l x && leb x u || (eqb x y || among xs x)
unfolding names
names-step l u x y xs true e b ih =
    let q = eqb-true y (u + 1) e in
    let h = ih l (omega arith) in
    h ∙ rw (q, one_more l u x (omega arith)) (or_assoc (leb l x && leb x u) (eqb x (u + 1)) (among xs x))
names-step l u x y xs false e b ih = rw (ih y (omega arith), leb-both x y)

runs_from-names : (l u x : ℕ) (xs : List ℕ) → l ≤ u → names (runs_from l u xs) x ≡ leb l x && leb x u || among xs x
unfolding runs_from names among
runs_from-names l u x [] b = refl
runs_from-names l u x (y ∷ ys) b = names-step l u x y ys (eqb y (u + 1)) refl b (λ l b. runs_from-names l y x ys b)

pub runs-names : (xs : List ℕ) (x : ℕ) → names (runs xs) x ≡ among xs x
unfolding runs names among
runs-names [] x = refl
runs-names (y ∷ ys) x = runs_from-names y y x ys (omega arith) ∙ rw (leb-both x y)

-- with no bad number the pass gives the proper list of the numbers
pub runs-cells : (n : ℕ) (xs : List ℕ) → first (bad_number n xs) (length xs) ≡ None → runs xs ≡ cells_of (among xs) n
runs-cells n xs e = is-cells (among xs) n (runs xs) (runs-proper n xs (good-ascends n xs e)) (λ x h g. runs-names xs x)

pub rest-cells : (xs : List ℕ) → bad_number_of xs ≡ None → (i : ℕ) → i ≤ length xs → runs (drop i xs) ≡ intervals_of (drop i xs)
rest-cells xs e i h = runs-cells record_max (drop i xs) (good-rest record_max xs e i h)

-- behind the last number stands no interval
pub intervals-none : (xs : List ℕ) (i : ℕ) → length xs ≤ i → intervals_of (drop i xs) ≡ []
intervals-none xs i h =
    ap (λ (ys : List ℕ). intervals_of ys) (drop-none xs i h) ∙ sym (runs-cells record_max [] (ascends-good record_max [] tt)) ∙ runs_none [] refl

-- a stretch that ends before place `next`, said of the intervals
pub run-ended : (xs : List ℕ) (i l u next : ℕ) → bad_number_of xs ≡ None → i ≤ length xs → next ≤ length xs → runs (drop i xs) ≡ runs_from l u (drop next xs) →
    runs_from l u (drop next xs) ≡ l ∷ u ∷ runs (drop next xs) → intervals_of (drop i xs) ≡ l ∷ u ∷ intervals_of (drop next xs)
run-ended xs i l u next e h g begun ended =
    sym (rest-cells xs e i h) ∙ begun ∙ ended ∙ ap (λ (r : List ℕ). l ∷ u ∷ r) (rest-cells xs e next g)
