-- Numbers with no bad one among them: where one is bad, one place on; and that none is bad says that the numbers ascend within the limit.
use Rattle.std.specs.Prelude.{None}
use mathlib.Core.Path.{◌≡◌, refl}
use Prim.Native.Nat.{ℕ, zero, suc, ◌+◌, ◌-◌, ◌≤◌, ◌<◌}
use native.Mathlib.Omega.{arith}
use native.Mathlib.Numerals.{add-one}
use mathlib.Core.Logic.{◌⊎◌, inl, inr}
use mathlib.Core.Bool.{true, false}
use mathlib.Core.List.{List, [], ◌∷◌}
use lib.Dec.{leb, ltb}
use lib.ListN.{length, get_or, take, drop, length-drop}
use lib.Seq.{take_all}
use borrow.Author.Tests.{leb-false, ltb-false, le-leb, lt-leb, lt-ltb, le-ltb}
use Rattle.laws.proofs.Tests.{or-neither}
use Rattle.laws.proofs.Lists.{drop-next, drop-none}
use Rattle.refusal.specs.First.{first}
use Rattle.refusal.proofs.FirstLaws.{first-none, first-none-is}
use Rattle.convert.specs.Convert.{number_before, bad_number}
use Rattle.list.proofs.RecordLaws.{Ascends}

-- ---- the number at place i, where b stands before it

pub bad-number : (limit : ℕ) (xs : List ℕ) (i b : ℕ) → b ≡ number_before xs i → (get_or xs i 0 ≤ b) ⊎ (b < get_or xs i 0 × limit < get_or xs i 0) → bad_number limit xs i ≡ true
unfolding bad_number
bad-number limit xs i b e (inl h) = rw (← e, le-leb (get_or xs i 0) b h)
bad-number limit xs i b e (inr h) = rw (← e, lt-leb (get_or xs i 0) b h.0, lt-ltb limit (get_or xs i 0) h.1)

pub good-number : (limit : ℕ) (xs : List ℕ) (i b : ℕ) → b ≡ number_before xs i → b < get_or xs i 0 → get_or xs i 0 ≤ limit → bad_number limit xs i ≡ false
unfolding bad_number
good-number limit xs i b e h g = rw (← e, lt-leb (get_or xs i 0) b h, le-ltb limit (get_or xs i 0) g)

pub number-before-next : (xs : List ℕ) (i : ℕ) → number_before xs (i + 1) ≡ get_or xs i 0
number-before-next xs i = rw (add-one i)

good-number-facts : (limit : ℕ) (xs : List ℕ) (i : ℕ) → bad_number limit xs i ≡ false → (number_before xs i < get_or xs i 0) × (get_or xs i 0 ≤ limit)
unfolding bad_number
good-number-facts limit xs i e =
    let w = or-neither (leb (get_or xs i 0) (number_before xs i)) (ltb limit (get_or xs i 0)) e in
    (leb-false (get_or xs i 0) (number_before xs i) w.0, ltb-false limit (get_or xs i 0) w.1)

-- ---- none is bad

ascends_none : (n p : ℕ) (xs : List ℕ) → xs ≡ [] → Ascends n p xs
ascends_none n p xs e = rw e tt

ascends-rest : (n i m : ℕ) (xs : List ℕ) → i + m ≡ length xs → ((j : ℕ) → j < length xs → bad_number n xs j ≡ false) → Ascends n (number_before xs i) (drop i xs)
ascends-rest n i zero xs e f = ascends_none n (number_before xs i) (drop i xs) (drop-none xs i (omega arith))
ascends-rest n i (suc m) xs e f =
    let w = good-number-facts n xs i (f i (omega arith)) in
    let ih = rw (number-before-next xs i) at (ascends-rest n (i + 1) m xs (omega arith) f) in
    rw (drop-next xs i (omega arith)) (w.0, w.1, ih)

pub good-ascends : (n : ℕ) (xs : List ℕ) → first (bad_number n xs) (length xs) ≡ None → Ascends n 0 xs
good-ascends n xs e = ascends-rest n 0 (length xs) xs (omega arith) (first-none (bad_number n xs) (length xs) e)

ascends-at : (n : ℕ) (xs : List ℕ) → Ascends n 0 xs → (i : ℕ) → i ≤ length xs → Ascends n (number_before xs i) (drop i xs)
ascends-at n xs a zero h = a
ascends-at n xs a (suc i) h = rw (← add-one i) (rw (drop-next xs i h) at (ascends-at n xs a i (omega arith))).2

ascends-head : (n p i : ℕ) (xs : List ℕ) → i < length xs → Ascends n p (drop i xs) → (p < get_or xs i 0) × (get_or xs i 0 ≤ n)
ascends-head n p i xs h a = let w = rw (drop-next xs i h) at a in (w.0, w.1)

pub ascends-good : (n : ℕ) (xs : List ℕ) → Ascends n 0 xs → first (bad_number n xs) (length xs) ≡ None
ascends-good n xs a =
    first-none-is (bad_number n xs) (length xs)
    (λ i h. let w = ascends-head n (number_before xs i) i xs h (ascends-at n xs a i (omega arith)) in
    good-number n xs i (number_before xs i) refl w.0 w.1)

ascends-from : (n p : ℕ) (xs : List ℕ) → Ascends n p xs → Ascends n 0 xs
ascends-from n p [] a = tt
ascends-from n p (x ∷ xs) a = (omega (arith, a.0), a.1, a.2)

-- those from a place on are good too
pub good-rest : (n : ℕ) (xs : List ℕ) → first (bad_number n xs) (length xs) ≡ None → (i : ℕ) → i ≤ length xs →
    first (bad_number n (drop i xs)) (length (drop i xs)) ≡ None
good-rest n xs e i h = ascends-good n (drop i xs) (ascends-from n (number_before xs i) (drop i xs) (ascends-at n xs (good-ascends n xs e) i h))

-- a number is within the limit
pub good-number-small : (n : ℕ) (xs : List ℕ) → first (bad_number n xs) (length xs) ≡ None → (i : ℕ) → i < length xs → get_or xs i 0 ≤ n
good-number-small n xs e i h = (good-number-facts n xs i (first-none (bad_number n xs) (length xs) e i h)).1

-- ---- all but the first number, as a slice pattern gives them

pub rest-all : (xs : List ℕ) → take (length xs - 1) (drop 1 xs) ≡ drop 1 xs
rest-all xs = take_all (length xs - 1) (drop 1 xs) (omega (arith, length-drop 1 xs))

pub rest-small : (n : ℕ) (xs : List ℕ) → first (bad_number n xs) (length xs) ≡ None → (i : ℕ) → i < length (take (length xs - 1) (drop 1 xs)) →
    get_or (take (length xs - 1) (drop 1 xs)) i 0 ≤ n
rest-small n xs e i h =
    let a = rest-all xs in
    let g = rw a at h in
    rw a (good-number-small n (drop 1 xs) (good-rest n xs e 1 (omega (arith, length-drop 1 xs))) i g)
