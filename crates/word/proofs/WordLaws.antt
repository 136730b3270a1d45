-- Laws of words: what sameness and the order say, and each by the tests that the code makes.
use Prim.Native.Nat.{ℕ, ◌+◌, ◌≤◌, ◌<◌}
use native.Mathlib.Omega.{arith}
use mathlib.Core.Path.{◌≡◌, refl, sym, ap, ap₂, ◌∙◌}
use mathlib.Core.Logic.{◌⊎◌, inl, inr, ⊎_elim}
use mathlib.Core.List.{List, [], ◌∷◌, ◌++◌}
use mathlib.Core.Bool.{Bool, true, false, not, cond, ◌&&◌, ◌||◌}
use lib.Dec.{eqb, ltb}
use lib.ListN.{length, get_or, drop}
use borrow.Author.Tests.{eqb-true, eqb-false, ltb-true, ltb-false, lt-ltb, le-ltb, eq-eqb, le-leb, lt-leb}
use Rattle.laws.proofs.Tests.{true-false, and_both, both-and, or-either, by-test}
use Rattle.laws.proofs.Lists.{drop-next, drop-none}
use Rattle.limits.specs.Limits.{word_max}
use Rattle.std.specs.declared.cmp.Ordering.TheVariants.{Less, Equal, Greater}
use Rattle.std.specs.Ordering.{ordering_then, nat_cmp, is_lt}
use Rattle.std.specs.Cmp.Lexicographic.{slice_cmp}
use Rattle.word.specs.Word.{is_word_byte, all_word_bytes, same, before, is_barred, is_word, order_of}

-- ---- sameness is equality

pub same-equal : (a b : List ℕ) → same a b ≡ true → a ≡ b
unfolding same
same-equal [] [] h = refl
same-equal [] (y ∷ ys) h = true-false (sym h)
same-equal (x ∷ xs) [] h = true-false (sym h)
same-equal (x ∷ xs) (y ∷ ys) h =
    let w = and_both (eqb x y) (same xs ys) h in
    ap₂ (λ (n : ℕ) (r : List ℕ). n ∷ r) (eqb-true x y w.0) (same-equal xs ys w.1)

pub same_self : (a : List ℕ) → same a a ≡ true
unfolding same
same_self [] = refl
same_self (x ∷ xs) = both-and (eqb x x) (same xs xs) (eq-eqb x x refl) (same_self xs)

pub equal-same : (a b : List ℕ) → a ≡ b → same a b ≡ true
equal-same a b e = rw e (same_self b)

pub same_length : (a b : List ℕ) → same a b ≡ true → length a ≡ length b
same_length a b h = ap length (same-equal a b h)

pub differ-length : (a b : List ℕ) → (length a ≡ length b → ⊥) → same a b ≡ false
differ-length a b n = by-test (same a b) (λ h. absurd (n (same_length a b h))) (λ h. h)

-- ---- the order: irreflexive, transitive, total

pub before-irreflexive : (a : List ℕ) → before a a ≡ false
unfolding before
before-irreflexive [] = refl
before-irreflexive (x ∷ xs) = rw (le-ltb x x (omega arith), eq-eqb x x refl) (before-irreflexive xs)

-- one byte more
abbrev LessBytes : ℕ → List ℕ → ℕ → List ℕ → Type 0
LessBytes x xs y ys = (x < y) ⊎ ((x ≡ y) × (before xs ys ≡ true))

less-of : (x y : ℕ) (xs ys : List ℕ) → before (x ∷ xs) (y ∷ ys) ≡ true → LessBytes x xs y ys
unfolding before
less-of x y xs ys h =
    ⊎_elim (λ l. inl (ltb-true x y l)) (λ l. let w = and_both (eqb x y) (before xs ys) l in inr (eqb-true x y w.0, w.1))
    (or-either (ltb x y) (eqb x y && before xs ys) h)

of-less : (x y : ℕ) (xs ys : List ℕ) → LessBytes x xs y ys → before (x ∷ xs) (y ∷ ys) ≡ true
unfolding before
of-less x y xs ys (inl h) = rw (lt-ltb x y h)
of-less x y xs ys (inr h) = let e : x ≡ y = h.0 in rw (le-ltb x y (omega arith), eq-eqb x y e) h.1

less-trans : (x y z : ℕ) (xs ys zs : List ℕ) → (before xs ys ≡ true → before ys zs ≡ true → before xs zs ≡ true) → LessBytes x xs y ys → LessBytes y ys z zs →
    LessBytes x xs z zs
less-trans x y z xs ys zs ih (inl h) (inl k) = inl (omega arith)
less-trans x y z xs ys zs ih (inl h) (inr k) = let e : y ≡ z = k.0 in inl (omega arith)
less-trans x y z xs ys zs ih (inr h) (inl k) = let e : x ≡ y = h.0 in inl (omega arith)
less-trans x y z xs ys zs ih (inr h) (inr k) = inr (h.0 ∙ k.0, ih h.1 k.1)

pub before-transitive : (a b c : List ℕ) → before a b ≡ true → before b c ≡ true → before a c ≡ true
unfolding before
before-transitive [] [] c h k = true-false (sym h)
before-transitive [] (y ∷ ys) [] h k = true-false (sym k)
before-transitive [] (y ∷ ys) (z ∷ zs) h k = refl
before-transitive (x ∷ xs) [] c h k = true-false (sym h)
before-transitive (x ∷ xs) (y ∷ ys) [] h k = true-false (sym k)
before-transitive (x ∷ xs) (y ∷ ys) (z ∷ zs) h k =
    of-less x z xs zs (less-trans x y z xs ys zs (before-transitive xs ys zs) (less-of x y xs ys h) (less-of y z ys zs k))

total-step : (x y : ℕ) (xs ys : List ℕ) (s t : Bool) → ltb x y ≡ s → eqb x y ≡ t → before xs ys || same xs ys || before ys xs ≡ true →
    (s || (t && before xs ys)) || (t && same xs ys) || (ltb y x || (eqb y x && before ys xs)) ≡ true
total-step x y xs ys true t p q ih = refl
total-step x y xs ys false true p q ih =
    let e : x ≡ y = eqb-true x y q in
    rw (le-ltb y x (omega arith), eq-eqb y x (sym e)) ih
total-step x y xs ys false false p q ih =
    let n : y ≤ x = ltb-false x y p in
    let d : x ≡ y → ⊥ = eqb-false x y q in
    go (by-test {A = (y < x) ⊎ (x ≡ y)} (ltb y x) (λ l. inl (ltb-true y x l)) (λ l. let m : x ≤ y = ltb-false y x l in inr (omega arith)))
  where
    go : (y < x) ⊎ (x ≡ y) → ltb y x || (eqb y x && before ys xs) ≡ true
    go (inl h) = rw (lt-ltb y x h)
    go (inr e) = absurd (eqb-false x y q e)

pub before-total : (a b : List ℕ) → before a b || same a b || before b a ≡ true
unfolding before same
before-total [] [] = refl
before-total [] (y ∷ ys) = refl
before-total (x ∷ xs) [] = refl
before-total (x ∷ xs) (y ∷ ys) = total-step x y xs ys (ltb x y) (eqb x y) refl refl (before-total xs ys)

-- ---- the bytes, one after the other

pub bytes-at : (s : List ℕ) (all : Bool) (i : ℕ) → i < length s →
    all && all_word_bytes (drop i s) ≡ all && is_word_byte (get_or s i 0) && all_word_bytes (drop (i + 1) s)
unfolding all_word_bytes
bytes-at s true i h = rw (drop-next s i h)
bytes-at s false i h = refl

pub bytes-end : (s : List ℕ) (all : Bool) (i : ℕ) → length s ≤ i → all && all_word_bytes (drop i s) ≡ all
unfolding all_word_bytes
bytes-end s true i h = rw (drop-none s i h)
bytes-end s false i h = refl

-- bytes that are gathered one by one
pub bytes-none : all_word_bytes [] ≡ true
unfolding all_word_bytes
bytes-none = refl

pub bytes_next : (w : List ℕ) (b : ℕ) → all_word_bytes w ≡ true → is_word_byte b ≡ true → all_word_bytes (w ++ b ∷ []) ≡ true
unfolding all_word_bytes
bytes_next [] b e p = both-and (is_word_byte b) true p refl
bytes_next (a ∷ w) b e p =
    let both = and_both (is_word_byte a) (all_word_bytes w) e in
    both-and (is_word_byte a) (all_word_bytes (w ++ b ∷ [])) both.0 (bytes_next w b both.1 p)

-- ---- the order, as the library compares bytes

order-step : (x y : ℕ) (xs ys : List ℕ) (s t : Bool) → ltb x y ≡ s → eqb x y ≡ t → order_of xs ys ≡ slice_cmp nat_cmp xs ys →
    cond (t && same xs ys) Equal (cond (s || (t && before xs ys)) Less Greater) ≡ ordering_then (cond s Less (cond t Equal Greater)) (slice_cmp nat_cmp xs ys)
unfolding order_of
order-step x y xs ys true true p q ih = absurd (let l = ltb-true x y p in let e = eqb-true x y q in omega arith)
order-step x y xs ys true false p q ih = refl
order-step x y xs ys false true p q ih = ih
order-step x y xs ys false false p q ih = refl

pub order_is_cmp : (a b : List ℕ) → order_of a b ≡ slice_cmp nat_cmp a b
unfolding order_of same before
order_is_cmp [] [] = refl
order_is_cmp [] (y ∷ ys) = refl
order_is_cmp (x ∷ xs) [] = refl
order_is_cmp (x ∷ xs) (y ∷ ys) = order-step x y xs ys (ltb x y) (eqb x y) refl refl (order_is_cmp xs ys)

-- what an answer says
pub order-is-same : (a b : List ℕ) → order_of a b ≡ Equal → a ≡ b
unfolding order_of
order-is-same a b h = same-equal a b (go (same a b) (before a b) h)
  where
    go : (s t : Bool) → cond s Equal (cond t Less Greater) ≡ Equal → s ≡ true
    go true t e = refl
    go false true e = absurd (let z : ◌≡◌ {A = ℕ} 0 1 = cc in omega arith)
    go false false e = absurd (let z : ◌≡◌ {A = ℕ} 0 1 = cc in omega arith)

-- cited by nothing: it pins that the one answer left says the order the other way round
pub order-is-behind : (a b : List ℕ) → order_of a b ≡ Greater → before b a ≡ true
unfolding order_of
order-is-behind a b h = go (same a b) (before a b) (before b a) h (before-total a b)
  where
    go : (s t u : Bool) → cond s Equal (cond t Less Greater) ≡ Greater → t || s || u ≡ true → u ≡ true
    go true t u e f = absurd (let z : ◌≡◌ {A = ℕ} 0 1 = cc in omega arith)
    go false true u e f = absurd (let z : ◌≡◌ {A = ℕ} 0 1 = cc in omega arith)
    go false false u e f = f

-- what an answer excludes
equal-order : (a b : List ℕ) → a ≡ b → order_of a b ≡ Equal
unfolding order_of
equal-order a b e = rw (e, same_self b)

pub order-before-differ : (a b : List ℕ) → order_of a b ≡ Less → a ≡ b → ⊥
order-before-differ a b o e = let z : ◌≡◌ {A = ℕ} 0 1 = cc (equal-order a b e) in omega arith

pub order-behind-differ : (a b : List ℕ) → order_of a b ≡ Greater → a ≡ b → ⊥
order-behind-differ a b o e = let z : ◌≡◌ {A = ℕ} 0 1 = cc (equal-order a b e) in omega arith

-- the first stands before the second where it is the lesser
pub before-less : (a b : List ℕ) → before a b ≡ is_lt (order_of a b)
unfolding order_of
before-less a b = go (same a b) (before a b) refl refl
  where
    go : (s t : Bool) → same a b ≡ s → before a b ≡ t → t ≡ is_lt (cond s Equal (cond t Less Greater))
    go true true p q = let e = same-equal a b p in true-false (sym q ∙ rw e (before-irreflexive b))
    go true false p q = refl
    go false true p q = refl
    go false false p q = refl

-- ---- what may stand as a word, test by test

module _ (every : Bool) (w : List ℕ) where
  pub word-short : length w < 1 → is_word every w ≡ false
  unfolding is_word
  word-short h = rw (lt-leb 1 (length w) h)

  pub word-long : word_max < length w → is_word every w ≡ false
  unfolding is_word
  word-long h = rw (le-leb 1 (length w) (omega arith), lt-leb (length w) word_max h)

  module _ (h : 1 ≤ length w) (k : length w ≤ word_max) where
    pub word-bytes-fail : all_word_bytes w ≡ false → is_word every w ≡ false
    unfolding is_word
    word-bytes-fail e = rw (le-leb 1 (length w) h, le-leb (length w) word_max k, e)

    pub word_else : all_word_bytes w ≡ true → is_word every w ≡ not (is_barred every w)
    unfolding is_word
    word_else e = rw (le-leb 1 (length w) h, le-leb (length w) word_max k, e)
