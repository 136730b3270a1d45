-- Laws of lists in the code's form: the code counts by + 1, the library's lemmas by suc.
use mathlib.Core.Path.{◌≡◌, refl, ap, ◌∙◌}
use Prim.Native.Nat.{ℕ, zero, suc, ◌+◌, ◌≤◌, ◌<◌}
use native.Mathlib.Omega.{arith}
use native.Mathlib.Numerals.{add-one, add-two}
use mathlib.Core.List.{List, [], ◌∷◌, ◌++◌}
use lib.ListN.{length, get_or, take, drop, set, replicate, length-set, drop_of_length-le}
use lib.Seq.{drop-cons, take-set-lt, get_or-set_same, get_or-set_other, sets, sets-eq}

pub drop-next : (xs : List ℕ) (i : ℕ) → i < length xs → drop i xs ≡ get_or xs i 0 ∷ drop (i + 1) xs
drop-next xs i h = rw (add-one i) (drop-cons xs i 0 h)

pub drop-two : (xs : List ℕ) (i : ℕ) → i + 1 < length xs → drop i xs ≡ get_or xs i 0 ∷ get_or xs (i + 1) 0 ∷ drop (i + 2) xs
drop-two xs i h = rw (add-one i, add-two i) (drop-cons xs i 0 (omega arith) ∙ ap (λ (r : List ℕ). get_or xs i 0 ∷ r) (drop-cons xs (suc i) 0 (omega arith)))

pub drop-none : (xs : List ℕ) (i : ℕ) → length xs ≤ i → drop i xs ≡ []
drop-none xs i h = drop_of_length-le xs h

-- in zeros every cell is 0, and beyond them too
pub zeros-at : (k i : ℕ) → get_or {A = ℕ} (replicate k 0) i 0 ≡ 0
zeros-at zero i = refl
zeros-at (suc k) zero = refl
zeros-at (suc k) (suc i) = zeros-at k i

-- what a writer has still to write, one cell or two cells on
pub sets-one : (out : List ℕ) (k v : ℕ) (vs : List ℕ) → sets out k (v ∷ vs) ≡ sets (set out k v) (k + 1) vs
sets-one out k v vs = rw (add-one k)

pub sets-two : (out : List ℕ) (k v w : ℕ) (vs : List ℕ) → sets out k (v ∷ w ∷ vs) ≡ sets (set (set out k v) (k + 1) w) (k + 2) vs
sets-two out k v w vs = rw (add-one k, add-two k)

-- all written from cell 0: the rest is as it was
pub sets-front : (vs out : List ℕ) → length vs ≤ length out → sets out 0 vs ≡ vs ++ drop (length vs) out
sets-front vs out h = let e : 0 + length vs ≡ length vs = omega arith in sets-eq vs out 0 (omega arith) ∙ rw e

-- two parts written one after the other
pub sets-append : (out : List ℕ) (k : ℕ) (vs ws : List ℕ) → sets out k (vs ++ ws) ≡ sets (sets out k vs) (k + length vs) ws
sets-append out k [] ws = let e : k + 0 ≡ k = omega arith in rw e
sets-append out k (v ∷ vs) ws = let e : k + suc (length vs) ≡ suc k + length vs = omega arith in rw e (sets-append (set out k v) (suc k) vs ws)

-- what is read behind a writing: other cells are as they were, and the written ones are what was written
pub sets-other : (out : List ℕ) (k : ℕ) (vs : List ℕ) (m : ℕ) → ((c : ℕ) → c < length vs → m ≡ k + c → ⊥) → get_or (sets out k vs) m 0 ≡ get_or out m 0
sets-other out k [] m f = refl
sets-other out k (v ∷ vs) m f =
    sets-other (set out k v) (suc k) vs m (λ c h e. f (suc c) (omega arith) (omega arith))
    ∙ get_or-set_other out k m v 0 (λ e. f 0 (omega arith) (omega arith))

pub sets-read : (out : List ℕ) (k : ℕ) (vs : List ℕ) (c : ℕ) → c < length vs → k + length vs ≤ length out → get_or (sets out k vs) (k + c) 0 ≡ get_or vs c 0
sets-read out k [] c h r = absurd (omega arith)
sets-read out k (v ∷ vs) zero h r =
    let e : k + 0 ≡ k = omega arith in
    rw e (sets-other (set out k v) (suc k) vs k (λ c l q. omega arith) ∙ get_or-set_same out k v 0 (omega arith))
sets-read out k (v ∷ vs) (suc c) h r =
    let e : k + suc c ≡ suc k + c = omega arith in rw e (sets-read (set out k v) (suc k) vs c (omega arith) (omega (arith, length-set out k v)))

-- what is written into the front of a list
pub take-sets : (n : ℕ) (out : List ℕ) (k : ℕ) (vs : List ℕ) → k + length vs ≤ n → take n (sets out k vs) ≡ sets (take n out) k vs
take-sets n out k [] h = refl
take-sets n out k (v ∷ vs) h = take-sets n (set out k v) (suc k) vs (omega arith) ∙ ap (λ (l : List ℕ). sets l (suc k) vs) (take-set-lt n out k v (omega arith))
