-- Numbers as bytes and back: a cell's four bytes, the bytes of several cells, and parts of bytes that stand one behind the other.
use mathlib.Core.Path.{◌≡◌, refl, sym, ap, ◌∙◌}
use Prim.Native.Nat.{ℕ, zero, suc, ◌+◌, ◌*◌, ◌/◌, ◌%◌, ◌≤◌, ◌<◌}
use native.Mathlib.Omega.{arith}
use native.Mathlib.Numerals.{add-one}
use native.Mathlib.Nat.{div-div-eq-div-mul, div-add-mod', mod-eq_of_lt}
use mathlib.Core.List.{List, [], ◌∷◌, ◌++◌}
use lib.ListN.{length, get_or, take, drop, drop_of_length-le}
use lib.Seq.{take_at, drop_at, get_or-drop, drop-cons}
use Rattle.laws.proofs.Tests.{leb-cases}
use Rattle.laws.proofs.Lists.{drop-two}
use Rattle.list.specs.Cell.{cell, cell_at, numbers_in}
use Rattle.index.specs.Format.{part}
use Rattle.layout.specs.Layout.{cell_bytes, cells_bytes}
use Rattle.layout.specs.Layout.{Below}

-- 2 to the 32: what a cell holds is below it
abbrev pub cell_limit : ℕ
cell_limit = 4294967296

-- what stands at place p, and behind it
pub record Next {A : Type 0} (d : A) (xs : List A) (p : ℕ) (x : A) (r : List A) : Type 0 where
  pub below : p < length xs
  pub is : get_or xs p d ≡ x
  pub rest : drop (p + 1) xs ≡ r

pub next_of : {A : Type 0} (d : A) {xs : List A} {p : ℕ} {x : A} {r : List A} → drop p xs ≡ x ∷ r → Next d xs p x r
next_of d {xs} {p} e =
    leb-cases (length xs) p
    (λ h. absurd (let f = sym (drop_of_length-le xs h) ∙ e in let z : ◌≡◌ {A = ℕ} 0 1 = cc in omega arith))
    (λ h. let f = sym (drop-cons xs p d h) ∙ e in record { below = h; is = cc; rest = rw (add-one p) (cc) })

module _ (m : ℕ) where
  pub below_at : (xs : List ℕ) (i : ℕ) → Below m xs → i < length xs → get_or xs i 0 < m
  below_at [] i b h = absurd (omega arith)
  below_at (x ∷ xs) zero b h = b.0
  below_at (x ∷ xs) (suc i) b h = below_at xs i b.1 (omega arith)

  pub below-append : (xs ys : List ℕ) → Below m xs → Below m ys → Below m (xs ++ ys)
  below-append [] ys a b = b
  below-append (x ∷ xs) ys a b = (a.0, below-append xs ys a.1 b)

  pub below-take : (k : ℕ) (xs : List ℕ) → Below m xs → Below m (take k xs)
  below-take zero xs a = tt
  below-take (suc k) [] a = tt
  below-take (suc k) (x ∷ xs) a = (a.0, below-take k xs a.1)

  pub below-drop : (k : ℕ) (xs : List ℕ) → Below m xs → Below m (drop k xs)
  below-drop zero xs a = a
  below-drop (suc k) [] a = tt
  below-drop (suc k) (x ∷ xs) a = below-drop k xs a.1

-- ---- one cell

pub cell-value : (x : ℕ) → x < cell_limit → cell (x % 256) (x / 256 % 256) (x / 65536 % 256) (x / 16777216 % 256) ≡ x
cell-value x h =
    let e : x / 256 / 256 ≡ x / 65536 = div-div-eq-div-mul x 256 256 in
    let f : x / 65536 / 256 ≡ x / 16777216 = div-div-eq-div-mul x 65536 256 in
    let g : x / 16777216 % 256 ≡ x / 16777216 = mod-eq_of_lt (omega arith) in
    sum x (x / 256) (x / 65536) (x / 16777216) (x % 256) (x / 256 % 256) (x / 65536 % 256) (x / 16777216 % 256) (div-add-mod' x 256)
    (rw e at (div-add-mod' (x / 256) 256)) (rw f at (div-add-mod' (x / 65536) 256)) g
  where
    sum : (x p q r a b c d : ℕ) → p * 256 + a ≡ x → q * 256 + b ≡ p → r * 256 + c ≡ q → d ≡ r → cell a b c d ≡ x
    sum x p q r a b c d e f g h = omega arith

pub cell-bytes : (a b c d : ℕ) → a < 256 → b < 256 → c < 256 → d < 256 → cell_bytes (cell a b c d) ≡ a ∷ b ∷ c ∷ d ∷ []
cell-bytes a b c d e f g h =
    let p : cell a b c d % 256 ≡ a = omega arith in
    let q : cell a b c d / 256 ≡ b + c * 256 + d * 65536 = omega arith in
    let r : cell a b c d / 65536 ≡ c + d * 256 = omega arith in
    let s : cell a b c d / 16777216 ≡ d = omega arith in
    let t : (b + c * 256 + d * 65536) % 256 ≡ b = omega arith in
    let u : (c + d * 256) % 256 ≡ c = omega arith in
    let v : d % 256 ≡ d = omega arith in
    rw (p, q, r, s, t, u, v)

-- ---- the cells of bytes

pub cells-length : (xs : List ℕ) → length (cells_bytes xs) ≡ 4 * length xs
unfolding cells_bytes
cells-length [] = refl
cells-length (x ∷ xs) = omega (arith, cells-length xs)

pub cells-append : (xs ys : List ℕ) → cells_bytes (xs ++ ys) ≡ cells_bytes xs ++ cells_bytes ys
unfolding cells_bytes
cells-append [] ys = refl
cells-append (x ∷ xs) ys = ap (λ (r : List ℕ). cell_bytes x ++ r) (cells-append xs ys)

pub cells-below : (xs : List ℕ) → Below 256 (cells_bytes xs)
unfolding cells_bytes
cells-below [] = tt
cells-below (x ∷ xs) = (omega arith, (omega arith, (omega arith, (omega arith, cells-below xs))))

-- numbers to bytes to numbers
pub cells-numbers : (xs : List ℕ) → Below cell_limit xs → numbers_in (cells_bytes xs) ≡ xs
unfolding cells_bytes numbers_in
cells-numbers [] b = refl
cells-numbers (x ∷ xs) b = rw (cell-value x b.0, cells-numbers xs b.1)

-- bytes to numbers to bytes
pub numbers-cells : (bs : List ℕ) → Below 256 bs → length bs % 4 ≡ 0 → cells_bytes (numbers_in bs) ≡ bs
unfolding cells_bytes numbers_in
numbers-cells [] b h = refl
numbers-cells (x ∷ []) b h = absurd (omega arith)
numbers-cells (x ∷ y ∷ []) b h = absurd (omega arith)
numbers-cells (x ∷ y ∷ z ∷ []) b h = absurd (omega arith)
numbers-cells (x ∷ y ∷ z ∷ w ∷ r) b h =
    let e = cell-bytes x y z w b.0 b.1.0 b.1.1.0 b.1.1.1.0 in
    let i = numbers-cells r b.1.1.1.1 (omega arith) in
    ap (λ (f : List ℕ). f ++ cells_bytes (numbers_in r)) e ∙ ap (λ (t : List ℕ). x ∷ y ∷ z ∷ w ∷ t) i

-- ---- places in bytes that stand one behind the other

-- the cell at j of what stands behind i bytes
pub cell_at-drop : (bytes : List ℕ) (i j : ℕ) → cell_at bytes (i + j) ≡ cell_at (drop i bytes) j
cell_at-drop bytes i j =
    let e : i + j + 1 ≡ i + (j + 1) = omega arith in
    let f : i + j + 2 ≡ i + (j + 2) = omega arith in
    let g : i + j + 3 ≡ i + (j + 3) = omega arith in
    rw (e, f, g, get_or-drop i bytes j 0, get_or-drop i bytes (j + 1) 0, get_or-drop i bytes (j + 2) 0, get_or-drop i bytes (j + 3) 0)

pub cell_at-cells : (xs : List ℕ) (i : ℕ) → Below cell_limit xs → i < length xs → cell_at (cells_bytes xs) (4 * i) ≡ get_or xs i 0
unfolding cells_bytes
cell_at-cells [] i b h = absurd (omega arith)
cell_at-cells (x ∷ xs) zero b h = cell-value x b.0
cell_at-cells (x ∷ xs) (suc i) b h =
    let e : 4 * suc i ≡ 4 + 4 * i = omega arith in
    rw e (cell_at-drop (cell_bytes x ++ cells_bytes xs) 4 (4 * i) ∙ cell_at-cells xs i b.1 (omega arith))

-- cell i of the cells behind other bytes
pub cell_at-behind : (a : List ℕ) (xs : List ℕ) (i at : ℕ) → Below cell_limit xs → i < length xs → at ≡ length a + 4 * i →
    cell_at (a ++ cells_bytes xs) at ≡ get_or xs i 0
cell_at-behind a xs i at b h e =
    rw e (cell_at-drop (a ++ cells_bytes xs) (length a) (4 * i) ∙ rw (drop_at a (cells_bytes xs) (length a) refl) (cell_at-cells xs i b h))

-- the part that stands between two others
pub part-between : (a b c : List ℕ) (start size : ℕ) → length a ≡ start → length b ≡ size → part start size (a ++ (b ++ c)) ≡ b
part-between a b c start size e f = rw (drop_at a (b ++ c) start e) (take_at b c size f)

drop-four : (bytes : List ℕ) (i : ℕ) → i + 4 ≤ length bytes →
    drop i bytes ≡ get_or bytes i 0 ∷ get_or bytes (i + 1) 0 ∷ get_or bytes (i + 2) 0 ∷ get_or bytes (i + 3) 0 ∷ drop (i + 4) bytes
drop-four bytes i h =
    let f : i + 2 + 2 ≡ i + 4 = omega arith in
    let g : i + 2 + 1 ≡ i + 3 = omega arith in
    drop-two bytes i (omega arith) ∙ rw (drop-two bytes (i + 2) (omega arith), f, g)

-- bytes from i on: a cell, and those behind it
pub cell-split : (bytes : List ℕ) (i : ℕ) → Below 256 bytes → i + 4 ≤ length bytes → drop i bytes ≡ cell_bytes (cell_at bytes i) ++ drop (i + 4) bytes
cell-split bytes i b h =
    let at : (k : ℕ) → k < length bytes → get_or bytes k 0 < 256 = λ k g. below_at 256 bytes k b g in
    let e = cell-bytes _ _ _ _ (at i (omega arith)) (at (i + 1) (omega arith)) (at (i + 2) (omega arith)) (at (i + 3) (omega arith)) in
    drop-four bytes i h ∙ ap (λ (r : List ℕ). r ++ drop (i + 4) bytes) (sym e)
