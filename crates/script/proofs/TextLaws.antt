-- Laws of texts: one byte that is spelled at a time.
use mathlib.Core.Path.{◌≡◌, refl, ap, ◌∙◌}
use mathlib.Core.Bool.{true, false}
use mathlib.Core.Logic.{◌⊎◌, inl, inr}
use mathlib.Core.List.{List, [], ◌∷◌}
use Prim.Native.Nat.{ℕ, ◌+◌, ◌*◌, ◌-◌, ◌≤◌, ◌<◌}
use native.Mathlib.Omega.{arith}
use lib.Dec.{eqb}
use lib.ListN.{length, get_or, drop, length-drop}
use Rattle.laws.proofs.Lists.{drop-next, drop-none}
use Rattle.script.specs.Text.{plain, nibble, text_of}

-- a byte that is itself: no `\`, or no two bytes behind it
text-plain : (x : ℕ) (r : List ℕ) → (length r < 2) ⊎ (eqb x 92 ≡ false) → text_of (x ∷ r) ≡ plain x ∷ text_of r
unfolding text_of
text-plain x [] w = refl
text-plain x (y ∷ []) w = refl
text-plain x (y ∷ z ∷ r) (inl h) = absurd (omega (arith, h))
text-plain x (y ∷ z ∷ r) (inr e) = rw e

pub text-one : (s : List ℕ) (i : ℕ) → i < length s → (length s - i ≤ 2) ⊎ (eqb (get_or s i 0) 92 ≡ false) →
    text_of (drop i s) ≡ plain (get_or s i 0) ∷ text_of (drop (i + 1) s)
text-one s i h (inl w) = ap text_of (drop-next s i h) ∙ text-plain (get_or s i 0) (drop (i + 1) s) (inl (omega (arith, length-drop (i + 1) s)))
text-one s i h (inr e) = ap text_of (drop-next s i h) ∙ text-plain (get_or s i 0) (drop (i + 1) s) (inr e)

pub text-pair : (s : List ℕ) (i : ℕ) → i + 2 < length s → eqb (get_or s i 0) 92 ≡ true →
    text_of (drop i s) ≡ (16 * nibble (get_or s (i + 1) 0) + nibble (get_or s (i + 2) 0)) ∷ text_of (drop (i + 3) s)
unfolding text_of
text-pair s i h e =
    let one : i + 1 + 1 ≡ i + 2 = omega arith in
    let two : i + 2 + 1 ≡ i + 3 = omega arith in
    rw (drop-next s i (omega arith), drop-next s (i + 1) (omega arith), one, drop-next s (i + 2) (omega arith), two, e)

pub text-end : (s : List ℕ) (i : ℕ) → length s ≤ i → text_of (drop i s) ≡ []
unfolding text_of
text-end s i h = rw (drop-none s i h)
