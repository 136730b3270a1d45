-- Laws of parts: one byte at a time, and that all parts are the one up to the next b and those behind it.
use mathlib.Core.Path.{◌≡◌, refl, sym, ap, ◌∙◌}
use mathlib.Core.Bool.{Bool, true, false, cond}
use mathlib.Core.List.{List, [], ◌∷◌}
use Prim.Native.Nat.{ℕ, suc, ◌+◌, ◌-◌, ◌≤◌, ◌<◌}
use native.Mathlib.Omega.{arith}
use lib.Dec.{eqb}
use lib.ListN.{length, get_or, take, drop, length-drop}
use lib.Seq.{drop-drop, length-take-le}
use Rattle.laws.proofs.Lists.{drop-next, drop-none}
use Rattle.parts.specs.Part.{part_length, onto, parts_of}

pub part-on : (b : ℕ) (xs : List ℕ) (i : ℕ) → i < length xs → eqb (get_or xs i 0) b ≡ false → part_length b (drop i xs) ≡ suc (part_length b (drop (i + 1) xs))
unfolding part_length
part-on b xs i h e = rw (drop-next xs i h, e)

pub part-stop : (b : ℕ) (xs : List ℕ) (i : ℕ) → i < length xs → eqb (get_or xs i 0) b ≡ true → part_length b (drop i xs) ≡ 0
unfolding part_length
part-stop b xs i h e = rw (drop-next xs i h, e)

pub part_none : (b : ℕ) (xs : List ℕ) (i : ℕ) → length xs ≤ i → part_length b (drop i xs) ≡ 0
unfolding part_length
part_none b xs i h = rw (drop-none xs i h)

-- a byte before some parts, by whether it is b
next-alone : (b x : ℕ) (t : Bool) → cond t ([] ∷ []) (onto x []) ≡ take (cond t 0 1) (x ∷ []) ∷ parts_of b (drop (suc (cond t 0 1)) (x ∷ []))
unfolding parts_of
next-alone b x true = refl
next-alone b x false = refl

next-step : (b x : ℕ) (zs : List ℕ) (ls : List (List ℕ)) (n : ℕ) (t : Bool) → ls ≡ parts_of b zs → ls ≡ take n zs ∷ parts_of b (drop (suc n) zs) →
    cond t ([] ∷ ls) (onto x ls) ≡ take (cond t 0 (suc n)) (x ∷ zs) ∷ parts_of b (drop (suc (cond t 0 (suc n))) (x ∷ zs))
next-step b x zs ls n true whole split = ap (λ (r : List (List ℕ)). [] ∷ r) whole
next-step b x zs ls n false whole split = ap (onto x) split

parts-some : (b : ℕ) (zs : List ℕ) → 0 < length zs → parts_of b zs ≡ take (part_length b zs) zs ∷ parts_of b (drop (suc (part_length b zs)) zs)
unfolding parts_of part_length
parts-some b [] h = absurd (omega (arith, h))
parts-some b (x ∷ []) h = next-alone b x (eqb x b)
parts-some b (x ∷ y ∷ ys) h = next-step b x (y ∷ ys) (parts_of b (y ∷ ys)) (part_length b (y ∷ ys)) (eqb x b) refl (parts-some b (y ∷ ys) (omega arith))

-- the parts from a place on, where a part ends at `end`
pub parts_from : (b : ℕ) (xs : List ℕ) (from end : ℕ) → from < length xs → end ≡ from + part_length b (drop from xs) →
    parts_of b (drop from xs) ≡ take (end - from) (drop from xs) ∷ parts_of b (drop (end + 1) xs)
parts_from b xs from end h e =
    let n = part_length b (drop from xs) in
    let short : end - from ≡ n = omega arith in
    let next : from + suc n ≡ end + 1 = omega arith in
    parts-some b (drop from xs) (omega (arith, length-drop from xs))
    ∙ rw short (ap (λ (r : List ℕ). take n (drop from xs) ∷ parts_of b r) (drop-drop (suc n) from xs ∙ ap (λ (k : ℕ). drop k xs) next))

pub parts_none : (b : ℕ) (xs : List ℕ) (from : ℕ) → length xs ≤ from → parts_of b (drop from xs) ≡ []
unfolding parts_of
parts_none b xs from h = rw (drop-none xs from h)

-- a number of bytes that there are is the length of the part in front
pub counts-within : (n : ℕ) (bytes : List ℕ) → n ≤ length bytes → (n ≤ length bytes) × (n ≡ length (take n bytes))
counts-within n bytes h = (h, sym (length-take-le n bytes h))
