-- A window changed word by word: the loop's invariant, and what it leaves bit by bit.
use mathlib.Core.Path.{◌≡◌, refl, ap, ◌∙◌}
use Prim.Native.Nat.{ℕ, ◌+◌, ◌/◌, ◌%◌, ◌≤◌, ◌<◌}
use native.Mathlib.Decide.{ℕ_discrete}
use native.Mathlib.Omega.{arith}
use mathlib.Core.List.{List}
use mathlib.Core.Bool.{Bool, true, false, ◌&&◌}
use lib.Bits.{bit_and, bit_xor}
use lib.ListN.{length, get_or, set, length-set}
use lib.Seq.{get_or-set_same, get_or-set_other}
use Rattle.window.specs.Bit.{on}
use Rattle.window.specs.Window.{bit_at, CombinedWord, Combined, without}
use Rattle.window.proofs.BitLaws.{differs, on_and, on_xor}

-- in the first i words zs has what R says, by the words of xs and ys; the others are those of xs
pub record Upto (R : ℕ → ℕ → ℕ → Type 0) (xs ys : List ℕ) (i : ℕ) (zs : List ℕ) : Type 0 where
  pub long : length zs ≡ length xs
  pub done : (j : ℕ) → j < i → R (get_or xs j 0) (get_or ys j 0) (get_or zs j 0)
  pub rest : (j : ℕ) → i ≤ j → get_or zs j 0 ≡ get_or xs j 0

module _ {R : ℕ → ℕ → ℕ → Type 0} {xs ys : List ℕ} where
  pub upto-none : Upto R xs ys 0 xs
  upto-none = record { long = refl; done = λ j h. absurd (omega arith); rest = λ j h. refl }

  pub upto-more : {zs : List ℕ} {i v : ℕ} → i < length xs → Upto R xs ys i zs → R (get_or zs i 0) (get_or ys i 0) v → Upto R xs ys (i + 1) (set zs i v)
  upto-more {zs} {i} {v} l u r = record {
    long = length-set zs i v ∙ u.long;
    done = λ j h. at j h (ℕ_discrete j i);
    rest = λ j h. get_or-set_other zs i j v 0 (omega arith) ∙ u.rest j (omega arith);
  }
    where
      at : (j : ℕ) → j < i + 1 → Dec (j ≡ i) → R (get_or xs j 0) (get_or ys j 0) (get_or (set zs i v) j 0)
      at j h (yes e) = let w = u.long in rw (e, get_or-set_same zs i v 0 (omega arith), ← u.rest i (omega arith)) r
      at j h (no e) = rw (get_or-set_other zs i j v 0 e) (u.done j (omega arith))

-- ---- combined

pub upto-combined : {f : Bool → Bool → Bool} {xs ys zs : List ℕ} → Upto (CombinedWord f) xs ys (length xs) zs → Combined f xs ys zs
unfolding bit_at
upto-combined u = record { long = u.long; bits = λ n h. u.done (n / 64) (omega arith) (n % 64) }

-- a & !b, as a ^ (a & b): so written it needs no bound of b
pub on-without : (a b : ℕ) → CombinedWord without a b (bit_xor a (bit_and a b))
on-without a b i = on_xor a (bit_and a b) i ∙ ap (differs (on a i)) (on_and a b i) ∙ less (on a i) (on b i)
  where
    less : (s t : Bool) → differs s (s && t) ≡ without s t
    less true t = refl
    less false t = refl
