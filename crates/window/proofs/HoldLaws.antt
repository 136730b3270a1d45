-- What windows hold: as a test of their own, combined, blank.
use mathlib.Core.Path.{◌≡◌, ap, ap₂, ◌∙◌}
use Prim.Native.Nat.{ℕ, ◌+◌, ◌-◌, ◌*◌, ◌/◌, ◌%◌, ◌<◌}
use native.Mathlib.Omega.{arith}
use mathlib.Core.List.{List}
use mathlib.Core.Bool.{Bool, false}
use lib.ListN.{length, replicate}
use lib.Pow.{pow_pos}
use Rattle.laws.proofs.Lists.{zeros-at}
use Rattle.window.specs.Bit.{on}
use Rattle.window.specs.Window.{bit_at, member, Holds, Combined}
use Rattle.window.proofs.BitLaws.{on-high}

-- ---- a window as a test

pub member-held : (p : ℕ → Bool) (x : ℕ) (ws : List ℕ) → Holds p x ws → (i : ℕ) → i < 64 * length ws → member ws x (x + i) ≡ p (x + i)
unfolding member
member-held p x ws h i l = let e : x + i - x ≡ i = omega arith in rw e (h.each i l)

pub holds_agree : (p q : ℕ → Bool) (x : ℕ) (ws : List ℕ) → ((i : ℕ) → i < 64 * length ws → p (x + i) ≡ q (x + i)) → Holds p x ws → Holds q x ws
holds_agree p q x ws e h = record { each = λ n l. h.each n l ∙ e n l }

-- ---- combined

pub holds-combined : (f : Bool → Bool → Bool) (p q : ℕ → Bool) (x : ℕ) (xs ys zs : List ℕ) → length ys ≡ length xs →
    Combined f xs ys zs → Holds p x xs → Holds q x ys → Holds (λ n. f (p n) (q n)) x zs
holds-combined f p q x xs ys zs e u h g = record {
  each = λ n l. let w = u.long in let m : n < 64 * length xs = omega arith in let k : n < 64 * length ys = omega arith in
      u.bits n m ∙ ap₂ f (h.each n m) (g.each n k);
}

-- ---- blank

pub zero-off : (i : ℕ) → on 0 i ≡ false
zero-off i = on-high 0 i (pow_pos i)

pub bits-zeros : (k n : ℕ) → bit_at (replicate k 0) n ≡ false
unfolding bit_at
bits-zeros k n = ap (λ (w : ℕ). on w (n % 64)) (zeros-at k (n / 64)) ∙ zero-off (n % 64)
