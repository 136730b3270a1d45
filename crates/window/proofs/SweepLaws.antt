-- A sweep over the numbers, part by part: n are left from x on and k cells are written; the first m of them go by, and the rest is left.
use mathlib.Core.Path.{◌≡◌, refl, sym, ap, ◌∙◌}
use Prim.Native.Nat.{ℕ, ◌+◌, ◌-◌, ◌*◌, ◌≤◌, ◌<◌}
use native.Mathlib.Omega.{arith}
use mathlib.Core.List.{List, [], ◌++◌}
use mathlib.Core.Bool.{Bool}
use lib.ListN.{length}
use Rattle.list.specs.Stretches.{turned, stretches}
use Rattle.window.specs.Window.{Holds}
use Rattle.window.specs.Flips.{odd, flips, window_cells}
use Rattle.window.proofs.FlipLaws.{stretches-add, flips-constant, flips-parity}
use Rattle.window.proofs.MemberLaws.{flips-held}

pub part-turn : (p : ℕ → Bool) (x m n k : ℕ) → m ≤ n →
    stretches p (odd k) x n ≡ flips p (odd k) x m ++ stretches p (odd (k + length (flips p (odd k) x m))) (x + m) (n - m)
part-turn p x m n k le =
    let e : n ≡ m + (n - m) = omega arith in
    ap (stretches p (odd k) x) e ∙ stretches-add p (odd k) x m (n - m)
    ∙ ap (λ (b : Bool). flips p (odd k) x m ++ stretches p b (x + m) (n - m)) (sym (flips-parity p (odd k) x m k refl))

-- the cells of a window that holds p, and of a jump over numbers at which p is v
pub window-part : (p : ℕ → Bool) (x k m : ℕ) (ws : List ℕ) → m ≡ 64 * length ws → Holds p x ws → window_cells ws x k ≡ flips p (odd k) x m
window-part p x k m ws e h = rw e (flips-held p (odd k) x (64 * length ws) ws (omega arith) h)

pub jump-part : (p : ℕ → Bool) (v : Bool) (x k m : ℕ) → 1 ≤ m → ((i : ℕ) → i < m → p (x + i) ≡ v) → turned (odd k) v x [] ≡ flips p (odd k) x m
jump-part p v x k m l h = sym (flips-constant p (odd k) v x m l h)
