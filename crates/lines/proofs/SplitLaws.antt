-- Laws of an input's lines: that they are the line up to where it ends and those behind it, and where the last whole one ends.
use mathlib.Core.Path.{◌≡◌, refl}
use mathlib.Core.List.{List, ◌∷◌}
use Prim.Native.Nat.{ℕ, zero, suc, ◌+◌, ◌-◌, ◌<◌, ◌≤◌}
use native.Mathlib.Decide.{ℕ_discrete}
use native.Mathlib.Omega.{arith}
use borrow.Author.Tests.{eq-eqb, ne_eqb}
use Rattle.std.proofs.Common.{◌≢◌, get_or-take}
use lib.ListN.{length, get_or, take, drop}
use Rattle.parts.specs.Part.{part_length}
use Rattle.parts.proofs.PartLaws.{parts_from}
use Rattle.lines.specs.Lines.{lines_of, whole_end}

-- the lines from a place on: the one up to where `part_end` says, and those behind its byte 10, where the asking program goes on
pub lines_from : (input : List ℕ) (from end : ℕ) → from < length input → end ≡ from + part_length 10 (drop from input) →
    lines_of (drop from input) ≡ take (end - from) (drop from input) ∷ lines_of (drop (end + 1) input)
lines_from input from end h e = parts_from 10 input from end h e

-- of the first k bytes the last 10 is byte i
pub whole_end-last : (xs : List ℕ) (k i : ℕ) → i < k → get_or (take k xs) i 0 ≡ 10 →
    ((j : ℕ) → i + 1 ≤ j → j < k → get_or (take k xs) j 0 ≢ 10) → whole_end k xs ≡ i + 1
unfolding whole_end
whole_end-last xs k i h e f = up k h (rw (get_or-take k xs i 0 h) at e) (λ j g l. rw (get_or-take k xs j 0 l) at (f j g l))
  where
    up : (n : ℕ) → i < n → get_or xs i 0 ≡ 10 → ((j : ℕ) → i + 1 ≤ j → j < n → get_or xs j 0 ≢ 10) → whole_end n xs ≡ i + 1
    up zero h e f = absurd (omega arith)
    up (suc n) h e f = elim (ℕ_discrete i n) [
      | yes q ↦ (let t : get_or xs n 0 ≡ 10 = rw (← q) e in rw (eq-eqb (get_or xs n 0) 10 t, q))
      | no q ↦ rw (ne_eqb (get_or xs n 0) 10 (f n (omega arith) (omega arith))) (up n (omega arith) e (λ j g l. f j g (omega arith)))
    ]

-- there is none
pub whole_end-nowhere : (xs : List ℕ) (k : ℕ) → ((j : ℕ) → j < k → get_or (take k xs) j 0 ≢ 10) → whole_end k xs ≡ 0
unfolding whole_end
whole_end-nowhere xs k f = up k (λ j l. rw (get_or-take k xs j 0 l) at (f j l))
  where
    up : (n : ℕ) → ((j : ℕ) → j < n → get_or xs j 0 ≢ 10) → whole_end n xs ≡ 0
    up zero f = refl
    up (suc n) f = rw (ne_eqb (get_or xs n 0) 10 (f n (omega arith))) (up n (λ j h. f j (omega arith)))
