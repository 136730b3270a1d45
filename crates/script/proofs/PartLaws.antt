-- Laws of what stands before and behind a byte, and of fields.
use mathlib.Core.Path.{◌≡◌, sym, ◌∙◌}
use mathlib.Core.List.{List}
use Prim.Native.Nat.{ℕ, zero, suc, ◌+◌, ◌-◌, ◌≤◌, ◌<◌}
use native.Mathlib.Omega.{arith}
use lib.ListN.{length, take, drop, length-drop}
use lib.Seq.{take_all}
use Rattle.laws.proofs.Lists.{drop-none}
use Rattle.parts.specs.Part.{part_length}
use Rattle.script.specs.Part.{front_of, behind_of, field_of}

-- what is lent from the end of the first part on
pub front_at : (b : ℕ) (s : List ℕ) (end : ℕ) → end ≡ 0 + part_length b s → take end s ≡ front_of b s
front_at b s end e = let n : end ≡ part_length b s = omega arith in rw n

pub behind-at : (b : ℕ) (s : List ℕ) (end : ℕ) → end ≡ 0 + part_length b s → take (length s - (end + 1)) (drop (end + 1) s) ≡ behind_of b s
behind-at b s end e =
    let n : end + 1 ≡ suc (part_length b s) = omega arith in
    take_all (length s - (end + 1)) (drop (end + 1) s) (omega (arith, length-drop (end + 1) s)) ∙ rw n

pub behind-none : (b : ℕ) (s : List ℕ) (end : ℕ) → end ≡ 0 + part_length b s → length s ≤ end → take (length s - end) (drop end s) ≡ behind_of b s
behind-none b s end e h =
    take_all (length s - end) (drop end s) (omega (arith, length-drop end s)) ∙ drop-none s end h ∙ sym (drop-none s (suc (part_length b s)) (omega arith))

pub field-first : (k : ℕ) (line : List ℕ) → k ≡ 0 → field_of k line ≡ front_of 124 line
unfolding field_of
field-first k line e = rw e

pub field_next : (k : ℕ) (line : List ℕ) → 0 < k → field_of k line ≡ field_of (k - 1) (behind_of 124 line)
unfolding field_of
field_next zero line h = absurd (omega (arith, h))
field_next (suc k) line h = let e : suc k - 1 ≡ k = omega arith in rw e
