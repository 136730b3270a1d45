-- The records and the flips of a window, word by word, and those of the test that it holds.
use mathlib.Core.Path.{◌≡◌, refl, sym, ap, ◌∙◌}
use Prim.Native.Nat.{ℕ, ◌+◌, ◌-◌, ◌*◌, ◌/◌, ◌%◌, ◌^◌, ◌≤◌, ◌<◌}
use native.Mathlib.Omega.{arith}
use mathlib.Core.List.{List, []}
use mathlib.Core.Bool.{Bool}
use lib.Count.{ones}
use lib.ListN.{length, get_or, length-append}
use Rattle.list.specs.Stretches.{records_from}
use Rattle.list.proofs.RecordLaws.{records_from-same, records_from-parts}
use Rattle.window.specs.Bit.{on}
use Rattle.window.specs.Window.{bit_at, member, members_of, Holds}
use Rattle.window.specs.Flips.{flips}
use Rattle.window.proofs.MarkLaws.{places-records, places_count}
use Rattle.window.proofs.FlipLaws.{flips-agree}
use Rattle.window.proofs.HoldLaws.{member-held}

-- word i of a window, whose first bit is record x, is the test's from record at on
pub member-word : (ws : List ℕ) (x at i j : ℕ) → at ≡ x + 64 * i → j < 64 → on (get_or ws i 0) j ≡ member ws x (at + j)
unfolding member bit_at
member-word ws x at i j e h =
    let a : (at + j - x) / 64 ≡ i = omega arith in
    let b : (at + j - x) % 64 ≡ j = omega arith in
    rw (a, b)

-- ---- the test that a window holds

pub flips-held : (p : ℕ → Bool) (b : Bool) (x k : ℕ) (ws : List ℕ) → k ≤ 64 * length ws → Holds p x ws → flips (member ws x) b x k ≡ flips p b x k
flips-held p b x k ws l h = flips-agree (member ws x) p b x k (λ i m. member-held p x ws h i (omega arith))

pub records-held : (p : ℕ → Bool) (x k : ℕ) (ws : List ℕ) → k ≤ 64 * length ws → Holds p x ws → records_from (member ws x) x k ≡ records_from p x k
records-held p x k ws l h =
    records_from-same (member ws x) p x k (λ y f g. let e : x + (y - x) ≡ y = omega arith in rw e at (member-held p x ws h (y - x) (omega arith)))

-- ---- a turn of the loop that counts the records

-- the records of the words from i on
abbrev pub members_left : List ℕ → ℕ → ℕ → List ℕ
members_left ws x i = records_from (member ws x) (x + 64 * i) (64 * (length ws - i))

pub members-all : (ws : List ℕ) (x : ℕ) → members_left ws x 0 ≡ members_of ws x
members-all ws x = let e : length ws - 0 ≡ length ws = omega arith in let f : x + 64 * 0 ≡ x = omega arith in rw (e, f)

pub members-none : (ws : List ℕ) (x i : ℕ) → length ws ≤ i → members_left ws x i ≡ []
unfolding records_from
members-none ws x i h = let e : length ws - i ≡ 0 = omega arith in rw e

pub members-turn : (ws : List ℕ) (x i : ℕ) → i < length ws → get_or ws i 0 < 2 ^ 64 →
    length (members_left ws x i) ≡ ones (get_or ws i 0) + length (members_left ws x (i + 1))
members-turn ws x i h f =
    let e : 64 * (length ws - i) ≡ 64 + 64 * (length ws - (i + 1)) = omega arith in
    let z : x + 64 * i + 64 ≡ x + 64 * (i + 1) = omega arith in
    let first : length (records_from (member ws x) (x + 64 * i) 64) ≡ ones (get_or ws i 0) =
    ap length (sym (places-records (member ws x) 64 (x + 64 * i) (get_or ws i 0) (λ j g. member-word ws x (x + 64 * i) i j refl g)))
    ∙ places_count 64 (x + 64 * i) (get_or ws i 0) f in
    rw (e, records_from-parts (member ws x) (x + 64 * i) 64 (64 * (length ws - (i + 1))), length-append, first, z)
