-- What a callee wrote into the lent tail `&mut out[a..]`, said of the whole.
use mathlib.Core.Path.{◌≡◌, sym}
use Prim.Native.Nat.{ℕ, ◌+◌, ◌-◌, ◌≤◌}
use native.Mathlib.Omega.{arith}
use mathlib.Core.List.{List, ◌++◌, append-nil, append_assoc}
use lib.ListN.{length, take, drop, length-drop, drop_of_length-le}
use lib.Seq.{take_all, drop-drop}
use borrow.Rule.Slice.PartMut.{put_mid, mid_of}

pub tail_written : (a : ℕ) (xs ys vs : List ℕ) → ys ≡ vs ++ drop (length vs) (mid_of a (length xs - a) xs) →
    put_mid a (length xs - a) xs ys ≡ take a xs ++ vs ++ drop (a + length vs) xs
tail_written a xs ys vs e =
    let h : length (drop a xs) ≤ length xs - a = omega (arith, length-drop a xs) in
    rw (drop_of_length-le (drop a xs) h, append-nil ys, e, take_all (length xs - a) (drop a xs) h, drop-drop (length vs) a xs)
    (sym (append_assoc (take a xs) vs (drop (a + length vs) xs)))
