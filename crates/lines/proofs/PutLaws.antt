-- Laws of texts put one behind the other.
use mathlib.Core.Path.{◌≡◌, refl, sym, ap, ◌∙◌}
use mathlib.Core.List.{List, [], ◌∷◌, ◌++◌, append_assoc}
use Prim.Native.Nat.{ℕ, ◌+◌, ◌-◌, ◌≤◌}
use native.Mathlib.Omega.{arith}
use lib.ListN.{length, set, take, drop, length-append}
use lib.Seq.{sets, drop-drop}
use Rattle.std.proofs.lemmas.List.Edits.{sets-eq}
use borrow.Rule.Slice.PartMut.{put_mid}
use Rattle.laws.proofs.Lists.{sets-append, sets-front}
use Rattle.lines.specs.Line.{PutText, PutFirst}

pub puts_then : {out mid out' : List ℕ} {at k r : ℕ} {a b : List ℕ} → PutText out at a mid k → PutText mid k b out' r → PutText out at (a ++ b) out' r
puts_then {out} {mid} {out'} {at} {k} {r} {a} {b} p q =
    record { end = omega (arith, p.end, q.end, length-append a b); bytes = q.bytes ∙ rw (p.bytes, p.end) (sym (sets-append out at a b)) }

-- one byte
pub puts-byte : (out : List ℕ) (at x : ℕ) → PutText out at (x ∷ []) (set out at x) (at + 1)
puts-byte out at x = record { end = refl; bytes = refl }

-- a text copied into the part of its length
pub puts-part : (out : List ℕ) (at : ℕ) (text ys : List ℕ) → at + length text ≤ length out → ys ≡ text →
    PutText out at text (put_mid at (at + length text - at) out ys) (at + length text)
puts-part out at text ys h e =
    let k : at + length text - at ≡ length text = omega arith in
    record { end = refl; bytes = rw (k, e, drop-drop (length text) at out, ← append_assoc (take at out) text (drop (at + length text) out)) (sym (sets-eq text out at h)) }

-- what is to be put from `at` on is what is left to put from `k` on
pub record ToPut (out : List ℕ) (at : ℕ) (text now : List ℕ) (k : ℕ) (rest : List ℕ) : Type 0 where
  pub end : at + length text ≡ k + length rest
  pub bytes : sets out at text ≡ sets now k rest

pub put_next : {out text now mid rest a : List ℕ} {at k r : ℕ} (b : List ℕ) →
    ToPut out at text now k rest → rest ≡ a ++ b → PutText now k a mid r → ToPut out at text mid r b
put_next {out} {text} {now} {mid} {rest} {a} {at} {k} {r} b l e p =
    record {
      end = omega (arith, l.end, ap length e, length-append a b, p.end);
      bytes = l.bytes ∙ ap (sets now k) e ∙ sets-append now k a b ∙ sym (rw (p.bytes, p.end));
    }

pub put-none : {out text now rest : List ℕ} {at k : ℕ} → ToPut out at text now k rest → rest ≡ [] → PutText out at text now k
put-none {out} {text} {now} {rest} {at} {k} l e = record { end = omega (arith, l.end, ap length e); bytes = sym (l.bytes ∙ ap (sets now k) e) }

-- all put from byte 0 on
pub puts-written : {out out' : List ℕ} {r : ℕ} (text : List ℕ) → PutText out 0 text out' r → length text ≤ length out → PutFirst out text out' r
puts-written {out} {out'} {r} text p h = record { size = omega (arith, p.end); bytes = p.bytes ∙ sets-front text out h }
