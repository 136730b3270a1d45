-- Laws of values laid into lent cells as far as there is room.
use mathlib.Core.Path.{◌≡◌, refl, sym, ap, ◌∙◌}
use mathlib.Core.List.{List, [], ◌∷◌}
use Prim.Native.Nat.{ℕ, suc, ◌+◌, ◌≤◌, ◌<◌, max}
use native.Mathlib.Omega.{arith}
use lib.ListN.{length, set, length-set}
use lib.Seq.{sets, set_out, length-sets}
use Rattle.io.specs.Counts.{IsPrefixLen}
use Rattle.laws.proofs.Lists.{sets-one}
use Rattle.parts.proofs.PartLaws.{counts-within}
use Rattle.script.specs.Reads.{Lays}

-- behind the end nothing is laid
sets-out : (vs out : List ℕ) (k : ℕ) → length out ≤ k → sets out k vs ≡ out
sets-out [] out k h = refl
sets-out (v ∷ vs) out k h = rw (set_out out k v h) (sets-out vs out (suc k) (omega (arith, h)))

-- what is read from a place on is what is left to read from a later one
pub record Left (vs out : List ℕ) (from : ℕ) (ws now : List ℕ) (at : ℕ) : Type 0 where
  pub cells : sets out from vs ≡ sets now at ws
  pub count : from + length vs ≡ at + length ws
  pub same : length now ≡ length out
  pub onward : from ≤ at
  pub within : at ≤ max from (length out)

pub left-all : (vs out : List ℕ) (from : ℕ) → Left vs out from vs out from
left-all vs out from = record { cells = refl; count = refl; same = refl; onward = omega arith; within = omega arith }

pub left_one : {vs out ws now : List ℕ} {from at : ℕ} (v : ℕ) (rest : List ℕ) →
    Left vs out from ws now at → at < length now → ws ≡ v ∷ rest → Left vs out from rest (set now at v) (at + 1)
left_one {vs} {out} {ws} {now} {from} {at} v rest l h e =
    record {
      cells = l.cells ∙ ap (sets now at) e ∙ sets-one now at v rest;
      count = omega (arith, l.count, ap length e);
      same = length-set now at v ∙ l.same;
      onward = omega (arith, l.onward);
      within = omega (arith, l.same);
    }

-- the room is used up, or nothing is left
pub left-full : {vs out ws now : List ℕ} {from at : ℕ} → Left vs out from ws now at → length now ≤ at → Lays vs out from now at
left-full {vs} {out} {ws} {now} {from} {at} l h =
    record { cells = sym (l.cells ∙ sets-out ws now at h); end = omega (arith, l.count, l.same, l.onward, l.within) }

pub left-none : {vs out ws now : List ℕ} {from at : ℕ} → Left vs out from ws now at → ws ≡ [] → Lays vs out from now at
left-none {vs} {out} {ws} {now} {from} {at} l e =
    record { cells = sym (l.cells ∙ ap (sets now at) e); end = omega (arith, l.count, l.same, l.onward, l.within, ap length e) }

-- what is read from the front on counts cells at the front
pub reads-counts : {vs out out' : List ℕ} {r : ℕ} → Lays vs out 0 out' r → IsPrefixLen r out'
reads-counts {vs} {out} {out'} {r} reads = counts-within r out' (omega (arith, reads.end, ap length reads.cells, length-sets out 0 vs))
