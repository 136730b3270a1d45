-- A join is determined by its promise, and the methods of a union, or of an intersection, make the same one: whichever is called, the answer
-- and the cells are the same.
use mathlib.Core.Path.{◌≡◌}
use Prim.Native.Nat.{ℕ}
use mathlib.Core.List.{List}
use Rattle.std.specs.Prelude.{Result}
use Rattle.refusal.specs.declared.Refusal.{Refusal}
use Rattle.list.specs.declared.answer.Tally.{Tally}
use Rattle.list.specs.Ginix.{union_of, intersection_of}
use Rattle.list.proofs.ListingLaws.{gives-agree}
use Rattle.join.specs.Join.{Joins}

module _ (index entries : List ℕ) {out out₁ out₂ : List ℕ} {r₁ r₂ : Result Tally Refusal} where
  pub joins-agree : (method : List (List ℕ) → List ℕ) → Joins method index entries out out₁ r₁ → Joins method index entries out out₂ r₂ →
      (r₁ ≡ r₂) × (out₁ ≡ out₂)
  joins-agree method p q = gives-agree p q

  -- the scan line and the active interval
  pub unions-agree : Joins union_of index entries out out₁ r₁ → Joins union_of index entries out out₂ r₂ → (r₁ ≡ r₂) × (out₁ ≡ out₂)
  unions-agree p q = joins-agree union_of p q

  -- the twin heap and probing
  pub intersections-agree : Joins intersection_of index entries out out₁ r₁ → Joins intersection_of index entries out out₂ r₂ → (r₁ ≡ r₂) × (out₁ ≡ out₂)
  intersections-agree p q = joins-agree intersection_of p q
