-- A place of a list that goes on: the side that is next has a cell there, and the place behind it is one of the list's again.
use mathlib.Core.Path.{◌≡◌, refl}
use Prim.Native.Nat.{ℕ, ◌+◌, ◌*◌, ◌≤◌}
use native.Mathlib.Omega.{arith}
use mathlib.Core.Bool.{Bool, true, false}
use mathlib.Core.List.{List}
use lib.ListN.{length}
use Rattle.list.specs.declared.Place.{Place}
use Rattle.list.specs.Cell.{numbers_in}
use Rattle.list.specs.Kept.{single_next, moved, next_place}
use Rattle.list.specs.Reading.{Goes}
use Rattle.list.proofs.CellLaws.{numbers_in-length}
use Rattle.list.proofs.WalkLaws.{single-next-left, pair-next-left}

module _ (S L : List ℕ) (at : Place) (g : Goes S L at) where
  moved-fits : (t : Bool) → single_next S L at.p.0 at.q.0 ≡ t →
      ((moved t at).p.0 ≤ length S) × ((moved t at).q.0 ≤ length L) × ((moved t at).p.0 + (moved t at).q.0 ≡ at.p.0 + at.q.0 + 1)
  moved-fits true e = let h = single-next-left S L at.p.0 at.q.0 e in (omega arith, g.pair, omega arith)
  moved-fits false e = let h = pair-next-left S L at.p.0 at.q.0 e g.single g.more in (g.single, omega arith, omega arith)

  pub next_fits :
      ((next_place S L at).p.0 ≤ length S)
      × ((next_place S L at).q.0 ≤ length L)
      × ((next_place S L at).p.0 + (next_place S L at).q.0 ≡ at.p.0 + at.q.0 + 1)
  next_fits = moved-fits (single_next S L at.p.0 at.q.0) refl

-- in the regions themselves
module _ (singles lower : List ℕ) (at : Place) (g : Goes (numbers_in singles) (numbers_in lower) at) where
  pub single-inside : single_next (numbers_in singles) (numbers_in lower) at.p.0 at.q.0 ≡ true → 4 * at.p.0 + 4 ≤ length singles
  single-inside e = omega (arith, single-next-left (numbers_in singles) (numbers_in lower) at.p.0 at.q.0 e, numbers_in-length singles)

  pub pair_inside : single_next (numbers_in singles) (numbers_in lower) at.p.0 at.q.0 ≡ false → 4 * at.q.0 + 4 ≤ length lower
  pair_inside e = omega (arith, pair-next-left (numbers_in singles) (numbers_in lower) at.p.0 at.q.0 e g.single g.more, numbers_in-length lower)
