-- Reading a kept list: the list of three regions, where there is more to read, and where the reading of x goes on.
use Rattle.std.specs.Prelude.{◌≡◌, ℕ, ◌+◌, ◌≤◌, ◌<◌, true, List, length}
use Rattle.list.specs.declared.Place.{Place}
use Rattle.list.specs.Cell.{numbers_in}
use Rattle.list.specs.Kept.{walked, is_kept}
use Rattle.list.specs.Seek.{count_below}

-- Reference 3.4: whether three regions keep the list rule, and the list that they hold
abbrev pub KeptIn : ℕ → List ℕ → List ℕ → List ℕ → Type 0
KeptIn n singles lower upper = is_kept n (numbers_in singles) (numbers_in lower) (numbers_in upper) ≡ true

abbrev pub list_in : List ℕ → List ℕ → List ℕ → List ℕ
list_in singles lower upper = walked (numbers_in singles) (numbers_in lower) (numbers_in upper)

-- a place of the list, with an interval left to read
pub record Goes (S L : List ℕ) (at : Place) : Type 0 where
  pub single : at.p.0 ≤ length S
  pub pair : at.q.0 ≤ length L
  pub more : at.p.0 + at.q.0 < length S + length L

-- the place behind all that ends before x
abbrev pub reading_place : ℕ → List ℕ → List ℕ → Place
reading_place x S U = record { p = record { 0 = count_below x S }; q = record { 0 = count_below x U } }
