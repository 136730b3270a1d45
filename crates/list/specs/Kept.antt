-- Reference 3.4: the kept form of a list, in which S, L and U are the numbers of its regions, and the walk through it.
use Rattle.std.specs.Prelude.{ℕ, zero, suc, ◌+◌, Bool, true, false, cond, ◌&&◌, List, [], ◌∷◌, ltb, length, get_or}
use Rattle.list.specs.declared.Place.{Place}
use Rattle.list.specs.Interval.{is_proper}

-- Reference 3.4: both positions at the start
abbrev pub start : Place
start = record { p = record { 0 = 0 }; q = record { 0 = 0 } }

-- Reference 3.4: whether the step at p and q gives a single
abbrev pub single_next : List ℕ → List ℕ → ℕ → ℕ → Bool
single_next S L p q = cond (ltb p (length S)) (cond (ltb q (length L)) (ltb (get_or S p 0) (get_or L q 0)) true) false

-- Reference 3.4: the position that a step moves
abbrev pub moved : Bool → Place → Place
moved true at = record { p = record { 0 = at.p.0 + 1 }; q = record { 0 = at.q.0 } }
moved false at = record { p = record { 0 = at.p.0 }; q = record { 0 = at.q.0 + 1 } }

abbrev pub next_place : List ℕ → List ℕ → Place → Place
next_place S L at = moved (single_next S L at.p.0 at.q.0) at

-- Reference 3.4: the bounds of the interval that a step gives; a single is its own lower and upper bound
abbrev pub lower_at : List ℕ → List ℕ → Place → ℕ
lower_at S L at = cond (single_next S L at.p.0 at.q.0) (get_or S at.p.0 0) (get_or L at.q.0 0)

abbrev pub upper_at : List ℕ → List ℕ → List ℕ → Place → ℕ
upper_at S L U at = cond (single_next S L at.p.0 at.q.0) (get_or S at.p.0 0) (get_or U at.q.0 0)

-- Reference 3.4: the cells of the k steps from a place on; a whole walk has as many as S and L have numbers
unfoldable pub walk_from : List ℕ → List ℕ → List ℕ → Place → ℕ → List ℕ
walk_from S L U at zero = []
walk_from S L U at (suc k) = lower_at S L at ∷ upper_at S L U at ∷ walk_from S L U (next_place S L at) k

-- Reference 3.4: the walked list
unfoldable pub walked : List ℕ → List ℕ → List ℕ → List ℕ
walked S L U = walk_from S L U start (length S + length L)

-- Reference 3.4: whether L and U have as many numbers, and each pair names two or more
unfoldable pub are_longer : List ℕ → List ℕ → Bool
are_longer [] [] = true
are_longer [] (u ∷ us) = false
are_longer (l ∷ ls) [] = false
are_longer (l ∷ ls) (u ∷ us) = ltb l u && are_longer ls us

-- Reference 3.4: the list rule with the limit n
unfoldable pub is_kept : ℕ → List ℕ → List ℕ → List ℕ → Bool
is_kept n S L U = are_longer L U && is_proper n (walked S L U)
