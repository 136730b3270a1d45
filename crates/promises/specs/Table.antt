-- Reference 12: P1 to P13 as one table, and what it is for it to be right.
use Rattle.std.specs.Prelude.{Result, Ok, Err}
use Rattle.list.specs.declared.answer.Tally.{Tally}
use Rattle.refusal.specs.declared.Refusal.{Refusal}
use Rattle.std.specs.Prelude.{ℕ, ◌≡◌, List, [], ◌∷◌, ◌++◌}
use Rattle.refusal.specs.declared.Refusal.TheVariants.{Grammar}
use Rattle.list.specs.Ginix.{union_of, intersection_of, below_count, overlap_count}
use Rattle.source.specs.Ask.{Asks}
use Rattle.promises.specs.Example.{boats, harbour, maps, tide, tables, pier, and', or', not', example}

-- Reference 12: a rule's number and a question over the example's index with its answer and the four lent cells afterwards; lists with their union or
-- intersection; a range and a list with how many of its intervals lie below and overlap
pub data Row : Type 0 where
  line : ℕ → List ℕ → Result Tally Refusal → List ℕ → Row
  union intersection : List (List ℕ) → List ℕ → Row
  probe : ℕ → ℕ → List ℕ → ℕ → ℕ → Row

abbrev pub lent : List ℕ
lent = 0 ∷ 0 ∷ 0 ∷ 0 ∷ []

abbrev pub Right : Row → Type 0
Right (line rule question answer cells) = Asks rule example question lent cells answer
Right (union lists cells) = union_of lists ≡ cells
Right (intersection lists cells) = intersection_of lists ≡ cells
Right (probe a b list below overlapping) = (below_count a list ≡ below) × (overlap_count a b list ≡ overlapping)

abbrev pub AllRight : List Row → Type 0
AllRight [] = Unit {0}
AllRight (r ∷ rs) = Right r × AllRight rs

abbrev pub tallied : ℕ → ℕ → Result Tally Refusal
tallied intervals records = Ok (record { intervals = intervals; records = records })

-- Reference 12: P1 to P7 are the example's questions; P8 and P9 unions of lists that touch and that do not; P10 and P11 intersections, of which one is empty;
-- P12 is a probe; P13 is P4 by the second rule
abbrev pub table : List Row
table =
    line 1 (boats ++ or' ++ tide) (tallied 2 5) (2 ∷ 4 ∷ 8 ∷ 9 ∷ [])
    ∷ line 1 (boats ++ or' ++ maps) (tallied 1 8) (2 ∷ 9 ∷ 0 ∷ 0 ∷ [])
    ∷ line 1 (harbour ++ and' ++ maps ++ not' ++ tide) (tallied 1 2) (6 ∷ 7 ∷ 0 ∷ 0 ∷ [])
    ∷ line 1 (boats ++ or' ++ harbour ++ and' ++ maps) (tallied 1 2) (6 ∷ 7 ∷ 0 ∷ 0 ∷ [])
    ∷ line 1 (boats ++ or' ++ 40 ∷ (harbour ++ and' ++ maps ++ 41 ∷ [])) (tallied 2 6) (2 ∷ 4 ∷ 6 ∷ 8 ∷ [])
    ∷ line 1 (tide ++ 32 ∷ tables) (Err (Grammar 5)) lent
    ∷ line 1 pier (tallied 0 0) lent
    ∷ union ((1 ∷ 3 ∷ []) ∷ (4 ∷ 5 ∷ []) ∷ []) (1 ∷ 5 ∷ [])
    ∷ union ((1 ∷ 3 ∷ []) ∷ (5 ∷ 6 ∷ []) ∷ []) (1 ∷ 3 ∷ 5 ∷ 6 ∷ [])
    ∷ intersection ((1 ∷ 3 ∷ []) ∷ (3 ∷ 5 ∷ []) ∷ []) (3 ∷ 3 ∷ [])
    ∷ intersection ((1 ∷ 2 ∷ []) ∷ (1 ∷ 9 ∷ []) ∷ (4 ∷ 6 ∷ []) ∷ []) []
    ∷ probe 4 6 (1 ∷ 4 ∷ 6 ∷ 6 ∷ 8 ∷ 9 ∷ []) 0 2
    ∷ line 2 (boats ++ or' ++ harbour ++ and' ++ maps) (tallied 2 6) (2 ∷ 4 ∷ 6 ∷ 8 ∷ [])
    ∷ []
