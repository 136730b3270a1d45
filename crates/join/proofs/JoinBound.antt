-- A union or an intersection has no more intervals than its lists together, and how many those are.
use mathlib.Core.Path.{◌≡◌, refl}
use Prim.Native.Nat.{ℕ, ◌+◌, ◌≤◌, ◌<◌}
use mathlib.Core.Bool.{Bool, true, false}
use mathlib.Core.List.{List, [], ◌∷◌}
use lib.ListN.{length, get_or, drop}
use Rattle.limits.specs.Limits.{record_max}
use Rattle.list.specs.Interval.{is_proper, names, intervals}
use Rattle.list.specs.Ginix.{in_some, union_of, in_every, intersection_of}
use Rattle.list.proofs.NamesLaws.{proper-names-zero}
use Rattle.list.proofs.StretchLaws.{proper-cells}
use Rattle.list.proofs.JoinLaws.{AllProper}
use Rattle.list.proofs.BoundLaws.{Still, AllOut, together, cells-bound}
use Rattle.index.specs.Format.{list_of}
use Rattle.merge.specs.Request.{lists_of}
use Rattle.merge.proofs.ListsLaws.{lists-next, lists-end}
use Rattle.join.specs.Bound.{interval_sum}

-- the numbers that each list names, as tests
unfoldable tests_of : List (List ℕ) → List (ℕ → Bool)
tests_of [] = []
tests_of (c ∷ cs) = names c ∷ tests_of cs

all-out : (cs : List (List ℕ)) → AllProper record_max cs → AllOut (tests_of cs) 0
unfolding tests_of
all-out [] p = tt
all-out (c ∷ cs) p = (proper-names-zero record_max c p.0, all-out cs p.1)

tests-together : (cs : List (List ℕ)) → AllProper record_max cs → together (tests_of cs) record_max ≡ interval_sum cs
unfolding tests_of together interval_sum
tests-together [] p = refl
tests-together (c ∷ cs) p = rw (← proper-cells record_max c p.0, tests-together cs p.1)

some-still : (cs : List (List ℕ)) (x : ℕ) → Still (tests_of cs) x → in_some cs x ≡ in_some cs (x + 1)
unfolding tests_of in_some
some-still [] x s = refl
some-still (c ∷ cs) x s = rw (s.0, some-still cs x s.1)

every-still : (cs : List (List ℕ)) (x : ℕ) → Still (tests_of cs) x → in_every cs x ≡ in_every cs (x + 1)
unfolding tests_of in_every
every-still [] x s = refl
every-still (c ∷ cs) x s = rw (s.0, every-still cs x s.1)

some-zero : (cs : List (List ℕ)) → AllProper record_max cs → in_some cs 0 ≡ false
unfolding in_some
some-zero [] p = refl
some-zero (c ∷ cs) p = rw (proper-names-zero record_max c p.0) (some-zero cs p.1)

pub union-bound : (cs : List (List ℕ)) → AllProper record_max cs → intervals (union_of cs) ≤ interval_sum cs
unfolding union_of
union-bound cs p =
    rw (← tests-together cs p) (cells-bound (in_some cs) (tests_of cs) record_max (some-zero cs p) (all-out cs p) (λ x h s. some-still cs x s))

every-zero : (c : List ℕ) (cs : List (List ℕ)) → is_proper record_max c ≡ true → in_every (c ∷ cs) 0 ≡ false
unfolding in_every
every-zero c cs p = rw (proper-names-zero record_max c p)

-- of at least one list
pub intersection-bound : (c : List ℕ) (cs : List (List ℕ)) → AllProper record_max (c ∷ cs) → intervals (intersection_of (c ∷ cs)) ≤ interval_sum (c ∷ cs)
unfolding intersection_of
intersection-bound c cs p =
    rw (← tests-together (c ∷ cs) p)
    (cells-bound (in_every (c ∷ cs)) (tests_of (c ∷ cs)) record_max (every-zero c cs p.0) (all-out (c ∷ cs) p) (λ x h s. every-still (c ∷ cs) x s))

-- ---- summed list by list

pub sum-next : (index entries : List ℕ) (j : ℕ) → j < length entries →
    interval_sum (lists_of index (drop j entries)) ≡ intervals (list_of index (get_or entries j 0)) + interval_sum (lists_of index (drop (j + 1) entries))
unfolding interval_sum
sum-next index entries j h = rw (lists-next index entries j h)

pub sum-end : (index entries : List ℕ) (j : ℕ) → length entries ≤ j → interval_sum (lists_of index (drop j entries)) ≡ 0
unfolding interval_sum
sum-end index entries j h = rw (lists-end index entries j h)
