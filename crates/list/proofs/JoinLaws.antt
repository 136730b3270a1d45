-- Unions and intersections of lists: proper lists that depend on the numbers named alone.
use mathlib.Core.Path.{◌≡◌, refl, sym}
use Prim.Native.Nat.{ℕ, ◌≤◌, ◌<◌}
use native.Mathlib.Omega.{arith}
use mathlib.Core.Bool.{true, false, and-true, or-false}
use mathlib.Core.List.{List, [], ◌∷◌}
use Rattle.limits.specs.Limits.{record_max}
use Rattle.list.specs.Interval.{is_proper, names}
use Rattle.list.specs.Stretches.{cells_of}
use Rattle.list.specs.Ginix.{in_some, union_of, in_every, intersection_of}
use Rattle.list.proofs.NamesLaws.{proper-names-above}
use Rattle.list.proofs.StretchLaws.{cells-proper, cells-names, cells_same, cells-limit, is-cells}

-- lists that name the same, one by one, within 1 to n
abbrev pub SameNames : ℕ → List (List ℕ) → List (List ℕ) → Type 0
SameNames n [] [] = Unit {0}
SameNames n [] (d ∷ ds) = ⊥
SameNames n (c ∷ cs) [] = ⊥
SameNames n (c ∷ cs) (d ∷ ds) = ((x : ℕ) → 1 ≤ x → x ≤ n → names c x ≡ names d x) × SameNames n cs ds

pub in_some-same : (n : ℕ) (cs ds : List (List ℕ)) → SameNames n cs ds → (x : ℕ) → 1 ≤ x → x ≤ n → in_some cs x ≡ in_some ds x
unfolding in_some
in_some-same n [] [] s x h g = refl
in_some-same n (c ∷ cs) (d ∷ ds) s x h g = rw (s.0 x h g, in_some-same n cs ds s.1 x h g)
in_some-same n [] (d ∷ ds) s x h g = elim s [ ]
in_some-same n (c ∷ cs) [] s x h g = elim s [ ]

pub in_every-same : (n : ℕ) (cs ds : List (List ℕ)) → SameNames n cs ds → (x : ℕ) → 1 ≤ x → x ≤ n → in_every cs x ≡ in_every ds x
unfolding in_every
in_every-same n [] [] s x h g = refl
in_every-same n (c ∷ cs) (d ∷ ds) s x h g = rw (s.0 x h g, in_every-same n cs ds s.1 x h g)
in_every-same n [] (d ∷ ds) s x h g = elim s [ ]
in_every-same n (c ∷ cs) [] s x h g = elim s [ ]

pub union-same : (cs ds : List (List ℕ)) → SameNames record_max cs ds → union_of cs ≡ union_of ds
unfolding union_of
union-same cs ds s = cells_same (in_some cs) (in_some ds) record_max (in_some-same record_max cs ds s)

pub intersection-same : (cs ds : List (List ℕ)) → SameNames record_max cs ds → intersection_of cs ≡ intersection_of ds
unfolding intersection_of
intersection-same cs ds s = cells_same (in_every cs) (in_every ds) record_max (in_every-same record_max cs ds s)

-- ---- what they name

pub union-proper : (cs : List (List ℕ)) → is_proper record_max (union_of cs) ≡ true
unfolding union_of
union-proper cs = cells-proper (in_some cs) record_max record_max (omega arith)

pub intersection-proper : (cs : List (List ℕ)) → is_proper record_max (intersection_of cs) ≡ true
unfolding intersection_of
intersection-proper cs = cells-proper (in_every cs) record_max record_max (omega arith)

pub union-names : (cs : List (List ℕ)) (x : ℕ) → 1 ≤ x → x ≤ record_max → names (union_of cs) x ≡ in_some cs x
unfolding union_of
union-names cs x h g = cells-names (in_some cs) record_max x h g

pub intersection-names : (cs : List (List ℕ)) (x : ℕ) → 1 ≤ x → x ≤ record_max → names (intersection_of cs) x ≡ in_every cs x
unfolding intersection_of
intersection-names cs x h g = cells-names (in_every cs) record_max x h g

-- ---- lists within 1 to n: the join may stop at n

abbrev pub AllProper : ℕ → List (List ℕ) → Type 0
AllProper n [] = Unit {0}
AllProper n (c ∷ cs) = (is_proper n c ≡ true) × AllProper n cs

pub in_some-above : (n x : ℕ) (cs : List (List ℕ)) → AllProper n cs → n < x → in_some cs x ≡ false
unfolding in_some
in_some-above n x [] p h = refl
in_some-above n x (c ∷ cs) p h = rw (proper-names-above n x c p.0 h) (in_some-above n x cs p.1 h)

pub in_every-above : (n x : ℕ) (c : List ℕ) (cs : List (List ℕ)) → is_proper n c ≡ true → n < x → in_every (c ∷ cs) x ≡ false
unfolding in_every
in_every-above n x c cs p h = rw (proper-names-above n x c p h)

pub union-limit : (n : ℕ) (cs : List (List ℕ)) → n ≤ record_max → AllProper n cs → cells_of (in_some cs) n ≡ union_of cs
unfolding union_of
union-limit n cs h p = cells-limit (in_some cs) n record_max h (λ x g w. in_some-above n x cs p g)

-- one list within 1 to n is enough
pub intersection-limit : (n : ℕ) (c : List ℕ) (cs : List (List ℕ)) → n ≤ record_max → is_proper n c ≡ true →
    cells_of (in_every (c ∷ cs)) n ≡ intersection_of (c ∷ cs)
unfolding intersection_of
intersection-limit n c cs h p = cells-limit (in_every (c ∷ cs)) n record_max h (λ x g w. in_every-above n x c cs p g)

-- ---- one list alone

pub union-one : (c : List ℕ) → is_proper record_max c ≡ true → union_of (c ∷ []) ≡ c
unfolding union_of in_some
union-one c p = sym (is-cells (in_some (c ∷ [])) record_max c p (λ x h g. sym (or-false (names c x))))

pub intersection-one : (c : List ℕ) → is_proper record_max c ≡ true → intersection_of (c ∷ []) ≡ c
unfolding intersection_of in_every
intersection-one c p = sym (is-cells (in_every (c ∷ [])) record_max c p (λ x h g. sym (and-true (names c x))))
