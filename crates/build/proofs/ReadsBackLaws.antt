-- An index that is built has of each word the records that it was built from, and of no other word any.
use Rattle.std.specs.Prelude.{Option, Some, None}
use mathlib.Core.Path.{◌≡◌, refl, sym, ap, ◌∙◌}
use Prim.Native.Nat.{ℕ, zero, suc, ◌≤◌, ◌<◌}
use native.Mathlib.Omega.{arith}
use native.Mathlib.Nat.{lt_of_not-le}
use native.Mathlib.Decide.{dec_le}
use mathlib.Core.Bool.{Bool, true, false}
use mathlib.Core.List.{List, [], ◌∷◌}
use lib.ListN.{length, get_or}
use Rattle.refusal.specs.First.{first}
use Rattle.refusal.proofs.FirstLaws.{first-at, first-none}
use Rattle.word.specs.Word.{same}
use Rattle.word.proofs.WordLaws.{same-equal}
use Rattle.list.specs.Interval.{names}
use Rattle.list.specs.Among.{among}
use Rattle.list.proofs.StretchLaws.{cells-names, cells-names-zero, cells-names-above}
use Rattle.list.proofs.RecordLaws.{Ascends, among_below, among-above}
use Rattle.directory.specs.Has.{has}
use Rattle.directory.proofs.HasLaws.{has-entry, has-nowhere}
use Rattle.layout.specs.Layout.{cells_in, index_of}
use Rattle.build.specs.ReadsBack.{Indexable, records_for}
use Rattle.build.proofs.IndexOfLaws.{indexable-ascends, built-word-count, built-word, built-list, built-sound}

pub records-for-at : (ws xss : List (List ℕ)) (w : List ℕ) (i : ℕ) → length xss ≡ length ws → i < length ws → same (get_or ws i []) w ≡ true →
    ((j : ℕ) → j < i → same (get_or ws j []) w ≡ false) → records_for ws xss w ≡ get_or xss i []
unfolding records_for
records-for-at [] xss w i l h e f = absurd (omega arith)
records-for-at (v ∷ ws) [] w i l h e f = absurd (omega arith)
records-for-at (v ∷ ws) (xs ∷ xss) w zero l h e f = rw e
records-for-at (v ∷ ws) (xs ∷ xss) w (suc i) l h e f =
    rw (f 0 (omega arith)) (records-for-at ws xss w i (omega arith) (omega arith) e (λ j k. f (suc j) (omega arith)))

pub records-for-none : (ws xss : List (List ℕ)) (w : List ℕ) → ((j : ℕ) → j < length ws → same (get_or ws j []) w ≡ false) → records_for ws xss w ≡ []
unfolding records_for
records-for-none [] xss w f = refl
records-for-none (v ∷ ws) [] w f = refl
records-for-none (v ∷ ws) (xs ∷ xss) w f = rw (f 0 (omega arith)) (records-for-none ws xss w (λ j k. f (suc j) (omega arith)))

-- the list of ascending numbers within 1 to n names just them
pub cells-among : (n : ℕ) (xs : List ℕ) (x : ℕ) → Ascends n 0 xs → names (cells_in n xs) x ≡ among xs x
cells-among n xs x a = go (dec_le 1 x) (dec_le x n)
  where
    go : Dec (1 ≤ x) → Dec (x ≤ n) → names (cells_in n xs) x ≡ among xs x
    go (yes h) (yes g) = cells-names (among xs) n x h g
    go (yes h) (no g) = let w = lt_of_not-le g in cells-names-above (among xs) n x w ∙ sym (among-above n 0 x xs a w)
    go (no h) d =
        let w = lt_of_not-le h in
        let z : x ≡ 0 = omega arith in
        rw z (cells-names-zero (among xs) n ∙ sym (among_below n 0 0 xs a (omega arith)))

module _ {every : Bool} {n : ℕ} {ws xss : List (List ℕ)} (is : Indexable every n ws xss) where
  pub built-has : (i x : ℕ) → i < length ws → has (index_of n ws xss) (get_or ws i []) x ≡ among (get_or xss i []) x
  built-has i x h =
      has-entry (index_of n ws xss) (built-sound is) (get_or ws i []) i x (omega (arith, built-word-count is)) (built-word is i h)
      ∙ ap (λ (c : List ℕ). names c x) (built-list is i h)
      ∙ cells-among n (get_or xss i []) x (indexable-ascends is i h)

  pub built-lacks : (w : List ℕ) (x : ℕ) → ((i : ℕ) → i < length ws → same (get_or ws i []) w ≡ false) → has (index_of n ws xss) w x ≡ false
  built-lacks w x f =
      has-nowhere (index_of n ws xss) w x
      (λ j h. let g : j < length ws = omega (arith, built-word-count is) in rw (built-word is j g) (f j g))

  -- Reference 8.9: of a word the index has just the records that were given for it
  pub reads-back : (w : List ℕ) (x : ℕ) → has (index_of n ws xss) w x ≡ among (records_for ws xss w) x
  unfolding among
  reads-back w x = go (first (λ i. same (get_or ws i []) w) (length ws)) refl
    where
      go : (f : Option ℕ) → first (λ i. same (get_or ws i []) w) (length ws) ≡ f → has (index_of n ws xss) w x ≡ among (records_for ws xss w) x
      go (Some i) e =
          let f = first-at (λ i. same (get_or ws i []) w) i (length ws) e in
          let q = same-equal (get_or ws i []) w f.holds in
          rw (records-for-at ws xss w i is.as_many f.below f.holds f.before, ← q) (built-has i x f.below)
      go None e =
          let f = first-none (λ i. same (get_or ws i []) w) (length ws) e in
          rw (records-for-none ws xss w f) (built-lacks w x f)
