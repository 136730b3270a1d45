-- Laws of the records that satisfy a question: those from 1 to N alone count, and the list of them.
use mathlib.Core.Path.{◌≡◌, sym, ◌∙◌}
use Prim.Native.Nat.{ℕ, ◌*◌, ◌≤◌, ◌<◌}
use mathlib.Core.Bool.{Bool, false, ◌&&◌}
use mathlib.Core.List.{List}
use lib.Dec.{leb}
use lib.ListN.{length}
use borrow.Author.Tests.{le-leb, lt-leb}
use Rattle.laws.proofs.Tests.{leb-cases}
use Rattle.list.specs.Interval.{names, intervals}
use Rattle.list.proofs.StretchLaws.{cells_same, cells_agree, cells-even, cells-names}
use Rattle.question.specs.Grammar.{Tree}
use Rattle.question.specs.Meaning.{satisfies, Same}
use Rattle.question.proofs.MeaningLaws.{satisfies-none, satisfies-words}
use Rattle.source.specs.Source.{Source, satisfying}
use Rattle.source.specs.Demand3.{SameRecords}

-- ---- a source with nothing outside 1 to N

abbrev pub clip : Source → List ℕ → ℕ → Bool
clip s w x = leb 1 x && leb x s.highest && s.has w x

module _ (s : Source) (t : Tree) where
  pub clip-within : (x : ℕ) → 1 ≤ x → x ≤ s.highest → satisfies (clip s) t x ≡ satisfies s.has t x
  clip-within x h g = satisfies-words (clip s) s.has x x t (λ i l. rw (le-leb 1 x h, le-leb x s.highest g))

  clip-below : (x : ℕ) → x < 1 → satisfies (clip s) t x ≡ false
  clip-below x h = satisfies-none (clip s) x (λ w. rw (lt-leb 1 x h)) t

  clip-above : (x : ℕ) → 1 ≤ x → s.highest < x → satisfies (clip s) t x ≡ false
  clip-above x h g = satisfies-none (clip s) x (λ w. rw (le-leb 1 x h, lt-leb x s.highest g)) t

-- of it questions that agree from 1 to N agree everywhere
pub same-everywhere : (s : Source) (t u : Tree) → SameRecords s t u → Same (clip s) t u
same-everywhere s t u h x =
    leb-cases 1 x
    (λ a. leb-cases x s.highest (λ b. clip-within s t x a b ∙ h x a b ∙ sym (clip-within s u x a b))
    (λ b. clip-above s t x a b ∙ sym (clip-above s u x a b)))
    (λ a. clip-below s t x a ∙ sym (clip-below s u x a))

pub same-within : (s : Source) (t u : Tree) → Same (clip s) t u → SameRecords s t u
same-within s t u h x a b = sym (clip-within s t x a b) ∙ h x ∙ clip-within s u x a b

-- ---- the list

module _ (s : Source) (t : Tree) where
  pub satisfying-even : 2 * intervals (satisfying s t) ≡ length (satisfying s t)
  unfolding satisfying
  satisfying-even = cells-even (satisfies s.has t) s.highest

  pub satisfying-names : (x : ℕ) → 1 ≤ x → x ≤ s.highest → names (satisfying s t) x ≡ satisfies s.has t x
  unfolding satisfying
  satisfying-names x h g = cells-names (satisfies s.has t) s.highest x h g

  pub satisfying-same : (u : Tree) → SameRecords s t u → satisfying s t ≡ satisfying s u
  unfolding satisfying
  satisfying-same u h = cells_same (satisfies s.has t) (satisfies s.has u) s.highest h

  pub same-satisfying : (u : Tree) → satisfying s t ≡ satisfying s u → SameRecords s t u
  unfolding satisfying
  same-satisfying u e = cells_agree (satisfies s.has t) (satisfies s.has u) s.highest e
