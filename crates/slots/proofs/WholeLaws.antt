-- What fits a question by its slots is what fits it by its words.
use Prim.Native.Nat.{ℕ, ◌+◌, ◌*◌, ◌≤◌, ◌<◌}
use native.Mathlib.Omega.{arith}
use mathlib.Core.Path.{◌≡◌, refl, ap, ap₂, ◌∙◌}
use mathlib.Core.Bool.{Bool, ◌&&◌, ◌||◌}
use mathlib.Core.List.{List, []}
use lib.Dec.{ltb}
use lib.ListN.{length, get_or}
use borrow.Author.Tests.{lt-ltb, le-ltb}
use Rattle.laws.proofs.Tests.{leb-cases}
use Rattle.index.specs.Sound.{Sound}
use Rattle.directory.specs.Has.{has}
use Rattle.question.specs.Token.{tokens}
use Rattle.question.specs.Limits.{token_words}
use Rattle.question.specs.Grammar.{Tree, word, pair, part, Rule, tree_words}
use Rattle.question.specs.Meaning.{combine, satisfies}
use Rattle.question.specs.Reading.{parses, parsed}
use Rattle.question.proofs.RuleLaws.{Keeps}
use Rattle.question.proofs.TreeWords.{accepted-words}
use Rattle.question.proofs.MeaningLaws.{satisfies_by, satisfies-by}
use Rattle.slots.specs.declared.row.Row.{Row}
use Rattle.slots.specs.Row.{no_entries, entries_at, Blank}
use Rattle.slots.specs.Having.{entries_have, half_of, having, EntriesIn, ReadBy}
use Rattle.slots.specs.Slots.{slot_satisfies}
use Rattle.slots.specs.Compile.{FillsSlots, halves_have, TreeSlots}
use Rattle.slots.proofs.EntriesLaws.{no-entry, slot-either}
use Rattle.slots.proofs.RowLaws.{none-among}

-- what satisfies by the slots is what satisfies by the words, where each slot has what is said of its word

slot-satisfies-by : (v : ℕ → ℕ → Bool) (t : Tree) (k x : ℕ) → slot_satisfies v t k x ≡ satisfies_by (λ i. v i x) k t
unfolding slot_satisfies satisfies_by
slot-satisfies-by v (word w) k x = refl
slot-satisfies-by v (pair o a b) k x = ap₂ (combine o) (slot-satisfies-by v a k x) (slot-satisfies-by v b (k + length (tree_words a)) x)
slot-satisfies-by v (part t) k x = slot-satisfies-by v t k x

pub slot-satisfies : (v : ℕ → ℕ → Bool) (had : List ℕ → ℕ → Bool) (t : Tree) (x : ℕ) →
    ((i : ℕ) → i < length (tree_words t) → v i x ≡ had (get_or (tree_words t) i []) x) →
    slot_satisfies v t 0 x ≡ satisfies had t x
slot-satisfies v had t x h =
    slot-satisfies-by v t 0 x ∙ satisfies-by had x (λ i. v i x) 0 t (λ i l. let z : 0 + i ≡ i = omega arith in ap (λ (n : ℕ). v n x) z ∙ h i l)

-- ---- the slots that are compiled: the halves that were filled stand for the words, and all other ranges are none

module _ {halves : ℕ} {main arrivals s : List ℕ} {row row' : Row} {slots : ℕ} (c : FillsSlots halves main arrivals s row row' slots) (blank : Blank row.ranges)
    (some : 1 ≤ halves) (both : halves ≤ 2) where
  -- a range of a half that was not filled
  none-behind : (k half : ℕ) → halves ≤ half → half < 2 → entries_at row'.ranges (2 * k + half) ≡ no_entries
  none-behind k half h g = c.stay (2 * k + half) (λ i other l f q. omega arith) ∙ blank (2 * k + half)

  -- what the arrivals' range of a slot has
  second-has : (k : ℕ) → k < slots → (x : ℕ) →
      entries_have arrivals (entries_at row'.ranges (2 * k + 1)) x ≡ (ltb 1 halves && has arrivals (get_or (token_words (tokens s)) k []) x)
  second-has k h x =
      leb-cases halves 1
      (λ g. rw (le-ltb 1 halves g, none-behind k 1 g (omega arith)) (no-entry arrivals 0 x))
      (λ g. rw (lt-ltb 1 halves g) ((c.stand k h 1 g).have x))

  compiled-has : (k : ℕ) → k < slots → (x : ℕ) → having main arrivals row' k x ≡ halves_have halves main arrivals (get_or (token_words (tokens s)) k []) x
  compiled-has k h x =
      let e : 2 * k + 0 ≡ 2 * k = omega arith in
      slot-either main arrivals row'.ranges k x
      ∙ ap₂ ◌||◌ (rw e at ((c.stand k h 0 (omega arith)).have x)) (second-has k h x)

  pub compiled-slots : (rule : Rule) → Keeps rule → (t : Tree) (n : ℕ) → parsed rule s ≡ parses t n →
      (slots ≡ length (tree_words t)) × TreeSlots (having main arrivals row') (halves_have halves main arrivals) t
  compiled-slots rule keeps t n e =
      let w = (accepted-words rule keeps s t n e).0 in (
        c.count ∙ ap length w,
        λ i h x. rw w at (compiled-has i (omega (arith, c.count, ap length w)) x),
      )

  pub compiled-read : Sound main → Sound arrivals → ReadBy main arrivals row'
  compiled-read main-sound arrivals-sound = record { main-sound = main-sound; arrivals-sound = arrivals-sound; ranges = ranges }
    where
      ranges : (k half : ℕ) → half < 2 → EntriesIn (half_of main arrivals half) (entries_at row'.ranges (2 * k + half))
      ranges k half h =
          leb-cases halves half (λ g. rw (none-behind k half g h) (none-among (half_of main arrivals half)))
          (λ g. leb-cases slots k
          (λ l. rw (c.stay (2 * k + half) (λ i other f u q. omega arith), blank (2 * k + half)) (none-among (half_of main arrivals half)))
          (λ l. (c.stand k l half g).among))
