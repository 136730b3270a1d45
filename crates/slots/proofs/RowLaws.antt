-- Laws of the row: what slots have and are read by, where they stay.
use Prim.Native.Nat.{ℕ, zero, suc, ◌+◌, ◌*◌, ◌≤◌, ◌<◌}
use native.Mathlib.Omega.{arith}
use mathlib.Core.Path.{◌≡◌, refl, ap, ◌∙◌}
use mathlib.Core.List.{List}
use lib.ListN.{get_or, replicate}
use Rattle.laws.proofs.Tests.{leb-cases}
use Rattle.limits.specs.Limits.{words_max}
use Rattle.index.proofs.SoundLaws.{sound-trailer}
use Rattle.slots.specs.declared.row.Entries.{Entries}
use Rattle.slots.specs.declared.row.Row.{Row}
use Rattle.slots.specs.Having.{slot_has, having, EntriesIn, ReadBy}
use Rattle.slots.proofs.EntriesLaws.{mains_of, lists_of, IsList}
use Rattle.slots.specs.Row.{no_entries, entries_at, SlotsStay, HintsMoved}

-- ---- one after the other

pub stay-both : {a b c : Row} → SlotsStay a b → SlotsStay b c → SlotsStay a c
stay-both s t = record { slots = t.slots ∙ s.slots }

pub moved_none : (row : Row) → HintsMoved row row
moved_none row = record { stay = record { slots = refl }; senses = refl }

pub moved-both : {a b c : Row} → HintsMoved a b → HintsMoved b c → HintsMoved a c
moved-both s t = record { stay = stay-both s.stay t.stay; senses = t.senses ∙ s.senses }

-- a range of none is one of any index
pub none-among : (index : List ℕ) → EntriesIn index no_entries
none-among index = record { within = omega arith; marked = λ h. absurd (omega arith) }

-- a row of one thing has it at each place
pub all-at : {A : Type 0} (a : A) (n j : ℕ) → get_or (replicate n a) j a ≡ a
all-at a zero j = refl
all-at a (suc n) zero = refl
all-at a (suc n) (suc j) = all-at a n j

-- ---- what slots have and are read by, where they stay

pub stay-having : (main arrivals : List ℕ) {row row' : Row} → SlotsStay row row' → having main arrivals row' ≡ having main arrivals row
stay-having main arrivals s = ap (λ (ranges : List Entries). slot_has main arrivals ranges) s.slots

pub moved-having : (main arrivals : List ℕ) {row row' : Row} → HintsMoved row row' → having main arrivals row' ≡ having main arrivals row
moved-having main arrivals m = stay-having main arrivals m.stay

pub read_again : {main arrivals : List ℕ} {row row' : Row} → ReadBy main arrivals row → SlotsStay row row' → ReadBy main arrivals row'
read_again r s = record {
  main-sound = r.main-sound;
  arrivals-sound = r.arrivals-sound;
  ranges = λ k half h. rw s.slots (r.ranges k half h);
}

-- the two ranges of slot k
pub main-among : {main arrivals : List ℕ} {row : Row} → ReadBy main arrivals row → (k : ℕ) → EntriesIn main (entries_at row.ranges (2 * k))
main-among r k = let e : 2 * k + 0 ≡ 2 * k = omega arith in rw e at (r.ranges k 0 (omega arith))

pub arrivals-among : {main arrivals : List ℕ} {row : Row} → ReadBy main arrivals row → (k : ℕ) → EntriesIn arrivals (entries_at row.ranges (2 * k + 1))
arrivals-among r k = r.ranges k 1 (omega arith)

-- neither has more lists than its index has words
pub lists-few : {main arrivals : List ℕ} {row : Row} → ReadBy main arrivals row → (k : ℕ) →
    ((entries_at row.ranges (2 * k)).count ≤ words_max) × ((entries_at row.ranges (2 * k + 1)).count ≤ words_max)
lists-few {main} {arrivals} r k = (
  omega (arith, (main-among r k).within, (sound-trailer main r.main-sound).count-bound),
  omega (arith, (arrivals-among r k).within, (sound-trailer arrivals r.arrivals-sound).count-bound),
)

-- nor is the number of a list higher
pub list-few : {main arrivals : List ℕ} {row : Row} → ReadBy main arrivals row → (k n half m : ℕ) → IsList row.ranges k n half m → n < lists_of row.ranges k →
    m ≤ words_max
list-few {row = row} r k n half m is h =
    let few = lists-few r k in
    leb-cases (mains_of row.ranges k) n (λ g. omega (arith, (is.second g).1)) (λ g. omega (arith, (is.first g).1))
