-- An entry of a sound index: its list is kept, and has an interval for each single and for each pair.
use Prim.Native.Nat.{ℕ, ◌+◌, ◌-◌, ◌*◌, ◌/◌, ◌≤◌}
use native.Mathlib.Omega.{arith}
use mathlib.Core.Path.{◌≡◌, sym, ◌∙◌}
use mathlib.Core.List.{List}
use lib.ListN.{length}
use Rattle.limits.specs.Limits.{record_max}
use Rattle.list.specs.declared.Kept.{Kept}
use Rattle.list.specs.Interval.{intervals}
use Rattle.list.specs.Reading.{KeptIn, list_in}
use Rattle.list.proofs.CellLaws.{numbers_in-length}
use Rattle.list.proofs.WalkLaws.{walked-length}
use Rattle.list.proofs.KeptLaws.{kept-facts, kept-weaker}
use Rattle.index.specs.declared.entry.Entry.{Entry}
use Rattle.index.specs.Format.{highest, list_start, part, single_count, pair_count, singles_of, lower_of, upper_of, list_of, entry_singles, entry_lowers, entry_uppers}
use Rattle.index.specs.Read.{EntryCells}
use Rattle.index.proofs.SoundLaws.{sound-trailer, sound-length, sound-list, sound-list-room, singles-length, lower-length, upper-length}
use Rattle.directory.specs.declared.parts.Regions.{Regions}
use Rattle.directory.specs.Regions.{EntryIn, singles_in, lower_in, upper_in, RegionsOf, KeptOf}

module _ {index : List ℕ} {i : ℕ} (e : EntryIn index i) where
  -- each list of a sound index is kept within the largest record
  pub list-kept : KeptIn record_max (singles_of index i) (lower_of index i) (upper_of index i)
  list-kept =
      kept-weaker (highest index) record_max (entry_singles index i) (entry_lowers index i) (entry_uppers index i)
      (sound-trailer index e.sound).highest-bound (sound-list index e.sound i e.below)

  -- one interval for each single and for each pair
  pub entry-walked : intervals (list_of index i) ≡ length (entry_singles index i) + length (entry_lowers index i)
  unfolding list_of
  entry-walked =
      let S = entry_singles index i in
      let L = entry_lowers index i in
      let U = entry_uppers index i in
      let w = walked-length S L U (kept-facts record_max S L U list-kept).long in
      omega arith

  pub entry-intervals : intervals (list_of index i) ≡ length (singles_of index i) / 4 + length (lower_of index i) / 4
  entry-intervals = let w = entry-walked in omega (arith, numbers_in-length (singles_of index i), numbers_in-length (lower_of index i))

  -- as the entry counts them
  pub entry-counted : intervals (list_of index i) ≡ single_count index i + pair_count index i
  entry-counted =
      let w = entry-intervals in omega (arith, singles-length index e.sound i e.below, lower-length index e.sound i e.below)

  -- four bytes an interval at least
  pub entry-few : intervals (list_of index i) ≤ 4194304
  entry-few = let w = entry-counted in let l = (sound-length index e.sound).1 in omega (arith, sound-list-room index e.sound i e.below)

-- ---- the regions between their marks

between : (bytes : List ℕ) (a b start size : ℕ) → a ≡ start → b ≡ a + size → part a (b - a) bytes ≡ part start size bytes
between bytes a b start size e f = let g : b - a ≡ size = omega arith in rw (g, e)

-- the marks that an entry's cells give
pub marks-regions : {index : List ℕ} {i : ℕ} (r : Regions) {c : Entry} → EntryIn index i → EntryCells index i c →
    r.s ≡ c.list_start → r.l ≡ r.s + 4 * c.singles → r.u ≡ r.l + 4 * c.pairs → r.end ≡ r.u + 4 * c.pairs →
    RegionsOf index i r
unfolding singles_of lower_of upper_of
marks-regions {index} {i} r {c} e is s l u n =
    let a = list_start index i in
    let k = 4 * single_count index i in
    let m = 4 * pair_count index i in
    let room = sound-list-room index e.sound i e.below in
    let kept = kept-facts record_max (entry_singles index i) (entry_lowers index i) (entry_uppers index i) (list-kept e) in
    let S : singles_in index r ≡ singles_of index i = between index r.s r.l a k (omega arith) (omega arith) in
    let L : lower_in index r ≡ lower_of index i = between index r.l r.u (a + k) m (omega arith) (omega arith) in
    let U : upper_in index r ≡ upper_of index i = between index r.u r.end (a + k + m) m (omega arith) (omega arith) in
    record {
      singles-first = omega arith;
      lower-next = omega arith;
      upper-last = omega arith;
      within = omega arith;
      singles = S;
      lower = L;
      upper = U;
      paired = rw (L, U) (lower-length index e.sound i e.below ∙ sym (upper-length index e.sound i e.below));
      kept = rw (S, L, U) (list-kept e);
      singles-ascend = rw S kept.singles-ascend;
      upper-ascend = rw U kept.upper-ascend;
    }

-- the list that the regions hold is the entry's
pub regions-list : {index : List ℕ} {i : ℕ} {r : Regions} → RegionsOf index i r →
    list_in (singles_in index r) (lower_in index r) (upper_in index r) ≡ list_of index i
unfolding list_of
regions-list g = rw (g.singles, g.lower, g.upper)

-- and so is that of a kept list in memory
pub kept-list : {index : List ℕ} {i : ℕ} {k : Kept} → KeptOf index i k → list_in k.singles.now k.lower.now k.upper.now ≡ list_of index i
unfolding list_of
kept-list g = rw (g.singles, g.lower, g.upper)
