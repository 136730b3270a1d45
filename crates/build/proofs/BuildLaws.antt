-- A build that is not refused: what it was lent makes an index, and the bytes it wrote are a sound one that reads back as what was lent.
use Rattle.std.specs.Prelude.{Result, Err, Ok}
use mathlib.Core.Path.{◌≡◌, refl, sym, ap, ◌∙◌}
use Prim.Native.Nat.{ℕ, ◌≤◌, ◌<◌}
use native.Mathlib.Omega.{arith}
use mathlib.Core.Bool.{Bool, true, false, cond}
use mathlib.Core.List.{List, []}
use lib.Dec.{leb, ltb}
use lib.ListN.{length, get_or, take, drop}
use lib.Seq.{take_at, drop_at}
use borrow.Author.Tests.{ltb-false}
use Rattle.limits.specs.Limits.{index_max}
use Rattle.refusal.specs.declared.Refusal.{Refusal}
use Rattle.refusal.specs.declared.Refusal.TheVariants.{BuildSize, Room}
use Rattle.list.specs.Front.{in_front}
use Rattle.list.specs.Outcome.{Outcome, writes, refused, left_by, written_of}
use Rattle.list.specs.Among.{among}
use Rattle.convert.proofs.NumberLaws.{ascends-good}
use Rattle.index.specs.Format.{word_count, highest, part, word_of, list_of}
use Rattle.index.specs.Sound.{Sound}
use Rattle.index.specs.Check.{check_of}
use Rattle.directory.specs.Has.{has}
use Rattle.index.proofs.SoundLaws.{part_length}
use Rattle.build.specs.Lent.{lent_words, sum_to, lists_from}
use Rattle.layout.specs.Layout.{cells_in}
use Rattle.build.specs.Build.{lent_of, size_outcome, after_lent, index_from, build_outcome, Builds}
use Rattle.build.specs.Passes.{GoodLent}
use Rattle.layout.specs.Layout.{Below}
use Rattle.build.specs.ReadsBack.{Indexable, records_for}
use Rattle.build.proofs.IndexOfLaws.{built-word-count, built-highest, built-word, built-list, built-sound, built-good, built-below}
use Rattle.build.proofs.ReadsBackLaws.{built-has, reads-back}
use Rattle.build.proofs.LentLaws.{lists_at}
use Rattle.build.proofs.GoodLaws.{EachGood, each-good, lent-good, good-word, good-many}

-- ---- what is written was not refused

never : {A : Type 0} (r : Refusal) (size : ℕ) → Err r ≡ Ok size → A
never r size e = absurd (let z : ◌≡◌ {A = ℕ} 0 1 = cc in omega arith)

size_step : (large fits : Bool) (index : List ℕ) (a size : ℕ) →
    written_of a (cond large (refused (BuildSize 1)) (cond fits (writes index) (refused (Room a)))) ≡ Ok size →
    (large ≡ false) × (fits ≡ true) × (a ≡ size)
size_step true fits index a size e = never (BuildSize 1) size e
size_step false true index a size e = (refl, refl, (cc))
size_step false false index a size e = never (Room a) size e

pub record Accepted (n : ℕ) (words counts numbers : List ℕ) (size : ℕ) : Type 0 where
  pub lent : GoodLent n words counts numbers
  pub small : length (index_from n words counts numbers) ≤ index_max
  pub is-size : length (index_from n words counts numbers) ≡ size

after-passed : (c : Result Unit Refusal) (next : Outcome) (a size : ℕ) → written_of a (after_lent c next) ≡ Ok size → (c ≡ Ok tt) × (written_of a next ≡ Ok size)
after-passed (Err r) next a size e = never r size e
after-passed (Ok u) next a size e = (refl, e)

module _ (n : ℕ) (words counts numbers : List ℕ) (room size : ℕ)
    (e : written_of (length (index_from n words counts numbers)) (build_outcome n words counts numbers room) ≡ Ok size) where
  abbrev asked : List ℕ
  asked = index_from n words counts numbers

  passed : (lent_of n words counts numbers ≡ Ok tt) × (written_of (length asked) (size_outcome asked room) ≡ Ok size)
  unfolding build_outcome
  passed = after-passed (lent_of n words counts numbers) (size_outcome asked room) (length asked) size e

  sized : (ltb index_max (length asked) ≡ false) × (leb (length asked) room ≡ true) × (length asked ≡ size)
  sized = size_step (ltb index_max (length asked)) (leb (length asked) room) asked (length asked) size passed.1

  accepted : Accepted n words counts numbers size
  accepted = record { lent = lent-good passed.0; small = ltb-false index_max (length asked) sized.0; is-size = sized.2 }

  -- the index that was asked for is written
  accepted-writes : build_outcome n words counts numbers room ≡ writes asked
  unfolding build_outcome
  accepted-writes = rw (passed.0, sized.0, sized.1)

-- ---- it makes an index

module _ {n : ℕ} {words counts numbers : List ℕ} {size : ℕ} (is : Accepted n words counts numbers size) where
  pub lent-list : (i : ℕ) → i < length (lent_words words) → get_or (lists_from counts numbers) i [] ≡ part (sum_to counts i) (get_or counts i 0) numbers
  lent-list i h = lists_at counts numbers i (omega (arith, is.lent.as_many))

  pub accepted-indexable : Indexable true n (lent_words words) (lists_from counts numbers)
  accepted-indexable =
      let good : EachGood n words counts numbers = each-good is.lent.good in
      let m = good.as_many in
      record {
        limit = good.limit;
        few = omega (arith, is.lent.few);
        as_many = good-many good;
        word = λ i h. (good-word good i h).word;
        order = λ i h. (good-word good i h).order;
        some = λ i h.
            let c = good.count i (omega arith) in
            rw (lent-list i h, part_length (sum_to counts i) (get_or counts i 0) numbers c.room) c.some;
        records = λ i h. ascends-good n (get_or (lists_from counts numbers) i []) (good.ascends i (omega arith));
        size = is.small;
      }

-- ---- the bytes that a build wrote

module _ {n : ℕ} {words counts numbers out out' : List ℕ} {size : ℕ} (done : Builds n words counts numbers out out' (Ok size)) where
  build-accepted : Accepted n words counts numbers size
  build-accepted = accepted n words counts numbers (length out) size (sym done.answer)

  indexable : Indexable true n (lent_words words) (lists_from counts numbers)
  indexable = accepted-indexable build-accepted

  abbrev index : List ℕ
  index = index_from n words counts numbers

  -- and behind it stands what was there
  pub build-out : out' ≡ in_front index out
  build-out = done.bytes ∙ ap (λ (o : Outcome). left_by o out) (accepted-writes n words counts numbers (length out) size (sym done.answer))

  pub build-bytes : take size out' ≡ index
  build-bytes = rw build-out (take_at index (drop (length index) out) size build-accepted.is-size)

  pub build-rest : drop size out' ≡ drop size out
  build-rest = rw build-out (drop_at index (drop (length index) out) size build-accepted.is-size ∙ ap (λ (m : ℕ). drop m out) build-accepted.is-size)

  pub build-sound : Sound (take size out')
  build-sound = rw build-bytes (built-sound indexable)

  pub build-good : check_of (take size out') ≡ Ok tt
  build-good = rw build-bytes (built-good indexable)

  pub build-highest : highest (take size out') ≡ n
  build-highest = rw build-bytes (built-highest indexable)

  pub build-word-count : word_count (take size out') ≡ length (lent_words words)
  build-word-count = rw build-bytes (built-word-count indexable)

  pub build-word : (i : ℕ) → i < length (lent_words words) → word_of (take size out') i ≡ get_or (lent_words words) i []
  build-word i h = rw build-bytes (built-word indexable i h)

  pub build-list : (i : ℕ) → i < length (lent_words words) → list_of (take size out') i ≡ cells_in n (get_or (lists_from counts numbers) i [])
  build-list i h = rw build-bytes (built-list indexable i h)

  -- Reference 8.9: of a word the index has just the records that were given for it
  pub build-has : (word : List ℕ) (x : ℕ) → has (take size out') word x ≡ among (records_for (lent_words words) (lists_from counts numbers) word) x
  build-has word x = rw build-bytes (reads-back indexable word x)

  -- word i has the numbers that its count takes
  pub build-has-word : (i x : ℕ) → i < length (lent_words words) →
      has (take size out') (get_or (lent_words words) i []) x ≡ among (part (sum_to counts i) (get_or counts i 0) numbers) x
  build-has-word i x h = rw build-bytes (built-has indexable i x h ∙ ap (λ (xs : List ℕ). among xs x) (lent-list build-accepted i h))

  pub build-below : Below 256 (take size out')
  build-below = rw build-bytes (built-below indexable)
