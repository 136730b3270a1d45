-- What is lent to a build and is good: what the check's answer is, and what it says of the words, counts and numbers.
use Rattle.std.specs.Prelude.{Option, Some, None, Result, Ok, Err}
use mathlib.Core.Path.{◌≡◌, refl, sym, ap, ◌∙◌}
use Prim.Native.Nat.{ℕ, ◌+◌, ◌-◌, ◌*◌, ◌≤◌, ◌<◌}
use native.Mathlib.Omega.{arith}
use mathlib.Core.Bool.{false}
use mathlib.Core.List.{List, [], ◌∷◌}
use lib.Dec.{ltb}
use lib.ListN.{length, get_or}
use lib.Seq.{sets}
use borrow.Author.Tests.{lt-ltb, le-ltb, ltb-false, le-leb, lt-leb}
use Rattle.laws.proofs.Tests.{leb-cases}
use Rattle.limits.specs.Limits.{index_max, record_max, words_max}
use Rattle.refusal.specs.declared.Refusal.{Refusal}
use Rattle.refusal.specs.declared.Refusal.TheVariants.{BuildWord, BuildCount, BuildSize, Number, Room}
use Rattle.refusal.specs.First.{first}
use Rattle.refusal.proofs.FirstLaws.{first-none}
use Rattle.list.specs.Outcome.{refused}
use Rattle.list.proofs.RecordLaws.{Ascends}
use Rattle.list.specs.Front.{in_front}
use Rattle.convert.proofs.NumberLaws.{good-ascends, ascends-good}
use Rattle.index.specs.Format.{part}
use Rattle.index.proofs.CheckLaws.{not_good, cond-good, place_none}
use Rattle.layout.specs.declared.entry.Spots.{Spots}
use Rattle.build.specs.Lent.{lent_words, word_total, bad_lent, bad_count, bad_rest, sum_to, lists_from}
use Rattle.layout.specs.Layout.{cells_bytes, lists_bytes, words_bytes}
use Rattle.build.specs.Build.{bad_words, count_fault, bad_counts, bad_numbers, fault_then, lent_of, index_from, build_outcome, Builds}
use Rattle.build.specs.Passes.{words_answer, Fair, Lists, GoodLent, lent_entered, AllWithin}
use Rattle.build.proofs.LentLaws.{LentWord, lent-word, LentCount, lent-count, lent-rest, lists_length, lists_at}
use Rattle.build.proofs.CountLaws.{list-none, fair-count}
use Rattle.build.proofs.WordsLaws.{words-bytes-length}
use Rattle.build.proofs.IndexOfLaws.{index-length}
use Rattle.build.proofs.ListsLaws.{ascends-more, lists-limit, directory-limit}
use Rattle.build.proofs.EnterLaws.{index-written}

-- ---- the answers of the passes

pub words-bad : (f : Option ℕ) (n : ℕ) (r : Refusal) (c : Result Unit Refusal) → words_answer f n ≡ Err r → fault_then BuildWord f c ≡ Err r
words-bad (Some j) n r c e = cc
words-bad None n r c e = absurd (let z : ◌≡◌ {A = ℕ} 0 1 = cc in omega arith)

pub words-counted : (f : Option ℕ) (n k : ℕ) → words_answer f n ≡ Ok k → (f ≡ None) × (n ≡ k)
words-counted (Some j) n k e = absurd (let z : ◌≡◌ {A = ℕ} 0 1 = cc in omega arith)
words-counted None n k e = (refl, cc)

-- where no count is bad there are as many as words, and they take all numbers
pub fair-counts : (counts : List ℕ) (total words : ℕ) → count_fault counts total words ≡ None → (length counts ≡ words) × Fair counts total
fair-counts counts total words e =
    let p = place_none (first (bad_count counts total) words) (bad_rest counts total words) words e in
    let q : length counts ≡ words = leb-cases words (length counts) (λ h. omega (arith, (lent-rest counts total words p.1).0))
    (λ h. absurd (omega (arith, (lent-count counts total (length counts) (first-none (bad_count counts total) words p.0 (length counts) h)).within))) in
    (q, record { each = rw q p.0; all = rw q p.1 })

-- ---- the check's answer

module _ (n : ℕ) (words counts numbers : List ℕ) where
  pub refused-limit : record_max < n → lent_of n words counts numbers ≡ Err (BuildSize 0)
  unfolding lent_of
  refused-limit h = rw (lt-ltb record_max n h)

  module _ (h : n ≤ record_max) where
    pub refused-word : (k : ℕ) (r : Refusal) → words_answer (bad_words words) k ≡ Err r → lent_of n words counts numbers ≡ Err r
    unfolding lent_of
    refused-word k r e = rw (le-ltb record_max n h) (words-bad (bad_words words) k r _ e)

    module _ (e : bad_words words ≡ None) where
      pub refused-count : (i : ℕ) → bad_counts words counts numbers ≡ Some i → lent_of n words counts numbers ≡ Err (BuildCount i)
      unfolding lent_of
      refused-count i f = rw (le-ltb record_max n h, e, f)

      pub refused-number : bad_counts words counts numbers ≡ None → (i : ℕ) → bad_numbers n words counts numbers ≡ Some i →
          lent_of n words counts numbers ≡ Err (Number i)
      unfolding lent_of
      refused-number f i g = rw (le-ltb record_max n h, e, f, g)

      pub none-refused : bad_counts words counts numbers ≡ None → bad_numbers n words counts numbers ≡ None → lent_of n words counts numbers ≡ Ok tt
      unfolding lent_of
      none-refused f g = rw (le-ltb record_max n h, e, f, g)

  -- and what comes of the build by it
  pub refused-lent : (r : Refusal) (room : ℕ) → lent_of n words counts numbers ≡ Err r → build_outcome n words counts numbers room ≡ refused r
  unfolding build_outcome
  refused-lent r room e = rw e

-- ---- what is good

then-good : (refusal : ℕ → Refusal) (f : Option ℕ) (c : Result Unit Refusal) → fault_then refusal f c ≡ Ok tt → (f ≡ None) × (c ≡ Ok tt)
then-good refusal (Some i) c e = not_good (refusal i) e
then-good refusal None c e = (refl, e)

pub record EachGood (n : ℕ) (words counts numbers : List ℕ) : Type 0 where
  pub limit : n ≤ record_max
  pub word : (i : ℕ) → i < word_total words → LentWord (lent_words words) i
  pub count : (i : ℕ) → i < length counts → LentCount counts (length numbers) i
  pub as_many : length counts ≡ length (lent_words words)
  pub ascends : (i : ℕ) → i < length counts → Ascends n 0 (get_or (lists_from counts numbers) i [])
  pub lists : Lists counts numbers

pub each-good : {n : ℕ} {words counts numbers : List ℕ} → lent_of n words counts numbers ≡ Ok tt → EachGood n words counts numbers
unfolding lent_of
each-good {n} {words} {counts} {numbers} e =
    let k = length (lent_words words) in
    let total = length numbers in
    let a = cond-good (ltb record_max n) (BuildSize 0) _ e in
    let b = then-good BuildWord (bad_words words) _ a.1 in
    let c = then-good BuildCount (bad_counts words counts numbers) _ b.1 in
    let d = then-good Number (bad_numbers n words counts numbers) _ c.1 in
    let f = fair-counts counts total k c.0 in
    let limit = ltb-false record_max n a.0 in
    let list : ℕ → List ℕ = λ i. part (sum_to counts i) (get_or counts i 0) numbers in
    let none = rw (← f.0) at d.0 in
    let rises : (i : ℕ) → i < length counts → Ascends n 0 (list i) = λ i h.
    good-ascends n (list i) (list-none n counts numbers i h (fair-count f.1 i h).room none) in
    record {
      limit = limit;
      word = λ i h. lent-word (lent_words words) i (first-none (bad_lent (lent_words words)) (word_total words) b.0 i h);
      count = fair-count f.1;
      as_many = f.0;
      ascends = λ i h. rw (lists_at counts numbers i h) (rises i h);
      lists = record {
        room = λ i h. (fair-count f.1 i h).room;
        good = λ i h. ascends-good record_max (list i) (ascends-more n record_max 0 (list i) limit (rises i h));
      };
    }

module _ {n : ℕ} {words counts numbers : List ℕ} (is : EachGood n words counts numbers) where
  abbrev xss : List (List ℕ)
  xss = lists_from counts numbers

  lists-ascend : (i : ℕ) → i < length xss → Ascends n 0 (get_or xss i [])
  lists-ascend i h = is.ascends i (omega (arith, lists_length counts numbers))

  pub good-many : length xss ≡ length (lent_words words)
  good-many = lists_length counts numbers ∙ is.as_many

  pub good-word : (i : ℕ) → i < length (lent_words words) → LentWord (lent_words words) i
  unfolding word_total
  good-word i h = is.word i (omega arith)

  good-lists : lists_bytes n xss ≡ lists_bytes record_max xss
  good-lists = lists-limit n is.limit xss lists-ascend

pub lent-good : {n : ℕ} {words counts numbers : List ℕ} → lent_of n words counts numbers ≡ Ok tt → GoodLent n words counts numbers
lent-good {n} {words} {counts} {numbers} e =
    let is : EachGood n words counts numbers = each-good e in
    let m = is.as_many in
    -- the words' bytes, without the byte 10 of each
    let bytes : length (words_bytes (lent_words words)) + length counts ≡ length words = omega (arith, words-bytes-length words is.word) in
    record {
      good = e;
      few = leb-cases (length counts) words_max (λ h. h) (λ h. absurd (let w = (good-word is words_max (omega arith)).few in omega arith));
      as_many = sym m;
      lists = is.lists;
      bytes = bytes;
      size = omega (arith, index-length n (lent_words words) (lists_from counts numbers) (good-many is), ap length (good-lists is));
    }

-- ---- a build of what is good: the three outcomes, by the size of the index

module _ {n : ℕ} {words counts numbers : List ℕ} (is : GoodLent n words counts numbers) where
  abbrev index : List ℕ
  index = index_from n words counts numbers

  pub build-large : {out : List ℕ} → index_max < length index → Builds n words counts numbers out out (Err (BuildSize 1))
  unfolding build_outcome
  build-large h = let large = lt-ltb index_max (length index) h in record { answer = rw (is.good, large); bytes = rw (is.good, large) }

  module _ {size : ℕ} (e : length index ≡ size) (h : size ≤ index_max) where
    abbrev small : ltb index_max size ≡ false
    small = le-ltb index_max size h

    pub build-cramped : {out : List ℕ} → length out < size → Builds n words counts numbers out out (Err (Room size))
    unfolding build_outcome
    build-cramped {out} g =
        let cramped = lt-leb size (length out) g in
        record { answer = rw (is.good, e, small, cramped); bytes = rw (is.good, e, small, cramped) }

    pub build-wrote : {out out' : List ℕ} → size ≤ length out → out' ≡ in_front index out → Builds n words counts numbers out out' (Ok size)
    unfolding build_outcome
    build-wrote {out} g w =
        let fits = le-leb size (length out) g in
        record { answer = rw (is.good, e, small, fits); bytes = rw (is.good, e, small, fits) w }

  -- ---- where its parts belong, and that they make the index

  module _ {lists : ℕ} (l : lists ≡ length (lists_bytes record_max (lists_from counts numbers))) where
    abbrev pub first_spots : Spots
    first_spots = record { list = 0; word = lists; entry = lists + (length words - length counts) }

    pub good-within : {room : ℕ} → length index ≤ index_max → length index ≤ room → AllWithin first_spots (lent_words words) (lists_from counts numbers) room
    good-within h g =
        let s = is.size in
        let b = is.bytes in
        let m = is.as_many in
        record { lists = omega arith; words = omega arith; entries = omega arith; small = omega arith; as_many = good-many (each-good is.good) }

    pub good-written : (out : List ℕ) {o p : List ℕ} → length index ≤ length out → o ≡ lent_entered out first_spots words counts numbers →
        p ≡ sets o (lists + (length words - length counts) + 20 * length counts)
        (cells_bytes (lists ∷ (lists + (length words - length counts)) ∷ length counts ∷ n ∷ 1 ∷ [])) →
        p ≡ in_front index out
    good-written out h eo ep =
        let each : EachGood n words counts numbers = each-good is.good in
        let ws = lent_words words in
        let xss = lists_from counts numbers in
        let same = good-lists each in
        let w : lists ≡ length (lists_bytes n xss) = l ∙ sym (ap length same) in
        let d : lists + (length words - length counts) ≡ length (lists_bytes n xss) + length (words_bytes ws) = omega (arith, is.bytes) in
        ep
        ∙ rw (eo, d, each.as_many, w, ← same, ← directory-limit n each.limit (length (lists_bytes n xss)) 0 ws xss (lists-ascend each))
        (index-written n ws xss (good-many each) out h)
