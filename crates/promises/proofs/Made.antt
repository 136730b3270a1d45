-- No kind is empty, and none is narrower than its words: whatever implementation is made wrong in a way is then of that kind.
use Rattle.std.specs.Prelude.{Result, Ok, Err, Option, None, Some}
use Rattle.list.specs.declared.answer.Tally.{Tally}
use Rattle.list.specs.declared.probe.Probe.{Probe}
use Prim.Native.Nat.{ℕ}
use mathlib.Core.Path.{◌≡◌, refl, sym, ap, ◌∙◌}
use mathlib.Core.Bool.{Bool, true, false}
use mathlib.Core.List.{List}
use lib.Dec.{eqb}
use Rattle.laws.proofs.Tests.{true-false}
use borrow.Author.Tests.{eq-eqb}
use Rattle.refusal.specs.declared.Refusal.{Refusal}
use Rattle.refusal.specs.declared.Refusal.TheVariants.{Room, NoWord}
use Rattle.refusal.specs.Refusal.{number_of}
use Rattle.promises.specs.Numbers.{carries, RowRight}
use Rattle.promises.specs.Wrong.{Writer, Promise, Meets, Equals, Fails, FailsToBe, Accepts, Refusing, RefusingAll, Fixed, Silent, FirstOnly}
use Rattle.promises.specs.Wrong.{Inventing, InventingAll, Misreporting, intervals_in, records_in, value_by, needed_in, written_in, needed_by}
use Rattle.promises.specs.Wrong.{place_in, below_in, overlapping_in}
use Rattle.promises.specs.Made.{leaving, returning, with_intervals, with_records, with_value, with_needed, with_written, with_needed_by, WrongWays}
use Rattle.promises.specs.Made.{WrongFirst, WrongCounts, WrongWritten, with_place, with_below, with_overlapping, WrongRefusal, WrongPlace, WrongProbe}

-- ---- what `Meets` and `Fails` say: some implementation meets a promise, and then not all fail it

pub not-all-fail : {A R : Type 0} (promise : Promise A R) (f : Writer A R) → Meets promise f → Fails promise (λ g. Unit {0}) → ⊥
not-all-fail promise f m none-meets = none-meets f tt m

pub value-is : {A R : Type 0} (value : A → R) → Equals value value
value-is value a = refl

pub not-all-fail-to-be : {A R : Type 0} (value : A → R) → FailsToBe value (λ g. Unit {0}) → ⊥
not-all-fail-to-be value none_is = none_is value tt (value-is value)

-- ---- the kinds

module _ {A R : Type 0} (refused : R → Bool) (f : Writer A R) where
  -- where `f` refuses, nothing changes; where it accepts, the cells are the other ones
  pub leaving-refused : (left : A → List ℕ → List ℕ) (a : A) (out : List ℕ) → refused (f a out).0 ≡ true → leaving refused left f a out ≡ f a out
  leaving-refused left a out e = rw e

  pub leaving-accepted : (left : A → List ℕ → List ℕ) (a : A) (out : List ℕ) → Accepts refused f a out → (leaving refused left f a out).1 ≡ left a out
  leaving-accepted left a out e = rw e

  pub refusing-kind : (refusal : A → List ℕ → R) → ((a : A) (out : List ℕ) → refused (refusal a out) ≡ true) →
      Refusing refused (returning (λ a out r. refusal a out) f)
  refusing-kind refusal e a out = e a out

  pub fixed-kind : (cells : List ℕ → List ℕ) → Fixed refused (leaving refused (λ a out. cells out) f)
  fixed-kind cells a b out p q = leaving-accepted (λ a out. cells out) a out p ∙ sym (leaving-accepted (λ a out. cells out) b out q)

  pub silent-kind : Silent refused (leaving refused (λ a out. out) f)
  silent-kind a out p = leaving-accepted (λ a out. out) a out p

  -- the first of the first alone is the first alone
  pub first_kind : (first : A → A) → ((a : A) → first (first a) ≡ first a) → FirstOnly refused first (leaving refused (λ a out. (f (first a) out).1) f)
  first_kind first twice a out p q =
      let left : A → List ℕ → List ℕ = λ a out. (f (first a) out).1 in
      leaving-accepted left a out p ∙ sym (ap (λ b. (f b out).1) (twice a)) ∙ sym (leaving-accepted left (first a) out q)

pub inventing-kind : {A R : Type 0} (f : Writer A R) (number : R → Option ℕ) (change : ℕ → R → R) →
    ((n : ℕ) (r : R) (m : ℕ) → number (change n r) ≡ Some m → m ≡ n) →
    (n : List ℕ → ℕ) → Inventing number (returning (λ a out. change (n out)) f)
inventing-kind f number change same n a b out i j p q = same (n out) (f a out).0 i p ∙ sym (same (n out) (f b out).0 j q)

pub misreporting-kind : {A R : Type 0} {promise : Promise A R} (f : Writer A R) → Meets promise f →
    (number : R → Option ℕ) (change : A → List ℕ → R → R) (a : A) (out : List ℕ) →
    (number (change a out (f a out).0) ≡ number (f a out).0 → ⊥) → Misreporting promise number (returning change f)
misreporting-kind f m number change a out differ =
    record { asked = a; lent = out; after = (f a out).1; answer = (f a out).0; promised = m a out; other = differ }

-- a call that writes nothing
pub refusing-all-kind : {A R : Type 0} (refused : R → Bool) (refusal : A → R) → ((a : A) → refused (refusal a) ≡ true) → RefusingAll refused refusal
refusing-all-kind refused refusal e = e

pub inventing-all-kind : {A R : Type 0} (f : A → R) (number : R → Option ℕ) (change : ℕ → R → R) →
    ((n : ℕ) (r : R) (m : ℕ) → number (change n r) ≡ Some m → m ≡ n) →
    (n : ℕ) → InventingAll number (λ a. change n (f a))
inventing-all-kind f number change same n a b i j p q = same n (f a) i p ∙ sym (same n (f b) j q)

-- ---- one number, wherever it is reported

abbrev told : Option ℕ → ℕ
told None = 0
told (Some n) = n

abbrev is_told : Option ℕ → Bool
is_told None = false
is_told (Some n) = true

pub some_is : (m n : ℕ) → Some m ≡ Some n → m ≡ n
some_is m n e = ap told e

untold : {A : Type 0} (m : ℕ) → None ≡ Some m → A
untold m e = true-false (sym (ap is_told e))

one-intervals : (n : ℕ) (r : Result Tally Refusal) (m : ℕ) → intervals_in (with_intervals n r) ≡ Some m → m ≡ n
one-intervals n (Ok t) m e = sym (some_is n m e)
one-intervals n (Err r) m e = untold m e

one-records : (n : ℕ) (r : Result Tally Refusal) (m : ℕ) → records_in (with_records n r) ≡ Some m → m ≡ n
one-records n (Ok t) m e = sym (some_is n m e)
one-records n (Err r) m e = untold m e

one_value : (k : ℕ) (row : ℕ → Refusal) → RowRight (carries k row) → (n : ℕ) (r : Refusal) (m : ℕ) → value_by k (with_value k row n r) ≡ Some m → m ≡ n
one_value k row right n r m = go (eqb (number_of r) k) refl
  where
    go : (t : Bool) → eqb (number_of r) k ≡ t → value_by k (with_value k row n r) ≡ Some m → m ≡ n
    go true e h =
        let made : value_by k (row n) ≡ Some m = rw e at h in
        sym (some_is n m (rw ((right n).0, (right n).1, eq-eqb k k refl) at made))
    go false e h =
        let kept : value_by k r ≡ Some m = rw e at h in
        untold m (rw e at kept)

one-needed : (n : ℕ) (r : Result Tally Refusal) (m : ℕ) → needed_in (with_needed n r) ≡ Some m → m ≡ n
one-needed n (Ok t) m e = untold m e
one-needed n (Err r) m e = one_value 12 Room (λ v. (refl, refl)) n r m e

one_written : (n : ℕ) (r : Result ℕ Refusal) (m : ℕ) → written_in (with_written n r) ≡ Some m → m ≡ n
one_written n (Ok k) m e = sym (some_is n m e)
one_written n (Err r) m e = untold m e

one-needed-by : (n : ℕ) (r : Result ℕ Refusal) (m : ℕ) → needed_by (with_needed_by n r) ≡ Some m → m ≡ n
one-needed-by n (Ok k) m e = untold m e
one-needed-by n (Err r) m e = one_value 12 Room (λ v. (refl, refl)) n r m e

one_place : (n : ℕ) (r : Result ℕ Refusal) (m : ℕ) → place_in (with_place n r) ≡ Some m → m ≡ n
one_place n (Ok i) m e = untold m e
one_place n (Err r) m e = one_value 21 NoWord (λ v. (refl, refl)) n r m e

one_below : (n : ℕ) (r : Result Probe Refusal) (m : ℕ) → below_in (with_below n r) ≡ Some m → m ≡ n
one_below n (Ok p) m e = sym (some_is n m e)
one_below n (Err r) m e = untold m e

one-overlapping : (n : ℕ) (r : Result Probe Refusal) (m : ℕ) → overlapping_in (with_overlapping n r) ≡ Some m → m ≡ n
one-overlapping n (Ok p) m e = sym (some_is n m e)
one-overlapping n (Err r) m e = untold m e

-- ---- what the theorems of a promise say of them

module _ {A R : Type 0} (promise : Promise A R) (refused : R → Bool) (f : Writer A R) where
  pub wrong-ways : Meets promise f → Fails promise (Refusing refused) → Fails promise (Fixed refused) → Fails promise (Silent refused) →
      ((number : R → Option ℕ) → Fails promise (Misreporting promise number)) → WrongWays promise refused f
  wrong-ways m refusing fixed silent misreporting =
      record {
        meets = m;
        refusing = λ refusal e. refusing (returning (λ a out r. refusal a out) f) (refusing-kind refused f refusal e);
        fixed = λ cells. fixed (leaving refused (λ a out. cells out) f) (fixed-kind refused f cells);
        silent = silent (leaving refused (λ a out. out) f) (silent-kind refused f);
        misreporting = λ number change a out differ. misreporting number (returning change f) (misreporting-kind f m number change a out differ);
      }

  pub wrong_first : (first : A → A) → ((a : A) → first (first a) ≡ first a) → Fails promise (FirstOnly refused first) → WrongFirst promise refused first f
  wrong_first first twice fails = fails (leaving refused (λ a out. (f (first a) out).1) f) (first_kind refused f first twice)

pub wrong-counts : {A : Type 0} {promise : Promise A (Result Tally Refusal)} (f : Writer A (Result Tally Refusal)) → Fails promise (Inventing intervals_in) →
    Fails promise (Inventing records_in) →
    Fails promise (Inventing needed_in) → WrongCounts promise f
wrong-counts f intervals records room =
    record {
      intervals = λ n. intervals (returning (λ a out. with_intervals (n out)) f) (inventing-kind f intervals_in with_intervals one-intervals n);
      records = λ n. records (returning (λ a out. with_records (n out)) f) (inventing-kind f records_in with_records one-records n);
      room = λ n. room (returning (λ a out. with_needed (n out)) f) (inventing-kind f needed_in with_needed one-needed n);
    }

pub wrong-written : {A : Type 0} {promise : Promise A (Result ℕ Refusal)} (f : Writer A (Result ℕ Refusal)) → Fails promise (Inventing written_in) →
    Fails promise (Inventing needed_by) →
    WrongWritten promise f
wrong-written f count room =
    record {
      written = λ n. count (returning (λ a out. with_written (n out)) f) (inventing-kind f written_in with_written one_written n);
      room = λ n. room (returning (λ a out. with_needed_by (n out)) f) (inventing-kind f needed_by with_needed_by one-needed-by n);
    }

pub wrong-refusal : {A R : Type 0} (value : A → R) (refused : R → Bool) → FailsToBe value (RefusingAll refused) → WrongRefusal value refused
wrong-refusal value refused fails refusal e = fails refusal (refusing-all-kind refused refusal e)

pub wrong-place : {A : Type 0} (value : A → Result ℕ Refusal) → FailsToBe value (InventingAll place_in) → WrongPlace value
wrong-place value place n = place (λ a. with_place n (value a)) (inventing-all-kind value place_in with_place one_place n)

pub wrong-probe : {A : Type 0} (value : A → Result Probe Refusal) → FailsToBe value (InventingAll below_in) → FailsToBe value (InventingAll overlapping_in) → WrongProbe value
wrong-probe value below overlapping =
    record {
      below = λ n. below (λ a. with_below n (value a)) (inventing-all-kind value below_in with_below one_below n);
      overlapping = λ n. overlapping (λ a. with_overlapping n (value a)) (inventing-all-kind value overlapping_in with_overlapping one-overlapping n);
    }
