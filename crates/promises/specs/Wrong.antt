-- Reference 11: what an implementation of a call is, when it meets the promise, and the kinds of which none does.
use Rattle.std.specs.Prelude.{Result, Ok, Err, Option, None, Some}
use Rattle.list.specs.declared.answer.Tally.{Tally}
use Rattle.list.specs.declared.probe.Probe.{Probe}
use Rattle.std.specs.Prelude.{ℕ, ◌+◌, ◌≡◌, Bool, true, false, cond, List, [], ◌∷◌, eqb, get_or, take}
use Rattle.refusal.specs.declared.Refusal.{Refusal}
use Rattle.refusal.specs.Refusal.{number_of, value_of}
use Rattle.convert.specs.Convert.{ToIntervals, ToNumbers}
use Rattle.index.specs.Part.{Slice}
use Rattle.directory.specs.Entry.{lookup_of, entry_check, entry_word, probe_of}
use Rattle.join.specs.Join.{Joins}
use Rattle.question.specs.Token.{run, tokens}
use Rattle.question.specs.Reading.{verdict_of}
use Rattle.question.specs.Limits.{token_words}
use Rattle.source.specs.Ask.{Asks}
use Rattle.build.specs.Build.{Builds}

-- ---- implementations: Reference 7

-- Reference 7: of a call that writes, from the arguments and what is lent to the return and what is lent afterwards
abbrev pub Writer : Type 0 → Type 0 → Type 0
Writer A R = A → List ℕ → R × List ℕ

-- Reference 11: which return and which cells or bytes afterwards a contract allows
abbrev pub Promise : Type 0 → Type 0 → Type 1
Promise A R = A → List ℕ → List ℕ → R → Type 0

abbrev pub Meets : {A R : Type 0} → Promise A R → Writer A R → Type 0
Meets {A} promise f = (a : A) (out : List ℕ) → promise a out (f a out).1 (f a out).0

-- Reference 7: of a call that writes nothing, which meets its promise where it returns what the definition says
abbrev pub Equals : {A R : Type 0} → (A → R) → (A → R) → Type 0
Equals {A} value f = (a : A) → f a ≡ value a

-- Reference 11: no implementation of a kind meets the promise
abbrev pub Fails : {A R : Type 0} → Promise A R → (Writer A R → Type 0) → Type 0
Fails {A} {R} promise wrong = (f : Writer A R) → wrong f → Meets promise f → ⊥

abbrev pub FailsToBe : {A R : Type 0} → (A → R) → ((A → R) → Type 0) → Type 0
FailsToBe {A} {R} value wrong = (f : A → R) → wrong f → Equals value f → ⊥

-- ---- the promises, each from its arguments: Reference 8

abbrev pub to_intervals : Promise (List ℕ) (Result ℕ Refusal)
to_intervals xs out out' r = ToIntervals xs out out' r

abbrev pub to_numbers : Promise (List ℕ) (Result ℕ Refusal)
to_numbers c out out' r = ToNumbers c out out' r

-- Reference 8.5: an index, and entries of it
abbrev pub joins : (List (List ℕ) → List ℕ) → Promise (List ℕ × List ℕ) (Result Tally Refusal)
joins method a out out' r = Joins method a.0 a.1 out out' r

-- Reference 8.6: an index, a rule's number, and a question
abbrev pub asks : Promise (List ℕ × ℕ × List ℕ) (Result Tally Refusal)
asks a out out' r = Asks a.1 a.0 a.2 out out' r

-- Reference 8.10: a rule's number, and a question
abbrev pub reads : ℕ × List ℕ → Result ℕ Refusal
reads a = verdict_of a.0 a.1

-- Reference 8.9: N, the words, the counts and the numbers
abbrev pub builds : Promise (ℕ × List ℕ × List ℕ × List ℕ) (Result ℕ Refusal)
builds a out out' r = Builds a.0 a.1 a.2 a.3 out out' r

abbrev pub lookup : List ℕ × List ℕ → Result ℕ Refusal
lookup a = lookup_of a.0 a.1

abbrev pub entry : List ℕ × ℕ → Result Unit Refusal
entry a = entry_check a.0 a.1

abbrev pub word : Slice × ℕ → Slice
word a = entry_word a.0 a.1

abbrev pub probe : List ℕ × ℕ × ℕ × ℕ → Result Probe Refusal
probe a = probe_of a.0 a.1 a.2 a.3

-- ---- the kinds: Reference 11

-- Reference 7: what is asked is answered, with no refusal
abbrev pub Accepts : {A R : Type 0} → (R → Bool) → Writer A R → A → List ℕ → Type 0
Accepts refused f a out = refused (f a out).0 ≡ false

-- Reference 11: whatever is asked, some refusal is returned
abbrev pub Refusing : {A R : Type 0} → (R → Bool) → Writer A R → Type 0
Refusing {A} refused f = (a : A) (out : List ℕ) → refused (f a out).0 ≡ true

abbrev pub RefusingAll : {A R : Type 0} → (R → Bool) → (A → R) → Type 0
RefusingAll {A} refused f = (a : A) → refused (f a) ≡ true

-- Reference 11: any two requests that are accepted leave the same cells
abbrev pub Fixed : {A R : Type 0} → (R → Bool) → Writer A R → Type 0
Fixed {A} refused f = (a b : A) (out : List ℕ) → Accepts refused f a out → Accepts refused f b out → (f a out).1 ≡ (f b out).1

-- Reference 11: a request that is accepted leaves the cells as they were
abbrev pub Silent : {A R : Type 0} → (R → Bool) → Writer A R → Type 0
Silent {A} refused f = (a : A) (out : List ℕ) → Accepts refused f a out → (f a out).1 ≡ out

-- Reference 11: a request that is accepted leaves what it leaves for the first list or word alone, if that is accepted too
abbrev pub FirstOnly : {A R : Type 0} → (R → Bool) → (A → A) → Writer A R → Type 0
FirstOnly {A} refused first f =
    (a : A) (out : List ℕ) → Accepts refused f a out → Accepts refused f (first a) out → (f a out).1 ≡ (f (first a) out).1

-- Reference 6.3: one rule for both numbers, so that it does not matter which is asked for
abbrev pub RuleBlind : {R : Type 0} → Writer (List ℕ × ℕ × List ℕ) R → Type 0
RuleBlind f = (index question out : List ℕ) → f (index, 1, question) out ≡ f (index, 2, question) out

-- Reference 11: wherever it reports the number, it is the same
abbrev pub Inventing : {A R : Type 0} → (R → Option ℕ) → Writer A R → Type 0
Inventing {A} number f = (a b : A) (out : List ℕ) (m n : ℕ) → number (f a out).0 ≡ Some m → number (f b out).0 ≡ Some n → m ≡ n

abbrev pub InventingAll : {A R : Type 0} → (R → Option ℕ) → (A → R) → Type 0
InventingAll {A} number f = (a b : A) (m n : ℕ) → number (f a) ≡ Some m → number (f b) ≡ Some n → m ≡ n

-- Reference 11: or somewhere it does not report the number that is promised
pub record Misreporting {A R : Type 0} (promise : Promise A R) (number : R → Option ℕ) (f : Writer A R) : Type 0 where
  pub asked : A
  pub lent : List ℕ
  pub after : List ℕ
  pub answer : R
  pub promised : promise asked lent after answer
  pub other : number (f asked lent).0 ≡ number answer → ⊥

-- ---- what is a refusal: Reference 7

abbrev pub written_refused : Result ℕ Refusal → Bool
written_refused (Ok n) = false
written_refused (Err r) = true

abbrev pub answer_refused : Result Tally Refusal → Bool
answer_refused (Ok t) = false
answer_refused (Err r) = true

abbrev pub check_refused : Result Unit Refusal → Bool
check_refused (Ok tt) = false
check_refused (Err r) = true

abbrev pub lookup_refused : Result ℕ Refusal → Bool
lookup_refused (Ok i) = false
lookup_refused (Err r) = true

-- Reference 8.3: a word has a byte, so that an empty part is a refusal
abbrev pub word_refused : List ℕ → Bool
word_refused [] = true
word_refused (b ∷ bs) = false

abbrev pub part_refused : Slice → Bool
part_refused part = word_refused part.bytes

abbrev pub probe_refused : Result Probe Refusal → Bool
probe_refused (Ok p) = false
probe_refused (Err r) = true

abbrev pub verdict_refused : Result ℕ Refusal → Bool
verdict_refused (Ok k) = false
verdict_refused (Err r) = true

-- ---- the first alone: Reference 11

abbrev pub first_entry : List ℕ × List ℕ → List ℕ × List ℕ
first_entry a = (a.0, take 1 a.1)

abbrev pub first_of : List (List ℕ) → List ℕ
first_of [] = []
first_of (w ∷ ws) = w

-- Reference 6.1: the question's first word, at whatever depth; the empty question where it has none
abbrev pub first_word : List ℕ × ℕ × List ℕ → List ℕ × ℕ × List ℕ
first_word a = (a.0, a.1, first_of (token_words (tokens a.2)))

-- Reference 8.9: the first word with its byte 10, its count, and its numbers
abbrev pub first_built : ℕ × List ℕ × List ℕ × List ℕ → ℕ × List ℕ × List ℕ × List ℕ
first_built a = (a.0, take (run a.1 + 1) a.1, take 1 a.2, take (get_or a.2 0 0) a.3)

-- ---- the numbers that a call reports, where it reports them: Reference 7

abbrev pub intervals_in : Result Tally Refusal → Option ℕ
intervals_in (Ok t) = Some t.intervals
intervals_in (Err r) = None

abbrev pub records_in : Result Tally Refusal → Option ℕ
records_in (Ok t) = Some t.records
records_in (Err r) = None

-- Reference 9.1: the value of row k
abbrev pub value_by : ℕ → Refusal → Option ℕ
value_by k r = cond (eqb (number_of r) k) (Some (value_of r)) None

-- Reference 9.1, row 12: the room that is needed
abbrev pub needed_in : Result Tally Refusal → Option ℕ
needed_in (Ok t) = None
needed_in (Err r) = value_by 12 r

-- Reference 7: how many were written, intervals, numbers or bytes
abbrev pub written_in : Result ℕ Refusal → Option ℕ
written_in (Ok n) = Some n
written_in (Err r) = None

abbrev pub needed_by : Result ℕ Refusal → Option ℕ
needed_by (Ok n) = None
needed_by (Err r) = value_by 12 r

-- Reference 9.1, row 21: how many words stand before bytes that are no entry's word
abbrev pub place_in : Result ℕ Refusal → Option ℕ
place_in (Ok i) = None
place_in (Err r) = value_by 21 r

-- Reference 3.3: the intervals that lie below a probed range, and those that overlap it
abbrev pub below_in : Result Probe Refusal → Option ℕ
below_in (Ok p) = Some p.below
below_in (Err r) = None

abbrev pub overlapping_in : Result Probe Refusal → Option ℕ
overlapping_in (Ok p) = Some p.overlapping
overlapping_in (Err r) = None
