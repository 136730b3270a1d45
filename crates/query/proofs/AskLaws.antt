-- Laws of the whole call: an accepted question made ready, and its answer by what the driver tallied.
use Prim.Native.Nat.{ℕ, ◌+◌, ◌-◌, ◌*◌, ◌≤◌}
use native.Mathlib.Nat.{sub-zero}
use native.Mathlib.Omega.{arith}
use mathlib.Core.Path.{◌≡◌, refl, sym, ap, ◌∙◌, subst}
use mathlib.Core.Bool.{Bool, or-false}
use mathlib.Core.List.{List, [], map, map-id}
use lib.ListN.{length, get_or, take}
use lib.Seq.{length-take-le}
use Rattle.list.specs.declared.answer.Tally.{Tally}
use Rattle.refusal.specs.declared.Refusal.{Refusal}
use Rattle.std.specs.Prelude.{Result}
use Rattle.list.specs.Stretches.{cells_of}
use Rattle.list.specs.Sweeps.{Listing, Sweeps}
use Rattle.list.proofs.StretchLaws.{cells_same}
use Rattle.directory.specs.Has.{has}
use Rattle.question.specs.Token.{tokens}
use Rattle.question.specs.Grammar.{Tree, Rule, from_left, tree_words}
use Rattle.question.specs.Rules.{and_first, rule_of}
use Rattle.question.specs.Meaning.{satisfies}
use Rattle.question.specs.Reading.{parses, parsed, asked}
use Rattle.question.proofs.ParsedLaws.{asked-accepts, accepted-within, asked-parsed}
use Rattle.question.proofs.RuleLaws.{rule-keeps, rule-second, rule-else}
use Rattle.question.proofs.DepthLaws.{deeper-reads}
use Rattle.source.specs.Source.{Source, satisfying, of_index}
use Rattle.source.proofs.SatisfyLaws.{satisfying-same}
use Rattle.codes.specs.declared.code.Code.{Code}
use Rattle.codes.specs.Code.{codes_of, word_codes}
use Rattle.codes.specs.Group.{grouped, grouped_brackets}
use Rattle.codes.specs.Grouping.{GroupsCodes}
use Rattle.codes.proofs.CodeLaws.{codes-words}
use Rattle.codes.proofs.GroupLaws.{GroupedAs, grouped-reads, grouped-same, grouped-words, grouped-token-words}
use Rattle.slots.specs.declared.row.Row.{Row}
use Rattle.slots.specs.Row.{Blank}
use Rattle.slots.specs.Having.{having, ReadBy}
use Rattle.slots.specs.Bound.{slots_intervals}
use Rattle.slots.specs.Compile.{WritesCodes, FillsSlots, halves_have, TreeSlots}
use Rattle.query.specs.Drive.{TreeOf, test_of, AskedBy, Ends}
use Rattle.query.specs.Prepared.{last_of, Halves, OfHalves, MadeReady, Prepared}
use Rattle.slots.proofs.WholeLaws.{slot-satisfies, compiled-slots, compiled-read}
use Rattle.slots.proofs.SlotBound.{slot-above, slots-bound}
use Rattle.index.proofs.SoundLaws.{sound-trailer}

-- ---- an accepted question made ready

module _ {halves : ℕ} {main arrivals s : List ℕ} {codes codes' : List Code} {row row' : Row} {n slots : ℕ}
    (c : WritesCodes (λ (code : Code). code) s codes codes' n × FillsSlots halves main arrivals s row row' slots) (over : Halves halves main arrivals)
    (rule : ℕ) (t : Tree) (k : ℕ) (is : asked rule s ≡ parses t k) where
  -- they are lent from the first on
  compiled-codes : take (n - 0) codes' ≡ codes_of (tokens s)
  compiled-codes = rw (sub-zero n) (c.0.coded ∙ map-id (codes_of (tokens s)))

  pub compiled-short : length codes ≡ 256 → length (take (n - 0) codes') ≤ 256
  compiled-short long = let w = c.0.within in let l = c.0.long in omega (arith, sub-zero n, length-take-le (n - 0) codes' (omega arith))

  accepted : parsed (rule_of rule) s ≡ parses t k
  accepted = (asked-parsed rule s t k is).1

  pub compiled-asked : Blank row.ranges → AskedBy (take (n - 0) codes') main arrivals row' slots
  compiled-asked blank = record {
    lent = compiled-read c.1 blank over.some over.both over.main-sound over.arrivals-sound;
    few = omega (arith, c.1.count, (accepted-within (rule_of rule) s t k accepted).words);
    all = c.1.count ∙ sym (codes-words (tokens s)) ∙ ap word_codes (sym compiled-codes);
  }

  pub compiled-ready : Blank row.ranges → (source : Source) → OfHalves halves main arrivals source →
      MadeReady source (rule_of rule) (take (n - 0) codes') (having main arrivals row') slots t
  compiled-ready blank source of =
      let slotted = compiled-slots c.1 blank over.some over.both (rule_of rule) (rule-keeps rule) t k accepted in
      record {
        reads =
            record {
              toks = tokens s;
              are = sym compiled-codes;
              fuel = 2 * length s + 2;
              words = k;
              reads = (asked-accepts (rule_of rule) s t k accepted).reads;
            };
        all = slotted.0;
        have = λ i h x. slotted.1 i h x ∙ sym (of.has (get_or (tree_words t) i []) x);
      }

-- ---- what it is asked of

-- there is such a source
pub halves-source : (halves : ℕ) (main arrivals : List ℕ) → (s : Source) × OfHalves halves main arrivals s
halves-source halves main arrivals =
    (record { has = halves_have halves main arrivals; highest = last_of main arrivals }, record { has = λ w x. refl; last = refl })

-- one index, lent as both
pub alone-halves : (index : List ℕ) → OfHalves 1 index index (of_index index)
alone-halves index = record { has = λ w x. sym (or-false (has index w x)); last = omega arith }

-- the rule of a number
module _ {s : Source} {rule : ℕ} {codes : List Code} {v : ℕ → ℕ → Bool} {slots : ℕ} {t : Tree} (m : MadeReady s (rule_of rule) codes v slots t) where
  pub ready-second : rule ≡ 2 → MadeReady s and_first codes v slots t
  ready-second e = subst (λ (by : Rule). MadeReady s by codes v slots t) (rule-second e) m

  pub ready-else : (rule ≡ 2 → ⊥) → MadeReady s from_left codes v slots t
  ready-else h = subst (λ (by : Rule). MadeReady s by codes v slots t) (rule-else h) m

-- ---- its list

-- by what the slots have or by what the source has of the words
test-cells : (s : Source) (v : ℕ → ℕ → Bool) {n : ℕ} (t : Tree) → s.highest ≡ n → ((x : ℕ) → test_of v t x ≡ satisfies s.has t x) →
    cells_of (test_of v t) n ≡ satisfying s t
unfolding satisfying
test-cells s v {n} t last same =
    ap (cells_of (test_of v t)) (sym last) ∙ cells_same (test_of v t) (satisfies s.has t) s.highest (λ x h g. same x)

module _ {s : Source} {codes : List Code} {v : ℕ → ℕ → Bool} {n most : ℕ} {t : Tree} (last : s.highest ≡ n) (prepared : Prepared s codes v most t) where
  -- a pass over the test's list is one over the answer
  pub prepared-swept : {writing : Bool} {out out' : List ℕ} {r : Tally} → Sweeps (cells_of (test_of v t) n) writing out out' r →
      Sweeps (satisfying s t) writing out out' r
  prepared-swept w = rw (test-cells s v t last prepared.same) at w

  pub prepared-length : length (cells_of (test_of v t) n) ≡ length (satisfying s t)
  prepared-length = ap length (test-cells s v t last prepared.same)

-- ---- prepared for the driver

-- the driver is given codes, each of which stands for itself
pub themselves : {codes : List Code} {t : Tree} → TreeOf codes t → TreeOf (map (λ (code : Code). code) codes) t
themselves {codes} reads = rw (map-id codes) reads

pub having-ends : {main arrivals : List ℕ} {row : Row} {n : ℕ} → ReadBy main arrivals row → last_of main arrivals ≡ n → Ends (having main arrivals row) n
having-ends {main} {arrivals} {row} {n} lent e = record {
  near = omega (arith, (sound-trailer main lent.main-sound).highest-bound, (sound-trailer arrivals lent.arrivals-sound).highest-bound);
  above = slot-above main arrivals row.ranges lent.main-sound lent.arrivals-sound n (omega arith) (omega arith);
}

module _ {s : Source} {main arrivals : List ℕ} {row : Row} {slots : ℕ} {t : Tree} (lent : ReadBy main arrivals row) (last : s.highest ≡ last_of main arrivals) where
  -- codes that from the left read as t, with slots for its words
  reads-prepared : {codes : List Code} → TreeOf codes t → slots ≡ length (tree_words t) → TreeSlots (having main arrivals row) s.has t →
      Prepared s codes (having main arrivals row) (slots_intervals main arrivals row.ranges 0 slots) t
  reads-prepared reads all have =
      let v = having main arrivals row in
      let same : (x : ℕ) → test_of v t x ≡ satisfies s.has t x = λ x. slot-satisfies v s.has t x (λ i h. have i h x) in
      record {
        reads = reads;
        same = same;
        bound =
            rw (← test-cells s v t last same, all)
            (slots-bound main arrivals row.ranges lent.main-sound lent.arrivals-sound (last_of main arrivals) (omega arith) (omega arith) t);
      }

  -- by the first rule, as they are
  pub plain-prepared : {codes : List Code} → MadeReady s from_left codes (having main arrivals row) slots t →
      Prepared s codes (having main arrivals row) (slots_intervals main arrivals row.ranges 0 slots) t
  plain-prepared m =
      let by = m.reads in
      reads-prepared
      (record {
        toks = by.toks;
        are = by.are;
        fuel = by.fuel;
        words = by.words;
        reads = deeper-reads from_left by.fuel 8 grouped_brackets 0 by.toks t [] by.words (omega arith) by.reads;
      })
      m.all m.have

-- by the second rule, with their groups in brackets
module _ {s : Source} {codes lent grouped' : List Code} {v : ℕ → ℕ → Bool} {slots n : ℕ} {t : Tree} (m : MadeReady s and_first codes v slots t)
    (g : GroupsCodes (λ (code : Code). code) codes lent grouped' n) where
  pub regrouped : GroupedAs m.reads.toks t m.reads.words
  regrouped = grouped-reads m.reads.fuel m.reads.toks t m.reads.words m.reads.reads

  grouped-codes : take (n - 0) grouped' ≡ codes_of (grouped m.reads.toks)
  grouped-codes =
      rw (sub-zero n) (g.coded m.reads.toks (map-id (codes_of m.reads.toks) ∙ m.reads.are) ∙ map-id (codes_of (grouped m.reads.toks)))

  pub grouped-asked : {main arrivals : List ℕ} {row : Row} → AskedBy codes main arrivals row slots → AskedBy (take (n - 0) grouped') main arrivals row slots
  grouped-asked a = record {
    lent = a.lent;
    few = a.few;
    all =
        a.all ∙ sym (ap word_codes m.reads.are) ∙ codes-words m.reads.toks ∙ sym (ap length (grouped-token-words m.reads.toks))
        ∙ sym (codes-words (grouped m.reads.toks))
        ∙ ap word_codes (sym grouped-codes);
  }

  -- its answer is that of the question's tree
  pub grouped-listing : {out out' : List ℕ} {r : Result Tally Refusal} → Listing (satisfying s regrouped.tree) out out' r → Listing (satisfying s t) out out' r
  grouped-listing l = rw (satisfying-same s regrouped.tree t (λ x h u. grouped-same regrouped s.has x)) at l

pub grouped-prepared : {s : Source} {codes : List Code} {main arrivals : List ℕ} {row : Row} {lent grouped' : List Code} {slots n : ℕ} {t : Tree} → ReadBy main arrivals row →
    s.highest ≡ last_of main arrivals → (m : MadeReady s and_first codes (having main arrivals row) slots t) (g : GroupsCodes (λ (code : Code). code) codes lent grouped' n) →
    Prepared s (take (n - 0) grouped') (having main arrivals row) (slots_intervals main arrivals row.ranges 0 slots) (regrouped m g).tree
grouped-prepared read last m g =
    let by = regrouped m g in
    reads-prepared read last
    (record { toks = grouped m.reads.toks; are = sym (grouped-codes m g); fuel = by.fuel; words = m.reads.words; reads = by.reads })
    (m.all ∙ ap length (sym (grouped-words by))) (rw (grouped-words by) m.have)
