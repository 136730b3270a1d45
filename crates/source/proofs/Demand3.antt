-- DEMAND 3 (Reference 11).
--
-- Let two questions be answered over one source that is sound, by one rule of grouping or by two. Then
--   same-cells        where every record from 1 to N satisfies both or neither, both write the same cells, and report the same;
--   same-records      where both write the same cells, every record from 1 to N satisfies both or neither.
-- Let `before ( a ) behind` be accepted over it, a and b be accepted by themselves and satisfied by the same records, and `before ( b ) behind` be
-- within the limits of bytes, words and brackets. Then for two calls with equal room
--   exchange-records  the second question, where it is accepted, is satisfied by the same records, so that it is listed alike also where the lists of two
--                     sources are put together;
--   exchange-answers  the second question is accepted too, both calls answer the same, the list or refusal 12 with its value, and the cells that they write
--                     are equal; no other cell is changed;
--   exchange-pair     the same, where of a no more is known than that the brackets around it are a pair, since then a is accepted by itself;
--   exchanging-itself the premises hold of every pair of brackets in every accepted question over what is sound, with a for b.
-- All parts of an exchange are read by one rule. And no list of intervals, ordered or not, that names the records of an answer has fewer intervals:
--   fewest-intervals.
-- What stood in the lent cells before may differ between the calls (`out`, `other`). A source is any: that of an index is `of_index`, with `check_of` as its check.
use Prim.Native.Nat.{ℕ, ◌*◌, ◌/◌, ◌≤◌}
use native.Mathlib.Omega.{arith}
use mathlib.Core.Path.{◌≡◌, refl, sym, ap, ◌∙◌}
use mathlib.Core.Bool.{Bool, true, false, cond}
use mathlib.Core.List.{List, []}
use lib.Dec.{leb}
use lib.ListN.{length, take, drop}
use lib.Seq.{take_at}
use Rattle.std.specs.Prelude.{Result, Ok}
use Rattle.refusal.specs.declared.Refusal.{Refusal}
use Rattle.refusal.specs.declared.Refusal.TheVariants.{Room}
use Rattle.list.specs.declared.answer.Tally.{Tally}
use Rattle.list.specs.Interval.{names, intervals}
use Rattle.list.specs.Front.{in_front}
use Rattle.list.specs.Outcome.{writes, refused}
use Rattle.list.specs.Answer.{tally_of, Gives}
use Rattle.list.specs.Sweeps.{Listing}
use Rattle.list.proofs.FewestLaws.{fewest-of}
use Rattle.question.specs.Token.{tokens}
use Rattle.question.specs.Grammar.{Tree}
use Rattle.question.specs.Rules.{rule_of}
use Rattle.question.specs.Meaning.{satisfies}
use Rattle.question.specs.Reading.{Parsed, parses, asked}
use Rattle.question.specs.Limits.{token_words}
use Rattle.question.specs.Exchange.{around, Matched, Exchangeable, Exchanged}
use Rattle.question.proofs.RuleLaws.{rule-respects}
use Rattle.question.proofs.ParsedLaws.{accepted-within, asked-reads, asked-parsed}
use Rattle.question.proofs.Exchange.{exchange, inside-accepted}
use Rattle.source.specs.Source.{Source, satisfying}
use Rattle.source.specs.Ask.{Lists}
use Rattle.source.specs.Demand3.{written, Answered, SameRecords, Exchanging, ExchangingPair, written_by, OnlyWritten, ListOrRoom, CallsAgree}
use Rattle.source.proofs.AskLaws.{asks-good, answers-listing}
use Rattle.source.proofs.SatisfyLaws.{clip, same-everywhere, same-within, satisfying-even, satisfying-same, same-satisfying}

-- what is sound, and a question that is accepted: its list, or refusal 12
asks-listing : {check : Result Unit Refusal} {a : Parsed} {t : Tree} {k : ℕ} (list : Tree → List ℕ) {out out' : List ℕ} {r : Result Tally Refusal} → check ≡ Ok tt → a ≡ parses t k →
    Lists check a list out out' r → Listing (list t) out out' r
asks-listing {a = a} list e f l = answers-listing list f (asks-good a list e l)

-- ---- what an answered question writes: the one proper list of its records

module _ {check : Result Unit Refusal} {a : Parsed} (s : Source) (t : Tree) {out out' : List ℕ} {tally : Tally} (p : Answered check a s t out out' tally) where
  abbrev cells : List ℕ
  cells = satisfying s t

  by-room : (f : Bool) → Gives (cond f (writes cells) (refused (Room (intervals cells)))) out out' (Ok tally) →
      (tally ≡ tally_of cells) × (out' ≡ in_front cells out)
  by-room true g = (let e = g.answer in cc, g.cells)
  by-room false g = absurd (let e = g.answer in let z : ◌≡◌ {A = ℕ} 0 1 = cc in omega arith)

  answered-both : (tally ≡ tally_of cells) × (out' ≡ in_front cells out)
  answered-both = by-room (leb (intervals cells) (length out / 2)) (asks-listing (satisfying s) p.sound p.accepted p.promise)

  pub answered-tally : tally ≡ tally_of (satisfying s t)
  answered-tally = answered-both.0

  pub answered-cells : written tally out' ≡ satisfying s t
  answered-cells =
      ap (λ (o : List ℕ). written tally o) answered-both.1
      ∙ take_at cells (drop (length cells) out) (2 * tally.intervals)
      (sym (satisfying-even s t) ∙ ap (λ (w : Tally). 2 * w.intervals) (sym answered-tally))

  -- Reference 3.2: of whatever cells name just the records that satisfy the question
  pub fewest-intervals : (c : List ℕ) → names c 0 ≡ false → ((x : ℕ) → 1 ≤ x → x ≤ s.highest → names c x ≡ satisfies s.has t x) →
      tally.intervals ≤ intervals c
  unfolding satisfying
  fewest-intervals c e f = rw answered-tally (fewest-of (satisfies s.has t) s.highest c e f)

-- ---- two answered questions

module _ {check check' : Result Unit Refusal} {a b : Parsed} (s : Source) (t u : Tree) {out out' other other' : List ℕ} {tally tally' : Tally}
    (p : Answered check a s t out out' tally) (q : Answered check' b s u other other' tally') where
  pub same-cells : SameRecords s t u → (written tally out' ≡ written tally' other') × (tally ≡ tally')
  same-cells h =
      let e = satisfying-same s t u h in (
        answered-cells s t p ∙ e ∙ sym (answered-cells s u q),
        answered-tally s t p ∙ ap tally_of e ∙ sym (answered-tally s u q),
      )

  pub same-records : written tally out' ≡ written tally' other' → SameRecords s t u
  same-records e = same-satisfying s t u (sym (answered-cells s t p) ∙ e ∙ answered-cells s u q)

-- ---- what any call writes, once nothing but room can refuse it

module _ (cells : List ℕ) (even : 2 * intervals cells ≡ length cells) {out out' : List ℕ} {r : Result Tally Refusal} where
  call_step : (f : Bool) → Gives (cond f (writes cells) (refused (Room (intervals cells)))) out out' r →
      (written_by r out' ≡ cond f cells []) × OnlyWritten r out out' × ListOrRoom r
  call_step true p =
      let taken : written (tally_of cells) out' ≡ cells =
      ap (λ (o : List ℕ). take (2 * intervals cells) o) p.cells ∙ take_at cells (drop (length cells) out) (2 * intervals cells) (sym even) in
      rw p.answer (taken, p.cells ∙ ap (λ (c : List ℕ). in_front c out) (sym taken), tt)
  call_step false p = rw p.answer (refl, p.cells, refl)

  call-writes : Listing cells out out' r → (written_by r out' ≡ cond (leb (intervals cells) (length out / 2)) cells []) × OnlyWritten r out out' × ListOrRoom r
  call-writes p = call_step (leb (intervals cells) (length out / 2)) p

-- ---- a part in brackets exchanged for another, all by one rule

-- inside a pair of brackets stands a question that is accepted by the same rule
inside-asked : (rule : ℕ) (before a behind : List ℕ) (t : Tree) (n : ℕ) → asked rule (around before a behind) ≡ parses t n → Matched a →
    (u : Tree) × (asked rule a ≡ parses u (length (token_words (tokens a))))
inside-asked rule before a behind t n accepted matched =
    let read = asked-parsed rule (around before a behind) t n accepted in
    let by = inside-accepted (rule_of rule) before a behind t n read.1 matched in
    (by.tree, asked-reads rule a read.0 ∙ by.accepted)

module _ (check : Result Unit Refusal) (rule : ℕ) (s : Source) (before a b behind : List ℕ) where
  exchanged : (e : Exchanging check rule s before a b behind) → Exchanged (rule_of rule) (clip s) e.tree (around before b behind)
  exchanged e =
      let parts : Exchangeable (rule_of rule) (clip s) a b =
      record {
        tree-a = e.tree-a;
        tree-b = e.tree-b;
        words-a = e.words-a;
        words-b = e.words-b;
        a-accepted = (asked-parsed rule a e.tree-a e.words-a e.a-accepted).1;
        b-accepted = (asked-parsed rule b e.tree-b e.words-b e.b-accepted).1;
        same = same-everywhere s e.tree-a e.tree-b e.same;
      } in
      exchange (rule_of rule) (rule-respects rule) (clip s) a b parts before behind e.tree e.words
      (asked-parsed rule (around before a behind) e.tree e.words e.accepted).1

  -- the same records satisfy the second question
  pub exchange-records : (e : Exchanging check rule s before a b behind) (u : Tree) (n : ℕ) → asked rule (around before b behind) ≡ parses u n →
      SameRecords s e.tree u
  exchange-records e u n h =
      same-within s e.tree u ((exchanged e).satisfies-same u n (asked-parsed rule (around before b behind) u n h).1)

  pub exchange-answers : Exchanging check rule s before a b behind → CallsAgree check rule s (around before a behind) (around before b behind)
  exchange-answers e out out' other other' r r' room one-call other-call =
      let too = (exchanged e).accepted e.within in
      let second-asked = asked-reads rule (around before b behind) (asked-parsed rule (around before a behind) e.tree e.words e.accepted).0
      ∙ too.accepted in
      let one = e.tree in
      let two = too.tree in
      let same : satisfying s one ≡ satisfying s two = satisfying-same s one two (exchange-records e two too.count second-asked) in
      let first-lists = asks-listing (satisfying s) e.sound e.accepted one-call in
      let second-lists = asks-listing (satisfying s) e.sound second-asked other-call in
      let first = call-writes (satisfying s one) (satisfying-even s one) first-lists in
      let second = call-writes (satisfying s two) (satisfying-even s two) second-lists in
      record {
        tree = two;
        words = too.count;
        accepted = second-asked;
        list-or-room = first.2;
        answers = first-lists.answer ∙ (rw (same, room)) ∙ sym second-lists.answer;
        cells = first.0 ∙ (rw (same, room)) ∙ sym second.0;
        first-only = first.1;
        second-only = second.1;
      }

  -- a pair of brackets has a question inside
  pair-exchanging : ExchangingPair check rule s before a b behind → Exchanging check rule s before a b behind
  pair-exchanging e =
      let by = inside-asked rule before a behind e.tree e.words e.accepted e.matched in
      record {
        sound = e.sound;
        tree = e.tree;
        words = e.words;
        accepted = e.accepted;
        tree-a = by.0;
        words-a = length (token_words (tokens a));
        a-accepted = by.1;
        tree-b = e.tree-b;
        words-b = e.words-b;
        b-accepted = e.b-accepted;
        same = e.same by.0 (length (token_words (tokens a))) by.1;
        within = e.within;
      }

  pub exchange-pair : ExchangingPair check rule s before a b behind → CallsAgree check rule s (around before a behind) (around before b behind)
  exchange-pair e = exchange-answers (pair-exchanging e)

asked-once : (rule : ℕ) (q : List ℕ) (t u : Tree) (n m : ℕ) → asked rule q ≡ parses t n → asked rule q ≡ parses u m → t ≡ u
asked-once rule q t u n m e f = cc

-- no premise is empty: any pair of brackets in an accepted question may be exchanged, for itself if for nothing else
pub exchanging-itself : (check : Result Unit Refusal) (rule : ℕ) (s : Source) (before a behind : List ℕ) → check ≡ Ok tt → (t : Tree) (n : ℕ) →
    asked rule (around before a behind) ≡ parses t n → Matched a →
    ExchangingPair check rule s before a a behind
exchanging-itself check rule s before a behind sound t n accepted matched =
    let by = inside-asked rule before a behind t n accepted matched in
    record {
      sound = sound;
      tree = t;
      words = n;
      accepted = accepted;
      matched = matched;
      tree-b = by.0;
      words-b = length (token_words (tokens a));
      b-accepted = by.1;
      same = λ u m e x h g. ap (λ (y : Tree). satisfies s.has y x) (asked-once rule a u by.0 m (length (token_words (tokens a))) e by.1);
      within = accepted-within (rule_of rule) (around before a behind) t n (asked-parsed rule (around before a behind) t n accepted).1;
    }
