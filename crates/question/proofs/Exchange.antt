-- THE EXCHANGE OF A PART IN BRACKETS.
--
-- Let `before ( a ) behind` be accepted. Then
--   inside-accepted    where the brackets of a match, a is accepted by itself.
-- Let a and b be questions that are accepted by themselves and that the same records satisfy. Then for any bytes before and behind,
--   exchange-fits      where `before ( a ) behind` and `before ( b ) behind` are both accepted, the same records satisfy both;
--   exchange-accepted  where the first is accepted, and the second has at most 256 bytes, 16 words and 8 brackets open at once, the second is accepted.
-- `parsed rule s ≡ parses t n` says that s is accepted, with tree t and n words, and `around before a behind` is the bytes `before ( a ) behind`.
-- It holds at any depth, whatever the index has of each word, and for every rule of grouping under which operands that the same records satisfy may be
-- exchanged (`Respects`; the published rule, from the left, is one: `from-left-respects` in RuleLaws).
use Prim.Native.Nat.{ℕ, ◌+◌, ◌*◌, ◌≤◌}
use native.Mathlib.Omega.{arith}
use mathlib.Core.Path.{◌≡◌, ap, ◌∙◌}
use mathlib.Core.List.{List, [], ◌∷◌, ◌++◌}
use mathlib.Core.Bool.{Bool}
use lib.ListN.{length, length-append}
use Rattle.question.specs.Token.{Tok, tokens}
use Rattle.question.specs.Grammar.{Tree, Rule, from_left, good, question}
use Rattle.question.specs.Meaning.{Same, Respects}
use Rattle.question.specs.Reading.{parses, parsed}
use Rattle.question.specs.Limits.{deepest, WithinLimits}
use Rattle.question.specs.Walk.{operator_next, reached, walk, fresh}
use Rattle.question.specs.Stops.{Faultless}
use Rattle.question.specs.Exchange.{around, Matched, AcceptedBy, AcceptedToo, Exchangeable, Exchanged}
use Rattle.question.proofs.Lockstep as lock
use Rattle.question.proofs.LimitLaws.{count, walk_kept, accepts-walk}
use Rattle.question.proofs.PartLaws.{bracketed, Taken, inside-walk, exchange-walk, walk-bare, bare-walk, as-bare}
use Rattle.question.proofs.ParsedLaws.{asked-accepts, accepted-walk, accepted-within, walk-accepted}
use Rattle.question.proofs.RuleLaws.{from-left-respects}
use Rattle.question.proofs.SplitLaws.{bares, bare_out, bare-question, tokens-around, none-proper, proper-none, proper-around, proper-inside, none-short, short_none, short-around, short-inside}

-- an accepted question, by its tokens without their places
module _ (rule : Rule) (s : List ℕ) (t : Tree) (n : ℕ) (accepted : parsed rule s ≡ parses t n) where
  bares-read : question rule (2 * length s + 2) 8 0 (bares (tokens s)) ≡ good t [] n
  bares-read = bare-question rule (2 * length s + 2) 8 0 (tokens s) ∙ ap bare_out (asked-accepts rule s t n accepted).reads

  bares-walked : walk fresh (bares (tokens s)) ≡ reached (operator_next 0 n)
  bares-walked = walk-bare fresh (tokens s) (operator_next 0 n) (accepted-walk rule s t n accepted)

abbrev parts : List ℕ → List ℕ → List ℕ → List Tok
parts before a behind = bracketed (bares (tokens before)) (bares (tokens a)) (bares (tokens behind))

-- ---- the first question, and its part by itself

module _ (rule : Rule) (before a behind : List ℕ) (t : Tree) (n : ℕ) (accepted : parsed rule (around before a behind) ≡ parses t n) where
  parts-walked : walk fresh (parts before a behind) ≡ reached (operator_next 0 n)
  parts-walked = rw (tokens-around before a behind) at (bares-walked rule (around before a behind) t n accepted)

  parts-read : question rule (2 * length (around before a behind) + 2) 8 0 (parts before a behind) ≡ good t [] n
  parts-read = rw (tokens-around before a behind) at (bares-read rule (around before a behind) t n accepted)

  faultless : Faultless (around before a behind)
  faultless = (asked-accepts rule (around before a behind) t n accepted).faultless

  inside-faultless : Faultless a
  inside-faultless =
      let bytes = faultless.bytes in
      record {
        bytes = omega (arith, length-append before (40 ∷ (a ++ 41 ∷ behind)), length-append a (41 ∷ behind));
        proper = proper-none a (proper-inside before a behind (none-proper (around before a behind) faultless.proper));
        short = short_none a (short-inside before a behind (none-short (around before a behind) faultless.short));
      }

  pub inside-accepted : Matched a → AcceptedBy rule a (count (tokens a))
  inside-accepted m =
      let w =
      inside-walk (bares (tokens before)) (bares (tokens a)) (bares (tokens behind)) n parts-walked ((as-bare 0 (tokens a)).above m.above)
      ((as-bare 0 (tokens a)).brackets ∙ m.ends) in
      walk-accepted rule a (count (tokens a)) inside-faultless
      (accepts-walk (tokens a) (count (tokens a))
      (bare-walk fresh (tokens a) (operator_next 0 (count (tokens a))) (w ∙ ap (λ (i : ℕ). reached (operator_next 0 i)) (as-bare 0 (tokens a)).words)))

-- the brackets of an accepted question match
pub accepted-matched : (rule : Rule) (a : List ℕ) (t : Tree) (n : ℕ) → parsed rule a ≡ parses t n → Matched a
accepted-matched rule a t n h =
    let kept = walk_kept fresh (tokens a) (operator_next 0 n) (accepted-walk rule a t n h) in record { above = kept.above; ends = kept.brackets }

-- ---- the second question

module _ (rule : Rule) (respects : Respects rule) (has : List ℕ → ℕ → Bool)
    (before a b behind : List ℕ)
    (ta tb : Tree) (na nb : ℕ) (a-accepted : parsed rule a ≡ parses ta na) (b-accepted : parsed rule b ≡ parses tb nb)
    (a-b : Same has ta tb)
    (t : Tree) (n : ℕ) (accepted : parsed rule (around before a behind) ≡ parses t n) where
  abbrev second : List ℕ
  second = around before b behind

  pub exchange-satisfies : (u : Tree) (m : ℕ) → parsed rule (around before b behind) ≡ parses u m → Same has t u
  exchange-satisfies u m h =
      lock.step-means rule respects has (bares (tokens a)) (bares (tokens b)) (bares (tokens behind)) ta tb a-b (2 * length a + 2) (2 * length b + 2) na nb
      (bares-read rule a ta na a-accepted) (bares-read rule b tb nb b-accepted)
      (2 * length (around before a behind) + 2) (2 * length second + 2) n m (bares (tokens before)) t u []
      (parts-read rule before a behind t n accepted) (parts-read rule before b behind u m h)

  second-faultless : WithinLimits second → Faultless second
  second-faultless limits =
      let one = faultless rule before a behind t n accepted in
      let alone = (asked-accepts rule b tb nb b-accepted).faultless in
      record {
        bytes = limits.bytes;
        proper = proper-none second (proper-around before a b behind (none-proper (around before a behind) one.proper) (none-proper b alone.proper));
        short = short_none second (short-around before a b behind (none-short (around before a behind) one.short) (none-short b alone.short));
      }

  second-taken : WithinLimits second → Taken (parts before b behind)
  second-taken limits =
      let m = accepted-matched rule a ta na a-accepted in
      let deep : deepest 0 (bares (tokens second)) ≤ 8 = omega (arith, (as-bare 0 (tokens second)).deep, limits.brackets) in
      let words : count (bares (tokens second)) ≤ 16 = omega (arith, (as-bare 0 (tokens second)).words, limits.words) in
      exchange-walk (bares (tokens before)) (bares (tokens a)) (bares (tokens b)) (bares (tokens behind)) n nb (parts-walked rule before a behind t n accepted)
      ((as-bare 0 (tokens a)).above m.above) ((as-bare 0 (tokens a)).brackets ∙ m.ends) (bares-walked rule b tb nb b-accepted)
      (rw (tokens-around before b behind) at deep) (rw (tokens-around before b behind) at words)

  second-accepted : WithinLimits second → (w : Taken (parts before b behind)) → AcceptedBy rule second w.words
  second-accepted limits w =
      let walks : walk fresh (bares (tokens second)) ≡ reached (operator_next 0 w.words) = rw (tokens-around before b behind) w.walks in
      walk-accepted rule second w.words (second-faultless limits)
      (accepts-walk (tokens second) w.words (bare-walk fresh (tokens second) (operator_next 0 w.words) walks))

  pub exchange-accepted : WithinLimits (around before b behind) → AcceptedToo rule has (around before b behind) t
  exchange-accepted limits =
      let w = second-taken limits in
      let by = second-accepted limits w in
      record { tree = by.tree; count = w.words; accepted = by.accepted; satisfies-same = exchange-satisfies by.tree w.words by.accepted }

-- ---- both in one statement

pub exchange : (rule : Rule) → Respects rule → (has : List ℕ → ℕ → Bool) (a b : List ℕ) → Exchangeable rule has a b →
    (before behind : List ℕ) (t : Tree) (n : ℕ) → parsed rule (around before a behind) ≡ parses t n → Exchanged rule has t (around before b behind)
exchange rule respects has a b e before behind t n h =
    record {
      satisfies-same = exchange-satisfies rule respects has before a b behind e.tree-a e.tree-b e.words-a e.words-b e.a-accepted e.b-accepted
          e.same t n h;
      accepted = exchange-accepted rule respects has before a b behind e.tree-a e.tree-b e.words-a e.words-b e.a-accepted e.b-accepted
          e.same t n h;
    }

-- the published rule
pub exchange-from-left : (has : List ℕ → ℕ → Bool) (a b : List ℕ) → Exchangeable from_left has a b →
    (before behind : List ℕ) (t : Tree) (n : ℕ) → parsed from_left (around before a behind) ≡ parses t n → Exchanged from_left has t (around before b behind)
exchange-from-left = exchange from_left from-left-respects

pub inside-accepted-from-left : (before a behind : List ℕ) (t : Tree) (n : ℕ) → parsed from_left (around before a behind) ≡ parses t n → Matched a →
    AcceptedBy from_left a (count (tokens a))
inside-accepted-from-left = inside-accepted from_left

pub accepted-within-from-left : (s : List ℕ) (t : Tree) (n : ℕ) → parsed from_left s ≡ parses t n → WithinLimits s
accepted-within-from-left = accepted-within from_left
