-- Laws of the readers: what an answer at a token says of the reading, case by case.
use Prim.Native.Nat.{ℕ, zero, suc, ◌+◌, ◌-◌, ◌*◌, ◌≤◌, ◌<◌}
use native.Mathlib.Nat.{not-suc-le-zero}
use native.Mathlib.Omega.{arith}
use mathlib.Core.Path.{◌≡◌, refl, sym, ap, ◌∙◌, subst}
use mathlib.Core.List.{List, [], ◌∷◌}
use lib.ListN.{length}
use borrow.Author.Tests.{lt-ltb, le-ltb, eq-eqb, ne_eqb}
use Rattle.std.specs.Prelude.{Result, Ok, Err}
use Rattle.refusal.specs.declared.Refusal.{Refusal}
use Rattle.refusal.specs.declared.Refusal.TheVariants.{Grammar, Words, Brackets}
use Rattle.word.specs.declared.Op as op
use Rattle.question.specs.declared.token.Token.{Token}
use Rattle.question.specs.declared.token.Token.TheVariants.{End, Word, Op, Open, Close, Other}
use Rattle.question.specs.declared.reader.Read.{Read}
use Rattle.question.specs.Token.{cut, Tok, tokens_at, tokens}
use Rattle.question.specs.Grammar.{Tree, word, part, link, Rule, Out, good, bad, bind, closed, question, operand, links, ended, whole}
use Rattle.question.specs.Reading.{token_place, refusal_of, outcome, answer}
use Rattle.question.specs.Next.{headed, TokenWithin, NextToken, start_of}
use Rattle.question.specs.Readers.{GoodAt, BadAt, ReadAs, Ahead, ReadsQuestion, ReadsOperand, ReadsLinks, ReadsWhole}

-- ---- where an answer lies

-- what the readers answer
abbrev Answer : Type 0
Answer = Result Read Refusal

-- read up to place n, with j words
abbrev at_with : ℕ → ℕ → Answer
at_with n j = Ok (record { next = n; words = j })

ahead : (at len k : ℕ) (v : Read) {r : Answer} → r ≡ Ok v → Ahead at len k r → (at ≤ v.next) × (v.next ≤ len) × (k ≤ v.words) × (v.words ≤ 16)
ahead at len k v e h = subst (Ahead at len k) e h

weaken : (at b len k i : ℕ) (r : Answer) → at ≤ b → k ≤ i → Ahead b len i r → Ahead at len k r
weaken at b len k i (Ok v) h h' w = omega arith
weaken at b len k i (Err refusal) h h' w = tt

module _ {s : List ℕ} {d k at : ℕ} {v : Read} {r : Answer} where
  pub operand-ahead : ReadsOperand s d k at r → r ≡ Ok v → (at ≤ v.next) × (v.next ≤ length s) × (k ≤ v.words) × (v.words ≤ 16)
  operand-ahead h e = ahead at (length s) k v e h.ahead

  pub question-ahead : ReadsQuestion s d k at r → r ≡ Ok v → (at ≤ v.next) × (v.next ≤ length s) × (k ≤ v.words) × (v.words ≤ 16)
  question-ahead h e = ahead at (length s) k v e h.ahead

module _ {s : List ℕ} {at : ℕ} {t b : Token} where
  pub token-lies : NextToken s at t → t ≡ b → TokenWithin at (length s) b
  token-lies nt e = subst (TokenWithin at (length s)) e nt.lies

-- the tokens left start where their first token does
place_is : (s : List ℕ) (at : ℕ) (t : Token) → TokenWithin at (length s) t → start_of t ≡ token_place (length s) (headed s t)
place_is s at (End p) h = h.1
place_is s at (Word p q) h = refl
place_is s at (Op o p q) h = refl
place_is s at (Open p) h = refl
place_is s at (Close p) h = refl
place_is s at (Other p) h = refl

-- ---- one reading behind another

module _ {A B : Type 0} (s : List ℕ) (o : Out A) (h : A → List Tok → ℕ → Out B) where
  bind-good : (v : Read) (r : Answer) → GoodAt s v.next v.words o → ((a : A) → ReadAs s r (h a (tokens_at s v.next) v.words)) → ReadAs s r (bind o h)
  bind-good v r g k = subst (λ (y : Out A). ReadAs s r (bind y h)) (sym g.says) (k g.got)

  bind-bad : (refusal : Refusal) → BadAt s refusal o → BadAt s refusal (bind o h)
  bind-bad refusal b = record { number = b.number; left = b.left; says = ap (λ (y : Out A). bind y h) b.says; is = b.is }

  bind-on : (v : Read) (r p : Answer) → p ≡ Ok v → ReadAs s p o → ((a : A) → ReadAs s r (h a (tokens_at s v.next) v.words)) → ReadAs s r (bind o h)
  bind-on v r p e g k = bind-good v r (subst (λ (y : Answer). ReadAs s y o) e g) k

  bind-off : (refusal : Refusal) (p : Answer) → p ≡ Err refusal → ReadAs s p o → BadAt s refusal (bind o h)
  bind-off refusal p e g = bind-bad refusal (subst (λ (y : Answer). ReadAs s y o) e g)

-- what was read is put to use, and nothing else is read
bind-map : {A B : Type 0} (s : List ℕ) (o : Out A) (g : A → B) (r : Answer) → ReadAs s r o → ReadAs s r (bind o (λ a z i. good (g a) z i))
bind-map s o g (Ok v) i = record { got = g i.got; says = ap (λ y. bind y (λ a z i. good (g a) z i)) i.says }
bind-map s o g (Err refusal) i = bind-bad s o (λ a z i. good (g a) z i) refusal i

-- ---- tokens that cannot be taken

none-operand : (rule : Rule) (f d k : ℕ) (s : List ℕ) (t : Token) → ((p q : ℕ) → t ≡ Word p q → ⊥) → ((p : ℕ) → t ≡ Open p → ⊥) →
    operand rule (suc f) d k (headed s t) ≡ bad 9 (headed s t)
unfolding operand
none-operand rule f d k s (End p) h h' = refl
none-operand rule f d k s (Word p q) h h' = absurd (h p q refl)
none-operand rule f d k s (Op o p q) h h' = refl
none-operand rule f d k s (Open p) h h' = absurd (h' p refl)
none-operand rule f d k s (Close p) h h' = refl
none-operand rule f d k s (Other p) h h' = refl

none-links : (rule : Rule) (f d k : ℕ) (s : List ℕ) (t : Token) → ((o : op.Op) (p q : ℕ) → t ≡ Op o p q → ⊥) →
    links rule (suc f) d k (headed s t) ≡ good [] (headed s t) k
unfolding links
none-links rule f d k s (End p) h = refl
none-links rule f d k s (Word p q) h = refl
none-links rule f d k s (Op o p q) h = absurd (h o p q refl)
none-links rule f d k s (Open p) h = refl
none-links rule f d k s (Close p) h = refl
none-links rule f d k s (Other p) h = refl

none-closed : (k : ℕ) (e : Tree) (s : List ℕ) (t : Token) → ((p : ℕ) → t ≡ Close p → ⊥) → closed e (headed s t) k ≡ bad 9 (headed s t)
none-closed k e s (End p) h = refl
none-closed k e s (Word p q) h = refl
none-closed k e s (Op o p q) h = refl
none-closed k e s (Open p) h = refl
none-closed k e s (Close p) h = absurd (h p refl)
none-closed k e s (Other p) h = refl

none-ended : (k : ℕ) (e : Tree) (s : List ℕ) (t : Token) → ((p : ℕ) → t ≡ End p → ⊥) → ended e (headed s t) k ≡ bad 9 (headed s t)
none-ended k e s (End p) h = absurd (h p refl)
none-ended k e s (Word p q) h = refl
none-ended k e s (Op o p q) h = refl
none-ended k e s (Open p) h = refl
none-ended k e s (Close p) h = refl
none-ended k e s (Other p) h = refl

-- ---- the readers, by the token at a place

-- a bound above something is not 0
above : (P : ℕ → Type 0) (f m : ℕ) → m < f → ((g : ℕ) → m ≤ g → P (suc g)) → P f
above P zero m h k = absurd (not-suc-le-zero h)
above P (suc g) m h k = k g (omega arith)

module _ {s : List ℕ} {at : ℕ} {t : Token} (nt : NextToken s at t) where
  heads : {b : Token} → t ≡ b → tokens_at s at ≡ headed s b
  heads e = nt.heads ∙ ap (headed s) e

  refused : {A : Type 0} (o : Out A) → o ≡ bad 9 (headed s t) → BadAt s (Grammar (start_of t)) o
  unfolding refusal_of
  refused o e = record { number = 9; left = headed s t; says = e; is = ap Grammar (place_is s at t nt.lies) }

module _ {s : List ℕ} {d k at : ℕ} {t : Token} (nt : NextToken s at t) where
  pub operand-word : {p q : ℕ} → t ≡ Word p q → k < 16 → ReadsOperand s d k at (at_with q (k + 1))
  unfolding operand
  operand-word {p} {q} e h =
      let w = token-lies nt e in
      record {
        ahead = omega arith;
        reads =
            λ rule f lt. above (λ f. GoodAt s q (k + 1) (operand rule f d k (tokens_at s at))) f (2 * (length s - at)) lt
            (λ g le. record { got = word (cut s p q); says = rw (heads nt e, lt-ltb k 16 h) });
      }

  pub operand-many : {p q : ℕ} → t ≡ Word p q → 16 ≤ k → ReadsOperand s d k at (Err (Words p))
  unfolding operand refusal_of
  operand-many {p} {q} e h =
      record {
        ahead = tt;
        reads =
            λ rule f lt. above (λ f. BadAt s (Words p) (operand rule f d k (tokens_at s at))) f (2 * (length s - at)) lt
            (λ g le. record { number = 10; left = headed s (Word p q); says = rw (heads nt e, le-ltb k 16 h); is = refl });
      }

  pub operand-deep : {p : ℕ} → t ≡ Open p → d ≡ 0 → ReadsOperand s d k at (Err (Brackets p))
  unfolding operand refusal_of
  operand-deep {p} e h =
      record {
        ahead = tt;
        reads =
            λ rule f lt. above (λ f. BadAt s (Brackets p) (operand rule f d k (tokens_at s at))) f (2 * (length s - at)) lt
            (λ g le. record { number = 11; left = headed s (Open p); says = rw (heads nt e, eq-eqb d 0 h); is = refl });
      }

  pub operand-none : ((p q : ℕ) → t ≡ Word p q → ⊥) → ((p : ℕ) → t ≡ Open p → ⊥) → {v : ℕ} → v ≡ start_of t → ReadsOperand s d k at (Err (Grammar v))
  operand-none o o' {v} e =
      rw e
      record {
        ahead = tt;
        reads =
            λ rule f lt. above (λ f. BadAt s (Grammar (start_of t)) (operand rule f d k (tokens_at s at))) f (2 * (length s - at)) lt
            (λ g le. refused nt _ (rw (heads nt refl) (none-operand rule g d k s t o o')));
      }

  pub links-none : at ≤ length s → k ≤ 16 → ((o : op.Op) (p q : ℕ) → t ≡ Op o p q → ⊥) → ReadsLinks s d k at (at_with at k)
  links-none h i o =
      record {
        ahead = omega arith;
        reads =
            λ rule f lt. above (λ f. GoodAt s at k (links rule f d k (tokens_at s at))) f (2 * (length s - at)) lt
            (λ g le. record { got = []; says = rw (heads nt refl) (none-links rule g d k s t o) });
      }

  -- a part in brackets: p is what its reader answered
  module _ {place : ℕ} (is : t ≡ Open place) (some : d ≡ 0 → ⊥) {p : Answer} (hp : ReadsQuestion s (d - 1) k (place + 1) p) where
    part-read : (r : Answer) → ((rule : Rule) (g : ℕ) → 2 * (length s - at) ≤ g → ReadAs s r (bind (question rule g (d - 1) k (tokens_at s (place + 1))) closed)) →
        (rule : Rule) (f : ℕ) → 2 * (length s - at) < f → ReadAs s r (operand rule f d k (tokens_at s at))
    unfolding operand
    part-read r y rule f lt =
        above (λ f. ReadAs s r (operand rule f d k (tokens_at s at))) f (2 * (length s - at)) lt
        (λ g le. rw (heads nt is, ne_eqb d 0 some) (y rule g le))

    inner : (rule : Rule) (g : ℕ) → 2 * (length s - at) ≤ g → ReadAs s p (question rule g (d - 1) k (tokens_at s (place + 1)))
    inner rule g le = let w = token-lies nt is in hp.reads rule g (omega arith)

    pub operand-bad : {refusal : Refusal} {r : Answer} → p ≡ Err refusal → r ≡ Err refusal → ReadsOperand s d k at r
    operand-bad {refusal} e g = rw g record { ahead = tt; reads = part-read (Err refusal) (λ rule g le. bind-off s _ closed refusal p e (inner rule g le)) }

    module _ {v : Read} (e : p ≡ Ok v) {c : Token} (nc : NextToken s v.next c) where
      pub operand-part : {q : ℕ} → c ≡ Close q → ReadsOperand s d k at (at_with (q + 1) v.words)
      operand-part {q} ec =
          let w = token-lies nt is in
          let a = ahead (place + 1) (length s) k v e hp.ahead in
          let y : TokenWithin v.next (length s) (Close q) = subst (TokenWithin v.next (length s)) ec nc.lies in
          record {
            ahead = omega arith;
            reads =
                part-read (at_with (q + 1) v.words) (λ rule g le. bind-on s _ closed v (at_with (q + 1) v.words) p e (inner rule g le)
                (λ x. record { got = part x; says = rw (nc.heads ∙ ap (headed s) ec) }));
          }

      pub operand-unclosed : ((q : ℕ) → c ≡ Close q → ⊥) → {place' : ℕ} → place' ≡ start_of c → ReadsOperand s d k at (Err (Grammar place'))
      unfolding refusal_of
      operand-unclosed o ev =
          rw ev
          record {
            ahead = tt;
            reads =
                part-read (Err (Grammar (start_of c))) (λ rule g le. bind-on s _ closed v (Err (Grammar (start_of c))) p e (inner rule g le)
                (λ x. record { number = 9; left = headed s c; says = rw nc.heads (none-closed v.words x s c o); is = ap Grammar (place_is s v.next c nc.lies) }));
          }

  -- an operator: p is what the operand's reader answered behind it
  module _ {o : op.Op} {place end : ℕ} (is : t ≡ Op o place end) {p : Answer} (hp : ReadsOperand s d k end p) where
    link-read : (r : Answer) →
        ((rule : Rule) (g : ℕ) → 2 * (length s - at) ≤ g →
        ReadAs s r (bind (operand rule g d k (tokens_at s end)) (λ x z j. bind (links rule g d j z) (λ ls y i. good (link o x ∷ ls) y i)))) →
        (rule : Rule) (f : ℕ) → 2 * (length s - at) < f → ReadAs s r (links rule f d k (tokens_at s at))
    unfolding links
    link-read r y rule f lt =
        above (λ f. ReadAs s r (links rule f d k (tokens_at s at))) f (2 * (length s - at)) lt
        (λ g le. rw (heads nt is) (y rule g le))

    linked : (rule : Rule) (g : ℕ) → 2 * (length s - at) ≤ g → ReadAs s p (operand rule g d k (tokens_at s end))
    linked rule g le = let w = token-lies nt is in hp.reads rule g (omega arith)

    pub links-bad : {refusal : Refusal} {r : Answer} → p ≡ Err refusal → r ≡ Err refusal → ReadsLinks s d k at r
    links-bad {refusal} e g = rw g record { ahead = tt; reads = link-read (Err refusal) (λ rule g le. bind-off s _ _ refusal p e (linked rule g le)) }

    pub links-on : {v : Read} → p ≡ Ok v → {r : Answer} → ReadsLinks s d v.words v.next r → ReadsLinks s d k at r
    links-on {v} e {r} hr =
        let w = token-lies nt is in
        let a = ahead end (length s) k v e hp.ahead in
        record {
          ahead = weaken at v.next (length s) k v.words r (omega arith) (omega arith) hr.ahead;
          reads =
              link-read r (λ rule g le. bind-on s _ _ v r p e (linked rule g le)
              (λ x. bind-map s (links rule g d v.words (tokens_at s v.next)) (λ ls. link o x ∷ ls) r (hr.reads rule g (omega arith))));
        }

-- ---- a question: p is what its first operand's reader answered

module _ {s : List ℕ} {d k at : ℕ} {p : Answer} (hp : ReadsOperand s d k at p) where
  level-read : (r : Answer) →
      ((rule : Rule) (g : ℕ) → 2 * (length s - at) + 1 ≤ g →
      ReadAs s r (bind (operand rule g d k (tokens_at s at)) (λ x z j. bind (links rule g d j z) (λ ls y i. good (rule x ls) y i)))) →
      (rule : Rule) (f : ℕ) → 2 * (length s - at) + 1 < f → ReadAs s r (question rule f d k (tokens_at s at))
  unfolding question
  level-read r y rule f lt = above (λ f. ReadAs s r (question rule f d k (tokens_at s at))) f (2 * (length s - at) + 1) lt (λ g le. y rule g le)

  pub question-bad : {refusal : Refusal} {r : Answer} → p ≡ Err refusal → r ≡ Err refusal → ReadsQuestion s d k at r
  question-bad {refusal} e g = rw g record { ahead = tt; reads = level-read (Err refusal) (λ rule g le. bind-off s _ _ refusal p e (hp.reads rule g (omega arith))) }

  pub question-on : {v : Read} → p ≡ Ok v → {r : Answer} → ReadsLinks s d v.words v.next r → ReadsQuestion s d k at r
  question-on {v} e {r} hr =
      let a = ahead at (length s) k v e hp.ahead in
      record {
        ahead = weaken at v.next (length s) k v.words r (omega arith) (omega arith) hr.ahead;
        reads =
            level-read r (λ rule g le. bind-on s _ _ v r p e (hp.reads rule g (omega arith))
            (λ x. bind-map s (links rule g d v.words (tokens_at s v.next)) (rule x) r (hr.reads rule g (omega arith))));
      }

-- ---- the whole: p is what the question's reader answered

answer-bad : (s : List ℕ) (refusal : Refusal) (o : Out Tree) → BadAt s refusal o → Err refusal ≡ answer (outcome (length s) o)
answer-bad s refusal o b = ap Err b.is ∙ sym (ap (λ (y : Out Tree). answer (outcome (length s) y)) b.says)

module _ {s : List ℕ} {p : Answer} (hp : ReadsQuestion s 8 0 0 p) where
  level : (rule : Rule) → ReadAs s p (question rule (2 * length s + 2) 8 0 (tokens s))
  unfolding tokens
  level rule = hp.reads rule (2 * length s + 2) (omega arith)

  pub whole-bad : {refusal : Refusal} {r : Result ℕ Refusal} → p ≡ Err refusal → r ≡ Err refusal → ReadsWhole s r
  unfolding whole
  whole-bad {refusal} e g rule = g ∙ answer-bad s refusal _ (bind-off s (question rule (2 * length s + 2) 8 0 (tokens s)) ended refusal p e (level rule))

  module _ {v : Read} (e : p ≡ Ok v) {c : Token} (nc : NextToken s v.next c) where
    got : (rule : Rule) → GoodAt s v.next v.words (question rule (2 * length s + 2) 8 0 (tokens s))
    got rule = subst (λ (y : Answer). ReadAs s y (question rule (2 * length s + 2) 8 0 (tokens s))) e (level rule)

    pub whole-ended : {q : ℕ} → c ≡ End q → ReadsWhole s (Ok v.words)
    unfolding whole
    whole-ended ec rule = rw ((got rule).says, nc.heads ∙ ap (headed s) ec)

    pub whole-more : ((p : ℕ) → c ≡ End p → ⊥) → {place : ℕ} → place ≡ start_of c → ReadsWhole s (Err (Grammar place))
    unfolding whole refusal_of
    whole-more o ev rule =
        rw ((got rule).says, nc.heads, none-ended v.words (got rule).got s c o) (ap (λ (i : ℕ). Err (Grammar i)) (ev ∙ place_is s v.next c nc.lies))
