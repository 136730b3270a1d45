-- THE WHOLE CALL, for every rule.
--
--   asked-accepts, accepts-asked  what an accepted question is, and back;
--   accepted-within               an accepted question is within the limits;
--   grammar-asked, word-limit-asked, bracket-limit-asked
--                                 the call refuses by 9, 10 or 11, with the place, exactly where 6, 7 and 8 do not hold and the walk stops so;
--   answer-any-rule               no rule of grouping changes what is accepted, with how many words, or refused;
--   asked-reads, asked-else       by the number of a rule the question is read, and by any other it is refused by 22.
use Prim.Native.Nat.{ℕ, ◌+◌, ◌*◌, ◌≤◌, ◌<◌}
use native.Mathlib.Omega.{arith}
use mathlib.Core.Path.{◌≡◌, refl, sym, ap, ◌∙◌}
use mathlib.Core.List.{List, [], ◌∷◌}
use mathlib.Core.Bool.{Bool, true, false, cond}
use mathlib.Core.Logic.{inl, inr}
use lib.ListN.{length}
use lib.Dec.{ltb, eqb}
use borrow.Author.Tests.{ltb-false, le-ltb}
use Rattle.laws.proofs.Tests.{by-test}
use Rattle.refusal.specs.First.{first}
use Rattle.refusal.specs.Refusal.{number_of, value_of}
use Rattle.std.specs.Prelude.{Option, Some, None, Result, Ok, Err}
use Rattle.refusal.specs.declared.Refusal.{Refusal}
use Rattle.refusal.specs.declared.Refusal.TheVariants.{QuestionLength, QuestionByte, QuestionWord, Grammar, Words, Brackets, RuleNumber}
use Rattle.question.specs.declared.rule.Rule as names
use Rattle.question.specs.declared.rule.Rule.TheVariants.{FromLeft, AndFirst}
use Rattle.question.specs.Token.{choose, Tok, tokens}
use Rattle.question.specs.Grammar.{Tree, Rule, Out, good, bad, bind, from_left, question, ended, whole}
use Rattle.question.specs.Rules.{is_rule, rule_of}
use Rattle.question.specs.Named.{named}
use Rattle.question.specs.Limits.{WithinLimits}
use Rattle.question.specs.Reading.{Parsed, parses, refuses, foreign_at, long_at, token_place, refusal_of, outcome, unless, parsed, asked, answer, verdict_of}
use Rattle.question.specs.Walk.{operator_next, Walked, reached, stopped, walk, walk_all, fresh, verdict}
use Rattle.question.specs.Stops.{StopNumber, Misplaced, WordTooMany, BracketTooMany, Faultless, StopsAt, Exactly}
use Rattle.question.specs.Exchange.{AcceptedBy}
use Rattle.question.proofs.Apart.{zero_one}
use Rattle.question.proofs.WalkLaws.{whole-walked}
use Rattle.question.proofs.LimitLaws.{walk_kept, walk-accepts}
use Rattle.question.proofs.StopLaws.{ends-number, walk_ends, whole-stops, word-limit-walk, bracket-limit-walk}

-- ---- the refusals in their order

-- one of 6, 7 and 8 holds; or none of them, and the answer is the reading's
data Call (s : List ℕ) (o a : Parsed) : Type 0 where
  early : (x : Refusal) → number_of x < 9 → a ≡ refuses x → Call s o a
  late : Faultless s → a ≡ o → Call s o a

module _ (s : List ℕ) (o : Parsed) where
  call_step : (b : Bool) (f g : Option ℕ) → ltb 256 (length s) ≡ b → first (foreign_at s) (length s) ≡ f → first (long_at s) (length s) ≡ g →
      Call s o (choose b (λ _. refuses (QuestionLength (length s))) (λ _. unless f QuestionByte (λ _. unless g QuestionWord (λ _. o))))
  call_step true f g eb ef eg = early (QuestionLength (length s)) (omega arith) refl
  call_step false (Some i) g eb ef eg = early (QuestionByte i) (omega arith) refl
  call_step false None (Some i) eb ef eg = early (QuestionWord i) (omega arith) refl
  call_step false None None eb ef eg = late (record { bytes = ltb-false 256 (length s) eb; proper = ef; short = eg }) refl

module _ (rule : Rule) (s : List ℕ) where
  call : Call s (outcome (length s) (whole rule s)) (parsed rule s)
  unfolding parsed
  call = call_step s (outcome (length s) (whole rule s)) (ltb 256 (length s)) (first (foreign_at s) (length s)) (first (long_at s) (length s)) refl refl refl

  faultless-asked : Faultless s → parsed rule s ≡ outcome (length s) (whole rule s)
  unfolding parsed
  faultless-asked f = rw (le-ltb 256 (length s) f.bytes, f.proper, f.short)

-- ---- accepted

-- the question is accepted, with tree t and n words
pub record Accepts (rule : Rule) (s : List ℕ) (t : Tree) (n : ℕ) : Type 0 where
  pub faultless : Faultless s
  pub reads : question rule (2 * length s + 2) 8 0 (tokens s) ≡ good t [] n

outcome-good : (o : Out Tree) (len : ℕ) (t : Tree) (n : ℕ) → outcome len (bind o ended) ≡ parses t n → o ≡ good t [] n
outcome-good (good a [] j) len t n h = let p : a ≡ t = cc in let q : j ≡ n = cc in rw (p, q)
outcome-good (good a (u ∷ s) j) len t n h = zero_one (cc)
outcome-good (bad c s) len t n h = zero_one (cc)

module _ (rule : Rule) (s : List ℕ) (t : Tree) (n : ℕ) where
  accepts-step : (a : Parsed) → a ≡ parses t n → Call s (outcome (length s) (whole rule s)) a → Accepts rule s t n
  unfolding whole
  accepts-step a h (early x l e) = zero_one (cc)
  accepts-step a h (late f e) = record { faultless = f; reads = outcome-good (question rule (2 * length s + 2) 8 0 (tokens s)) (length s) t n (sym e ∙ h) }

  pub asked-accepts : parsed rule s ≡ parses t n → Accepts rule s t n
  asked-accepts h = accepts-step (parsed rule s) h (call rule s)

  pub accepts-asked : Accepts rule s t n → parsed rule s ≡ parses t n
  unfolding whole
  accepts-asked a = faultless-asked rule s a.faultless ∙ rw a.reads

  -- the walk takes all its words, and closes all its brackets
  pub accepted-walk : parsed rule s ≡ parses t n → walk fresh (tokens s) ≡ reached (operator_next 0 n)
  unfolding whole
  accepted-walk h =
      let e : whole rule s ≡ good t [] n = rw (asked-accepts h).reads in walk-accepts (tokens s) n (sym (whole-walked rule s) ∙ ap verdict e)

  pub accepted-within : parsed rule s ≡ parses t n → WithinLimits s
  accepted-within h =
      let kept = walk_kept fresh (tokens s) (operator_next 0 n) (accepted-walk h) in
      record { bytes = (asked-accepts h).faultless.bytes; words = omega (arith, kept.words, kept.full (omega arith)); brackets = kept.deep (omega arith) }

-- what the walk takes to the end is accepted
good-verdict : (rule : Rule) (s : List ℕ) (n : ℕ) → Faultless s → (o : Out Tree) → whole rule s ≡ o → verdict o ≡ reached n → AcceptedBy rule s n
good-verdict rule s n f (good t r k) e h = let q : k ≡ n = cc in record { tree = t; accepted = faultless-asked rule s f ∙ rw (e, q) }
good-verdict rule s n f (bad c r) e h = zero_one (cc)

pub walk-accepted : (rule : Rule) (s : List ℕ) (n : ℕ) → Faultless s → walk_all fresh (tokens s) ≡ reached n → AcceptedBy rule s n
walk-accepted rule s n f h = good-verdict rule s n f (whole rule s) refl (whole-walked rule s ∙ h)

-- ---- refused by 9, 10 or 11

-- 10 and 11 have their refusals, and 9 has what is left
refusal-number : (c p : ℕ) → StopNumber c → (number_of (refusal_of c p) ≡ c) × (value_of (refusal_of c p) ≡ p)
unfolding refusal_of
refusal-number c p (inl e) = rw e (refl, refl)
refusal-number c p (inr (inl e)) = rw e (refl, refl)
refusal-number c p (inr (inr e)) = rw e (refl, refl)

-- the walk over the tokens stops by the refusal's number, with r left
abbrev By : Refusal → List Tok → List Tok → Type 0
By x ts r = walk_all fresh ts ≡ stopped (number_of x) r

module _ (rule : Rule) (s : List ℕ) (x : Refusal) where
  outcome-stops : (o : Out Tree) → verdict o ≡ walk_all fresh (tokens s) → Faultless s → outcome (length s) o ≡ refuses x → StopsAt (By x) s (value_of x)
  outcome-stops (good t r k) v f h = zero_one (cc)
  outcome-stops (bad c r) v f h =
      let e : refusal_of c (token_place (length s) r) ≡ x = cc in
      let n = refusal-number c (token_place (length s) r) (ends-number (tokens s) c r (walk_ends (tokens s) c r (sym v))) in
      record {
        faultless = f;
        left = r;
        stop = sym v ∙ ap (λ (d : ℕ). stopped d r) (sym n.0 ∙ ap number_of e);
        place = sym (ap value_of e) ∙ n.1;
      }

  stops-step : (a : Parsed) → a ≡ refuses x → 9 ≤ number_of x → Call s (outcome (length s) (whole rule s)) a → StopsAt (By x) s (value_of x)
  stops-step a h l (early y m e) = let q : y ≡ x = cc in let z = ap number_of q in absurd (omega arith)
  stops-step a h l (late f e) = outcome-stops (whole rule s) (whole-walked rule s) f (sym e ∙ h)

  asked-stops : 9 ≤ number_of x → parsed rule s ≡ refuses x → StopsAt (By x) s (value_of x)
  asked-stops l h = stops-step (parsed rule s) h l (call rule s)

stops-asked : (rule : Rule) (s : List ℕ) (c : ℕ) (r : List Tok) → Faultless s → walk_all fresh (tokens s) ≡ stopped c r →
    parsed rule s ≡ refuses (refusal_of c (token_place (length s) r))
stops-asked rule s c r f h = faultless-asked rule s f ∙ ap (outcome (length s)) ((whole-stops rule s c r).1 h)

-- refused so exactly where the walk stops so
exactly-asked : (rule : Rule) (s : List ℕ) (x : Refusal) (Stop : List Tok → List Tok → Type 0) → 9 ≤ number_of x → refusal_of (number_of x) (value_of x) ≡ x →
    ((r : List Tok) → Exactly (By x (tokens s) r) (Stop (tokens s) r)) → Exactly (parsed rule s ≡ refuses x) (StopsAt Stop s (value_of x))
exactly-asked rule s x Stop l is exact = (
  λ h. let w = asked-stops rule s x l h in record { faultless = w.faultless; left = w.left; stop = (exact w.left).0 w.stop; place = w.place },
  λ w.
      stops-asked rule s (number_of x) w.left w.faultless ((exact w.left).1 w.stop)
      ∙ ap (λ (i : ℕ). refuses (refusal_of (number_of x) i)) (sym w.place)
      ∙ ap refuses is,
)

module _ (rule : Rule) (s : List ℕ) (p : ℕ) where
  pub grammar-asked : Exactly (parsed rule s ≡ refuses (Grammar p)) (StopsAt Misplaced s p)
  unfolding refusal_of
  grammar-asked = exactly-asked rule s (Grammar p) Misplaced (omega arith) refl (λ r. (λ h. h, λ h. h))

  pub word-limit-asked : Exactly (parsed rule s ≡ refuses (Words p)) (StopsAt WordTooMany s p)
  unfolding refusal_of
  word-limit-asked = exactly-asked rule s (Words p) WordTooMany (omega arith) refl (word-limit-walk (tokens s))

  pub bracket-limit-asked : Exactly (parsed rule s ≡ refuses (Brackets p)) (StopsAt BracketTooMany s p)
  unfolding refusal_of
  bracket-limit-asked = exactly-asked rule s (Brackets p) BracketTooMany (omega arith) refl (bracket-limit-walk (tokens s))

-- ---- two rules accept and refuse alike

-- what is answered, by the walk
abbrev said : ℕ → Walked ℕ → Result ℕ Refusal
said len (reached k) = Ok k
said len (stopped c r) = Err (refusal_of c (token_place len r))

outcome-said : (len : ℕ) (o : Out Tree) → answer (outcome len o) ≡ said len (verdict o)
outcome-said len (good t r k) = refl
outcome-said len (bad c r) = refl

whole-said : (rule : Rule) (s : List ℕ) → answer (outcome (length s) (whole rule s)) ≡ said (length s) (walk_all fresh (tokens s))
whole-said rule s = outcome-said (length s) (whole rule s) ∙ ap (said (length s)) (whole-walked rule s)

pub answer-any-rule : (rule rule' : Rule) (s : List ℕ) → answer (parsed rule s) ≡ answer (parsed rule' s)
unfolding parsed
answer-any-rule rule rule' s = go (ltb 256 (length s)) (first (foreign_at s) (length s)) (first (long_at s) (length s))
  where
    go : (b : Bool) (f g : Option ℕ) →
        answer (choose b (λ _. refuses (QuestionLength (length s)))
        (λ _. unless f QuestionByte (λ _. unless g QuestionWord (λ _. outcome (length s) (whole rule s))))) ≡
        answer (choose b (λ _. refuses (QuestionLength (length s)))
        (λ _. unless f QuestionByte (λ _. unless g QuestionWord (λ _. outcome (length s) (whole rule' s)))))
    go true f g = refl
    go false (Some i) g = refl
    go false None (Some i) = refl
    go false None None = whole-said rule s ∙ sym (whole-said rule' s)

-- ---- from what the call answers

answer-accepted : (a : Parsed) (n : ℕ) → answer a ≡ Ok n → (t : Tree) × (a ≡ parses t n)
answer-accepted (parses t k) n h = let q : k ≡ n = cc in (t, rw q)
answer-accepted (refuses r) n h = zero_one (cc)

answer-refused : (a : Parsed) (r : Refusal) → answer a ≡ Err r → a ≡ refuses r
answer-refused (parses t k) r h = zero_one (cc)
answer-refused (refuses q) r h = let w : q ≡ r = cc in rw w

module _ (rule : ℕ) (s : List ℕ) where
  pub verdict-accepted : (n : ℕ) → verdict_of rule s ≡ Ok n → (t : Tree) × (asked rule s ≡ parses t n)
  unfolding verdict_of
  verdict-accepted n h = answer-accepted (asked rule s) n h

  pub verdict-refused : (r : Refusal) → verdict_of rule s ≡ Err r → asked rule s ≡ refuses r
  unfolding verdict_of
  verdict-refused r h = answer-refused (asked rule s) r h

-- ---- by the number of a rule

-- what is answered of a question that is read, where the number names a rule
abbrev pub after : Result names.Rule Refusal → Result ℕ Refusal → Result ℕ Refusal
after (Ok name) read = read
after (Err refusal) read = Err refusal

module _ (rule : ℕ) (s : List ℕ) where
  pub asked-reads : is_rule rule ≡ true → asked rule s ≡ parsed (rule_of rule) s
  unfolding asked
  asked-reads h = rw h

  pub asked-else : is_rule rule ≡ false → asked rule s ≡ refuses (RuleNumber rule)
  unfolding asked
  asked-else h = rw h

  -- by a number of a rule the verdict is the reading's, and by any other it is 22
  pub verdict-reads : is_rule rule ≡ true → verdict_of rule s ≡ answer (parsed (rule_of rule) s)
  unfolding verdict_of
  verdict-reads h = ap answer (asked-reads h)

  pub verdict-else : is_rule rule ≡ false → verdict_of rule s ≡ Err (RuleNumber rule)
  unfolding verdict_of
  verdict-else h = ap answer (asked-else h)

  -- the reading by the first rule, where the number names a rule
  pub verdict_named : verdict_of rule s ≡ after (named rule) (answer (parsed from_left s))
  verdict_named = go (eqb rule 1) (eqb rule 2) refl refl
    where
      go : (a b : Bool) → eqb rule 1 ≡ a → eqb rule 2 ≡ b →
          verdict_of rule s ≡ after (cond a (Ok FromLeft) (cond b (Ok AndFirst) (Err (RuleNumber rule)))) (answer (parsed from_left s))
      go true b e f = verdict-reads (rw e) ∙ answer-any-rule (rule_of rule) from_left s
      go false true e f = verdict-reads (rw (e, f)) ∙ answer-any-rule (rule_of rule) from_left s
      go false false e f = verdict-else (rw (e, f))

  pub asked-parsed : (t : Tree) (n : ℕ) → asked rule s ≡ parses t n → (is_rule rule ≡ true) × (parsed (rule_of rule) s ≡ parses t n)
  asked-parsed t n h = by-test (is_rule rule) (λ e. (e, sym (asked-reads e) ∙ h)) (λ e. let z = sym (asked-else e) ∙ h in zero_one (cc))

-- Reference 9.2: by either rule what is accepted, with how many words, or refused is the same
pub verdict-any-rule : (rule rule' : ℕ) (s : List ℕ) → is_rule rule ≡ true → is_rule rule' ≡ true → verdict_of rule s ≡ verdict_of rule' s
verdict-any-rule rule rule' s h h' = verdict-reads rule s h ∙ answer-any-rule (rule_of rule) (rule_of rule') s ∙ sym (verdict-reads rule' s h')
