-- Laws of the walk: the reading of a question stops where the walk stops, by the same number, and else has the words that the walk took.
use Prim.Native.Nat.{ℕ, zero, suc, ◌+◌, ◌-◌, ◌*◌, ◌≤◌, ◌<◌}
use native.Mathlib.Omega.{arith}
use mathlib.Core.Path.{◌≡◌, refl, sym, ◌∙◌}
use mathlib.Core.List.{List, [], ◌∷◌, ◌++◌}
use mathlib.Core.Bool.{Bool, true, false}
use lib.ListN.{length}
use lib.Dec.{ltb, eqb}
use borrow.Author.Tests.{eqb-true, eqb-false, lt-ltb, le-ltb, ne_eqb}
use Rattle.word.specs.Word.{is_word_byte}
use Rattle.word.specs.declared.Op.{Op}
use Rattle.question.specs.Token.{choose, Tok, word_t, op_t, open_t, close_t, other_t, flush, mark, gather, tokens_at, tokens}
use Rattle.question.specs.Grammar.{Tree, word, Link, link, Rule, Out, good, bad, bind, closed, question, operand, links, ended, whole}
use Rattle.question.specs.Walk.{Stand, operand_next, operator_next, stopped, walk, walk_all, fresh, verdict}

-- ---- a question has no more tokens than bytes

one_more : (b : Bool) (x y : List Tok) (n : ℕ) → length x ≤ n → length y ≤ n → length (choose b (λ _. x) (λ _. y)) ≤ n
one_more true x y n h k = h
one_more false x y n h k = k

mark-length : (n b : ℕ) (ts : List Tok) → length (mark n b ts) ≤ suc (length ts)
mark-length n b ts = go (eqb b 32) (eqb b 40) (eqb b 41)
  where
    go : (x y z : Bool) → length (choose x (λ _. ts) (λ _. choose y (λ _. open_t n ∷ ts) (λ _. choose z (λ _. close_t n ∷ ts) (λ _. other_t n ∷ ts))))
        ≤ suc (length ts)
    go true y z = omega arith
    go false true z = omega arith
    go false false true = omega arith
    go false false false = omega arith

-- a run that has begun makes one token more
abbrev begun : List ℕ → ℕ
begun [] = 0
begun (a ∷ az) = 1

begun-append : (acc : List ℕ) (b : ℕ) → begun (acc ++ (b ∷ [])) ≡ 1
begun-append [] b = refl
begun-append (a ∷ az) b = refl

flush-length : (start : ℕ) (acc : List ℕ) (ts : List Tok) → length (flush start acc ts) ≡ begun acc + length ts
flush-length start [] ts = omega arith
flush-length start (a ∷ az) ts = omega arith

gather-length : (n start : ℕ) (acc l : List ℕ) → length (gather n start acc l) ≤ begun acc + length l
unfolding gather
gather-length n start acc [] = omega (arith, flush-length start acc [])
gather-length n start acc (b ∷ bs) =
    one_more (is_word_byte b) (gather (n + 1) start (acc ++ (b ∷ [])) bs) (flush start acc (mark n b (gather (n + 1) (n + 1) [] bs)))
    (begun acc + suc (length bs))
    (omega (arith, gather-length (n + 1) start (acc ++ (b ∷ [])) bs, begun-append acc b))
    (omega (
      arith,
      gather-length (n + 1) (n + 1) [] bs,
      flush-length start acc (mark n b (gather (n + 1) (n + 1) [] bs)),
      mark-length n b (gather (n + 1) (n + 1) [] bs),
    ))

tokens-length : (s : List ℕ) → length (tokens s) ≤ length s
unfolding tokens tokens_at
tokens-length s = omega (arith, gather-length 0 0 [] s)

-- ---- a reading in step with the walk

-- at the end of a level no operator stands
abbrev NoOperator : List Tok → Type 0
NoOperator [] = Unit {0}
NoOperator (word_t w p ∷ r) = Unit {0}
NoOperator (op_t o p ∷ r) = ⊥
NoOperator (open_t p ∷ r) = Unit {0}
NoOperator (close_t p ∷ r) = Unit {0}
NoOperator (other_t p ∷ r) = Unit {0}

-- what is read of ts: the walk from `at` comes to the tokens left, behind an operand with n brackets open, and `Left` holds of them; or it stops just so
abbrev Steps : {A : Type 0} → (List Tok → Type 0) → ℕ → Stand → List Tok → Out A → Type 0
Steps Left n at ts (good a r j) = (walk_all at ts ≡ walk_all (operator_next n j) r) × (length r ≤ length ts) × Left r
Steps Left n at ts (bad c r) = walk_all at ts ≡ stopped c r

abbrev Any : List Tok → Type 0
Any r = Unit {0}

-- what is read behind a reading
steps-behind : {A : Type 0} (L : List Tok → Type 0) (n j : ℕ) (at : Stand) (ts r : List Tok) (o : Out A) → walk_all at ts ≡ walk_all (operator_next n j) r →
    length r ≤ length ts →
    Steps L n (operator_next n j) r o → Steps L n at ts o
steps-behind L n j at ts r (good b z i) e m v = (e ∙ v.0, omega (arith, v.1), v.2)
steps-behind L n j at ts r (bad c z) e m v = e ∙ v

steps-bind : {A B : Type 0} (M L : List Tok → Type 0) (n : ℕ) (at : Stand) (ts : List Tok) (o : Out A) (next : A → List Tok → ℕ → Out B) → Steps M n at ts o →
    ((a : A) (r : List Tok) (j : ℕ) → length r ≤ length ts → Steps L n (operator_next n j) r (next a r j)) → Steps L n at ts (bind o next)
steps-bind M L n at ts (good a r j) next w f = steps-behind L n j at ts r (next a r j) w.0 w.1 (f a r j w.1)
steps-bind M L n at ts (bad c r) next w f = w

steps-put : {A B : Type 0} (L : List Tok → Type 0) (n : ℕ) (at : Stand) (ts : List Tok) (o : Out A) (g : A → B) → Steps L n at ts o →
    Steps L n at ts (bind o (λ a z i. good (g a) z i))
steps-put L n at ts (good a r j) g w = w
steps-put L n at ts (bad c r) g w = w

-- ---- one token passed

some-open : (n : ℕ) → eqb (n + 1) 0 ≡ false
some-open n = ne_eqb (n + 1) 0 (λ (e : n + 1 ≡ 0). omega arith)

steps-word : (n k p : ℕ) (w : List ℕ) (r : List Tok) (t : Bool) → ltb k 16 ≡ t →
    Steps Any n (operand_next n k) (word_t w p ∷ r) (choose t (λ _. good (word w) r (k + 1)) (λ _. bad 10 (word_t w p ∷ r)))
unfolding walk_all walk
steps-word n k p w r true e = (rw e, omega arith, tt)
steps-word n k p w r false e = rw e

walk-open : (n k p : ℕ) (r : List Tok) → n < 8 → walk_all (operand_next n k) (open_t p ∷ r) ≡ walk_all (operand_next (n + 1) k) r
unfolding walk_all walk
walk-open n k p r h = rw (lt-ltb n 8 h)

walk-ninth : (n k p : ℕ) (r : List Tok) → 8 ≤ n → walk_all (operand_next n k) (open_t p ∷ r) ≡ stopped 11 (open_t p ∷ r)
unfolding walk_all walk
walk-ninth n k p r h = rw (le-ltb n 8 h)

walk-close : (n k p : ℕ) (r : List Tok) → walk_all (operator_next (n + 1) k) (close_t p ∷ r) ≡ walk_all (operator_next n k) r
unfolding walk_all walk
walk-close n k p r = let m : n + 1 - 1 ≡ n = omega arith in rw (some-open n, m)

-- the bracket that closes, behind what was read in brackets
steps-closed : (n k p : ℕ) (ts : List Tok) (e : Tree) (r : List Tok) (j : ℕ) → Steps NoOperator (n + 1) (operand_next (n + 1) k) ts (good e r j) → n < 8 →
    Steps Any n (operand_next n k) (open_t p ∷ ts) (closed e r j)
unfolding walk_all walk
steps-closed n k p ts e [] j w h = walk-open n k p ts h ∙ w.0 ∙ rw (some-open n)
steps-closed n k p ts e (word_t v q ∷ z) j w h = walk-open n k p ts h ∙ w.0
steps-closed n k p ts e (op_t l q ∷ z) j w h = absurd w.2
steps-closed n k p ts e (open_t q ∷ z) j w h = walk-open n k p ts h ∙ w.0
steps-closed n k p ts e (close_t q ∷ z) j w h = (walk-open n k p ts h ∙ w.0 ∙ walk-close n j q z, omega (arith, w.1), tt)
steps-closed n k p ts e (other_t q ∷ z) j w h = walk-open n k p ts h ∙ w.0

steps-part : (n k p : ℕ) (ts : List Tok) (o : Out Tree) → Steps NoOperator (n + 1) (operand_next (n + 1) k) ts o → n < 8 →
    Steps Any n (operand_next n k) (open_t p ∷ ts) (bind o closed)
steps-part n k p ts (good e r j) w h = steps-closed n k p ts e r j w h
steps-part n k p ts (bad c r) w h = walk-open n k p ts h ∙ w

steps-open : (n d k p : ℕ) (r : List Tok) (o : Out Tree) (t : Bool) → eqb d 0 ≡ t → n + d ≡ 8 → (n < 8 → Steps Any n (operand_next n k) (open_t p ∷ r) o) →
    Steps Any n (operand_next n k) (open_t p ∷ r) (choose t (λ _. bad 11 (open_t p ∷ r)) (λ _. o))
steps-open n d k p r o true e s h = let z : d ≡ 0 = eqb-true d 0 e in walk-ninth n k p r (omega arith)
steps-open n d k p r o false e s h = h (below (eqb-false d 0 e))
  where
    below : (d ≡ 0 → ⊥) → n < 8
    below z = omega arith

steps-link : {A : Type 0} (n k p : ℕ) (l : Op) (r : List Tok) (o : Out A) → Steps NoOperator n (operand_next n k) r o →
    Steps NoOperator n (operator_next n k) (op_t l p ∷ r) o
unfolding walk_all walk
steps-link n k p l r (good a z i) w = (w.0, omega (arith, w.1), w.2)
steps-link n k p l r (bad c z) w = w

-- a level ends
steps-end : (n k : ℕ) (ts : List Tok) → NoOperator ts → Steps {A = List Link} NoOperator n (operator_next n k) ts (good [] ts k)
steps-end n k ts h = (refl, omega arith, h)

-- ---- every reading is in step, where n brackets are open and d more may open

mutual
  unfolding question operand links walk_all walk

  question-steps : (rule : Rule) (f d n k : ℕ) (ts : List Tok) → n + d ≡ 8 → 2 * length ts + 1 < f →
      Steps NoOperator n (operand_next n k) ts (question rule f d k ts)
  question-steps rule zero d n k ts s h = absurd (omega arith)
  question-steps rule (suc f) d n k ts s h =
      steps-bind Any NoOperator n (operand_next n k) ts (operand rule f d k ts) (λ e r j. bind (links rule f d j r) (λ ls z i. good (rule e ls) z i))
      (operand-steps rule f d n k ts s (omega arith))
      (λ e r j m. steps-put NoOperator n (operator_next n j) r (links rule f d j r) (rule e) (links-steps rule f d n j r s (omega arith)))

  operand-steps : (rule : Rule) (f d n k : ℕ) (ts : List Tok) → n + d ≡ 8 → 2 * length ts < f → Steps Any n (operand_next n k) ts (operand rule f d k ts)
  operand-steps rule zero d n k ts s h = absurd (omega arith)
  operand-steps rule (suc f) d n k [] s h = refl
  operand-steps rule (suc f) d n k (word_t w p ∷ r) s h = steps-word n k p w r (ltb k 16) refl
  operand-steps rule (suc f) d n k (op_t o p ∷ r) s h = refl
  operand-steps rule (suc f) d n k (open_t p ∷ r) s h =
      steps-open n d k p r (bind (question rule f (d - 1) k r) closed) (eqb d 0) refl s
      (λ b. steps-part n k p r (question rule f (d - 1) k r) (question-steps rule f (d - 1) (n + 1) k r (omega arith) (omega arith)) b)
  operand-steps rule (suc f) d n k (close_t p ∷ r) s h = refl
  operand-steps rule (suc f) d n k (other_t p ∷ r) s h = refl

  links-steps : (rule : Rule) (f d n k : ℕ) (ts : List Tok) → n + d ≡ 8 → 2 * length ts < f → Steps NoOperator n (operator_next n k) ts (links rule f d k ts)
  links-steps rule zero d n k ts s h = absurd (omega arith)
  links-steps rule (suc f) d n k [] s h = steps-end n k [] tt
  links-steps rule (suc f) d n k (word_t w p ∷ r) s h = steps-end n k (word_t w p ∷ r) tt
  links-steps rule (suc f) d n k (op_t o p ∷ r) s h =
      steps-link n k p o r (bind (operand rule f d k r) (λ e z j. bind (links rule f d j z) (λ ls y i. good (link o e ∷ ls) y i)))
      (steps-bind Any NoOperator n (operand_next n k) r (operand rule f d k r) (λ e z j. bind (links rule f d j z) (λ ls y i. good (link o e ∷ ls) y i))
      (operand-steps rule f d n k r s (omega arith))
      (λ e z j m. steps-put NoOperator n (operator_next n j) z (links rule f d j z) (λ ls. link o e ∷ ls) (links-steps rule f d n j z s (omega arith))))
  links-steps rule (suc f) d n k (open_t p ∷ r) s h = steps-end n k (open_t p ∷ r) tt
  links-steps rule (suc f) d n k (close_t p ∷ r) s h = steps-end n k (close_t p ∷ r) tt
  links-steps rule (suc f) d n k (other_t p ∷ r) s h = steps-end n k (other_t p ∷ r) tt

-- ---- the whole question

ended-steps : (ts : List Tok) (o : Out Tree) → Steps NoOperator 0 fresh ts o → verdict (bind o ended) ≡ walk_all fresh ts
unfolding walk_all walk
ended-steps ts (good t [] k) w = sym w.0
ended-steps ts (good t (word_t v p ∷ r) k) w = sym w.0
ended-steps ts (good t (op_t o p ∷ r) k) w = absurd w.2
ended-steps ts (good t (open_t p ∷ r) k) w = sym w.0
ended-steps ts (good t (close_t p ∷ r) k) w = sym w.0
ended-steps ts (good t (other_t p ∷ r) k) w = sym w.0
ended-steps ts (bad c r) w = sym w

-- the reading, for every rule
pub whole-walked : (rule : Rule) (s : List ℕ) → verdict (whole rule s) ≡ walk_all fresh (tokens s)
unfolding whole
whole-walked rule s =
    ended-steps (tokens s) (question rule (2 * length s + 2) 8 0 (tokens s))
    (question-steps rule (2 * length s + 2) 8 0 0 (tokens s) refl (omega (arith, tokens-length s)))
