-- Laws of room for brackets: with more of it, all that was read is read as before.
use Prim.Native.Nat.{ℕ, zero, suc, ◌-◌, ◌≤◌}
use native.Mathlib.Omega.{arith}
use mathlib.Core.Path.{◌≡◌, refl, sym}
use mathlib.Core.List.{List, [], ◌∷◌}
use mathlib.Core.Bool.{Bool, true, false}
use lib.Dec.{eqb}
use borrow.Author.Tests.{eqb-true, eq-eqb}
use Rattle.laws.proofs.Tests.{true-false}
use Rattle.question.specs.Token.{choose, Tok, word_t, op_t, open_t, close_t, other_t}
use Rattle.question.specs.Grammar.{Tree, Link, link, Rule, Out, good, bad, bind, closed, question, operand, links}
use Rattle.question.proofs.LevelLaws.{bad-good}

-- what the first reads, the second reads
abbrev Kept : {A : Type 0} → Out A → Out A → Type 0
Kept {A} o o' = (a : A) (z : List Tok) (j : ℕ) → o ≡ good a z j → o' ≡ good a z j

kept_same : {A : Type 0} (o : Out A) → Kept o o
kept_same o a z j e = e

kept-bad : {A : Type 0} (c : ℕ) (r : List Tok) (o : Out A) → Kept (bad c r) o
kept-bad c r o a z j e = bad-good c r a z j e

kept-bind : {A B : Type 0} (o o' : Out A) (h h' : A → List Tok → ℕ → Out B) → Kept o o' → ((a : A) (r : List Tok) (i : ℕ) → Kept (h a r i) (h' a r i)) →
    Kept (bind o h) (bind o' h')
kept-bind (good a r i) o' h h' p q b z j e = rw (p a r i refl) (q a r i b z j e)
kept-bind (bad c r) o' h h' p q b z j e = bad-good c r b z j e

-- an operand, and then the links behind it
kept-level : {C : Type 0} (put : Tree → List Link → C) (o o' : Out Tree) (l l' : ℕ → List Tok → Out (List Link)) → Kept o o' →
    ((i : ℕ) (r : List Tok) → Kept (l i r) (l' i r)) →
    Kept (bind o (λ x r i. bind (l i r) (λ ls y n. good (put x ls) y n))) (bind o' (λ x r i. bind (l' i r) (λ ls y n. good (put x ls) y n)))
kept-level put o o' l l' p q =
    kept-bind o o' (λ x r i. bind (l i r) (λ ls y n. good (put x ls) y n)) (λ x r i. bind (l' i r) (λ ls y n. good (put x ls) y n)) p
    (λ x r i. kept-bind (l i r) (l' i r) (λ ls y n. good (put x ls) y n) (λ ls y n. good (put x ls) y n) (q i r) (λ ls y n. kept_same (good (put x ls) y n)))

-- a bracket that was not refused
kept-open : (s t : Bool) (r : List Tok) (o o' : Out Tree) → (t ≡ true → s ≡ true) → Kept o o' →
    Kept (choose s (λ _. bad 11 r) (λ _. o)) (choose t (λ _. bad 11 r) (λ _. o'))
kept-open true t r o o' h p = kept-bad 11 r (choose t (λ _. bad 11 r) (λ _. o'))
kept-open false true r o o' h p = true-false (sym (h refl))
kept-open false false r o o' h p = p

module _ (rule : Rule) where
  mutual
    unfolding question operand links

    question-deeper : (f d D k : ℕ) (ts : List Tok) → d ≤ D → Kept (question rule f d k ts) (question rule f D k ts)
    question-deeper zero d D k ts h = kept_same (bad 0 ts)
    question-deeper (suc f) d D k ts h =
        kept-level rule (operand rule f d k ts) (operand rule f D k ts) (links rule f d) (links rule f D) (operand-deeper f d D k ts h)
        (λ i r. links-deeper f d D i r h)

    operand-deeper : (f d D k : ℕ) (ts : List Tok) → d ≤ D → Kept (operand rule f d k ts) (operand rule f D k ts)
    operand-deeper zero d D k ts h = kept_same (bad 0 ts)
    operand-deeper (suc f) d D k [] h = kept_same (bad 9 [])
    operand-deeper (suc f) d D k (word_t w p ∷ r) h = kept_same (operand rule (suc f) d k (word_t w p ∷ r))
    operand-deeper (suc f) d D k (op_t o p ∷ r) h = kept_same (bad 9 (op_t o p ∷ r))
    operand-deeper (suc f) d D k (open_t p ∷ r) h =
        kept-open (eqb d 0) (eqb D 0) (open_t p ∷ r) (bind (question rule f (d - 1) k r) closed) (bind (question rule f (D - 1) k r) closed)
        (λ e. let g = eqb-true D 0 e in eq-eqb d 0 (omega arith))
        (kept-bind (question rule f (d - 1) k r) (question rule f (D - 1) k r) closed closed (question-deeper f (d - 1) (D - 1) k r (omega arith))
        (λ t y i. kept_same (closed t y i)))
    operand-deeper (suc f) d D k (close_t p ∷ r) h = kept_same (bad 9 (close_t p ∷ r))
    operand-deeper (suc f) d D k (other_t p ∷ r) h = kept_same (bad 9 (other_t p ∷ r))

    links-deeper : (f d D k : ℕ) (ts : List Tok) → d ≤ D → Kept (links rule f d k ts) (links rule f D k ts)
    links-deeper zero d D k ts h = kept_same (bad 0 ts)
    links-deeper (suc f) d D k [] h = kept_same (good [] [] k)
    links-deeper (suc f) d D k (word_t w p ∷ r) h = kept_same (good [] (word_t w p ∷ r) k)
    links-deeper (suc f) d D k (op_t o p ∷ r) h =
        kept-level (λ x ls. link o x ∷ ls) (operand rule f d k r) (operand rule f D k r) (links rule f d) (links rule f D) (operand-deeper f d D k r h)
        (λ i y. links-deeper f d D i y h)
    links-deeper (suc f) d D k (open_t p ∷ r) h = kept_same (good [] (open_t p ∷ r) k)
    links-deeper (suc f) d D k (close_t p ∷ r) h = kept_same (good [] (close_t p ∷ r) k)
    links-deeper (suc f) d D k (other_t p ∷ r) h = kept_same (good [] (other_t p ∷ r) k)

pub deeper-reads : (rule : Rule) (f d D k : ℕ) (ts : List Tok) (t : Tree) (z : List Tok) (j : ℕ) → d ≤ D → question rule f d k ts ≡ good t z j →
    question rule f D k ts ≡ good t z j
deeper-reads rule f d D k ts t z j h e = question-deeper rule f d D k ts h t z j e
