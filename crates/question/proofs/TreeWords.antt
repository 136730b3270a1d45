-- Laws of a question's words: the tree has the words of the tokens, in their order.
use Prim.Native.Nat.{ℕ, zero, suc, ◌+◌, ◌-◌, ◌*◌, ◌≤◌}
use native.Mathlib.Omega.{arith}
use mathlib.Core.Path.{◌≡◌, refl, sym, ap, ◌∙◌, subst}
use mathlib.Core.List.{List, [], ◌∷◌, ◌++◌, append_assoc, append-nil}
use mathlib.Core.Bool.{Bool, true, false}
use lib.ListN.{length, length-append}
use lib.Dec.{ltb, eqb}
use Rattle.word.specs.declared.Op.{Op}
use Rattle.question.specs.Token.{choose, Tok, word_t, op_t, open_t, close_t, other_t, tokens}
use Rattle.question.specs.Grammar.{Tree, word, Link, link, Rule, Out, good, bad, bind, closed, question, operand, links, tree_words}
use Rattle.question.specs.Reading.{parses, parsed}
use Rattle.question.specs.Limits.{token_words}
use Rattle.question.proofs.RuleLaws.{link_words, Keeps}
use Rattle.question.proofs.ParsedLaws.{asked-accepts, accepted-within}

-- ---- the words of what is read, and those left, are the words of the tokens

abbrev pub Words : {A : Type 0} → (A → List (List ℕ)) → ℕ → List Tok → Out A → Type 0
Words ws k ts (good a r j) = (token_words ts ≡ ws a ++ token_words r) × (j ≡ k + length (ws a))
Words ws k ts (bad c r) = Unit {0}

-- an operand, and the links behind it
level-words : {C : Type 0} (ws : C → List (List ℕ)) (k : ℕ) (ts : List Tok) (o : Out Tree) (ls : ℕ → List Tok → Out (List Link)) (put : Tree → List Link → C) →
    ((t : Tree) (l : List Link) → ws (put t l) ≡ tree_words t ++ link_words l) → Words tree_words k ts o →
    ((j : ℕ) (r : List Tok) → Words link_words j r (ls j r)) →
    Words ws k ts (bind o (λ e r j. bind (ls j r) (λ l z i. good (put e l) z i)))
level-words ws k ts (bad c r) ls put keeps w v = tt
level-words ws k ts (good e r j) ls put keeps w v = go (ls j r) (v j r)
  where
    go : (o : Out (List Link)) → Words link_words j r o → Words ws k ts (bind o (λ l z i. good (put e l) z i))
    go (bad c z) u = tt
    go (good l z i) u = (
      w.0 ∙ ap (λ (y : List (List ℕ)). tree_words e ++ y) u.0 ∙ sym (append_assoc (tree_words e) (link_words l) (token_words z))
          ∙ ap (λ (y : List (List ℕ)). y ++ token_words z) (sym (keeps e l)),
      omega (arith, w.1, u.1, ap length (keeps e l), length-append (tree_words e) (link_words l)),
    )

closed-words : (k p : ℕ) (r : List Tok) (o : Out Tree) → Words tree_words k r o → Words tree_words k (open_t p ∷ r) (bind o closed)
unfolding token_words tree_words
closed-words k p r (bad c z) w = tt
closed-words k p r (good e [] j) w = tt
closed-words k p r (good e (word_t v q ∷ z) j) w = tt
closed-words k p r (good e (op_t o q ∷ z) j) w = tt
closed-words k p r (good e (open_t q ∷ z) j) w = tt
closed-words k p r (good e (close_t q ∷ z) j) w = w
closed-words k p r (good e (other_t q ∷ z) j) w = tt

choose-words : (k : ℕ) (ts : List Tok) (t : Bool) (a b : Unit {0} → Out Tree) → Words tree_words k ts (a tt) → Words tree_words k ts (b tt) →
    Words tree_words k ts (choose t a b)
choose-words k ts true a b p q = p
choose-words k ts false a b p q = q

link-words : (k p : ℕ) (o : Op) (r : List Tok) (x : Out (List Link)) → Words link_words k r x → Words link_words k (op_t o p ∷ r) x
unfolding token_words
link-words k p o r (good l z i) w = w
link-words k p o r (bad c z) w = tt

module _ (rule : Rule) (keeps : Keeps rule) where
  mutual
    unfolding question operand links token_words tree_words

    pub question-words : (f d k : ℕ) (ts : List Tok) → Words tree_words k ts (question rule f d k ts)
    question-words zero d k ts = tt
    question-words (suc f) d k ts = level-words tree_words k ts (operand rule f d k ts) (λ j r. links rule f d j r) rule keeps (operand-words f d k ts)
        (λ j r. links-words f d j r)

    pub operand-words : (f d k : ℕ) (ts : List Tok) → Words tree_words k ts (operand rule f d k ts)
    operand-words zero d k ts = tt
    operand-words (suc f) d k [] = tt
    operand-words (suc f) d k (word_t w p ∷ r) = choose-words k (word_t w p ∷ r) (ltb k 16) (λ _. good (word w) r (k + 1)) (λ _. bad 10 (word_t w p ∷ r))
        (refl, omega arith) tt
    operand-words (suc f) d k (op_t o p ∷ r) = tt
    operand-words (suc f) d k (open_t p ∷ r) =
        choose-words k (open_t p ∷ r) (eqb d 0) (λ _. bad 11 (open_t p ∷ r)) (λ _. bind (question rule f (d - 1) k r) closed) tt
        (closed-words k p r (question rule f (d - 1) k r) (question-words f (d - 1) k r))
    operand-words (suc f) d k (close_t p ∷ r) = tt
    operand-words (suc f) d k (other_t p ∷ r) = tt

    pub links-words : (f d k : ℕ) (ts : List Tok) → Words link_words k ts (links rule f d k ts)
    links-words zero d k ts = tt
    links-words (suc f) d k [] = (refl, omega arith)
    links-words (suc f) d k (word_t w p ∷ r) = (refl, omega arith)
    links-words (suc f) d k (op_t o p ∷ r) =
        link-words k p o r (bind (operand rule f d k r) (λ e z j. bind (links rule f d j z) (λ l y i. good (link o e ∷ l) y i)))
        (level-words link_words k r (operand rule f d k r) (λ j z. links rule f d j z) (λ e l. link o e ∷ l) (λ e l. refl) (operand-words f d k r)
        (λ j z. links-words f d j z))
    links-words (suc f) d k (open_t p ∷ r) = (refl, omega arith)
    links-words (suc f) d k (close_t p ∷ r) = (refl, omega arith)
    links-words (suc f) d k (other_t p ∷ r) = (refl, omega arith)

  -- an accepted question: its tree has its words, and they are counted
  pub accepted-words : (s : List ℕ) (t : Tree) (n : ℕ) → parsed rule s ≡ parses t n →
      (token_words (tokens s) ≡ tree_words t) × (n ≡ length (tree_words t)) × (n ≤ 16)
  unfolding token_words
  accepted-words s t n h =
      let e : question rule (2 * length s + 2) 8 0 (tokens s) ≡ good t [] n = (asked-accepts rule s t n h).reads in
      let w : Words tree_words 0 (tokens s) (good t [] n) = subst (Words tree_words 0 (tokens s)) e (question-words (2 * length s + 2) 8 0 (tokens s)) in
      let words : token_words (tokens s) ≡ tree_words t = w.0 ∙ append-nil (tree_words t) in
      (words, omega (arith, w.1), omega (arith, w.1, ap length words, (accepted-within rule s t n h).words))
