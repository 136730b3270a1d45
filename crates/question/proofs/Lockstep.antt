-- Two readings in step: a question by itself and the same in brackets; and a question before and after a part in brackets is exchanged.
-- The places of the tokens play no part, and stand at 0.
use Prim.Native.Nat.{ℕ, zero, suc, ◌+◌, ◌-◌}
use mathlib.Core.Path.{◌≡◌, refl, ap, ap₂}
use mathlib.Core.List.{List, [], ◌∷◌, ◌++◌}
use mathlib.Core.Bool.{Bool, true, false}
use lib.Dec.{ltb, eqb}
use Rattle.word.specs.declared.Op.{Op}
use Rattle.question.specs.Token.{choose, Tok, word_t, op_t, open_t, close_t, other_t}
use Rattle.question.specs.Grammar.{Tree, word, part, Link, link, Rule, Out, good, bad, bind, closed, question, operand, links}
use Rattle.question.specs.Meaning.{satisfies, Same, SameLinks, none, more, Respects}

-- ---- two readings of tokens that are the same up to a pair of Base

module _ (Base : List Tok → List Tok → Type 0) where
  data Rests : List Tok → List Tok → Type 0 where
    ends : {r r' : List Tok} → Base r r' → Rests r r'
    both : (t : Tok) {r r' : List Tok} → Rests r r' → Rests (t ∷ r) (t ∷ r')

  -- where both are read, what they read is related, and so is what is left
  abbrev R : {A : Type 0} → (A → A → Type 0) → Out A → Out A → Type 0
  R S (good e r j) (good e' r' j') = S e e' × Rests r r'
  R S (good e r j) (bad c r') = Unit {0}
  R S (bad c r) o = Unit {0}

  r-bad : {A : Type 0} (S : A → A → Type 0) (o : Out A) (c : ℕ) (r : List Tok) → R S o (bad c r)
  r-bad S (good e s j) c r = tt
  r-bad S (bad d s) c r = tt

  r-bind : {A B : Type 0} (S : A → A → Type 0) (S' : B → B → Type 0) (o o' : Out A) (h h' : A → List Tok → ℕ → Out B) → R S o o' →
      ((e : A) (r : List Tok) (j : ℕ) (e' : A) (r' : List Tok) (j' : ℕ) → S e e' → Rests r r' → R S' (h e r j) (h' e' r' j')) → R S' (bind o h) (bind o' h')
  r-bind S S' (good e r j) (good e' r' j') h h' w k = k e r j e' r' j' w.0 w.1
  r-bind S S' (good e r j) (bad c r') h h' w k = r-bad S' (h e r j) c r'
  r-bind S S' (bad c r) (good e' r' j') h h' w k = tt
  r-bind S S' (bad c r) (bad c' r') h h' w k = tt

  r-open : (S : Tree → Tree → Type 0) (a b : Bool) (o o' : Out Tree) (r r' : List Tok) → R S o o' →
      R S (choose a (λ _. bad 11 r) (λ _. o)) (choose b (λ _. bad 11 r') (λ _. o'))
  r-open S true true o o' r r' w = tt
  r-open S true false o o' r r' w = tt
  r-open S false true o o' r r' w = r-bad S o 11 r'
  r-open S false false o o' r r' w = w

-- what is made of related trees and links is related
record Keeps (rule : Rule) (S : Tree → Tree → Type 0) (L : List Link → List Link → Type 0) : Type 0 where
  words : (w : List ℕ) → S (word w) (word w)
  parts : (a b : Tree) → S a b → S (part a) (part b)
  levels : (a b : Tree) (ls ms : List Link) → S a b → L ls ms → S (rule a ls) (rule b ms)
  no-links : L [] []
  more-links : (o : Op) (a b : Tree) (ls ms : List Link) → S a b → L ls ms → L (link o a ∷ ls) (link o b ∷ ms)

-- how two readings of a pair of Base go
record Begins (rule : Rule) (S : Tree → Tree → Type 0) (L : List Link → List Link → Type 0) (Base : List Tok → List Tok → Type 0)
    (r r' : List Tok) : Type 0 where
  operands : (f g d D k K : ℕ) → R Base S (operand rule (suc f) d k r) (operand rule (suc g) D K r')
  levels : (f g d D k K : ℕ) → R Base L (links rule (suc f) d k r) (links rule (suc g) D K r')
  closing : (e e' : Tree) (j j' : ℕ) → R Base S (closed e r j) (closed e' r' j')

module _ (rule : Rule) (S : Tree → Tree → Type 0) (L : List Link → List Link → Type 0) (keeps : Keeps rule S L) (Base : List Tok → List Tok → Type 0)
    (begins : (r r' : List Tok) → Base r r' → Begins rule S L Base r r') where
  r-word : (a b : Bool) (w : List ℕ) (r r' s s' : List Tok) (k k' : ℕ) → Rests Base r r' →
      R Base S (choose a (λ _. good (word w) r k) (λ _. bad 10 s)) (choose b (λ _. good (word w) r' k') (λ _. bad 10 s'))
  r-word true true w r r' s s' k k' p = (keeps.words w, p)
  r-word true false w r r' s s' k k' p = tt
  r-word false true w r r' s s' k k' p = tt
  r-word false false w r r' s s' k k' p = tt

  r-closed : (e : Tree) (r : List Tok) (j : ℕ) (e' : Tree) (r' : List Tok) (j' : ℕ) → S e e' → Rests Base r r' → R Base S (closed e r j) (closed e' r' j')
  r-closed e r j e' r' j' p (ends h) = (begins r r' h).closing e e' j j'
  r-closed e (_ ∷ r) j e' (_ ∷ r') j' p (both (word_t w pl) h) = tt
  r-closed e (_ ∷ r) j e' (_ ∷ r') j' p (both (op_t o pl) h) = tt
  r-closed e (_ ∷ r) j e' (_ ∷ r') j' p (both (open_t pl) h) = tt
  r-closed e (_ ∷ r) j e' (_ ∷ r') j' p (both (close_t pl) h) = (keeps.parts e e' p, h)
  r-closed e (_ ∷ r) j e' (_ ∷ r') j' p (both (other_t pl) h) = tt

  -- an operand in step, and then the links behind it
  behind : {C : Type 0} (T : C → C → Type 0) (put : Tree → List Link → C) (f g d D : ℕ) (o o' : Out Tree) →
      ((a b : Tree) (ls ms : List Link) → S a b → L ls ms → T (put a ls) (put b ms)) → R Base S o o' →
      ((j j' : ℕ) (r r' : List Tok) → Rests Base r r' → R Base L (links rule f d j r) (links rule g D j' r')) →
      R Base T (bind o (λ e r j. bind (links rule f d j r) (λ ls z i. good (put e ls) z i)))
      (bind o' (λ e r j. bind (links rule g D j r) (λ ls z i. good (put e ls) z i)))
  behind T put f g d D o o' kept w h =
      r-bind Base S T o o' (λ e r j. bind (links rule f d j r) (λ ls z i. good (put e ls) z i))
      (λ e r j. bind (links rule g D j r) (λ ls z i. good (put e ls) z i)) w
      (λ e r j e' r' j' p t. r-bind Base L T (links rule f d j r) (links rule g D j' r') (λ ls z i. good (put e ls) z i) (λ ls z i. good (put e' ls) z i)
      (h j j' r r' t)
      (λ ls z i ls' z' i' q v. (kept e e' ls ls' p q, v)))

  mutual
    unfolding question operand links

    in_step : (f g d D k K : ℕ) (r r' : List Tok) → Rests Base r r' → R Base S (question rule f d k r) (question rule g D K r')
    in_step zero g d D k K r r' h = tt
    in_step (suc f) zero d D k K r r' h = r-bad Base S (question rule (suc f) d k r) 0 r'
    in_step (suc f) (suc g) d D k K r r' h =
        behind S rule f g d D (operand rule f d k r) (operand rule g D K r') keeps.levels (o-step f g d D k K r r' h)
        (λ j j' z z' t. l-step f g d D j j' z z' t)

    o-step : (f g d D k K : ℕ) (r r' : List Tok) → Rests Base r r' → R Base S (operand rule f d k r) (operand rule g D K r')
    o-step zero g d D k K r r' h = tt
    o-step (suc f) zero d D k K r r' h = r-bad Base S (operand rule (suc f) d k r) 0 r'
    o-step (suc f) (suc g) d D k K r r' (ends h) = (begins r r' h).operands f g d D k K
    o-step (suc f) (suc g) d D k K (_ ∷ r) (_ ∷ r') (both (word_t w p) h) = r-word (ltb k 16) (ltb K 16) w r r' (word_t w p ∷ r) (word_t w p ∷ r') (k + 1)
        (K + 1) h
    o-step (suc f) (suc g) d D k K (_ ∷ r) (_ ∷ r') (both (op_t o p) h) = tt
    o-step (suc f) (suc g) d D k K (_ ∷ r) (_ ∷ r') (both (open_t p) h) =
        r-open Base S (eqb d 0) (eqb D 0) (bind (question rule f (d - 1) k r) closed) (bind (question rule g (D - 1) K r') closed) (open_t p ∷ r) (open_t p ∷ r')
        (r-bind Base S S (question rule f (d - 1) k r) (question rule g (D - 1) K r') closed closed (in_step f g (d - 1) (D - 1) k K r r' h) r-closed)
    o-step (suc f) (suc g) d D k K (_ ∷ r) (_ ∷ r') (both (close_t p) h) = tt
    o-step (suc f) (suc g) d D k K (_ ∷ r) (_ ∷ r') (both (other_t p) h) = tt

    l-step : (f g d D k K : ℕ) (r r' : List Tok) → Rests Base r r' → R Base L (links rule f d k r) (links rule g D K r')
    l-step zero g d D k K r r' h = tt
    l-step (suc f) zero d D k K r r' h = r-bad Base L (links rule (suc f) d k r) 0 r'
    l-step (suc f) (suc g) d D k K r r' (ends h) = (begins r r' h).levels f g d D k K
    l-step (suc f) (suc g) d D k K (_ ∷ r) (_ ∷ r') (both (word_t w p) h) = (keeps.no-links, both (word_t w p) h)
    l-step (suc f) (suc g) d D k K (_ ∷ r) (_ ∷ r') (both (op_t o p) h) =
        behind L (λ e ls. link o e ∷ ls) f g d D (operand rule f d k r) (operand rule g D K r') (keeps.more-links o) (o-step f g d D k K r r' h)
        (λ j j' z z' t. l-step f g d D j j' z z' t)
    l-step (suc f) (suc g) d D k K (_ ∷ r) (_ ∷ r') (both (open_t p) h) = (keeps.no-links, both (open_t p) h)
    l-step (suc f) (suc g) d D k K (_ ∷ r) (_ ∷ r') (both (close_t p) h) = (keeps.no-links, both (close_t p) h)
    l-step (suc f) (suc g) d D k K (_ ∷ r) (_ ∷ r') (both (other_t p) h) = (keeps.no-links, both (other_t p) h)

-- the same tokens before a pair of Base
front : (Base : List Tok → List Tok → Type 0) (pre r r' : List Tok) → Base r r' → Rests Base (pre ++ r) (pre ++ r')
front Base [] r r' h = ends h
front Base (t ∷ pre) r r' h = both t (front Base pre r r' h)

-- ---- a question by itself, and with a closing bracket and more behind it: they read the same, the second up to the bracket

module _ (rule : Rule) (post : List Tok) where
  data Bracket : List Tok → List Tok → Type 0 where
    closes : Bracket [] (close_t 0 ∷ post)

  bracket-begins : (r r' : List Tok) → Bracket r r' → Begins rule (λ a b. a ≡ b) (λ a b. a ≡ b) Bracket r r'
  unfolding operand links
  bracket-begins r r' closes = record { operands = λ f g d D k K. tt; levels = λ f g d D k K. (refl, ends closes); closing = λ e e' j j'. tt }

  same-keeps : Keeps rule (λ a b. a ≡ b) (λ a b. a ≡ b)
  same-keeps = record {
    words = λ w. refl;
    parts = λ a b p. ap part p;
    levels = λ a b ls ms p q. ap₂ rule p q;
    no-links = refl;
    more-links = λ o a b ls ms p q. ap₂ (λ (x : Tree) (xs : List Link). link o x ∷ xs) p q;
  }

  -- it reads to a, and so does the second, with the bracket left
  in-brackets : (f g d D k K : ℕ) (ts : List Tok) (a : Tree) (j : ℕ) → question rule f d k ts ≡ good a [] j →
      R Bracket (λ a b. a ≡ b) (good a [] j) (question rule g D K (ts ++ close_t 0 ∷ post))
  in-brackets f g d D k K ts a j h =
      rw h at (in_step rule (λ a b. a ≡ b) (λ a b. a ≡ b) same-keeps Bracket bracket-begins f g d D k K ts (ts ++ close_t 0 ∷ post) (before ts))
    where
      before : (ts : List Tok) → Rests Bracket ts (ts ++ close_t 0 ∷ post)
      before [] = ends closes
      before (t ∷ ts) = both t (before ts)

  bracket-left : (r : List Tok) → Rests Bracket [] r → close_t 0 ∷ post ≡ r
  bracket-left r (ends closes) = refl

-- ---- a question, and the same with one part in brackets exchanged: where both are read, they mean the same

module _ (rule : Rule) (respects : Respects rule) (has : List ℕ → ℕ → Bool) (q q' post : List Tok) where
  data Parts : List Tok → List Tok → Type 0 where
    over : Parts [] []
    exchanged : Parts (open_t 0 ∷ (q ++ close_t 0 ∷ post)) (open_t 0 ∷ (q' ++ close_t 0 ∷ post))

  same-part : (a b : Tree) → Same has a b → Same has (part a) (part b)
  unfolding satisfies
  same-part a b p x = p x

  means-keeps : Keeps rule (Same has) (SameLinks has)
  means-keeps = record {
    words = λ w x. refl;
    parts = same-part;
    levels = λ a b ls ms p q. respects has a b ls ms p q;
    no-links = none;
    more-links = λ o a b ls ms p q. more o a b ls ms p q;
  }

  all_same : (r : List Tok) → Rests Parts r r
  all_same [] = ends over
  all_same (t ∷ r) = both t (all_same r)

  -- the part itself, which by itself reads to a, and the other to b
  module _ (a b : Tree) (ab : Same has a b) (F F' j₀ j₀' : ℕ) (ha : question rule F 8 0 q ≡ good a [] j₀) (hb : question rule F' 8 0 q' ≡ good b [] j₀') where
    at_part : (o o' : Out Tree) → R (Bracket rule post) (λ a b. a ≡ b) (good a [] j₀) o → R (Bracket rule post) (λ a b. a ≡ b) (good b [] j₀') o' →
        R Parts (Same has) (bind o closed) (bind o' closed)
    at_part (good e r j) (good e' r' j') w w' =
        rw (← bracket-left rule post r w.1, ← bracket-left rule post r' w'.1, ← w.0, ← w'.0) (same-part a b ab, all_same post)
    at_part (good e r j) (bad c r') w w' = r-bad Parts (Same has) (closed e r j) c r'
    at_part (bad c r) (good e' r' j') w w' = tt
    at_part (bad c r) (bad c' r') w w' = tt

    part-begins : (r r' : List Tok) → Parts r r' → Begins rule (Same has) (SameLinks has) Parts r r'
    unfolding operand links
    part-begins r r' over = record { operands = λ f g d D k K. tt; levels = λ f g d D k K. (none, ends over); closing = λ e e' j j'. tt }
    part-begins r r' exchanged = record {
      operands = λ f g d D k K.
          r-open Parts (Same has) (eqb d 0) (eqb D 0) (bind (question rule f (d - 1) k (q ++ close_t 0 ∷ post)) closed)
          (bind (question rule g (D - 1) K (q' ++ close_t 0 ∷ post)) closed)
          (open_t 0 ∷ (q ++ close_t 0 ∷ post)) (open_t 0 ∷ (q' ++ close_t 0 ∷ post))
          (at_part (question rule f (d - 1) k (q ++ close_t 0 ∷ post)) (question rule g (D - 1) K (q' ++ close_t 0 ∷ post))
          (in-brackets rule post F f 8 (d - 1) 0 k q a j₀ ha) (in-brackets rule post F' g 8 (D - 1) 0 K q' b j₀' hb));
      levels = λ f g d D k K. (none, ends exchanged);
      closing = λ e e' j j'. tt;
    }

    pub step-means : (f g i i' : ℕ) (pre : List Tok) (t t' : Tree) (r : List Tok) →
        question rule f 8 0 (pre ++ open_t 0 ∷ (q ++ close_t 0 ∷ post)) ≡ good t [] i →
        question rule g 8 0 (pre ++ open_t 0 ∷ (q' ++ close_t 0 ∷ post)) ≡ good t' r i' → Same has t t'
    step-means f g i i' pre t t' r h h' =
        (rw (h, h') at (in_step rule (Same has) (SameLinks has) means-keeps Parts part-begins f g 8 8 0 0 _ _ (front Parts pre _ _ exchanged))).0
