-- Laws of a question that is split at a bracket: its bytes, its runs, and its tokens without their places.
use Prim.Native.Nat.{ℕ, zero, suc, ◌+◌, ◌-◌, ◌≤◌, ◌<◌}
use native.Mathlib.Nat.{lt_of_not-le}
use native.Mathlib.Decide.{dec_le}
use native.Mathlib.Omega.{arith}
use mathlib.Core.Path.{◌≡◌, refl, ap, ◌∙◌}
use mathlib.Core.List.{List, [], ◌∷◌, ◌++◌}
use mathlib.Core.Bool.{Bool, true, false}
use lib.ListN.{length, get_or, drop}
use lib.Dec.{ltb, eqb}
use borrow.Author.Tests.{ltb-false, le-ltb}
use Rattle.word.specs.Word.{is_word_byte, operator_of}
use Rattle.word.specs.declared.Op.{Op}
use Rattle.refusal.specs.First.{first}
use Rattle.std.specs.Prelude.{Option, Some, None}
use Rattle.refusal.proofs.FirstLaws.{first-none, first-none-is}
use Rattle.question.specs.Token.{choose, run, Tok, word_t, op_t, open_t, close_t, other_t, run_tok, flush, mark, gather, tokens_at, tokens}
use Rattle.question.specs.Grammar.{Tree, word, Link, link, Rule, Out, good, bad, bind, closed, question, operand, links}
use Rattle.question.specs.Reading.{is_foreign, foreign_at, long_at}
use Rattle.question.specs.Exchange.{around}
use Rattle.question.proofs.RunLaws.{run_end}

-- ---- bytes

abbrev pub Proper : List ℕ → Type 0
Proper s = (i : ℕ) → i < length s → is_foreign (get_or s i 0) ≡ false

pub none-proper : (s : List ℕ) → first (foreign_at s) (length s) ≡ None → Proper s
none-proper s h = first-none (foreign_at s) (length s) h

pub proper-none : (s : List ℕ) → Proper s → first (foreign_at s) (length s) ≡ None
proper-none s h = first-none-is (foreign_at s) (length s) h

proper-front : (p : List ℕ) (c : ℕ) (t : List ℕ) → Proper (p ++ c ∷ t) → Proper p
proper-front [] c t h i l = absurd (omega arith)
proper-front (x ∷ p) c t h zero l = h 0 (omega arith)
proper-front (x ∷ p) c t h (suc i) l = proper-front p c t (λ j m. h (suc j) (omega arith)) i (omega arith)

proper-behind : (p : List ℕ) (c : ℕ) (t : List ℕ) → Proper (p ++ c ∷ t) → Proper t
proper-behind [] c t h i l = h (suc i) (omega arith)
proper-behind (x ∷ p) c t h i l = proper-behind p c t (λ j m. h (suc j) (omega arith)) i l

proper-join : (p : List ℕ) (c : ℕ) (t : List ℕ) → is_foreign c ≡ false → Proper p → Proper t → Proper (p ++ c ∷ t)
proper-join [] c t e h k zero l = e
proper-join [] c t e h k (suc i) l = k i (omega arith)
proper-join (x ∷ p) c t e h k zero l = h 0 (omega arith)
proper-join (x ∷ p) c t e h k (suc i) l = proper-join p c t e (λ j m. h (suc j) (omega arith)) k i (omega arith)

-- ---- runs

abbrev pub Short : List ℕ → Type 0
Short s = (i : ℕ) → run (drop i s) ≤ 32

pub none-short : (s : List ℕ) → first (long_at s) (length s) ≡ None → Short s
none-short s h i = go (dec_le (length s) i)
  where
    go : Dec (length s ≤ i) → run (drop i s) ≤ 32
    go (yes d) = omega (arith, run_end s i d)
    go (no d) = ltb-false 32 (run (drop i s)) (first-none (long_at s) (length s) h i (lt_of_not-le d))

pub short_none : (s : List ℕ) → Short s → first (long_at s) (length s) ≡ None
short_none s h = first-none-is (long_at s) (length s) (λ i l. le-ltb 32 (run (drop i s)) (h i))

module _ (c : ℕ) (breaks : is_word_byte c ≡ false) where
  run-split : (p t : List ℕ) → run (p ++ c ∷ t) ≡ run p
  unfolding run
  run-split [] t = rw breaks
  run-split (x ∷ p) t = go (is_word_byte x) (run-split p t)
    where
      go : (b : Bool) → run (p ++ c ∷ t) ≡ run p → choose b (λ _. suc (run (p ++ c ∷ t))) (λ _. 0) ≡ choose b (λ _. suc (run p)) (λ _. 0)
      go true e = ap suc e
      go false e = refl

  none_left : (i : ℕ) → run (drop i []) ≤ 32
  unfolding run
  none_left zero = omega arith
  none_left (suc i) = omega arith

  short-front : (p t : List ℕ) → Short (p ++ c ∷ t) → Short p
  short-front [] t h i = none_left i
  short-front (x ∷ p) t h zero = omega (arith, h 0, run-split (x ∷ p) t)
  short-front (x ∷ p) t h (suc i) = short-front p t (λ j. h (suc j)) i

  short-behind : (p t : List ℕ) → Short (p ++ c ∷ t) → Short t
  short-behind [] t h i = h (suc i)
  short-behind (x ∷ p) t h i = short-behind p t (λ j. h (suc j)) i

  short-join : (p t : List ℕ) → Short p → Short t → Short (p ++ c ∷ t)
  short-join [] t h k zero = omega (arith, run-split [] t, none_left 0)
  short-join [] t h k (suc i) = k i
  short-join (x ∷ p) t h k zero = omega (arith, h 0, run-split (x ∷ p) t)
  short-join (x ∷ p) t h k (suc i) = short-join p t (λ j. h (suc j)) k i

-- ---- a token without its place

abbrev pub bare : Tok → Tok
bare (word_t w p) = word_t w 0
bare (op_t o p) = op_t o 0
bare (open_t p) = open_t 0
bare (close_t p) = close_t 0
bare (other_t p) = other_t 0

abbrev pub bares : List Tok → List Tok
bares [] = []
bares (t ∷ r) = bare t ∷ bares r

abbrev pub bare_out : {A : Type 0} → Out A → Out A
bare_out (good e r k) = good e (bares r) k
bare_out (bad c r) = bad c (bares r)

-- ---- reading does not look at places

b-bind : {A B : Type 0} (o : Out A) (h h' : A → List Tok → ℕ → Out B) → ((e : A) (r : List Tok) (k : ℕ) → h' e (bares r) k ≡ bare_out (h e r k)) →
    bind (bare_out o) h' ≡ bare_out (bind o h)
b-bind (good e r k) h h' q = q e r k
b-bind (bad c r) h h' q = refl

b-put : {A B : Type 0} (o : Out A) (g : A → B) → bind (bare_out o) (λ a z i. good (g a) z i) ≡ bare_out (bind o (λ a z i. good (g a) z i))
b-put (good e r k) g = refl
b-put (bad c r) g = refl

b-closed : (e : Tree) (r : List Tok) (k : ℕ) → closed e (bares r) k ≡ bare_out (closed e r k)
b-closed e [] k = refl
b-closed e (word_t w p ∷ r) k = refl
b-closed e (op_t o p ∷ r) k = refl
b-closed e (open_t p ∷ r) k = refl
b-closed e (close_t p ∷ r) k = refl
b-closed e (other_t p ∷ r) k = refl

b-choose : (t : Bool) (a b a' b' : Unit {0} → Out Tree) → a' tt ≡ bare_out (a tt) → b' tt ≡ bare_out (b tt) → choose t a' b' ≡ bare_out (choose t a b)
b-choose true a b a' b' p q = p
b-choose false a b a' b' p q = q

module _ (rule : Rule) where
  mutual
    unfolding question operand links

    pub bare-question : (f d k : ℕ) (ts : List Tok) → question rule f d k (bares ts) ≡ bare_out (question rule f d k ts)
    bare-question zero d k ts = refl
    bare-question (suc f) d k ts =
        ap (λ (o : Out Tree). bind o (λ e r j. bind (links rule f d j r) (λ ls z i. good (rule e ls) z i))) (bare-operand f d k ts)
        ∙ b-bind (operand rule f d k ts) (λ e r j. bind (links rule f d j r) (λ ls z i. good (rule e ls) z i))
        (λ e r j. bind (links rule f d j r) (λ ls z i. good (rule e ls) z i))
        (λ e r j. ap (λ (o : Out (List Link)). bind o (λ ls z i. good (rule e ls) z i)) (bare-links f d j r) ∙ b-put (links rule f d j r) (rule e))

    bare-operand : (f d k : ℕ) (ts : List Tok) → operand rule f d k (bares ts) ≡ bare_out (operand rule f d k ts)
    bare-operand zero d k ts = refl
    bare-operand (suc f) d k [] = refl
    bare-operand (suc f) d k (word_t w p ∷ r) =
        b-choose (ltb k 16) (λ _. good (word w) r (k + 1)) (λ _. bad 10 (word_t w p ∷ r)) (λ _. good (word w) (bares r) (k + 1))
        (λ _. bad 10 (word_t w 0 ∷ bares r)) refl refl
    bare-operand (suc f) d k (op_t o p ∷ r) = refl
    bare-operand (suc f) d k (open_t p ∷ r) =
        b-choose (eqb d 0) (λ _. bad 11 (open_t p ∷ r)) (λ _. bind (question rule f (d - 1) k r) closed) (λ _. bad 11 (open_t 0 ∷ bares r))
        (λ _. bind (question rule f (d - 1) k (bares r)) closed)
        refl (ap (λ (o : Out Tree). bind o closed) (bare-question f (d - 1) k r) ∙ b-bind (question rule f (d - 1) k r) closed closed b-closed)
    bare-operand (suc f) d k (close_t p ∷ r) = refl
    bare-operand (suc f) d k (other_t p ∷ r) = refl

    bare-links : (f d k : ℕ) (ts : List Tok) → links rule f d k (bares ts) ≡ bare_out (links rule f d k ts)
    bare-links zero d k ts = refl
    bare-links (suc f) d k [] = refl
    bare-links (suc f) d k (word_t w p ∷ r) = refl
    bare-links (suc f) d k (op_t o p ∷ r) =
        ap (λ (q : Out Tree). bind q (λ e s j. bind (links rule f d j s) (λ ls z i. good (link o e ∷ ls) z i))) (bare-operand f d k r)
        ∙ b-bind (operand rule f d k r) (λ e s j. bind (links rule f d j s) (λ ls z i. good (link o e ∷ ls) z i))
        (λ e s j. bind (links rule f d j s) (λ ls z i. good (link o e ∷ ls) z i))
        (λ e s j. ap (λ (q : Out (List Link)). bind q (λ ls z i. good (link o e ∷ ls) z i)) (bare-links f d j s)
        ∙ b-put (links rule f d j s) (λ ls. link o e ∷ ls))
    bare-links (suc f) d k (open_t p ∷ r) = refl
    bare-links (suc f) d k (close_t p ∷ r) = refl
    bare-links (suc f) d k (other_t p ∷ r) = refl

-- ---- the tokens do not depend on where they are gathered

bare-run : (o : Option Op) (w : List ℕ) (p q : ℕ) → bare (run_tok o w p) ≡ bare (run_tok o w q)
bare-run (Some o) w p q = refl
bare-run None w p q = refl

bare-flush : (p q : ℕ) (acc : List ℕ) (a b : List Tok) → bares a ≡ bares b → bares (flush p acc a) ≡ bares (flush q acc b)
bare-flush p q [] a b e = e
bare-flush p q (c ∷ cs) a b e = rw (bare-run (operator_of (c ∷ cs)) (c ∷ cs) p q, e)

bare-mark : (n m b : ℕ) (u v : List Tok) → bares u ≡ bares v → bares (mark n b u) ≡ bares (mark m b v)
bare-mark n m b u v e = go (eqb b 32) (eqb b 40) (eqb b 41)
  where
    go : (x y z : Bool) → bares (choose x (λ _. u) (λ _. choose y (λ _. open_t n ∷ u) (λ _. choose z (λ _. close_t n ∷ u) (λ _. other_t n ∷ u))))
        ≡ bares (choose x (λ _. v) (λ _. choose y (λ _. open_t m ∷ v) (λ _. choose z (λ _. close_t m ∷ v) (λ _. other_t m ∷ v))))
    go true y z = e
    go false true z = ap (λ (r : List Tok). open_t 0 ∷ r) e
    go false false true = ap (λ (r : List Tok). close_t 0 ∷ r) e
    go false false false = ap (λ (r : List Tok). other_t 0 ∷ r) e

bare-choose : (t : Bool) (a b a' b' : Unit {0} → List Tok) → bares (a tt) ≡ bares (a' tt) → bares (b tt) ≡ bares (b' tt) →
    bares (choose t a b) ≡ bares (choose t a' b')
bare-choose true a b a' b' p q = p
bare-choose false a b a' b' p q = q

bare-gather : (n m st su : ℕ) (acc l : List ℕ) → bares (gather n st acc l) ≡ bares (gather m su acc l)
unfolding gather
bare-gather n m st su acc [] = bare-flush st su acc [] [] refl
bare-gather n m st su acc (b ∷ bs) =
    bare-choose (is_word_byte b) (λ _. gather (n + 1) st (acc ++ (b ∷ [])) bs) (λ _. flush st acc (mark n b (gather (n + 1) (n + 1) [] bs)))
    (λ _. gather (m + 1) su (acc ++ (b ∷ [])) bs) (λ _. flush su acc (mark m b (gather (m + 1) (m + 1) [] bs)))
    (bare-gather (n + 1) (m + 1) st su (acc ++ (b ∷ [])) bs)
    (bare-flush st su acc _ _ (bare-mark n m b _ _ (bare-gather (n + 1) (m + 1) (n + 1) (m + 1) [] bs)))

-- ---- the tokens at a byte that is a token by itself

module _ (c : ℕ) (tk : Tok) (hc : is_word_byte c ≡ false) (hm : (n : ℕ) (ts : List Tok) → bares (mark n c ts) ≡ tk ∷ bares ts) where
  flush-app : (st : ℕ) (acc : List ℕ) (u v w : List Tok) → bares u ≡ bares v ++ w → bares (flush st acc u) ≡ bares (flush st acc v) ++ w
  flush-app st [] u v w e = e
  flush-app st (a ∷ az) u v w e = ap (λ (r : List Tok). bare (run_tok (operator_of (a ∷ az)) (a ∷ az) st) ∷ r) e

  mark-app : (n b : ℕ) (u v w : List Tok) → bares u ≡ bares v ++ w → bares (mark n b u) ≡ bares (mark n b v) ++ w
  mark-app n b u v w e = go (eqb b 32) (eqb b 40) (eqb b 41)
    where
      go : (x y z : Bool) → bares (choose x (λ _. u) (λ _. choose y (λ _. open_t n ∷ u) (λ _. choose z (λ _. close_t n ∷ u) (λ _. other_t n ∷ u))))
          ≡ bares (choose x (λ _. v) (λ _. choose y (λ _. open_t n ∷ v) (λ _. choose z (λ _. close_t n ∷ v) (λ _. other_t n ∷ v)))) ++ w
      go true y z = e
      go false true z = ap (λ (r : List Tok). open_t 0 ∷ r) e
      go false false true = ap (λ (r : List Tok). close_t 0 ∷ r) e
      go false false false = ap (λ (r : List Tok). other_t 0 ∷ r) e

  choose-app : (t : Bool) (a b a' b' : Unit {0} → List Tok) (w : List Tok) → bares (a tt) ≡ bares (a' tt) ++ w → bares (b tt) ≡ bares (b' tt) ++ w →
      bares (choose t a b) ≡ bares (choose t a' b') ++ w
  choose-app true a b a' b' w p q = p
  choose-app false a b a' b' w p q = q

  at_byte : (n st : ℕ) (acc t : List ℕ) → bares (gather n st acc (c ∷ t)) ≡ bares (flush st acc []) ++ (tk ∷ bares (tokens t))
  unfolding gather tokens tokens_at
  at_byte n st acc t =
      rw hc (flush-app st acc (mark n c (gather (n + 1) (n + 1) [] t)) [] (tk ∷ bares (gather 0 0 [] t))
      (hm n (gather (n + 1) (n + 1) [] t) ∙ ap (λ (r : List Tok). tk ∷ r) (bare-gather (n + 1) 0 (n + 1) 0 [] t)))

  split-go : (n st : ℕ) (acc p t : List ℕ) → bares (gather n st acc (p ++ c ∷ t)) ≡ bares (gather n st acc p) ++ (tk ∷ bares (tokens t))
  unfolding gather
  split-go n st acc [] t = at_byte n st acc t
  split-go n st acc (b ∷ bs) t =
      choose-app (is_word_byte b) (λ _. gather (n + 1) st (acc ++ (b ∷ [])) (bs ++ c ∷ t))
      (λ _. flush st acc (mark n b (gather (n + 1) (n + 1) [] (bs ++ c ∷ t))))
      (λ _. gather (n + 1) st (acc ++ (b ∷ [])) bs) (λ _. flush st acc (mark n b (gather (n + 1) (n + 1) [] bs))) (tk ∷ bares (tokens t))
      (split-go (n + 1) st (acc ++ (b ∷ [])) bs t)
      (flush-app st acc (mark n b (gather (n + 1) (n + 1) [] (bs ++ c ∷ t))) (mark n b (gather (n + 1) (n + 1) [] bs)) (tk ∷ bares (tokens t))
      (mark-app n b (gather (n + 1) (n + 1) [] (bs ++ c ∷ t)) (gather (n + 1) (n + 1) [] bs) (tk ∷ bares (tokens t)) (split-go (n + 1) (n + 1) [] bs t)))

  split_at : (p t : List ℕ) → bares (tokens (p ++ c ∷ t)) ≡ bares (tokens p) ++ (tk ∷ bares (tokens t))
  unfolding tokens tokens_at
  split_at p t = split-go 0 0 [] p t

no-word-40 : is_word_byte 40 ≡ false
unfolding is_word_byte
no-word-40 = refl

no-word-41 : is_word_byte 41 ≡ false
unfolding is_word_byte
no-word-41 = refl

no-foreign-40 : is_foreign 40 ≡ false
unfolding is_foreign is_word_byte
no-foreign-40 = refl

no-foreign-41 : is_foreign 41 ≡ false
unfolding is_foreign is_word_byte
no-foreign-41 = refl

-- ---- a question with a part in brackets

pub tokens-around : (p q t : List ℕ) → bares (tokens (around p q t)) ≡ bares (tokens p) ++ open_t 0 ∷ (bares (tokens q) ++ close_t 0 ∷ bares (tokens t))
tokens-around p q t =
    split_at 40 (open_t 0) no-word-40 (λ n ts. refl) p (q ++ 41 ∷ t)
    ∙ ap (λ (r : List Tok). bares (tokens p) ++ open_t 0 ∷ r) (split_at 41 (close_t 0) no-word-41 (λ n ts. refl) q t)

pub proper-around : (p a b t : List ℕ) → Proper (around p a t) → Proper b → Proper (around p b t)
proper-around p a b t h k =
    proper-join p 40 (b ++ 41 ∷ t) no-foreign-40 (proper-front p 40 (a ++ 41 ∷ t) h)
    (proper-join b 41 t no-foreign-41 k (proper-behind a 41 t (proper-behind p 40 (a ++ 41 ∷ t) h)))

pub short-around : (p a b t : List ℕ) → Short (around p a t) → Short b → Short (around p b t)
short-around p a b t h k =
    short-join 40 no-word-40 p (b ++ 41 ∷ t) (short-front 40 no-word-40 p (a ++ 41 ∷ t) h)
    (short-join 41 no-word-41 b t k (short-behind 41 no-word-41 a t (short-behind 40 no-word-40 p (a ++ 41 ∷ t) h)))

-- the part by itself
pub proper-inside : (p a t : List ℕ) → Proper (around p a t) → Proper a
proper-inside p a t h = proper-front a 41 t (proper-behind p 40 (a ++ 41 ∷ t) h)

pub short-inside : (p a t : List ℕ) → Short (around p a t) → Short a
short-inside p a t h = short-front 41 no-word-41 a t (short-behind 40 no-word-40 p (a ++ 41 ∷ t) h)
