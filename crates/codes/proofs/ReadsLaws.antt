-- Laws of reading codes: what the code at a place says of the token there, and how the readings of the parts make up that of the whole.
use Prim.Native.Nat.{ℕ, zero, suc, ◌+◌, ◌-◌, ◌≤◌, ◌<◌}
use native.Mathlib.Omega.{arith}
use native.Mathlib.Numerals.{add-one}
use mathlib.Core.Path.{◌≡◌, refl, sym, ap, ◌∙◌, subst}
use mathlib.Core.List.{List, [], ◌∷◌}
use lib.Dec.{eqb}
use lib.ListN.{length, drop, drop_of_length-le, length-append}
use Rattle.std.specs.Prelude.{Some, slice_get}
use Rattle.std.proofs.lemmas.Option.{slice_get_within}
use borrow.Author.Tests.{lt-ltb, le-ltb, eqb-false}
use Rattle.laws.proofs.Tests.{by-test, leb-cases}
use Rattle.word.specs.declared.Op.{Op}
use Rattle.question.specs.Token.{Tok, word_t, op_t, open_t, close_t, other_t}
use Rattle.question.specs.Grammar.{Tree, word, pair, part, Link, link, good, bind, closed, from_left, question, operand, links, tree_words}
use Rattle.question.proofs.LevelLaws.{bad-good, bind-first, question-level}
use Rattle.question.proofs.TreeWords.{Words, operand-words}
use Rattle.question.proofs.RuleLaws.{from-left-keeps, from-left-link, from-left-none}
use Rattle.codes.specs.declared.code.Code.{Code}
use Rattle.codes.specs.declared.code.Code.TheVariants as kind
use Rattle.codes.specs.Code.{code_of, codes_of, operator_at}
use Rattle.codes.specs.Reads.{Reads}
use Rattle.codes.proofs.CodeLaws.{operator-code}

-- ---- the token at a place

pub codes-length : (toks : List Tok) → length (codes_of toks) ≡ length toks
unfolding codes_of
codes-length [] = refl
codes-length (t ∷ ts) = ap suc (codes-length ts)

pub record Stands (toks : List Tok) (codes : List Code) (i : ℕ) : Type 0 where
  pub tok : Tok
  pub here : drop i toks ≡ tok ∷ drop (i + 1) toks
  pub code : slice_get codes i ≡ Some (code_of tok)

stands-go : (toks : List Tok) (i : ℕ) → i < length (codes_of toks) →
    (t : Tok) × (drop i toks ≡ t ∷ drop (suc i) toks) × (slice_get (codes_of toks) i ≡ Some (code_of t))
unfolding codes_of
stands-go [] i h = absurd (omega arith)
stands-go (t ∷ ts) zero h = (t, refl, refl)
stands-go (t ∷ ts) (suc i) h = stands-go ts i (omega arith)

pub stands : (toks : List Tok) (codes : List Code) (i : ℕ) → codes_of toks ≡ codes → i < length codes → Stands toks codes i
stands toks codes i e h =
    let w = stands-go toks i (rw e h) in
    record { tok = w.0; here = rw (add-one i) w.1; code = rw e at w.2 }

pub stands-end : (toks : List Tok) (codes : List Code) (i : ℕ) → codes_of toks ≡ codes → length codes ≤ i → drop i toks ≡ []
stands-end toks codes i e h =
    let l = codes-length toks in
    let m = ap length e in
    let g : length toks ≤ i = omega arith in
    drop_of_length-le toks g

-- the code at place i is v
abbrev pub Here : List Code → ℕ → Code → Type 0
Here codes i v = (slice_get codes i ≡ Some v) × (i < length codes)

-- v was read there
pub code_here : (codes : List Code) (i : ℕ) {v : Code} → slice_get codes i ≡ Some v → Here codes i v
code_here codes i {v} e = (e, slice_get_within codes i v e)

-- the operator o was read there
pub operator-here : (codes : List Code) (i : ℕ) {o : Op} → operator_at codes i ≡ Some o → Here codes i (kind.Op o)
operator-here codes i {o} e = code_here codes i (operator-code (slice_get codes i) o e)

-- the token there has the code that was read there
pub stands-code : {toks : List Tok} {codes : List Code} {i : ℕ} (s : Stands toks codes i) {v : Code} → slice_get codes i ≡ Some v → code_of s.tok ≡ v
stands-code s e = let c = s.code in cc

-- ---- the token of a code

pub code-word : (t : Tok) → code_of t ≡ kind.Word → (w : List ℕ) × (p : ℕ) × (t ≡ word_t w p)
code-word (word_t w p) e = (w, p, refl)
code-word (op_t o p) e = absurd (cc)
code-word (open_t p) e = absurd (cc)
code-word (close_t p) e = absurd (cc)
code-word (other_t p) e = absurd (cc)

pub code-open : (t : Tok) → code_of t ≡ kind.Open → (p : ℕ) × (t ≡ open_t p)
code-open (open_t p) e = (p, refl)
code-open (word_t w p) e = absurd (cc)
code-open (op_t o p) e = absurd (cc)
code-open (close_t p) e = absurd (cc)
code-open (other_t p) e = absurd (cc)

pub code-close : (t : Tok) → code_of t ≡ kind.Close → (p : ℕ) × (t ≡ close_t p)
code-close (close_t p) e = (p, refl)
code-close (word_t w p) e = absurd (cc)
code-close (op_t o p) e = absurd (cc)
code-close (open_t p) e = absurd (cc)
code-close (other_t p) e = absurd (cc)

pub code-operator : (o : Op) (t : Tok) → code_of t ≡ kind.Op o → (p : ℕ) × (t ≡ op_t o p)
code-operator o (op_t a p) e = let q : a ≡ o = cc in (p, rw q)
code-operator o (word_t w p) e = absurd (cc)
code-operator o (open_t p) e = absurd (cc)
code-operator o (close_t p) e = absurd (cc)
code-operator o (other_t p) e = absurd (cc)

-- ---- what is no operand, no link, no closing bracket

none-operand : (f d k : ℕ) (t : Tok) (r : List Tok) (x : Tree) (z : List Tok) (j : ℕ) → (code_of t ≡ kind.Word → ⊥) → (code_of t ≡ kind.Open → ⊥) →
    operand from_left f d k (t ∷ r) ≡ good x z j → ⊥
unfolding operand
none-operand zero d k t r x z j a b e = bad-good 0 (t ∷ r) x z j e
none-operand (suc f) d k (word_t w p) r x z j a b e = a refl
none-operand (suc f) d k (op_t o p) r x z j a b e = bad-good 9 (op_t o p ∷ r) x z j e
none-operand (suc f) d k (open_t p) r x z j a b e = b refl
none-operand (suc f) d k (close_t p) r x z j a b e = bad-good 9 (close_t p ∷ r) x z j e
none-operand (suc f) d k (other_t p) r x z j a b e = bad-good 9 (other_t p ∷ r) x z j e

nil-operand : (f d k : ℕ) (x : Tree) (z : List Tok) (j : ℕ) → operand from_left f d k [] ≡ good x z j → ⊥
unfolding operand
nil-operand zero d k x z j e = bad-good 0 [] x z j e
nil-operand (suc f) d k x z j e = bad-good 9 [] x z j e

none-links : (f d k : ℕ) (t : Tok) (r : List Tok) → ((o : Op) → code_of t ≡ kind.Op o → ⊥) → links from_left (suc f) d k (t ∷ r) ≡ good [] (t ∷ r) k
unfolding links
none-links f d k (word_t w p) r a = refl
none-links f d k (op_t o p) r a = absurd (a o refl)
none-links f d k (open_t p) r a = refl
none-links f d k (close_t p) r a = refl
none-links f d k (other_t p) r a = refl

nil-links : (f d k : ℕ) → links from_left (suc f) d k [] ≡ good [] [] k
unfolding links
nil-links f d k = refl

none-closed : (t : Tok) (y : Tree) (r : List Tok) (k : ℕ) (x : Tree) (z : List Tok) (j : ℕ) → (code_of t ≡ kind.Close → ⊥) → closed y (t ∷ r) k ≡ good x z j → ⊥
none-closed (word_t w p) y r k x z j a e = bad-good 9 (word_t w p ∷ r) x z j e
none-closed (op_t o p) y r k x z j a e = bad-good 9 (op_t o p ∷ r) x z j e
none-closed (open_t p) y r k x z j a e = bad-good 9 (open_t p ∷ r) x z j e
none-closed (close_t p) y r k x z j a e = a refl
none-closed (other_t p) y r k x z j a e = bad-good 9 (other_t p ∷ r) x z j e

some-closed : (t : Tok) (y : Tree) (r : List Tok) (k : ℕ) → code_of t ≡ kind.Close → closed y (t ∷ r) k ≡ good (part y) r k
some-closed (close_t p) y r k e = refl
some-closed (word_t w p) y r k e = absurd (cc)
some-closed (op_t o p) y r k e = absurd (cc)
some-closed (open_t p) y r k e = absurd (cc)
some-closed (other_t p) y r k e = absurd (cc)

-- ---- operands

pub operand-none : (codes : List Code) (f d k i i' k' : ℕ) (Q : Tree → Type 0) → (slice_get codes i ≡ Some kind.Word → ⊥) → (slice_get codes i ≡ Some kind.Open → ⊥) →
    Reads (operand from_left f d k) codes i i' k' Q
operand-none codes f d k i i' k' Q a b toks t rest j e r =
    leb-cases (length codes) i
    (λ h. absurd (nil-operand f d k t rest j (rw (stands-end toks codes i e h) at r)))
    (λ h. let w = stands toks codes i e h in
    absurd (none-operand f d k w.tok (drop (i + 1) toks) t rest j (λ c. a (w.code ∙ ap Some c)) (λ c. b (w.code ∙ ap Some c)) (rw w.here at r)))

-- a word
word_read : (f d k : ℕ) (w : List ℕ) (p : ℕ) (r : List Tok) (x : Tree) (z : List Tok) (j : ℕ) → operand from_left f d k (word_t w p ∷ r) ≡ good x z j →
    (k < 16) × (word w ≡ x) × (r ≡ z) × (k + 1 ≡ j)
unfolding operand
word_read zero d k w p r x z j e = bad-good 0 (word_t w p ∷ r) x z j e
word_read (suc f) d k w p r x z j e =
    leb-cases 16 k
    (λ h. bad-good 10 (word_t w p ∷ r) x z j (rw (le-ltb k 16 h) at e))
    (λ h. let g : good (word w) r (k + 1) ≡ good x z j = rw (lt-ltb k 16 h) at e in (h, (cc), (cc), (cc)))

module _ (codes : List Code) (f d k i : ℕ) (c : slice_get codes i ≡ Some kind.Word) where
  word-within : i < length codes
  word-within = slice_get_within codes i kind.Word c

  is_word : (toks : List Tok) (x : Tree) (z : List Tok) (j : ℕ) → codes_of toks ≡ codes → operand from_left f d k (drop i toks) ≡ good x z j →
      (w : List ℕ) × (k < 16) × (word w ≡ x) × (drop (i + 1) toks ≡ z) × (k + 1 ≡ j)
  is_word toks x z j e r =
      let s = stands toks codes i e word-within in
      let t = code-word s.tok (stands-code s c) in
      let v = word_read f d k t.0 t.1 (drop (i + 1) toks) x z j (rw (s.here, t.2) at r) in
      (t.0, v.0, v.1, v.2, v.3)

  pub operand-word : (Q : Tree → Type 0) → ((w : List ℕ) → Q (word w)) → Reads (operand from_left f d k) codes i (i + 1) (k + 1) Q
  operand-word Q q toks x z j e r =
      let w = is_word toks x z j e r in
      let h = word-within in
      (w.3, w.4, omega arith, omega arith, rw w.2 at (q w.0))

  pub operand-many : (i' k' : ℕ) (Q : Tree → Type 0) → 16 ≤ k → Reads (operand from_left f d k) codes i i' k' Q
  operand-many i' k' Q g toks x z j e r = absurd (let w = is_word toks x z j e r in let v = w.1 in omega arith)

-- a part in brackets
part-read : (f d k p : ℕ) (r : List Tok) (x : Tree) (z : List Tok) (j : ℕ) → operand from_left f d k (open_t p ∷ r) ≡ good x z j →
    (d ≡ 0 → ⊥) × ((g : ℕ) × (bind (question from_left g (d - 1) k r) closed ≡ good x z j))
unfolding operand
part-read zero d k p r x z j e = bad-good 0 (open_t p ∷ r) x z j e
part-read (suc f) d k p r x z j e =
    by-test (eqb d 0)
    (λ t. bad-good 11 (open_t p ∷ r) x z j (rw t at e))
    (λ t. (eqb-false d 0 t, (f, rw t at e)))

module _ (codes : List Code) (f d k i : ℕ) (c : slice_get codes i ≡ Some kind.Open) where
  open-within : i < length codes
  open-within = slice_get_within codes i kind.Open c

  is-part : (toks : List Tok) (x : Tree) (z : List Tok) (j : ℕ) → codes_of toks ≡ codes → operand from_left f d k (drop i toks) ≡ good x z j →
      (d ≡ 0 → ⊥) × ((g : ℕ) × (bind (question from_left g (d - 1) k (drop (i + 1) toks)) closed ≡ good x z j))
  is-part toks x z j e r =
      let s = stands toks codes i e open-within in
      let t = code-open s.tok (stands-code s c) in
      part-read f d k t.0 (drop (i + 1) toks) x z j (rw (s.here, t.1) at r)

  pub operand-deep : (i' k' : ℕ) (Q : Tree → Type 0) → d ≡ 0 → Reads (operand from_left f d k) codes i i' k' Q
  operand-deep i' k' Q z toks x y j e r = absurd ((is-part toks x y j e r).0 z)

  module _ (i' k' : ℕ) (P : Tree → Type 0) (inner : (g : ℕ) → Reads (question from_left g (d - 1) k) codes (i + 1) i' k' P) where
    pub operand-part : (Q : Tree → Type 0) → slice_get codes i' ≡ Some kind.Close → ((t : Tree) → P t → Q (part t)) →
        Reads (operand from_left f d k) codes i (i' + 1) k' Q
    operand-part Q a q toks x z j e r =
        let l = slice_get_within codes i' kind.Close a in
        let w = (is-part toks x z j e r).1 in
        let b = bind-first (question from_left w.0 (d - 1) k (drop (i + 1) toks)) closed x z j w.1 in
        let v = inner w.0 toks b.got b.rest b.count e b.says in
        let s = stands toks codes i' e l in
        let o : good (part b.got) (drop (i' + 1) toks) b.count ≡ good x z j =
        sym (some-closed s.tok b.got (drop (i' + 1) toks) b.count (stands-code s a)) ∙ (rw (← v.0, s.here) at b.then) in
        let y : part b.got ≡ x = cc in
        ((cc), v.1 ∙ (cc), omega (arith, v.2), omega arith, rw y at (q b.got v.4))

    pub operand-unclosed : (i'' k'' : ℕ) (Q : Tree → Type 0) → (slice_get codes i' ≡ Some kind.Close → ⊥) → Reads (operand from_left f d k) codes i i'' k'' Q
    operand-unclosed i'' k'' Q a toks x z j e r =
        let w = (is-part toks x z j e r).1 in
        let b = bind-first (question from_left w.0 (d - 1) k (drop (i + 1) toks)) closed x z j w.1 in
        let v = inner w.0 toks b.got b.rest b.count e b.says in
        leb-cases (length codes) i'
        (λ l. absurd (bad-good 9 [] x z j (rw (← v.0, stands-end toks codes i' e l) at b.then)))
        (λ l. let s = stands toks codes i' e l in
        absurd (none-closed s.tok b.got (drop (i' + 1) toks) b.count x z j (λ c. a (s.code ∙ ap Some c)) (rw (← v.0, s.here) at b.then)))

-- ---- a level: its first operand, and what is grouped from the left as the links are read

-- up to place i a level that began at i₀ has read `sofar`, and its links go on from there
pub record Going (toks : List Tok) (d k₀ i k : ℕ) (Q : Tree → Type 0) (t : Tree) (rest : List Tok) (j : ℕ) : Type 0 where
  pub fuel : ℕ
  pub sofar : Tree
  pub left : List Link
  pub reads-left : links from_left fuel d k (drop i toks) ≡ good left rest j
  pub groups : t ≡ from_left sofar left
  pub count : k ≡ k₀ + length (tree_words sofar)
  pub holds : Q sofar

-- that this is so whenever the grammar reads a level from i₀ on
abbrev pub Level : List Code → ℕ → ℕ → ℕ → ℕ → ℕ → (Tree → Type 0) → Type 0
Level codes d k₀ i₀ i k Q =
    (f : ℕ) (toks : List Tok) (t : Tree) (rest : List Tok) (j : ℕ) → codes_of toks ≡ codes → question from_left f d k₀ (drop i₀ toks) ≡ good t rest j →
    (i₀ ≤ i) × (i ≤ length codes) × Going toks d k₀ i k Q t rest j

-- how many words an operand has
operand-count : (f d k : ℕ) (ts : List Tok) (t : Tree) (z : List Tok) (j : ℕ) → operand from_left f d k ts ≡ good t z j → j ≡ k + length (tree_words t)
operand-count f d k ts t z j e = (subst (Words tree_words k ts) e (operand-words from_left from-left-keeps f d k ts)).1

pub level-start : (codes : List Code) (d k₀ i₀ i k : ℕ) (Q : Tree → Type 0) → ((f : ℕ) → Reads (operand from_left f d k₀) codes i₀ i k Q) →
    Level codes d k₀ i₀ i k Q
level-start codes d k₀ i₀ i k Q h f toks t rest j e r =
    let l = question-level from_left f d k₀ (drop i₀ toks) t rest j r in
    let v = h l.fuel toks l.operand-tree l.rest l.count e l.reads-operand in (
      v.2,
      v.3,
      record {
        fuel = l.fuel;
        sofar = l.operand-tree;
        left = l.links-list;
        reads-left = rw (v.0, v.1) l.reads-links;
        groups = l.groups;
        count = v.1 ∙ operand-count l.fuel d k₀ (drop i₀ toks) l.operand-tree l.rest l.count l.reads-operand;
        holds = v.4;
      },
    )

record Linked (d k : ℕ) (o : Op) (r : List Tok) (ls : List Link) (z : List Tok) (j : ℕ) : Type 0 where
  fuel : ℕ
  tree : Tree
  rest : List Tok
  count : ℕ
  others : List Link
  reads-operand : operand from_left fuel d k r ≡ good tree rest count
  reads-links : links from_left fuel d count rest ≡ good others z j
  is : ls ≡ link o tree ∷ others

put-inverse : (o : Op) (t : Tree) (ls ms : List Link) (r z : List Tok) (i j : ℕ) → good (link o t ∷ ls) r i ≡ good ms z j →
    (ms ≡ link o t ∷ ls) × (r ≡ z) × (i ≡ j)
put-inverse o t ls ms r z i j e = ((cc), (cc), (cc))

links-operator : (f d k : ℕ) (o : Op) (p : ℕ) (r : List Tok) (ls : List Link) (z : List Tok) (j : ℕ) → links from_left f d k (op_t o p ∷ r) ≡ good ls z j →
    Linked d k o r ls z j
unfolding links
links-operator zero d k o p r ls z j e = bad-good 0 (op_t o p ∷ r) ls z j e
links-operator (suc f) d k o p r ls z j e =
    let a = bind-first (operand from_left f d k r) (λ x y n. bind (links from_left f d n y) (λ l u i. good (link o x ∷ l) u i)) ls z j e in
    let b = bind-first (links from_left f d a.count a.rest) (λ l u i. good (link o a.got ∷ l) u i) ls z j a.then in
    let w = put-inverse o a.got b.got ls b.rest z b.count j b.then in
    record {
      fuel = f;
      tree = a.got;
      rest = a.rest;
      count = a.count;
      others = b.got;
      reads-operand = a.says;
      reads-links = b.says ∙ rw (w.1, w.2);
      is = w.0;
    }

pair-count : (k₀ k k' : ℕ) (o : Op) (a b : Tree) → k ≡ k₀ + length (tree_words a) → k' ≡ k + length (tree_words b) → k' ≡ k₀ + length (tree_words (pair o a b))
unfolding tree_words
pair-count k₀ k k' o a b x y = omega (arith, length-append (tree_words a) (tree_words b))

-- the operator o stands at i, and its operand reads up to i'
pub level-step : (codes : List Code) (d k₀ i₀ i k i' k' : ℕ) (Q R S : Tree → Type 0) (o : Op) → slice_get codes i ≡ Some (kind.Op o) →
    Level codes d k₀ i₀ i k Q → ((f : ℕ) → Reads (operand from_left f d k) codes (i + 1) i' k' R) →
    ((a b : Tree) → k ≡ k₀ + length (tree_words a) → Q a → R b → S (pair o a b)) → Level codes d k₀ i₀ i' k' S
level-step codes d k₀ i₀ i k i' k' Q R S o c l g q f toks t rest j e r =
    let h = slice_get_within codes i (kind.Op o) c in
    let w = l f toks t rest j e r in
    let y = w.2 in
    let s = stands toks codes i e h in
    let u = code-operator o s.tok (stands-code s c) in
    let n = links-operator y.fuel d k o u.0 (drop (i + 1) toks) y.left rest j (rw (s.here, u.1) at y.reads-left) in
    let v = g n.fuel toks n.tree n.rest n.count e n.reads-operand in (
      omega (arith, w.0, v.2),
      v.3,
      record {
        fuel = n.fuel;
        sofar = pair o y.sofar n.tree;
        left = n.others;
        reads-left = rw (v.0, v.1) n.reads-links;
        groups = y.groups ∙ ap (from_left y.sofar) n.is ∙ from-left-link y.sofar o n.tree n.others;
        count = pair-count k₀ k k' o y.sofar n.tree y.count
            (v.1 ∙ operand-count n.fuel d k (drop (i + 1) toks) n.tree n.rest n.count n.reads-operand);
        holds = q y.sofar n.tree y.count y.holds v.4;
      },
    )

-- no operator stands at i: the level is read
level-ends : (toks : List Tok) (d k₀ i k : ℕ) (Q : Tree → Type 0) (t : Tree) (rest : List Tok) (j : ℕ) →
    ((f : ℕ) → links from_left (suc f) d k (drop i toks) ≡ good [] (drop i toks) k) → Going toks d k₀ i k Q t rest j → (drop i toks ≡ rest) × (k ≡ j) × Q t
unfolding links
level-ends toks d k₀ i k Q t rest j h y = go y.fuel y.left y.reads-left y.groups
  where
    go : (f : ℕ) (left : List Link) → links from_left f d k (drop i toks) ≡ good left rest j → t ≡ from_left y.sofar left →
        (drop i toks ≡ rest) × (k ≡ j) × Q t
    go zero left e g = bad-good 0 (drop i toks) left rest j e
    go (suc f) left e g =
        let w : good [] (drop i toks) k ≡ good left rest j = sym (h f) ∙ e in
        let n : left ≡ [] = cc in
        let s : t ≡ y.sofar = g ∙ ap (from_left y.sofar) n ∙ from-left-none y.sofar in
        ((cc), (cc), rw s y.holds)

pub level-end : (codes : List Code) (d k₀ i₀ i k : ℕ) (Q : Tree → Type 0) → Level codes d k₀ i₀ i k Q → ((o : Op) → slice_get codes i ≡ Some (kind.Op o) → ⊥) →
    (f : ℕ) → Reads (question from_left f d k₀) codes i₀ i k Q
level-end codes d k₀ i₀ i k Q l a f toks t rest j e r =
    let w = l f toks t rest j e r in
    let v = level-ends toks d k₀ i k Q t rest j (λ n. leb-cases (length codes) i
    (λ h. rw (stands-end toks codes i e h) (nil-links n d k))
    (λ h. let s = stands toks codes i e h in
    rw s.here (none-links n d k s.tok (drop (i + 1) toks) (λ o c. a o (s.code ∙ ap Some c))))) w.2 in
    (v.0, v.1, w.0, w.1, v.2)
