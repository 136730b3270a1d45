-- Laws of a reading that succeeded: what came first succeeded too, and a question is its first operand and its links.
use Prim.Native.Nat.{ℕ, zero, suc}
use mathlib.Core.Path.{◌≡◌, refl, ◌∙◌}
use mathlib.Core.List.{List}
use Rattle.question.specs.Token.{Tok}
use Rattle.question.specs.Grammar.{Tree, Link, Rule, Out, good, bad, bind, question, operand, links}
use Rattle.question.proofs.Apart.{zero_one}

pub bad-good : {A B : Type 0} (c : ℕ) (v : List Tok) (b : B) (z : List Tok) (j : ℕ) → bad c v ≡ good b z j → A
bad-good c v b z j e = zero_one (cc)

-- what came first succeeded too
pub record First {A B : Type 0} (o : Out A) (h : A → List Tok → ℕ → Out B) (b : B) (z : List Tok) (j : ℕ) : Type 0 where
  pub got : A
  pub rest : List Tok
  pub count : ℕ
  pub says : o ≡ good got rest count
  pub then : h got rest count ≡ good b z j

pub bind-first : {A B : Type 0} (o : Out A) (h : A → List Tok → ℕ → Out B) (b : B) (z : List Tok) (j : ℕ) → bind o h ≡ good b z j → First o h b z j
bind-first (good a r k) h b z j e = record { got = a; rest = r; count = k; says = refl; then = e }
bind-first (bad c r) h b z j e = bad-good c r b z j e

-- ---- a question: its first operand, and its links

pub record Level (rule : Rule) (d k : ℕ) (ts : List Tok) (t : Tree) (z : List Tok) (j : ℕ) : Type 0 where
  pub fuel : ℕ
  pub operand-tree : Tree
  pub rest : List Tok
  pub count : ℕ
  pub links-list : List Link
  pub reads-operand : operand rule fuel d k ts ≡ good operand-tree rest count
  pub reads-links : links rule fuel d count rest ≡ good links-list z j
  pub groups : t ≡ rule operand-tree links-list

put-inverse : {A B : Type 0} (g : A → B) (a : A) (r z : List Tok) (i j : ℕ) (b : B) → good (g a) r i ≡ good b z j → (b ≡ g a) × (r ≡ z) × (i ≡ j)
put-inverse g a r z i j b e = ((cc), (cc), (cc))

pub question-level : (rule : Rule) (f d k : ℕ) (ts : List Tok) (t : Tree) (z : List Tok) (j : ℕ) → question rule f d k ts ≡ good t z j → Level rule d k ts t z j
unfolding question
question-level rule zero d k ts t z j e = bad-good 0 ts t z j e
question-level rule (suc f) d k ts t z j e =
    let a = bind-first (operand rule f d k ts) (λ x r i. bind (links rule f d i r) (λ ls y n. good (rule x ls) y n)) t z j e in
    let b = bind-first (links rule f d a.count a.rest) (λ ls y n. good (rule a.got ls) y n) t z j a.then in
    let w = put-inverse (rule a.got) b.got b.rest z b.count j t b.then in
    record {
      fuel = f;
      operand-tree = a.got;
      rest = a.rest;
      count = a.count;
      links-list = b.got;
      reads-operand = a.says;
      reads-links = b.says ∙ rw (w.1, w.2);
      groups = w.0;
    }
