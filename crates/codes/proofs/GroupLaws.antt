-- Laws of the second rule in brackets: a question means by the second rule what its grouped tokens mean from the left, with room for 17 brackets.
use Prim.Native.Nat.{ℕ, zero, suc, ◌+◌, ◌-◌, ◌*◌, ◌/◌, ◌%◌, ◌≤◌, ◌<◌}
use native.Mathlib.Omega.{arith}
use mathlib.Core.Path.{◌≡◌, refl, sym, ap, ap₂, ◌∙◌, subst}
use mathlib.Core.Bool.{Bool, true, false}
use mathlib.Core.List.{List, [], ◌∷◌, ◌++◌}
use lib.Dec.{eqb, ltb}
use borrow.Author.Tests.{eq-eqb, ne_eqb}
use Rattle.laws.proofs.Tests.{true-false}
use Rattle.word.specs.declared.Op.{Op}
use Rattle.word.specs.declared.Op.TheVariants.{And, Or, Not}
use Rattle.question.specs.Token.{choose, Tok, word_t, op_t, open_t, close_t, other_t}
use Rattle.question.specs.Grammar.{Tree, word, pair, part, Link, link, Out, good, bad, bind, closed, from_left, question, operand, links, tree_words}
use Rattle.question.specs.Rules.{first_group, later_groups, and_first}
use Rattle.question.specs.Meaning.{satisfies}
use Rattle.question.specs.Limits.{token_words}
use Rattle.codes.specs.Group.{goes_on, is_wide, opening, closing, levels_around, innermost, grouped_on, grouped, grouped_brackets}
use Rattle.codes.proofs.BareLaws.{bare, bare_links, bare-append, from-left-bare, bare-same, bare-words}

-- ---- a reading from the left that succeeds at each bound on its calls from some bound on; and of what parts it is made up

abbrev Surely : {A : Type 0} → (ℕ → Out A) → A → List Tok → ℕ → Type 0
Surely reading a z j = (n : ℕ) × ((f : ℕ) → n ≤ f → reading f ≡ good a z j)

surely-next : {A : Type 0} {reading : ℕ → Out A} {a : A} {z : List Tok} {j : ℕ} (n : ℕ) → ((f : ℕ) → n ≤ f → reading (suc f) ≡ good a z j) →
    Surely reading a z j
surely-next {reading = reading} {a = a} {z = z} {j = j} n h = (suc n, go)
  where
    go : (f : ℕ) → suc n ≤ f → reading f ≡ good a z j
    go zero l = absurd (omega arith)
    go (suc f) l = h f (omega arith)

surely-word : (D k : ℕ) (w : List ℕ) (p : ℕ) (r : List Tok) → ltb k 16 ≡ true →
    Surely (λ f. operand from_left f D k (word_t w p ∷ r)) (word w) r (k + 1)
unfolding operand
surely-word D k w p r t = surely-next 0 (λ f h. rw t)

back : (n : ℕ) → suc n - 1 ≡ n
back n = omega arith

not_none : (n : ℕ) → eqb (suc n) 0 ≡ false
not_none n = ne_eqb (suc n) 0 (λ (e : suc n ≡ 0). omega arith)

surely-part : (D k p : ℕ) (ts : List Tok) {q j : ℕ} {r : List Tok} {t : Tree} → Surely (λ f. question from_left f D k ts) t (close_t q ∷ r) j →
    Surely (λ f. operand from_left f (suc D) k (open_t p ∷ ts)) (part t) r j
unfolding operand
surely-part D k p ts x = surely-next x.0 (λ f h. rw (not_none D, back D, x.1 f h))

surely-level : (D k : ℕ) (ts : List Tok) {i j : ℕ} {r z : List Tok} {u : Tree} {ls : List Link} → Surely (λ f. operand from_left f D k ts) u r i →
    Surely (λ f. links from_left f D i r) ls z j → Surely (λ f. question from_left f D k ts) (from_left u ls) z j
unfolding question
surely-level D k ts x y = surely-next (x.0 + y.0) (λ f h. rw (x.1 f (omega arith), y.1 f (omega arith)))

surely-link : (D k p : ℕ) (o : Op) (ts : List Tok) {i j : ℕ} {r z : List Tok} {u : Tree} {ls : List Link} → Surely (λ f. operand from_left f D k ts) u r i →
    Surely (λ f. links from_left f D i r) ls z j → Surely (λ f. links from_left f D k (op_t o p ∷ ts)) (link o u ∷ ls) z j
unfolding links
surely-link D k p o ts x y = surely-next (x.0 + y.0) (λ f h. rw (x.1 f (omega arith), y.1 f (omega arith)))

-- the tokens behind a level
data Ends : List Tok → Type 0 where
  over : Ends []
  closes : (p : ℕ) (r : List Tok) → Ends (close_t p ∷ r)

surely-end : (D k : ℕ) {r : List Tok} → Ends r → Surely (λ f. links from_left f D k r) [] r k
unfolding links
surely-end D k over = surely-next 0 (λ f h. refl)
surely-end D k (closes p r) = surely-next 0 (λ f h. refl)

-- ---- the number of the levels around a part: it has room for d more

abbrev Fits : ℕ → ℕ → Type 0
Fits zero m = m < 256
Fits (suc d) m = Fits d (2 * m + 1)

fits-less : (d m n : ℕ) → m ≤ n → Fits d n → Fits d m
fits-less zero m n l h = omega arith
fits-less (suc d) m n l h = fits-less d (2 * m + 1) (2 * n + 1) (omega arith) h

fits_bound : (d m : ℕ) → Fits d m → m < 256
fits_bound zero m h = h
fits_bound (suc d) m h = let g = fits_bound d (2 * m + 1) h in omega arith

-- one level further in, and back
levels-fit : (d m : ℕ) (b : Bool) → Fits (suc d) m → Fits d (levels_around b m)
levels-fit d m true h = fits-less d (levels_around true m) (2 * m + 1) (omega arith) h
levels-fit d m false h = fits-less d (levels_around false m) (2 * m + 1) (omega arith) h

levels-innermost : (m : ℕ) (b : Bool) → innermost (levels_around b m) ≡ b
levels-innermost m true = eq-eqb (levels_around true m % 2) 1 (omega arith)
levels-innermost m false = ne_eqb (levels_around false m % 2) 1 (λ (e : levels_around false m % 2 ≡ 1). omega arith)

levels-outer : (m : ℕ) (b : Bool) → m < 256 → levels_around b m / 2 ≡ m
levels-outer m true h = omega arith
levels-outer m false h = omega arith

-- ---- the links before the first `or`

unfoldable tight_links : List Link → List Link
tight_links [] = []
tight_links (link And t ∷ ls) = link And t ∷ tight_links ls
tight_links (link Not t ∷ ls) = link Not t ∷ tight_links ls
tight_links (link Or t ∷ ls) = []

group-tight : (t : Tree) (ls : List Link) → first_group t ls ≡ from_left t (tight_links ls)
unfolding first_group from_left tight_links
group-tight t [] = refl
group-tight t (link And u ∷ ls) = group-tight (pair And t u) ls
group-tight t (link Not u ∷ ls) = group-tight (pair Not t u) ls
group-tight t (link Or u ∷ ls) = refl

group-bare : (a b : Tree) (ls ms : List Link) → bare a ≡ bare b → bare_links ls ≡ bare_links (tight_links ms) → bare (from_left a ls) ≡ bare (first_group b ms)
group-bare a b ls ms p q = from-left-bare a b ls (tight_links ms) p q ∙ ap bare (sym (group-tight b ms))

from-left-append : (t : Tree) (ls ms : List Link) → from_left t (ls ++ ms) ≡ from_left (from_left t ls) ms
unfolding from_left
from-left-append t [] ms = refl
from-left-append t (link o u ∷ ls) ms = from-left-append (pair o t u) ls ms

-- ---- what the grouped tokens read as, where the tokens read by the second rule

record ReadAs {A : Type 0} (plain : A → A) (reading : ℕ → Out A) (a : A) (z : List Tok) (j : ℕ) : Type 0 where
  got : A
  same : plain got ≡ plain a
  reads : Surely reading got z j

-- an operand; behind a lone word no group goes on
abbrev OperandAs : ℕ → Bool → ℕ → ℕ → List Tok → Tree → List Tok → ℕ → Type 0
OperandAs D b m k ts t r j = (is_wide ts ≡ false → goes_on r ≡ false) × ReadAs bare (λ f. operand from_left f D k (grouped_on b m ts)) t (grouped_on b m r) j

abbrev LevelAs : ℕ → ℕ → ℕ → List Tok → Tree → List Tok → ℕ → Type 0
LevelAs D m k ts t r j = Ends r → ReadAs bare (λ f. question from_left f D k (grouped_on false m ts)) t (grouped_on false m r) j

-- links: those of the group that is open, up to its bracket, and those behind it; where none is open, all of them at once
abbrev Parted : Bool → ℕ → ℕ → List Tok → List Link → List Link → List Tok → ℕ → Type 0
Parted false D k ts ins outs z j = Surely (λ f. links from_left f (suc D) k ts) (ins ++ outs) z j
Parted true D k ts ins outs z j =
    (rest : List Tok) × (i : ℕ) × Surely (λ f. links from_left f D k ts) ins (close_t 0 ∷ rest) i × Surely (λ f. links from_left f (suc D) i rest) outs z j

-- the room where a group is open, and where none is
abbrev room_of : Bool → ℕ → ℕ
room_of true D = D
room_of false D = suc D

room-enough : (b : Bool) (n D : ℕ) → n ≤ D → n ≤ room_of b D
room-enough true n D h = h
room-enough false n D h = omega arith

record LinksAs (D : ℕ) (b : Bool) (m k : ℕ) (ts : List Tok) (ls : List Link) (r : List Tok) (j : ℕ) : Type 0 where
  alone : goes_on ts ≡ false → tight_links ls ≡ []
  ins : List Link
  outs : List Link
  tight : bare_links ins ≡ bare_links (tight_links ls)
  later : bare_links outs ≡ bare_links (later_groups ls)
  reads : Parted b D k (grouped_on b m ts) ins outs (grouped_on false m r) j

-- ---- a level ends

parted-none : (b : Bool) (D k : ℕ) (ts : List Tok) {j : ℕ} {outs : List Link} {z : List Tok} → Surely (λ f. links from_left f (suc D) k ts) outs z j →
    Parted b D k (closing b ts) [] outs z j
parted-none false D k ts x = x
parted-none true D k ts x = (ts, k, surely-end D k (closes 0 ts), x)

-- no link of the open group is left
links-apart : (D : ℕ) (b : Bool) (m k : ℕ) (ts front : List Tok) {ls : List Link} {z : List Tok} {j : ℕ} → grouped_on b m ts ≡ closing b front →
    tight_links ls ≡ [] → ReadAs bare_links (λ f. links from_left f (suc D) k front) (later_groups ls) (grouped_on false m z) j → LinksAs D b m k ts ls z j
links-apart D b m k ts front g s x = record {
  alone = λ e. s;
  ins = [];
  outs = x.got;
  tight = ap bare_links (sym s);
  later = x.same;
  reads = rw g (parted-none b D k front x.reads);
}

links_end : (D : ℕ) (b : Bool) (m k : ℕ) (r : List Tok) → Ends r → LinksAs D b m k r [] r k
unfolding tight_links later_groups grouped_on
links_end D b m k _ over = links-apart D b m k [] [] refl refl (record { got = []; same = refl; reads = surely-end (suc D) k over })
links_end D b m k _ (closes p r) =
    let z = grouped_on (innermost m) (m / 2) r in
    links-apart D b m k (close_t p ∷ r) (close_t p ∷ z) refl refl (record { got = []; same = refl; reads = surely-end (suc D) k (closes p z) })

-- ---- a link more of the same group

parted-link : (b : Bool) (D k i j p : ℕ) (o : Op) (ts r z : List Tok) (u : Tree) (ins outs : List Link) →
    Surely (λ f. operand from_left f (room_of b D) k ts) u r i → Parted b D i r ins outs z j → Parted b D k (op_t o p ∷ ts) (link o u ∷ ins) outs z j
parted-link false D k i j p o ts r z u ins outs x y = surely-link (suc D) k p o ts x y
parted-link true D k i j p o ts r z u ins outs x y = (y.0, y.1, surely-link D k p o ts x y.2, y.3)

links-more : {D : ℕ} {b : Bool} {m i j : ℕ} {r z : List Tok} {u : Tree} {ls : List Link} (k p : ℕ) (o : Op) (ts : List Tok) →
    OperandAs (room_of b D) b m k ts u r i → LinksAs D b m i r ls z j → tight_links (link o u ∷ ls) ≡ link o u ∷ tight_links ls →
    later_groups (link o u ∷ ls) ≡ later_groups ls →
    grouped_on b m (op_t o p ∷ ts) ≡ op_t o p ∷ grouped_on b m ts → goes_on (op_t o p ∷ ts) ≡ true → LinksAs D b m k (op_t o p ∷ ts) (link o u ∷ ls) z j
unfolding bare_links
links-more {D = D} {b = b} {m = m} {i = i} {j = j} {r = r} {z = z} k p o ts x y s l g h =
    let v = x.1 in
    record {
      alone = λ e. true-false (sym h ∙ e);
      ins = link o v.got ∷ y.ins;
      outs = y.outs;
      tight = ap₂ (λ (t : Tree) (n : List Link). link o t ∷ n) v.same y.tight ∙ ap bare_links (sym s);
      later = y.later ∙ ap bare_links (sym l);
      reads = rw g (parted-link b D k i j p o (grouped_on b m ts) (grouped_on b m r) (grouped_on false m z) v.got y.ins y.outs v.reads y.reads);
    }

-- ---- an `or`, and the group behind it

or-behind : (w : Bool) {D m i j : ℕ} {r z : List Tok} {u : Tree} {ls : List Link} (k p : ℕ) (ts : List Tok) → OperandAs (room_of w D) w m k ts u r i →
    LinksAs D w m i r ls z j → (w ≡ false → tight_links ls ≡ []) →
    ReadAs bare_links (λ f. links from_left f (suc D) k (op_t Or p ∷ opening w (grouped_on w m ts))) (later_groups (link Or u ∷ ls)) (grouped_on false m z) j
unfolding bare bare_links later_groups from_left
or-behind true {D = D} {m = m} {u = u} {ls = ls} k p ts x y h =
    let v = x.1 in
    let l = y.reads in
    let t = from_left v.got y.ins in
    record {
      got = link Or (part t) ∷ y.outs;
      same = ap₂ (λ (a : Tree) (n : List Link). link Or a ∷ n) (group-bare v.got u y.ins ls v.same y.tight) y.later;
      reads = let g = grouped_on true m ts in
          surely-link (suc D) k p Or (open_t 0 ∷ g) (surely-part D k 0 g (surely-level D k g v.reads l.2)) l.3;
    }
or-behind false {D = D} {m = m} {u = u} {ls = ls} k p ts x y h =
    let v = x.1 in
    record {
      got = link Or v.got ∷ (y.ins ++ y.outs);
      same =
          ap₂ (λ (a : Tree) (n : List Link). link Or a ∷ n) (v.same ∙ ap bare (sym (group-tight u ls ∙ ap (from_left u) (h refl))))
          (bare-append y.ins y.outs ∙ ap₂ (λ (a c : List Link). a ++ c) (y.tight ∙ ap bare_links (h refl)) y.later);
      reads = surely-link (suc D) k p Or (grouped_on false m ts) v.reads y.reads;
    }

links-or : (b : Bool) {D m i j : ℕ} {r z : List Tok} {u : Tree} {ls : List Link} (k p : ℕ) (ts : List Tok) →
    OperandAs (room_of (is_wide ts) D) (is_wide ts) m k ts u r i → LinksAs D (is_wide ts) m i r ls z j → LinksAs D b m k (op_t Or p ∷ ts) (link Or u ∷ ls) z j
unfolding tight_links grouped_on
links-or b {D = D} {m = m} k p ts x y =
    links-apart D b m k (op_t Or p ∷ ts) (op_t Or p ∷ opening (is_wide ts) (grouped_on (is_wide ts) m ts)) refl refl
    (or-behind (is_wide ts) k p ts x y (λ e. y.alone (x.0 e)))

-- ---- each operator: whether a group is open behind it

abbrev behind : Op → Bool → List Tok → Bool
behind And b ts = b
behind Or b ts = is_wide ts
behind Not b ts = b

links-operator : (b : Bool) {D m i j : ℕ} {r z : List Tok} {u : Tree} {ls : List Link} (k p : ℕ) (o : Op) (ts : List Tok) →
    OperandAs (room_of (behind o b ts) D) (behind o b ts) m k ts u r i → LinksAs D (behind o b ts) m i r ls z j →
    LinksAs D b m k (op_t o p ∷ ts) (link o u ∷ ls) z j
unfolding tight_links later_groups grouped_on
links-operator b k p And ts x y = links-more k p And ts x y refl refl refl refl
links-operator b k p Or ts x y = links-or b k p ts x y
links-operator b k p Not ts x y = links-more k p Not ts x y refl refl refl refl

-- ---- the parts of a level make it up

level-made : {D m i j : ℕ} {r z : List Tok} {u : Tree} {ls : List Link} (k : ℕ) (ts : List Tok) → OperandAs (suc D) false m k ts u r i →
    LinksAs D false m i r ls z j →
    ReadAs bare (λ f. question from_left f (suc D) k (grouped_on false m ts)) (and_first u ls) (grouped_on false m z) j
unfolding and_first
level-made {D = D} {m = m} {u = u} {ls = ls} k ts x y =
    let v = x.1 in
    record {
      got = from_left v.got (y.ins ++ y.outs);
      same =
          ap bare (from-left-append v.got y.ins y.outs)
          ∙ from-left-bare (from_left v.got y.ins) (first_group u ls) y.outs (later_groups ls)
          (group-bare v.got u y.ins ls v.same y.tight) y.later;
      reads = surely-level (suc D) k (grouped_on false m ts) v.reads y.reads;
    }

-- ---- by the calls of the second rule's reading: what is told of all that it reads

abbrev Told : {A : Type 0} → (A → List Tok → ℕ → Type 0) → Out A → Type 0
Told P (good a r j) = P a r j
Told P (bad c r) = Unit {0}

-- an operand, and then the links behind it
told-level : {C : Type 0} (P : Tree → List Tok → ℕ → Type 0) (Q : ℕ → List Tok → List Link → List Tok → ℕ → Type 0) (R : C → List Tok → ℕ → Type 0)
    (put : Tree → List Link → C) (o : Out Tree) (l : ℕ → List Tok → Out (List Link)) → Told P o → ((i : ℕ) (r : List Tok) → Told (Q i r) (l i r)) →
    ((u : Tree) (r : List Tok) (i : ℕ) (ls : List Link) (z : List Tok) (j : ℕ) → P u r i → Q i r ls z j → R (put u ls) z j) →
    Told R (bind o (λ u r i. bind (l i r) (λ ls z j. good (put u ls) z j)))
told-level P Q R put (bad c r) l p q h = tt
told-level P Q R put (good u r i) l p q h = go (l i r) (q i r)
  where
    go : (o : Out (List Link)) → Told (Q i r) o → Told R (bind o (λ ls z j. good (put u ls) z j))
    go (bad c z) w = tt
    go (good ls z j) w = h u r i ls z j p w

word-as : (t : Bool) (D : ℕ) (b : Bool) (m k : ℕ) (w : List ℕ) (p : ℕ) (r : List Tok) → ltb k 16 ≡ t →
    Told (OperandAs D b m k (word_t w p ∷ r)) (choose t (λ _. good (word w) r (k + 1)) (λ _. bad 10 (word_t w p ∷ r)))
unfolding grouped_on
word-as true D b m k w p r e = ((λ h. h), record { got = word w; same = refl; reads = surely-word D k w p (grouped_on b m r) e })
word-as false D b m k w p r e = tt

part-as : (D : ℕ) (b : Bool) (m k p : ℕ) (ts : List Tok) (o : Out Tree) → m < 256 → Told (LevelAs D (levels_around b m) k ts) o →
    Told (OperandAs (suc D) b m k (open_t p ∷ ts)) (bind o closed)
unfolding grouped_on bare
part-as D b m k p ts (bad c r) h x = tt
part-as D b m k p ts (good t [] j) h x = tt
part-as D b m k p ts (good t (word_t w q ∷ r) j) h x = tt
part-as D b m k p ts (good t (op_t o q ∷ r) j) h x = tt
part-as D b m k p ts (good t (open_t q ∷ r) j) h x = tt
part-as D b m k p ts (good t (close_t q ∷ r) j) h x =
    let v = x (closes q r) in (
      (λ e. true-false e),
      record {
        got = part v.got;
        same = v.same;
        reads = surely-part D k p (grouped_on false (levels_around b m) ts) (rw (levels-innermost m b, levels-outer m b h) at v.reads);
      },
    )
part-as D b m k p ts (good t (other_t q ∷ r) j) h x = tt

-- each of the d levels that may still open can have a group in brackets around it, and the level itself one: 2 * d and one more
mutual
  unfolding question operand links

  level-as : (f d D m k : ℕ) (ts : List Tok) → 2 * d ≤ D → Fits d m → Told (LevelAs (suc D) m k ts) (question and_first f d k ts)
  level-as zero d D m k ts l h = tt
  level-as (suc f) d D m k ts l h =
      told-level (OperandAs (suc D) false m k ts) (λ i r ls z j. Ends z → LinksAs D false m i r ls z j) (LevelAs (suc D) m k ts) and_first
      (operand and_first f d k ts) (links and_first f d) (operand-as f d (suc D) false m k ts (omega arith) h) (λ i r. links-as f d D false m i r l h)
      (λ u r i ls z j x y e. level-made k ts x (y e))

  operand-as : (f d D : ℕ) (b : Bool) (m k : ℕ) (ts : List Tok) → 2 * d ≤ D → Fits d m → Told (OperandAs D b m k ts) (operand and_first f d k ts)
  operand-as zero d D b m k ts l h = tt
  operand-as (suc f) d D b m k [] l h = tt
  operand-as (suc f) d D b m k (word_t w p ∷ r) l h = word-as (ltb k 16) D b m k w p r refl
  operand-as (suc f) d D b m k (op_t o p ∷ r) l h = tt
  operand-as (suc f) zero D b m k (open_t p ∷ r) l h = tt
  operand-as (suc f) (suc d) zero b m k (open_t p ∷ r) l h = absurd (omega arith)
  operand-as (suc f) (suc d) (suc zero) b m k (open_t p ∷ r) l h = absurd (omega arith)
  operand-as (suc f) (suc d) (suc (suc D)) b m k (open_t p ∷ r) l h =
      rw (not_none d, back d) (part-as (suc D) b m k p r (question and_first f d k r) (fits_bound (suc d) m h)
      (level-as f d D (levels_around b m) k r (omega arith) (levels-fit d m b h)))
  operand-as (suc f) d D b m k (close_t p ∷ r) l h = tt
  operand-as (suc f) d D b m k (other_t p ∷ r) l h = tt

  links-as : (f d D : ℕ) (b : Bool) (m k : ℕ) (ts : List Tok) → 2 * d ≤ D → Fits d m →
      Told (λ ls r j. Ends r → LinksAs D b m k ts ls r j) (links and_first f d k ts)
  links-as zero d D b m k ts l h = tt
  links-as (suc f) d D b m k [] l h = links_end D b m k []
  links-as (suc f) d D b m k (word_t w p ∷ r) l h = links_end D b m k (word_t w p ∷ r)
  links-as (suc f) d D b m k (op_t o p ∷ r) l h =
      let w = behind o b r in
      told-level (OperandAs (room_of w D) w m k r) (λ i y ls z j. Ends z → LinksAs D w m i y ls z j)
      (λ ls z j. Ends z → LinksAs D b m k (op_t o p ∷ r) ls z j) (λ u ls. link o u ∷ ls) (operand and_first f d k r) (links and_first f d)
      (operand-as f d (room_of w D) w m k r (room-enough w (2 * d) D l) h) (λ i y. links-as f d D w m i y l h)
      (λ u y i ls z j x v e. links-operator b k p o r x (v e))
  links-as (suc f) d D b m k (open_t p ∷ r) l h = links_end D b m k (open_t p ∷ r)
  links-as (suc f) d D b m k (close_t p ∷ r) l h = links_end D b m k (close_t p ∷ r)
  links-as (suc f) d D b m k (other_t p ∷ r) l h = links_end D b m k (other_t p ∷ r)

-- ---- the whole question

pub record GroupedAs (ts : List Tok) (t : Tree) (k : ℕ) : Type 0 where
  pub tree : Tree
  pub fuel : ℕ
  pub reads : question from_left fuel grouped_brackets 0 (grouped ts) ≡ good tree [] k
  pub same : bare tree ≡ bare t

pub grouped-reads : (f : ℕ) (ts : List Tok) (t : Tree) (k : ℕ) → question and_first f 8 0 ts ≡ good t [] k → GroupedAs ts t k
unfolding grouped_on
grouped-reads f ts t k e =
    let w = subst (Told (LevelAs grouped_brackets 0 0 ts)) e (level-as f 8 (grouped_brackets - 1) 0 0 ts (omega arith) (omega arith)) over in
    record { tree = w.got; fuel = w.reads.0; reads = w.reads.1 w.reads.0 (omega arith); same = w.same }

-- it means the same, and has the same words
pub grouped-same : {ts : List Tok} {t : Tree} {k : ℕ} (g : GroupedAs ts t k) (has : List ℕ → ℕ → Bool) (x : ℕ) →
    satisfies has g.tree x ≡ satisfies has t x
grouped-same {t = t} g has x = bare-same has g.tree t x g.same

pub grouped-words : {ts : List Tok} {t : Tree} {k : ℕ} (g : GroupedAs ts t k) → tree_words g.tree ≡ tree_words t
grouped-words {t = t} g = bare-words g.tree t g.same

-- ---- brackets add no word

closing-words : (b : Bool) (ts : List Tok) → token_words (closing b ts) ≡ token_words ts
unfolding token_words
closing-words true ts = refl
closing-words false ts = refl

opening-words : (b : Bool) (ts : List Tok) → token_words (opening b ts) ≡ token_words ts
unfolding token_words
opening-words true ts = refl
opening-words false ts = refl

grouped-on-words : (b : Bool) (m : ℕ) (ts : List Tok) → token_words (grouped_on b m ts) ≡ token_words ts
unfolding token_words grouped_on
grouped-on-words b m [] = closing-words b []
grouped-on-words b m (word_t w p ∷ r) = ap (λ (ws : List (List ℕ)). w ∷ ws) (grouped-on-words b m r)
grouped-on-words b m (op_t And p ∷ r) = grouped-on-words b m r
grouped-on-words b m (op_t Or p ∷ r) =
    let w = is_wide r in
    closing-words b (op_t Or p ∷ opening w (grouped_on w m r)) ∙ opening-words w (grouped_on w m r) ∙ grouped-on-words w m r
grouped-on-words b m (op_t Not p ∷ r) = grouped-on-words b m r
grouped-on-words b m (open_t p ∷ r) = grouped-on-words false (levels_around b m) r
grouped-on-words b m (close_t p ∷ r) = closing-words b (close_t p ∷ grouped_on (innermost m) (m / 2) r) ∙ grouped-on-words (innermost m) (m / 2) r
grouped-on-words b m (other_t p ∷ r) = grouped-on-words b m r

pub grouped-token-words : (ts : List Tok) → token_words (grouped ts) ≡ token_words ts
grouped-token-words ts = grouped-on-words false 0 ts
