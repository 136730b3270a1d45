-- Laws of a part in brackets: a part that is walked in one place is walked in every other where it passes no limit.
use Prim.Native.Nat.{ℕ, ◌+◌, ◌-◌, ◌≤◌, ◌<◌}
use native.Mathlib.Omega.{arith}
use mathlib.Core.Path.{◌≡◌, refl, sym, ap, ap₂, ◌∙◌, subst}
use mathlib.Core.List.{List, [], ◌∷◌, ◌++◌}
use borrow.Author.Tests.{lt-ltb, ne_eqb}
use Rattle.question.specs.Token.{Tok, word_t, op_t, open_t, close_t, other_t}
use Rattle.question.specs.Limits.{token_words, deepest, open_after}
use Rattle.question.specs.Walk.{Stand, operand_next, operator_next, goes, pass, reached, walk, fresh}
use Rattle.question.specs.Exchange.{NeverBelow}
use Rattle.question.proofs.LimitLaws.{count, Does, takes-word, takes-operator, opens, closes, does-as, through, walk_none, walk-pass, walk-apart, walk-append, walk_kept}
use Rattle.question.proofs.SplitLaws.{bare, bares}

-- ---- the brackets of tokens

pub deepest-from : (n : ℕ) (ts : List Tok) → n ≤ deepest n ts
unfolding deepest
deepest-from n [] = omega arith
deepest-from n (word_t w p ∷ r) = deepest-from n r
deepest-from n (op_t o p ∷ r) = deepest-from n r
deepest-from n (open_t p ∷ r) = omega (arith, deepest-from (n + 1) r)
deepest-from n (close_t p ∷ r) = omega arith
deepest-from n (other_t p ∷ r) = deepest-from n r

deepest-more : (n m : ℕ) (ts : List Tok) → n ≤ m → deepest n ts ≤ deepest m ts
unfolding deepest
deepest-more n m [] h = h
deepest-more n m (word_t w p ∷ r) h = deepest-more n m r h
deepest-more n m (op_t o p ∷ r) h = deepest-more n m r h
deepest-more n m (open_t p ∷ r) h = deepest-more (n + 1) (m + 1) r (omega arith)
deepest-more n m (close_t p ∷ r) h = omega (arith, deepest-more (n - 1) (m - 1) r (omega arith))
deepest-more n m (other_t p ∷ r) h = deepest-more n m r h

deepest-append : (n : ℕ) (a b : List Tok) → (deepest n a ≤ deepest n (a ++ b)) × (deepest (open_after n a) b ≤ deepest n (a ++ b))
unfolding deepest open_after
deepest-append n [] b = (deepest-from n b, omega arith)
deepest-append n (word_t w p ∷ r) b = deepest-append n r b
deepest-append n (op_t o p ∷ r) b = deepest-append n r b
deepest-append n (open_t p ∷ r) b = deepest-append (n + 1) r b
deepest-append n (close_t p ∷ r) b = let h = deepest-append (n - 1) r b in (omega (arith, h.0), omega (arith, h.1))
deepest-append n (other_t p ∷ r) b = deepest-append n r b

count-append : (a b : List Tok) → count (a ++ b) ≡ count a + count b
unfolding token_words
count-append [] b = omega arith
count-append (word_t w p ∷ r) b = omega (arith, count-append r b)
count-append (op_t o p ∷ r) b = count-append r b
count-append (open_t p ∷ r) b = count-append r b
count-append (close_t p ∷ r) b = count-append r b
count-append (other_t p ∷ r) b = count-append r b

-- where more are open before the tokens
below_more : (n g : ℕ) (ts : List Tok) → NeverBelow n ts → NeverBelow (n + g) ts × (open_after (n + g) ts ≡ open_after n ts + g)
unfolding open_after
below_more n g [] h = (tt, refl)
below_more n g (word_t w p ∷ r) h = below_more n g r h
below_more n g (op_t o p ∷ r) h = below_more n g r h
below_more n g (open_t p ∷ r) h = let e : n + 1 + g ≡ n + g + 1 = omega arith in rw e at (below_more (n + 1) g r h)
below_more n g (close_t p ∷ r) h =
    let l = h.0 in
    let e : n - 1 + g ≡ n + g - 1 = omega arith in
    let w = rw e at (below_more (n - 1) g r h.1) in ((omega arith, w.0), w.1)
below_more n g (other_t p ∷ r) h = below_more n g r h

-- ---- the same tokens walked with m brackets open and j words taken

abbrev like : Stand → ℕ → ℕ → Stand
like (operand_next n k) m j = operand_next m j
like (operator_next n k) m j = operator_next m j

record Again (at mid : Stand) (t : Tok) (r : List Tok) (m j : ℕ) : Type 0 where
  m' : ℕ
  j' : ℕ
  passes : pass (like at m j) t ≡ goes (like mid m' j')
  above : NeverBelow m' r
  deep : deepest m' r ≤ 8
  brackets : open_after m' r ≡ open_after m (t ∷ r)
  words : j' + count r ≡ j + count (t ∷ r)

again : (at mid : Stand) (t : Tok) (r : List Tok) (m j : ℕ) → Does at t (goes mid) → NeverBelow m (t ∷ r) → deepest m (t ∷ r) ≤ 8 → j + count (t ∷ r) ≤ 16 →
    Again at mid t r m j
unfolding token_words open_after deepest
again at mid t r m j (takes-word n k p w h) a d l =
    let more : j < 16 = omega arith in
    record { m' = m; j' = j + 1; passes = rw (lt-ltb j 16 more); above = a; deep = d; brackets = refl; words = omega arith }
again at mid t r m j (takes-operator n k p o) a d l = record { m' = m; j' = j; passes = refl; above = a; deep = d; brackets = refl; words = refl }
again at mid t r m j (opens n k p h) a d l =
    let more : m < 8 = omega (arith, deepest-from (m + 1) r) in
    record { m' = m + 1; j' = j; passes = rw (lt-ltb m 8 more); above = a; deep = d; brackets = refl; words = refl }
again at mid t r m j (closes n k p h) a d l =
    let some = a.0 in
    record { m' = m - 1; j' = j; passes = rw (ne_eqb m 0 (λ (e : m ≡ 0). omega arith)); above = a.1; deep = omega arith; brackets = refl; words = refl }

pub walk-again : (at : Stand) (ts : List Tok) (to : Stand) (m j : ℕ) → walk at ts ≡ reached to → NeverBelow m ts → deepest m ts ≤ 8 → j + count ts ≤ 16 →
    walk (like at m j) ts ≡ reached (like to (open_after m ts) (j + count ts))
unfolding walk token_words open_after
walk-again at [] to m j h a d l =
    subst (λ (x : Stand). reached (like at m j) ≡ reached (like x m (j + 0))) (walk_none at to h)
    (let e : j ≡ j + 0 = omega arith in ap (λ (i : ℕ). reached (like at m i)) e)
walk-again at (t ∷ r) to m j h a d l =
    let x = through at t r to h in
    let y = again at x.mid t r m j (does-as x.passes) a d l in
    walk-pass (like at m j) (like x.mid y.m' y.j') t r y.passes
    ∙ walk-again x.mid r to y.m' y.j' x.onward y.above y.deep (omega (arith, y.words))
    ∙ ap₂ (λ (b i : ℕ). reached (like to b i)) y.brackets y.words

-- ---- the walk before a part in brackets, over it, and behind it

-- the front P, the part A, and what stands behind, Q, which takes N words in all
record Around (P A Q : List Tok) (N : ℕ) : Type 0 where
  n : ℕ
  k : ℕ
  room : n < 8
  front : walk fresh P ≡ reached (operand_next n k)
  inner : walk (operand_next (n + 1) k) A ≡ reached (operator_next (n + 1) (k + count A))
  rest : walk (operator_next n (k + count A)) Q ≡ reached (operator_next 0 N)

record Opens (at to : Stand) : Type 0 where
  n : ℕ
  k : ℕ
  room : n < 8
  from : at ≡ operand_next n k
  leads : to ≡ operand_next (n + 1) k

record Closes (at to : Stand) : Type 0 where
  n : ℕ
  k : ℕ
  from : at ≡ operator_next n k
  leads : to ≡ operator_next (n - 1) k

opened : (at to : Stand) (p : ℕ) → Does at (open_t p) (goes to) → Opens at to
opened at to p (opens n k _ h) = record { n = n; k = k; room = h; from = refl; leads = refl }

closed-by : (at to : Stand) (p : ℕ) → Does at (close_t p) (goes to) → Closes at to
closed-by at to p (closes n k _ h) = record { n = n; k = k; from = refl; leads = refl }

-- tokens that the walk takes to the end
pub record Taken (ts : List Tok) : Type 0 where
  pub words : ℕ
  pub walks : walk fresh ts ≡ reached (operator_next 0 words)

le-through : {a b c : ℕ} → a ≤ b → b ≤ c → a ≤ c
le-through h k = omega arith

-- the part A in brackets
abbrev pub bracketed : List Tok → List Tok → List Tok → List Tok
bracketed P A Q = P ++ open_t 0 ∷ (A ++ close_t 0 ∷ Q)

module _ (P A Q : List Tok) where
  around-walk : (N : ℕ) → walk fresh (bracketed P A Q) ≡ reached (operator_next 0 N) → NeverBelow 0 A → open_after 0 A ≡ 0 → Around P A Q N
  around-walk N h above ends =
      let x = walk-apart fresh P (open_t 0 ∷ (A ++ close_t 0 ∷ Q)) (operator_next 0 N) h in
      let y = through x.mid (open_t 0) (A ++ close_t 0 ∷ Q) (operator_next 0 N) x.rest in
      let o = opened x.mid y.mid 0 (does-as y.passes) in
      let z = walk-apart y.mid A (close_t 0 ∷ Q) (operator_next 0 N) y.onward in
      let w = through z.mid (close_t 0) Q (operator_next 0 N) z.rest in
      let c = closed-by z.mid w.mid 0 (does-as w.passes) in
      let inner : walk (operand_next (o.n + 1) o.k) A ≡ reached (operator_next c.n c.k) =
      ap (λ (a : Stand). walk a A) (sym o.leads) ∙ z.front ∙ ap reached c.from in
      let kept = walk_kept (operand_next (o.n + 1) o.k) A (operator_next c.n c.k) inner in
      let more = below_more 0 (o.n + 1) A above in
      let zero_more : 0 + (o.n + 1) ≡ o.n + 1 = omega arith in
      let same : open_after (0 + (o.n + 1)) A ≡ open_after (o.n + 1) A = ap (λ (i : ℕ). open_after i A) zero_more in
      let level : c.n ≡ o.n + 1 = omega (arith, kept.brackets, more.1, same, ends) in
      let back : c.n - 1 ≡ o.n = omega arith in
      let words : c.k ≡ o.k + count A = sym kept.words in
      record {
        n = o.n;
        k = o.k;
        room = o.room;
        front = x.front ∙ ap reached o.from;
        inner = inner ∙ ap₂ (λ (a b : ℕ). reached (operator_next a b)) level words;
        rest = ap₂ (λ (a b : ℕ). walk (operator_next a b) Q) (sym back) (sym words) ∙ ap (λ (a : Stand). walk a Q) (sym c.leads) ∙ w.onward;
      }

  walk-around : (N : ℕ) → Around P A Q N → walk fresh (bracketed P A Q) ≡ reached (operator_next 0 N)
  walk-around N a =
      let back : a.n + 1 - 1 ≡ a.n = omega arith in
      let over : pass (operand_next a.n a.k) (open_t 0) ≡ goes (operand_next (a.n + 1) a.k) = rw (lt-ltb a.n 8 a.room) in
      let out : pass (operator_next (a.n + 1) (a.k + count A)) (close_t 0) ≡ goes (operator_next a.n (a.k + count A)) =
      rw (ne_eqb (a.n + 1) 0 (λ (e : a.n + 1 ≡ 0). omega arith), back) in
      walk-append fresh (operand_next a.n a.k) P (open_t 0 ∷ (A ++ close_t 0 ∷ Q)) a.front
      ∙ walk-pass (operand_next a.n a.k) (operand_next (a.n + 1) a.k) (open_t 0) (A ++ close_t 0 ∷ Q) over
      ∙ walk-append (operand_next (a.n + 1) a.k) (operator_next (a.n + 1) (a.k + count A)) A (close_t 0 ∷ Q) a.inner
      ∙ walk-pass (operator_next (a.n + 1) (a.k + count A)) (operator_next a.n (a.k + count A)) (close_t 0) Q out
      ∙ a.rest

  -- the part by itself
  pub inside-walk : (N : ℕ) → walk fresh (bracketed P A Q) ≡ reached (operator_next 0 N) → NeverBelow 0 A → open_after 0 A ≡ 0 →
      walk fresh A ≡ reached (operator_next 0 (count A))
  inside-walk N h above ends =
      let a = around-walk N h above ends in
      let first = walk_kept fresh P (operand_next a.n a.k) a.front in
      let kept = walk_kept (operand_next (a.n + 1) a.k) A (operator_next (a.n + 1) (a.k + count A)) a.inner in
      let room = a.room in
      walk-again (operand_next (a.n + 1) a.k) A (operator_next (a.n + 1) (a.k + count A)) 0 0 a.inner above
      (omega (arith, deepest-more 0 (a.n + 1) A (omega arith), kept.deep (omega arith)))
      (omega (arith, kept.full (first.full (omega arith))))
      ∙ ap₂ (λ (b i : ℕ). reached (operator_next b i)) ends (let e : 0 + count A ≡ count A = omega arith in e)

-- another part B in its place
pub exchange-walk : (P A B Q : List Tok) (NA NB : ℕ) → walk fresh (bracketed P A Q) ≡ reached (operator_next 0 NA) → NeverBelow 0 A → open_after 0 A ≡ 0 →
    walk fresh B ≡ reached (operator_next 0 NB) →
    deepest 0 (bracketed P B Q) ≤ 8 → count (bracketed P B Q) ≤ 16 → Taken (bracketed P B Q)
unfolding deepest token_words
exchange-walk P A B Q NA NB h above ends alone d l =
    let a = around-walk P A Q NA h above ends in
    let room = a.room in
    let first = walk_kept fresh P (operand_next a.n a.k) a.front in
    let inner = walk_kept fresh B (operator_next 0 NB) alone in
    let rest = walk_kept (operator_next a.n (a.k + count A)) Q (operator_next 0 NA) a.rest in
    let zero_more : 0 + (a.n + 1) ≡ a.n + 1 = omega arith in
    let more = rw zero_more at (below_more 0 (a.n + 1) B inner.above) in
    let deep : deepest a.n (open_t 0 ∷ (B ++ close_t 0 ∷ Q)) ≤ 8 =
    rw first.brackets at (le-through (deepest-append 0 P (open_t 0 ∷ (B ++ close_t 0 ∷ Q))).1 d) in
    let words : a.k + count B + count Q ≤ 16 = omega (arith, first.words, count-append P (open_t 0 ∷ (B ++ close_t 0 ∷ Q)), count-append B (close_t 0 ∷ Q)) in
    let level : open_after (a.n + 1) B ≡ a.n + 1 = omega (arith, more.1, inner.brackets) in
    record {
      words = a.k + count B + count Q;
      walks = walk-around P B Q (a.k + count B + count Q) (record {
        n = a.n;
        k = a.k;
        room = a.room;
        front = a.front;
        inner =
            walk-again fresh B (operator_next 0 NB) (a.n + 1) a.k alone more.0 (le-through (deepest-append (a.n + 1) B (close_t 0 ∷ Q)).0 deep)
            (omega arith)
            ∙ ap (λ (i : ℕ). reached (operator_next i (a.k + count B))) level;
        rest =
            walk-again (operator_next a.n (a.k + count A)) Q (operator_next 0 NA) a.n (a.k + count B) a.rest rest.above
            (rest.deep (omega arith)) words
            ∙ ap (λ (i : ℕ). reached (operator_next i (a.k + count B + count Q))) rest.brackets;
      });
    }

-- ---- the places play no part

pass-bare : (at : Stand) (t : Tok) → pass at (bare t) ≡ pass at t
pass-bare (operand_next n k) (word_t w p) = refl
pass-bare (operand_next n k) (op_t o p) = refl
pass-bare (operand_next n k) (open_t p) = refl
pass-bare (operand_next n k) (close_t p) = refl
pass-bare (operand_next n k) (other_t p) = refl
pass-bare (operator_next n k) (word_t w p) = refl
pass-bare (operator_next n k) (op_t o p) = refl
pass-bare (operator_next n k) (open_t p) = refl
pass-bare (operator_next n k) (close_t p) = refl
pass-bare (operator_next n k) (other_t p) = refl

pub walk-bare : (at : Stand) (ts : List Tok) (to : Stand) → walk at ts ≡ reached to → walk at (bares ts) ≡ reached to
walk-bare at [] to h = h
walk-bare at (t ∷ r) to h =
    let x = through at t r to h in walk-pass at x.mid (bare t) (bares r) (pass-bare at t ∙ x.passes) ∙ walk-bare x.mid r to x.onward

pub bare-walk : (at : Stand) (ts : List Tok) (to : Stand) → walk at (bares ts) ≡ reached to → walk at ts ≡ reached to
bare-walk at [] to h = h
bare-walk at (t ∷ r) to h =
    let x = through at (bare t) (bares r) to h in walk-pass at x.mid t r (sym (pass-bare at t) ∙ x.passes) ∙ bare-walk x.mid r to x.onward

-- the same words and brackets
pub record AsBare (n : ℕ) (ts : List Tok) : Type 0 where
  pub words : count (bares ts) ≡ count ts
  pub deep : deepest n (bares ts) ≡ deepest n ts
  pub brackets : open_after n (bares ts) ≡ open_after n ts
  pub above : NeverBelow n ts → NeverBelow n (bares ts)

pub as-bare : (n : ℕ) (ts : List Tok) → AsBare n ts
unfolding token_words deepest open_after
as-bare n [] = record { words = refl; deep = refl; brackets = refl; above = λ h. h }
as-bare n (word_t w p ∷ r) = let e = as-bare n r in record { words = omega (arith, e.words); deep = e.deep; brackets = e.brackets; above = e.above }
as-bare n (op_t o p ∷ r) = let e = as-bare n r in record { words = e.words; deep = e.deep; brackets = e.brackets; above = e.above }
as-bare n (open_t p ∷ r) = let e = as-bare (n + 1) r in record { words = e.words; deep = e.deep; brackets = e.brackets; above = e.above }
as-bare n (close_t p ∷ r) =
    let e = as-bare (n - 1) r in
    record { words = e.words; deep = omega (arith, e.deep); brackets = e.brackets; above = λ h. (h.0, e.above h.1) }
as-bare n (other_t p ∷ r) = let e = as-bare n r in record { words = e.words; deep = e.deep; brackets = e.brackets; above = e.above }
