-- Laws of the limits: what a token does to a walk, a walk in parts, what it counts, and that it passes no limit.
use Prim.Native.Nat.{ℕ, ◌+◌, ◌-◌, ◌≤◌, ◌<◌}
use native.Mathlib.Omega.{arith}
use mathlib.Core.Path.{◌≡◌, refl, ap, ◌∙◌, subst}
use mathlib.Core.List.{List, [], ◌∷◌, ◌++◌}
use mathlib.Core.Bool.{Bool, true, false}
use lib.ListN.{length}
use lib.Dec.{ltb, eqb}
use borrow.Author.Tests.{ltb-true, ltb-false, eqb-true, eqb-false}
use Rattle.word.specs.declared.Op.{Op}
use Rattle.question.specs.Token.{choose, Tok, word_t, op_t, open_t, close_t, other_t}
use Rattle.question.specs.Limits.{token_words, deepest, open_after}
use Rattle.question.specs.Walk.{Stand, operand_next, operator_next, Pass, goes, refused, pass, Walked, reached, stopped, onward, walk, to_end, walk_all, fresh}
use Rattle.question.specs.Exchange.{NeverBelow}
use Rattle.question.proofs.Apart.{zero_one}

abbrev pub count : List Tok → ℕ
count ts = length (token_words ts)

abbrev pub open_at : Stand → ℕ
open_at (operand_next n k) = n
open_at (operator_next n k) = n

abbrev pub taken_at : Stand → ℕ
taken_at (operand_next n k) = k
taken_at (operator_next n k) = k

-- ---- what a token does, and why

pub data Does : Stand → Tok → Pass → Type 0 where
  takes-word : (n k p : ℕ) (w : List ℕ) → k < 16 → Does (operand_next n k) (word_t w p) (goes (operator_next n (k + 1)))
  takes-operator : (n k p : ℕ) (o : Op) → Does (operator_next n k) (op_t o p) (goes (operand_next n k))
  opens : (n k p : ℕ) → n < 8 → Does (operand_next n k) (open_t p) (goes (operand_next (n + 1) k))
  closes : (n k p : ℕ) → 1 ≤ n → Does (operator_next n k) (close_t p) (goes (operator_next (n - 1) k))
  word-many : (n k p : ℕ) (w : List ℕ) → 16 ≤ k → Does (operand_next n k) (word_t w p) (refused 10)
  bracket-many : (n k p : ℕ) → 8 ≤ n → Does (operand_next n k) (open_t p) (refused 11)
  none : (at : Stand) (t : Tok) → Does at t (refused 9)

does-word : (n k p : ℕ) (w : List ℕ) (b : Bool) → ltb k 16 ≡ b →
    Does (operand_next n k) (word_t w p) (choose b (λ _. goes (operator_next n (k + 1))) (λ _. refused 10))
does-word n k p w true e = takes-word n k p w (ltb-true k 16 e)
does-word n k p w false e = word-many n k p w (ltb-false k 16 e)

does-open : (n k p : ℕ) (b : Bool) → ltb n 8 ≡ b → Does (operand_next n k) (open_t p) (choose b (λ _. goes (operand_next (n + 1) k)) (λ _. refused 11))
does-open n k p true e = opens n k p (ltb-true n 8 e)
does-open n k p false e = bracket-many n k p (ltb-false n 8 e)

some-open : (n : ℕ) → (n ≡ 0 → ⊥) → 1 ≤ n
some-open n h = omega arith

does-close : (n k p : ℕ) (b : Bool) → eqb n 0 ≡ b → Does (operator_next n k) (close_t p) (choose b (λ _. refused 9) (λ _. goes (operator_next (n - 1) k)))
does-close n k p true e = none (operator_next n k) (close_t p)
does-close n k p false e = closes n k p (some-open n (eqb-false n 0 e))

does : (at : Stand) (t : Tok) → Does at t (pass at t)
does (operand_next n k) (word_t w p) = does-word n k p w (ltb k 16) refl
does (operand_next n k) (op_t o p) = none (operand_next n k) (op_t o p)
does (operand_next n k) (open_t p) = does-open n k p (ltb n 8) refl
does (operand_next n k) (close_t p) = none (operand_next n k) (close_t p)
does (operand_next n k) (other_t p) = none (operand_next n k) (other_t p)
does (operator_next n k) (word_t w p) = none (operator_next n k) (word_t w p)
does (operator_next n k) (op_t o p) = takes-operator n k p o
does (operator_next n k) (open_t p) = none (operator_next n k) (open_t p)
does (operator_next n k) (close_t p) = does-close n k p (eqb n 0) refl
does (operator_next n k) (other_t p) = none (operator_next n k) (other_t p)

pub does-as : {at : Stand} {t : Tok} {o : Pass} → pass at t ≡ o → Does at t o
does-as {at} {t} {o} e = subst (Does at t) e (does at t)

-- ---- a walk in two parts

-- the token t is passed, and then the tokens r
pub record Through (at : Stand) (t : Tok) (r : List Tok) (to : Stand) : Type 0 where
  pub mid : Stand
  pub passes : pass at t ≡ goes mid
  pub onward : walk mid r ≡ reached to

through-step : (at : Stand) (t : Tok) (r : List Tok) (to : Stand) (o : Pass) → pass at t ≡ o → onward o (t ∷ r) (λ x. walk x r) ≡ reached to → Through at t r to
through-step at t r to (goes mid) e h = record { mid = mid; passes = e; onward = h }
through-step at t r to (refused c) e h = zero_one (cc)

pub through : (at : Stand) (t : Tok) (r : List Tok) (to : Stand) → walk at (t ∷ r) ≡ reached to → Through at t r to
unfolding walk
through at t r to h = through-step at t r to (pass at t) refl h

pub walk_none : (at to : Stand) → walk at [] ≡ reached to → at ≡ to
unfolding walk
walk_none at to h = cc

pub walk-pass : (at to : Stand) (t : Tok) (r : List Tok) → pass at t ≡ goes to → walk at (t ∷ r) ≡ walk to r
unfolding walk
walk-pass at to t r e = rw e

-- the tokens a, and then b
pub record Halfway (at : Stand) (a b : List Tok) (to : Stand) : Type 0 where
  pub mid : Stand
  pub front : walk at a ≡ reached mid
  pub rest : walk mid b ≡ reached to

pub walk-apart : (at : Stand) (a b : List Tok) (to : Stand) → walk at (a ++ b) ≡ reached to → Halfway at a b to
unfolding walk
walk-apart at [] b to h = record { mid = at; front = refl; rest = h }
walk-apart at (t ∷ a) b to h =
    let m = through at t (a ++ b) to h in
    let half = walk-apart m.mid a b to m.onward in
    record { mid = half.mid; front = walk-pass at m.mid t a m.passes ∙ half.front; rest = half.rest }

pub walk-append : (at mid : Stand) (a b : List Tok) → walk at a ≡ reached mid → walk at (a ++ b) ≡ walk mid b
walk-append at mid [] b h = ap (λ (x : Stand). walk x b) (walk_none at mid h)
walk-append at mid (t ∷ a) b h =
    let m = through at t a mid h in walk-pass at m.mid t (a ++ b) m.passes ∙ walk-append m.mid mid a b m.onward

-- ---- what a walk counts

-- what a token does to the counts, with the tokens r behind it
record Counted (at : Stand) (t : Tok) (r : List Tok) (to : Stand) : Type 0 where
  words : taken_at at + count (t ∷ r) ≡ taken_at to + count r
  brackets : open_after (open_at at) (t ∷ r) ≡ open_after (open_at to) r
  full : taken_at at ≤ 16 → taken_at to ≤ 16
  within : open_at at ≤ 8 → open_at to ≤ 8
  deep : open_at at ≤ 8 → deepest (open_at to) r ≤ 8 → deepest (open_at at) (t ∷ r) ≤ 8
  above : NeverBelow (open_at to) r → NeverBelow (open_at at) (t ∷ r)

counted : (at : Stand) (t : Tok) (r : List Tok) (to : Stand) → Does at t (goes to) → Counted at t r to
unfolding token_words open_after deepest
counted at t r to (takes-word n k p w l) =
    record { words = omega arith; brackets = refl; full = λ f. omega arith; within = λ f. f; deep = λ f g. g; above = λ f. f }
counted at t r to (takes-operator n k p o) = record { words = refl; brackets = refl; full = λ f. f; within = λ f. f; deep = λ f g. g; above = λ f. f }
counted at t r to (opens n k p l) = record { words = refl; brackets = refl; full = λ f. f; within = λ f. omega arith; deep = λ f g. g; above = λ f. f }
counted at t r to (closes n k p l) =
    record { words = refl; brackets = refl; full = λ f. f; within = λ f. omega arith; deep = λ f g. omega arith; above = λ f. (l, f) }

-- what a walk does to them
pub record Kept (at : Stand) (ts : List Tok) (to : Stand) : Type 0 where
  pub words : taken_at at + count ts ≡ taken_at to
  pub brackets : open_after (open_at at) ts ≡ open_at to
  pub full : taken_at at ≤ 16 → taken_at to ≤ 16
  pub within : open_at at ≤ 8 → open_at to ≤ 8
  pub deep : open_at at ≤ 8 → deepest (open_at at) ts ≤ 8
  pub above : NeverBelow (open_at at) ts

pub walk_kept : (at : Stand) (ts : List Tok) (to : Stand) → walk at ts ≡ reached to → Kept at ts to
unfolding token_words open_after deepest
walk_kept at [] to h =
    subst (λ (x : Stand). Kept at [] x) (walk_none at to h)
    (record { words = omega arith; brackets = refl; full = λ f. f; within = λ f. f; deep = λ f. f; above = tt })
walk_kept at (t ∷ r) to h =
    let m = through at t r to h in
    let c = counted at t r m.mid (does-as m.passes) in
    let w = walk_kept m.mid r to m.onward in
    record {
      words = c.words ∙ w.words;
      brackets = c.brackets ∙ w.brackets;
      full = λ f. w.full (c.full f);
      within = λ f. w.within (c.within f);
      deep = λ f. c.deep f (w.deep (c.within f));
      above = c.above w.above;
    }

-- ---- a walk to the end

end_step : (n k m : ℕ) (b : Bool) → eqb n 0 ≡ b → choose b (λ _. reached k) (λ _. stopped 9 []) ≡ reached m → operator_next n k ≡ operator_next 0 m
end_step n k m true e h = let z : n ≡ 0 = eqb-true n 0 e in let q : k ≡ m = cc in rw (z, q)
end_step n k m false e h = zero_one (cc)

end-reached : (o : Walked Stand) (m : ℕ) → to_end o ≡ reached m → o ≡ reached (operator_next 0 m)
end-reached (reached (operand_next n k)) m h = zero_one (cc)
end-reached (reached (operator_next n k)) m h = ap reached (end_step n k m (eqb n 0) refl h)
end-reached (stopped c r) m h = zero_one (cc)

pub walk-accepts : (ts : List Tok) (m : ℕ) → walk_all fresh ts ≡ reached m → walk fresh ts ≡ reached (operator_next 0 m)
unfolding walk_all
walk-accepts ts m h = end-reached (walk fresh ts) m h

pub accepts-walk : (ts : List Tok) (m : ℕ) → walk fresh ts ≡ reached (operator_next 0 m) → walk_all fresh ts ≡ reached m
unfolding walk_all
accepts-walk ts m h = rw h
