-- Laws of rules: by each of the two operands may be exchanged and words keep their order; and by the second `or` stands between whole sides.
use Prim.Native.Nat.{ℕ}
use mathlib.Core.Path.{◌≡◌, refl, sym, ap, ap₂, ◌∙◌}
use mathlib.Core.List.{List, [], ◌∷◌, ◌++◌, append_assoc, append-nil}
use mathlib.Core.Bool.{Bool, true, false, cond, ◌||◌, or-false, or_assoc}
use lib.Dec.{eqb}
use borrow.Author.Tests.{eq-eqb, ne_eqb}
use Rattle.word.specs.declared.Op.{Op}
use Rattle.word.specs.declared.Op.TheVariants.{And, Or, Not}
use Rattle.question.specs.Grammar.{Tree, pair, Link, link, Rule, from_left, tree_words}
use Rattle.question.specs.Rules.{first_group, later_groups, and_first, rule_of}
use Rattle.question.specs.Meaning.{combine, satisfies, Same, SameLinks, none, more, Respects}

-- ---- from the left

same-pair : (has : List ℕ → ℕ → Bool) (o : Op) (a a' b b' : Tree) → Same has a a' → Same has b b' → Same has (pair o a b) (pair o a' b')
unfolding satisfies
same-pair has o a a' b b' p q x = ap₂ (combine o) (p x) (q x)

from-left-step : (has : List ℕ → ℕ → Bool) (a b : Tree) {ls ms : List Link} → Same has a b → SameLinks has ls ms → Same has (from_left a ls) (from_left b ms)
unfolding from_left
from-left-step has a b p none = p
from-left-step has a b p (more o c d ls ms q r) = from-left-step has (pair o a c) (pair o b d) (same-pair has o a b c d p q) r

pub from-left-respects : Respects from_left
from-left-respects has a b ls ms p q = from-left-step has a b p q

-- one link more
pub from-left-link : (t : Tree) (o : Op) (u : Tree) (ls : List Link) → from_left t (link o u ∷ ls) ≡ from_left (pair o t u) ls
unfolding from_left
from-left-link t o u ls = refl

pub from-left-none : (t : Tree) → from_left t [] ≡ t
unfolding from_left
from-left-none t = refl

-- ---- words in reading order

abbrev pub link_words : List Link → List (List ℕ)
link_words [] = []
link_words (link o t ∷ ls) = tree_words t ++ link_words ls

-- a rule that keeps the words in their order
abbrev pub Keeps : Rule → Type 0
Keeps rule = (t : Tree) (ls : List Link) → tree_words (rule t ls) ≡ tree_words t ++ link_words ls

pub from-left-keeps : Keeps from_left
unfolding from_left tree_words
from-left-keeps t [] = sym (append-nil (tree_words t))
from-left-keeps t (link o u ∷ ls) = from-left-keeps (pair o t u) ls ∙ append_assoc (tree_words t) (tree_words u) (link_words ls)

-- ---- `and` before `or`

group-same : (has : List ℕ → ℕ → Bool) (a b : Tree) {ls ms : List Link} → Same has a b → SameLinks has ls ms → Same has (first_group a ls) (first_group b ms)
unfolding first_group
group-same has a b p none = p
group-same has a b p (more And c d ls ms q r) = group-same has (pair And a c) (pair And b d) (same-pair has And a b c d p q) r
group-same has a b p (more Not c d ls ms q r) = group-same has (pair Not a c) (pair Not b d) (same-pair has Not a b c d p q) r
group-same has a b p (more Or c d ls ms q r) = p

groups-same : (has : List ℕ → ℕ → Bool) {ls ms : List Link} → SameLinks has ls ms → SameLinks has (later_groups ls) (later_groups ms)
unfolding later_groups
groups-same has none = none
groups-same has (more And c d ls ms q r) = groups-same has r
groups-same has (more Not c d ls ms q r) = groups-same has r
groups-same has (more Or c d ls ms q r) =
    more Or (first_group c ls) (first_group d ms) (later_groups ls) (later_groups ms) (group-same has c d q r) (groups-same has r)

pub and-first-respects : Respects and_first
unfolding and_first
and-first-respects has a b ls ms p q =
    from-left-respects has (first_group a ls) (first_group b ms) (later_groups ls) (later_groups ms) (group-same has a b p q) (groups-same has q)

groups-keep : (t : Tree) (ls : List Link) → tree_words (first_group t ls) ++ link_words (later_groups ls) ≡ tree_words t ++ link_words ls
unfolding first_group later_groups tree_words
groups-keep t [] = refl
groups-keep t (link And u ∷ ls) = groups-keep (pair And t u) ls ∙ append_assoc (tree_words t) (tree_words u) (link_words ls)
groups-keep t (link Not u ∷ ls) = groups-keep (pair Not t u) ls ∙ append_assoc (tree_words t) (tree_words u) (link_words ls)
groups-keep t (link Or u ∷ ls) = ap (λ (ws : List (List ℕ)). tree_words t ++ ws) (groups-keep u ls)

pub and-first-keeps : Keeps and_first
unfolding and_first
and-first-keeps t ls = from-left-keeps (first_group t ls) (later_groups ls) ∙ groups-keep t ls

-- ---- what the second rule means, so that no other can stand in its place: a row without `or` is grouped from the left, and an `or` stands between
-- all that is before it and all that is behind it

abbrev pub NoOr : List Link → Type 0
NoOr [] = Unit {0}
NoOr (link And t ∷ ls) = NoOr ls
NoOr (link Not t ∷ ls) = NoOr ls
NoOr (link Or t ∷ ls) = ⊥

pub and-first-plain : (t : Tree) (ls : List Link) → NoOr ls → and_first t ls ≡ from_left t ls
unfolding and_first first_group later_groups from_left
and-first-plain t [] h = refl
and-first-plain t (link And u ∷ ls) h = and-first-plain (pair And t u) ls h
and-first-plain t (link Not u ∷ ls) h = and-first-plain (pair Not t u) ls h
and-first-plain t (link Or u ∷ ls) h = elim h [ ]

-- one of the operands has it
abbrev some : (List ℕ → ℕ → Bool) → List Link → ℕ → Bool
some has [] x = false
some has (link o t ∷ ls) x = satisfies has t x || some has ls x

-- the groups of a row, of which one has to be satisfied
groups-some : (has : List ℕ → ℕ → Bool) (t : Tree) (ls : List Link) (x : ℕ) →
    satisfies has (from_left t (later_groups ls)) x ≡ satisfies has t x || some has (later_groups ls) x
unfolding from_left later_groups satisfies
groups-some has t [] x = sym (or-false (satisfies has t x))
groups-some has t (link And u ∷ ls) x = groups-some has t ls x
groups-some has t (link Not u ∷ ls) x = groups-some has t ls x
groups-some has t (link Or u ∷ ls) x =
    groups-some has (pair Or t (first_group u ls)) ls x ∙ or_assoc (satisfies has t x) (satisfies has (first_group u ls) x) (some has (later_groups ls) x)

group-before : (t u : Tree) (ls ms : List Link) → first_group t (ls ++ link Or u ∷ ms) ≡ first_group t ls
unfolding first_group
group-before t u [] ms = refl
group-before t u (link And v ∷ ls) ms = group-before (pair And t v) u ls ms
group-before t u (link Not v ∷ ls) ms = group-before (pair Not t v) u ls ms
group-before t u (link Or v ∷ ls) ms = refl

some-before : (has : List ℕ → ℕ → Bool) (u : Tree) (ls ms : List Link) (x : ℕ) →
    some has (later_groups (ls ++ link Or u ∷ ms)) x ≡ some has (later_groups ls) x || (satisfies has (first_group u ms) x || some has (later_groups ms) x)
unfolding later_groups
some-before has u [] ms x = refl
some-before has u (link And v ∷ ls) ms x = some-before has u ls ms x
some-before has u (link Not v ∷ ls) ms x = some-before has u ls ms x
some-before has u (link Or v ∷ ls) ms x =
    ap₂ (λ (t : Tree) (b : Bool). satisfies has t x || b) (group-before v u ls ms) (some-before has u ls ms x)
    ∙ sym (or_assoc (satisfies has (first_group v ls) x) (some has (later_groups ls) x) (satisfies has (first_group u ms) x || some has (later_groups ms) x))

pub and-first-sides : (has : List ℕ → ℕ → Bool) (t u : Tree) (ls ms : List Link) (x : ℕ) →
    satisfies has (and_first t (ls ++ link Or u ∷ ms)) x ≡ satisfies has (and_first t ls) x || satisfies has (and_first u ms) x
unfolding and_first
and-first-sides has t u ls ms x =
    groups-some has (first_group t (ls ++ link Or u ∷ ms)) (ls ++ link Or u ∷ ms) x
    ∙ ap₂ (λ (g : Tree) (b : Bool). satisfies has g x || b) (group-before t u ls ms) (some-before has u ls ms x)
    ∙ sym (or_assoc (satisfies has (first_group t ls) x) (some has (later_groups ls) x) (satisfies has (first_group u ms) x || some has (later_groups ms) x))
    ∙ ap₂ (λ (a b : Bool). a || b) (sym (groups-some has (first_group t ls) ls x)) (sym (groups-some has (first_group u ms) ms x))

-- ---- the rule of a number

by-rule : (P : Rule → Type 0) → P from_left → P and_first → (rule : ℕ) → P (rule_of rule)
by-rule P left first rule = go (eqb rule 2)
  where
    go : (b : Bool) → P (cond b and_first from_left)
    go true = first
    go false = left

pub rule-respects : (rule : ℕ) → Respects (rule_of rule)
rule-respects = by-rule Respects from-left-respects and-first-respects

pub rule-keeps : (rule : ℕ) → Keeps (rule_of rule)
rule-keeps = by-rule Keeps from-left-keeps and-first-keeps

pub rule-second : {rule : ℕ} → rule ≡ 2 → rule_of rule ≡ and_first
rule-second {rule} e = rw (eq-eqb rule 2 e)

pub rule-else : {rule : ℕ} → (rule ≡ 2 → ⊥) → rule_of rule ≡ from_left
rule-else {rule} h = rw (ne_eqb rule 2 h)
