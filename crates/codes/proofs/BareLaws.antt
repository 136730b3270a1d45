-- Laws of a tree without its brackets: they say nothing of which records satisfy it, nor of its words.
use Prim.Native.Nat.{ℕ}
use mathlib.Core.Path.{◌≡◌, refl, sym, ap, ap₂, ◌∙◌}
use mathlib.Core.Bool.{Bool}
use mathlib.Core.List.{List, [], ◌∷◌, ◌++◌}
use Rattle.question.specs.Grammar.{Tree, word, pair, part, Link, link, from_left, tree_words}
use Rattle.question.specs.Meaning.{combine, satisfies}

-- the tree, and the links, with no brackets kept
unfoldable pub bare : Tree → Tree
bare (word w) = word w
bare (pair o a b) = pair o (bare a) (bare b)
bare (part t) = bare t

unfoldable pub bare_links : List Link → List Link
bare_links [] = []
bare_links (link o t ∷ ls) = link o (bare t) ∷ bare_links ls

-- ---- what is grouped from the left, and links in two parts

pub bare-from-left : (a : Tree) (ls : List Link) → bare (from_left a ls) ≡ from_left (bare a) (bare_links ls)
unfolding bare bare_links from_left
bare-from-left a [] = refl
bare-from-left a (link o t ∷ ls) = bare-from-left (pair o a t) ls

pub bare-append : (ls ms : List Link) → bare_links (ls ++ ms) ≡ bare_links ls ++ bare_links ms
unfolding bare_links
bare-append [] ms = refl
bare-append (link o t ∷ ls) ms = ap (λ (ns : List Link). link o (bare t) ∷ ns) (bare-append ls ms)

-- trees and links that are the same but for brackets are so when they are grouped from the left
pub from-left-bare : (a b : Tree) (ls ms : List Link) → bare a ≡ bare b → bare_links ls ≡ bare_links ms → bare (from_left a ls) ≡ bare (from_left b ms)
from-left-bare a b ls ms p q = bare-from-left a ls ∙ ap₂ from_left p q ∙ sym (bare-from-left b ms)

-- ---- brackets say nothing

satisfies-bare : (has : List ℕ → ℕ → Bool) (t : Tree) (x : ℕ) → satisfies has (bare t) x ≡ satisfies has t x
unfolding satisfies bare
satisfies-bare has (word w) x = refl
satisfies-bare has (pair o a b) x = ap₂ (combine o) (satisfies-bare has a x) (satisfies-bare has b x)
satisfies-bare has (part t) x = satisfies-bare has t x

words-bare : (t : Tree) → tree_words (bare t) ≡ tree_words t
unfolding tree_words bare
words-bare (word w) = refl
words-bare (pair o a b) = ap₂ (λ (v w : List (List ℕ)). v ++ w) (words-bare a) (words-bare b)
words-bare (part t) = words-bare t

pub bare-same : (has : List ℕ → ℕ → Bool) (t u : Tree) (x : ℕ) → bare t ≡ bare u → satisfies has t x ≡ satisfies has u x
bare-same has t u x e = sym (satisfies-bare has t x) ∙ ap (λ (v : Tree). satisfies has v x) e ∙ satisfies-bare has u x

pub bare-words : (t u : Tree) → bare t ≡ bare u → tree_words t ≡ tree_words u
bare-words t u e = sym (words-bare t) ∙ ap tree_words e ∙ words-bare u
