-- Laws of what fits a question: it depends only on what is said of the question's words.
use Prim.Native.Nat.{ℕ, ◌+◌, ◌<◌}
use native.Mathlib.Omega.{arith}
use mathlib.Core.Path.{◌≡◌, refl, sym, ap, ap₂, ◌∙◌}
use mathlib.Core.List.{List, [], ◌++◌}
use mathlib.Core.Bool.{Bool, true, false}
use lib.ListN.{length, get_or, length-append, get_or-append}
use lib.Seq.{get_or-append-add}
use Rattle.word.specs.declared.Op.{Op}
use Rattle.word.specs.declared.Op.TheVariants.{And, Or, Not}
use Rattle.question.specs.Grammar.{Tree, word, pair, part, tree_words}
use Rattle.question.specs.Meaning.{combine, satisfies}

-- ---- what an operator says of its two sides

-- in both
pub and-says : (combine And true true ≡ true) × (combine And true false ≡ false) × (combine And false true ≡ false) × (combine And false false ≡ false)
and-says = (refl, refl, refl, refl)

-- in one or both
pub or-says : (combine Or true true ≡ true) × (combine Or true false ≡ true) × (combine Or false true ≡ true) × (combine Or false false ≡ false)
or-says = (refl, refl, refl, refl)

-- in the left side, and not in the right one
pub not-says : (combine Not true true ≡ false) × (combine Not true false ≡ true) × (combine Not false true ≡ false) × (combine Not false false ≡ false)
not-says = (refl, refl, refl, refl)

-- in neither side
pub combine-none : (o : Op) (b : Bool) → b ≡ false → combine o false b ≡ false
combine-none And b e = refl
combine-none Or b e = e
combine-none Not b e = refl

-- ---- by the words' numbers

-- what is said of the tree's words, each by its number: `said k` of the k-th word of the question, where the tree's first is number `from`
unfoldable pub satisfies_by : (ℕ → Bool) → ℕ → Tree → Bool
satisfies_by said from (word w) = said from
satisfies_by said from (pair o a b) = combine o (satisfies_by said from a) (satisfies_by said (from + length (tree_words a)) b)
satisfies_by said from (part t) = satisfies_by said from t

pub satisfies-by : (has : List ℕ → ℕ → Bool) (x : ℕ) (said : ℕ → Bool) (from : ℕ) (t : Tree) →
    ((i : ℕ) → i < length (tree_words t) → said (from + i) ≡ has (get_or (tree_words t) i []) x) → satisfies_by said from t ≡ satisfies has t x
unfolding satisfies_by satisfies tree_words
satisfies-by has x said from (word w) h = let e : from ≡ from + 0 = omega arith in ap said e ∙ h 0 (omega arith)
satisfies-by has x said from (pair o a b) h =
    let l : length (tree_words a ++ tree_words b) ≡ length (tree_words a) + length (tree_words b) = length-append (tree_words a) (tree_words b) in
    ap₂ (combine o)
    (satisfies-by has x said from a (λ i lt. h i (omega arith) ∙ ap (λ (w : List ℕ). has w x) (get_or-append (tree_words a) (tree_words b) [] i lt)))
    (satisfies-by has x said (from + length (tree_words a)) b
    (λ i lt. let s : from + length (tree_words a) + i ≡ from + (length (tree_words a) + i) = omega arith in
    ap said s ∙ h (length (tree_words a) + i) (omega arith) ∙ ap (λ (w : List ℕ). has w x) (get_or-append-add (tree_words a) (tree_words b) i [])))
satisfies-by has x said from (part t) h = satisfies-by has x said from t h

-- a record that has the same of a tree's words as another record of another index fits it where the other does
pub satisfies-words : (has had : List ℕ → ℕ → Bool) (x y : ℕ) (t : Tree) →
    ((i : ℕ) → i < length (tree_words t) → has (get_or (tree_words t) i []) x ≡ had (get_or (tree_words t) i []) y) → satisfies has t x ≡ satisfies had t y
satisfies-words has had x y t h =
    sym (satisfies-by has x (λ i. has (get_or (tree_words t) i []) x) 0 t
    (λ i lt. let z : 0 + i ≡ i = omega arith in ap (λ (n : ℕ). has (get_or (tree_words t) n []) x) z))
    ∙ satisfies-by had y (λ i. has (get_or (tree_words t) i []) x) 0 t
    (λ i lt. let z : 0 + i ≡ i = omega arith in ap (λ (n : ℕ). has (get_or (tree_words t) n []) x) z ∙ h i lt)

-- a record with none of the words satisfies no question
pub satisfies-none : (has : List ℕ → ℕ → Bool) (x : ℕ) → ((w : List ℕ) → has w x ≡ false) → (t : Tree) → satisfies has t x ≡ false
unfolding satisfies
satisfies-none has x h (word w) = h w
satisfies-none has x h (pair o a b) = rw (satisfies-none has x h a) (combine-none o (satisfies has b x) (satisfies-none has x h b))
satisfies-none has x h (part t) = satisfies-none has x h t

-- ---- the steps

pub satisfies-word : (has : List ℕ → ℕ → Bool) (w : List ℕ) (x : ℕ) → satisfies has (word w) x ≡ has w x
unfolding satisfies
satisfies-word has w x = refl

pub satisfies-pair : (has : List ℕ → ℕ → Bool) (o : Op) (a b : Tree) (x : ℕ) → satisfies has (pair o a b) x ≡ combine o (satisfies has a x) (satisfies has b x)
unfolding satisfies
satisfies-pair has o a b x = refl

pub satisfies-part : (has : List ℕ → ℕ → Bool) (t : Tree) (x : ℕ) → satisfies has (part t) x ≡ satisfies has t x
unfolding satisfies
satisfies-part has t x = refl
