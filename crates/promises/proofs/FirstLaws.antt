-- The first of the first alone is the first alone: of entries, of a question's words and of what is lent to a build.
use Prim.Native.Nat.{ℕ, zero, suc, ◌+◌}
use native.Mathlib.Numerals.{add-one}
use mathlib.Core.Path.{◌≡◌, refl, sym, ap, ◌∙◌, subst}
use mathlib.Core.Bool.{Bool, true, false}
use mathlib.Core.List.{List, [], ◌∷◌, ◌++◌, append-nil, append_assoc}
use lib.ListN.{get_or, take}
use Rattle.laws.proofs.Tests.{and_both}
use Rattle.word.specs.Word.{is_word_byte, all_word_bytes, operator_of}
use Rattle.std.specs.Prelude.{None}
use Rattle.question.specs.Token.{run_tok, flush, run, gather, tokens_at, tokens}
use Rattle.question.specs.Limits.{token_words}
use Rattle.question.proofs.OperatorLaws.{tokens-hold}
use Rattle.promises.specs.Wrong.{first_entry, first_of, first_word, first_built}

take_twice : (n : ℕ) (xs : List ℕ) → take n (take n xs) ≡ take n xs
take_twice zero xs = refl
take_twice (suc n) [] = refl
take_twice (suc n) (x ∷ xs) = ap (λ ys. x ∷ ys) (take_twice n xs)

pub first-entry-twice : (a : List ℕ × List ℕ) → first_entry (first_entry a) ≡ first_entry a
first-entry-twice a = ap (λ ys. (a.0, ys)) (take_twice 1 a.1)

-- ---- a question

-- a word, read as a question, is its first word
abbrev Alone : List ℕ → Type 0
Alone w = first_of (token_words (tokens w)) ≡ w

run-gathered : (n start : ℕ) (acc w : List ℕ) → all_word_bytes w ≡ true → gather n start acc w ≡ flush start (acc ++ w) []
unfolding gather all_word_bytes
run-gathered n start acc [] e = ap (λ l. flush start l []) (sym (append-nil acc))
run-gathered n start acc (b ∷ bs) e =
    let both = and_both (is_word_byte b) (all_word_bytes bs) e in
    rw both.0 (run-gathered (n + 1) start (acc ++ b ∷ []) bs both.1 ∙ ap (λ l. flush start l []) (append_assoc acc (b ∷ []) bs))

word-alone : (w : List ℕ) → all_word_bytes w ≡ true → operator_of w ≡ None → Alone w
unfolding tokens tokens_at token_words
word-alone [] e o = ap (λ ts. first_of (token_words ts)) (run-gathered 0 0 [] [] e)
word-alone (a ∷ az) e o = ap (λ ts. first_of (token_words ts)) (run-gathered 0 0 [] (a ∷ az) e) ∙ ap (λ p. first_of (token_words (run_tok p (a ∷ az) 0 ∷ []))) o

none-alone : Alone []
unfolding tokens tokens_at gather token_words
none-alone = refl

first-of-tokens : (s : List ℕ) → Alone (first_of (token_words (tokens s)))
unfolding token_words
first-of-tokens =
    tokens-hold (λ ts. Alone (first_of (token_words ts))) none-alone (λ w p ts b e h. word-alone w b e) (λ t ts e h. subst (λ ws. Alone (first_of ws)) (sym e) h)

pub first-word-twice : (a : List ℕ × ℕ × List ℕ) → first_word (first_word a) ≡ first_word a
first-word-twice a = ap (λ (q : List ℕ). (a.0, a.1, q)) (first-of-tokens a.2)

-- ---- a build

run-first : (w : List ℕ) → run (take (run w + 1) w) ≡ run w
unfolding run
run-first [] = refl
run-first (b ∷ bs) = go (is_word_byte b) refl (run-first bs)
  where
    go : (t : Bool) → is_word_byte b ≡ t → run (take (run bs + 1) bs) ≡ run bs → run (take (run (b ∷ bs) + 1) (b ∷ bs)) ≡ run (b ∷ bs)
    go true e h = rw (e, add-one (suc (run bs))) (rw (e) (ap suc (rw (add-one (run bs)) at h)))
    go false e h =
        let stops : run (b ∷ []) ≡ 0 = rw e in
        rw e stops

count-first : (counts : List ℕ) → get_or (take 1 counts) 0 0 ≡ get_or counts 0 0
count-first [] = refl
count-first (c ∷ cs) = refl

pub first-built-twice : (a : ℕ × List ℕ × List ℕ × List ℕ) → first_built (first_built a) ≡ first_built a
first-built-twice a =
    let words = take (run a.1 + 1) a.1 in
    let c = get_or a.2 0 0 in
    ap (λ k. (a.0, take (k + 1) words, take 1 (take 1 a.2), take (get_or (take 1 a.2) 0 0) (take c a.3))) (run-first a.1)
    ∙ ap (λ ws. (a.0, ws, take 1 (take 1 a.2), take (get_or (take 1 a.2) 0 0) (take c a.3))) (take_twice (run a.1 + 1) a.1)
    ∙ ap (λ cs. (a.0, words, cs, take (get_or (take 1 a.2) 0 0) (take c a.3))) (take_twice 1 a.2)
    ∙ ap (λ k. (a.0, words, take 1 a.2, take k (take c a.3))) (count-first a.2)
    ∙ ap (λ xs. (a.0, words, take 1 a.2, xs)) (take_twice c a.3)
