-- Laws of tokens: the tokens from a place on, by the byte that stands there.
use Prim.Native.Nat.{ℕ, suc, ◌+◌, ◌-◌, ◌≤◌, ◌<◌}
use native.Mathlib.Nat.{add-zero}
use native.Mathlib.Omega.{arith}
use mathlib.Core.Path.{◌≡◌, refl, sym, ap, ◌∙◌, subst}
use mathlib.Core.List.{List, [], ◌∷◌, ◌++◌, append_assoc, append-nil}
use mathlib.Core.Bool.{Bool, true, false}
use lib.ListN.{length, get_or, take, drop, length-drop}
use lib.Seq.{drop-drop, get_or-drop}
use lib.Dec.{eqb}
use borrow.Author.Tests.{eqb-true}
use Rattle.laws.proofs.Lists.{drop-next, drop-none}
use Rattle.word.specs.Word.{is_word_byte, operator_of}
use Rattle.std.specs.Prelude.{Some, None}
use Rattle.word.specs.declared.Op as op
use Rattle.question.specs.declared.token.Token.{Token}
use Rattle.question.specs.declared.token.Token.TheVariants.{End, Word, Op, Open, Close, Other}
use Rattle.question.specs.Token.{cut, run, spaces, run_tok, mark, gather, tokens_at}
use Rattle.question.specs.Next.{TokenWithin, NextToken, IsRun}
use Rattle.question.proofs.RunLaws.{run_more, after-spaces}

-- ---- spaces are passed

space-no : (b : ℕ) → eqb b 32 ≡ true → is_word_byte b ≡ false
unfolding is_word_byte
space-no b e = rw (eqb-true b 32 e)

stay : (n k : ℕ) (l : List ℕ) → k ≡ 0 → gather n n [] l ≡ gather (n + k) (n + k) [] (drop k l)
stay n k l e = rw (e, add-zero)

skip-spaces : (n : ℕ) (l : List ℕ) → gather n n [] l ≡ gather (n + spaces l) (n + spaces l) [] (drop (spaces l) l)
unfolding gather spaces
skip-spaces n [] = refl
skip-spaces n (b ∷ bs) = go (eqb b 32) refl (skip-spaces (n + 1) bs)
  where
    go : (t : Bool) → eqb b 32 ≡ t → gather (n + 1) (n + 1) [] bs ≡ gather (n + 1 + spaces bs) (n + 1 + spaces bs) [] (drop (spaces bs) bs)
        → gather n n [] (b ∷ bs) ≡ gather (n + spaces (b ∷ bs)) (n + spaces (b ∷ bs)) [] (drop (spaces (b ∷ bs)) (b ∷ bs))
    go true e h =
        let s : n + 1 + spaces bs ≡ n + suc (spaces bs) = omega arith in
        rw (space-no b e, e) (h ∙ rw s)
    go false e h = stay n (spaces (b ∷ bs)) (b ∷ bs) (rw e)

pub tokens-skip : (s : List ℕ) (at : ℕ) → tokens_at s at ≡ tokens_at s (at + spaces (drop at s))
unfolding tokens_at
tokens-skip s at = skip-spaces at (drop at s) ∙ rw (drop-drop (spaces (drop at s)) at s)

-- ---- a run is one token

stop : (n start a k : ℕ) (az l : List ℕ) → k ≡ 0 →
    run_tok (operator_of (a ∷ az)) (a ∷ az) start ∷ gather n n [] l
    ≡ run_tok (operator_of ((a ∷ az) ++ take k l)) ((a ∷ az) ++ take k l) start ∷ gather (n + k) (n + k) [] (drop k l)
stop n start a k az l e = rw (e, append-nil az, add-zero)

run-breaks : (n start a b : ℕ) (az bs : List ℕ) → is_word_byte b ≡ false →
    gather n start (a ∷ az) (b ∷ bs) ≡ run_tok (operator_of (a ∷ az)) (a ∷ az) start ∷ gather n n [] (b ∷ bs)
unfolding gather
run-breaks n start a b az bs e = rw e

-- the rest of a run that has begun
whole_run : (n start a : ℕ) (az l : List ℕ) →
    gather n start (a ∷ az) l ≡ run_tok (operator_of ((a ∷ az) ++ take (run l) l)) ((a ∷ az) ++ take (run l) l) start ∷ gather (n + run l) (n + run l) []
    (drop (run l) l)
unfolding gather run
whole_run n start a az [] = rw (append-nil az)
whole_run n start a az (b ∷ bs) = go (is_word_byte b) refl (whole_run (n + 1) start a (az ++ (b ∷ [])) bs)
  where
    go : (t : Bool) → is_word_byte b ≡ t
        → gather (n + 1) start (a ∷ (az ++ (b ∷ []))) bs
        ≡ run_tok (operator_of ((a ∷ (az ++ (b ∷ []))) ++ take (run bs) bs)) ((a ∷ (az ++ (b ∷ []))) ++ take (run bs) bs) start ∷ gather (n + 1 + run bs)
        (n + 1 + run bs) [] (drop (run bs) bs)
        → gather n start (a ∷ az) (b ∷ bs)
        ≡ run_tok (operator_of ((a ∷ az) ++ take (run (b ∷ bs)) (b ∷ bs))) ((a ∷ az) ++ take (run (b ∷ bs)) (b ∷ bs)) start ∷ gather (n + run (b ∷ bs))
        (n + run (b ∷ bs)) [] (drop (run (b ∷ bs)) (b ∷ bs))
    go true e i =
        let s : n + 1 + run bs ≡ n + suc (run bs) = omega arith in
        rw e (i ∙ rw (append_assoc az (b ∷ []) (take (run bs) bs), s))
    go false e i = run-breaks n start a b az bs e ∙ stop n start a (run (b ∷ bs)) az (b ∷ bs) (rw e)

from-run : (n b : ℕ) (bs : List ℕ) → is_word_byte b ≡ true →
    gather n n [] (b ∷ bs) ≡ run_tok (operator_of (take (run (b ∷ bs)) (b ∷ bs))) (take (run (b ∷ bs)) (b ∷ bs)) n ∷ gather (n + run (b ∷ bs))
    (n + run (b ∷ bs)) [] (drop (run (b ∷ bs)) (b ∷ bs))
unfolding gather run
from-run n b bs e =
    let s : n + 1 + run bs ≡ n + suc (run bs) = omega arith in
    rw e (whole_run (n + 1) n b [] bs ∙ rw s)

pub tokens-run : (s : List ℕ) (p q : ℕ) → p < length s → is_word_byte (get_or s p 0) ≡ true → q ≡ p + run (drop p s) →
    tokens_at s p ≡ run_tok (operator_of (cut s p q)) (cut s p q) p ∷ tokens_at s q
unfolding tokens_at
tokens-run s p q h e is =
    let m : q - p ≡ run (drop p s) = omega arith in
    rw (m, is)
    (subst (λ (l : List ℕ). gather p p [] l ≡ run_tok (operator_of (take (run l) l)) (take (run l) l) p ∷ gather (p + run l) (p + run l) [] (drop (run l) l))
    (sym (drop-next s p h)) (from-run p (get_or s p 0) (drop (p + 1) s) e)
    ∙ rw (drop-drop (run (drop p s)) p s))

-- ---- a byte that is no word byte, and the end

mark-is : (n b : ℕ) (bs : List ℕ) → is_word_byte b ≡ false → gather n n [] (b ∷ bs) ≡ mark n b (gather (n + 1) (n + 1) [] bs)
unfolding gather
mark-is n b bs e = rw e

tokens-mark : (s : List ℕ) (p : ℕ) → p < length s → is_word_byte (get_or s p 0) ≡ false → tokens_at s p ≡ mark p (get_or s p 0) (tokens_at s (p + 1))
unfolding tokens_at
tokens-mark s p h e = rw (drop-next s p h) (mark-is p (get_or s p 0) (drop (p + 1) s) e)

pub tokens-end : (s : List ℕ) (p : ℕ) → length s ≤ p → tokens_at s p ≡ []
unfolding tokens_at gather
tokens-end s p h = rw (drop-none s p h)

-- ---- the next token, by the tests that the code makes

skipped : (s : List ℕ) (at p : ℕ) → p ≡ at + spaces (drop at s) → tokens_at s at ≡ tokens_at s p
skipped s at p is = tokens-skip s at ∙ ap (tokens_at s) (sym is)

no-space : (s : List ℕ) (at p : ℕ) → p ≡ at + spaces (drop at s) → p < length s → eqb (get_or s p 0) 32 ≡ false
no-space s at p is h = rw (is) (rw (get_or-drop at s (spaces (drop at s)) 0) at (after-spaces (drop at s) (omega (arith, length-drop at s))))

module _ {s : List ℕ} {at p : ℕ} (is : p ≡ at + spaces (drop at s)) where
  pub next-end : length s ≤ p → p ≤ length s → NextToken s at (End p)
  next-end h k = record { heads = skipped s at p is ∙ tokens-end s p h; lies = (omega arith, omega arith) }

  pub next-run : p < length s → is_word_byte (get_or s p 0) ≡ true → {q : ℕ} → q ≡ p + run (drop p s) → {t : Token} → IsRun s p q t → NextToken s at t
  next-run h e {q} iq {t} i =
      let le : at ≤ p = omega arith in
      let lt : p < q = omega (arith, run_more s p h e) in
      record { heads = skipped s at p is ∙ tokens-run s p q h e iq ∙ sym i.0; lies = widen t le (i.1 lt) }
    where
      widen : (t : Token) → at ≤ p → TokenWithin p (length s) t → TokenWithin at (length s) t
      widen (End a) h w = (omega arith, w.1)
      widen (Word a b) h w = (omega arith, w.1, w.2)
      widen (Op o a b) h w = (omega arith, w.1, w.2)
      widen (Open a) h w = (omega arith, w.1)
      widen (Close a) h w = (omega arith, w.1)
      widen (Other a) h w = (omega arith, w.1)

  pub next-open : p < length s → is_word_byte (get_or s p 0) ≡ false → eqb (get_or s p 0) 40 ≡ true → NextToken s at (Open p)
  next-open h e f = record { heads = skipped s at p is ∙ tokens-mark s p h e ∙ rw (no-space s at p is h, f); lies = (omega arith, h) }

  pub next-close : p < length s → is_word_byte (get_or s p 0) ≡ false → eqb (get_or s p 0) 40 ≡ false → eqb (get_or s p 0) 41 ≡ true → NextToken s at (Close p)
  next-close h e f g = record { heads = skipped s at p is ∙ tokens-mark s p h e ∙ rw (no-space s at p is h, f, g); lies = (omega arith, h) }

  pub next-other : p < length s → is_word_byte (get_or s p 0) ≡ false → eqb (get_or s p 0) 40 ≡ false → eqb (get_or s p 0) 41 ≡ false → NextToken s at (Other p)
  next-other h e f g = record { heads = skipped s at p is ∙ tokens-mark s p h e ∙ rw (no-space s at p is h, f, g); lies = (omega arith, h) }

-- a run, by what the operator's test found
module _ (s : List ℕ) (p q : ℕ) (inside : q ≤ length s) where
  pub run-op : {o : op.Op} → operator_of (cut s p q) ≡ Some o → IsRun s p q (Op o p q)
  run-op e = (rw e, λ h. (omega arith, h, inside))

  pub run-word : operator_of (cut s p q) ≡ None → IsRun s p q (Word p q)
  run-word e = (rw e, λ h. (omega arith, h, inside))
