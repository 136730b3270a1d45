-- WHERE A READING STOPS, for every rule.
--
--   refused-number      a reading is refused by 9, 10 or 11;
--   never-used-up       so the bound on its calls is never used up, and no reading is refused by 0;
--   word-limit-read     it is refused by 10 exactly where a word stands behind 16 words, where an operand must stand;
--   bracket-limit-read  and by 11 exactly where a bracket opens behind 8 that are open, where an operand must stand.
-- What the whole call answers then is in ParsedLaws (`grammar-asked`, `word-limit-asked`, `bracket-limit-asked`).
use Prim.Native.Nat.{ℕ, ◌≤◌}
use native.Mathlib.Omega.{arith}
use mathlib.Core.Path.{◌≡◌, refl, sym, ap, ◌∙◌}
use mathlib.Core.List.{List, [], ◌∷◌, ◌++◌}
use mathlib.Core.Bool.{Bool, true, false}
use mathlib.Core.Logic.{◌⊎◌, inl, inr}
use lib.Dec.{eqb}
use borrow.Author.Tests.{le-ltb}
use Rattle.question.specs.Token.{choose, Tok, word_t, open_t, tokens}
use Rattle.question.specs.Grammar.{Tree, Rule, Out, good, bad, whole}
use Rattle.question.specs.Walk.{Stand, operand_next, operator_next, Pass, goes, refused, pass, Walked, reached, stopped, onward, walk, to_end, walk_all, fresh, verdict}
use Rattle.question.specs.Stops.{StopNumber, WordTooMany, BracketTooMany, Exactly}
use Rattle.question.proofs.Apart.{zero_one}
use Rattle.question.proofs.WalkLaws.{whole-walked}
use Rattle.question.proofs.LimitLaws.{Does, word-many, bracket-many, none, does-as, walk-pass, walk-append, walk_kept}

-- ---- the token at which a walk stops

record Halts (at : Stand) (ts : List Tok) (c : ℕ) (r : List Tok) : Type 0 where
  front : List Tok
  token : Tok
  rest : List Tok
  stand : Stand
  splits : ts ≡ front ++ token ∷ rest
  left : r ≡ token ∷ rest
  stands : walk at front ≡ reached stand
  refuses : pass stand token ≡ refused c

halts-step : (at : Stand) (t : Tok) (r : List Tok) (c : ℕ) (z : List Tok) (o : Pass) → pass at t ≡ o → onward o (t ∷ r) (λ x. walk x r) ≡ stopped c z →
    ((mid : Stand) → walk mid r ≡ stopped c z → Halts mid r c z) → Halts at (t ∷ r) c z
unfolding walk
halts-step at t r c z (goes mid) e h f =
    let w = f mid h in
    record {
      front = t ∷ w.front;
      token = w.token;
      rest = w.rest;
      stand = w.stand;
      splits = ap (λ (ts : List Tok). t ∷ ts) w.splits;
      left = w.left;
      stands = walk-pass at mid t w.front e ∙ w.stands;
      refuses = w.refuses;
    }
halts-step at t r c z (refused d) e h f =
    let q : d ≡ c = cc in
    let p : z ≡ t ∷ r = cc in
    record { front = []; token = t; rest = r; stand = at; splits = refl; left = p; stands = refl; refuses = e ∙ ap refused q }

walk-halts : (at : Stand) (ts : List Tok) (c : ℕ) (r : List Tok) → walk at ts ≡ stopped c r → Halts at ts c r
unfolding walk
walk-halts at [] c r h = zero_one (cc)
walk-halts at (t ∷ ts) c r h = halts-step at t ts c r (pass at t) refl h (λ mid e. walk-halts mid ts c r e)

halts-walk : (at to : Stand) (front : List Tok) (t : Tok) (rest : List Tok) (c : ℕ) → walk at front ≡ reached to → pass to t ≡ refused c →
    walk_all at (front ++ t ∷ rest) ≡ stopped c (t ∷ rest)
unfolding walk_all walk
halts-walk at to front t rest c h e = rw (walk-append at to front (t ∷ rest) h, e)

-- ---- by which number, and why

data Why (at : Stand) (t : Tok) (c : ℕ) : Type 0 where
  misplaced : c ≡ 9 → Why at t c
  words : (n k p : ℕ) (w : List ℕ) → c ≡ 10 → at ≡ operand_next n k → t ≡ word_t w p → 16 ≤ k → Why at t c
  brackets : (n k p : ℕ) → c ≡ 11 → at ≡ operand_next n k → t ≡ open_t p → 8 ≤ n → Why at t c

why : (at : Stand) (t : Tok) (c : ℕ) → Does at t (refused c) → Why at t c
why at t c (word-many n k p w l) = words n k p w refl refl refl l
why at t c (bracket-many n k p l) = brackets n k p refl refl refl l
why at t c (none _ _) = misplaced refl

end_step : (k c : ℕ) (r : List Tok) (b : Bool) → choose b (λ _. reached k) (λ _. stopped 9 []) ≡ stopped c r → c ≡ 9
end_step k c r true h = zero_one (cc)
end_step k c r false h = cc

-- the walk itself stops, or the end stands too soon
end-stops : (o : Walked Stand) (c : ℕ) (r : List Tok) → to_end o ≡ stopped c r → (o ≡ stopped c r) ⊎ (c ≡ 9)
end-stops (reached (operand_next n k)) c r h = inr (cc)
end-stops (reached (operator_next n k)) c r h = inr (end_step k c r (eqb n 0) h)
end-stops (stopped d z) c r h = let q : d ≡ c = cc in let p : z ≡ r = cc in inl (rw (q, p))

-- a walk to the end stops by 9, or for a limit
pub data Ends (ts : List Tok) (c : ℕ) (r : List Tok) : Type 0 where
  misplaced : c ≡ 9 → Ends ts c r
  words : c ≡ 10 → WordTooMany ts r → Ends ts c r
  brackets : c ≡ 11 → BracketTooMany ts r → Ends ts c r

module _ (ts : List Tok) (c : ℕ) (r : List Tok) where
  ends-why : (h : Halts fresh ts c r) → Why h.stand h.token c → Ends ts c r
  ends-why h (misplaced e) = misplaced e
  ends-why h (words n k p w e a t l) =
      let st : walk fresh h.front ≡ reached (operand_next n k) = h.stands ∙ ap reached a in
      let kept = walk_kept fresh h.front (operand_next n k) st in
      words e (record {
        front = h.front;
        word = w;
        place = p;
        rest = h.rest;
        splits = h.splits ∙ ap (λ (x : Tok). h.front ++ x ∷ h.rest) t;
        left = h.left ∙ ap (λ (x : Tok). x ∷ h.rest) t;
        brackets = n;
        words = k;
        stands = st;
        full = omega (arith, kept.words, kept.full (omega arith));
      })
  ends-why h (brackets n k p e a t l) =
      let st : walk fresh h.front ≡ reached (operand_next n k) = h.stands ∙ ap reached a in
      let kept = walk_kept fresh h.front (operand_next n k) st in
      brackets e (record {
        front = h.front;
        place = p;
        rest = h.rest;
        splits = h.splits ∙ ap (λ (x : Tok). h.front ++ x ∷ h.rest) t;
        left = h.left ∙ ap (λ (x : Tok). x ∷ h.rest) t;
        brackets = n;
        words = k;
        stands = st;
        full = omega (arith, kept.brackets, kept.within (omega arith));
      })

  ends-either : (walk fresh ts ≡ stopped c r) ⊎ (c ≡ 9) → Ends ts c r
  ends-either (inl e) = let h = walk-halts fresh ts c r e in ends-why h (why h.stand h.token c (does-as h.refuses))
  ends-either (inr e) = misplaced e

  pub walk_ends : walk_all fresh ts ≡ stopped c r → Ends ts c r
  unfolding walk_all
  walk_ends h = ends-either (end-stops (walk fresh ts) c r h)

-- ---- 10 and 11, by the walk

module _ (ts r : List Tok) where
  walk-words : WordTooMany ts r → walk_all fresh ts ≡ stopped 10 r
  walk-words w =
      let kept = walk_kept fresh w.front (operand_next w.brackets w.words) w.stands in
      let l : 16 ≤ w.words = omega (arith, kept.words, w.full) in
      let e : pass (operand_next w.brackets w.words) (word_t w.word w.place) ≡ refused 10 = rw (le-ltb w.words 16 l) in
      rw (w.splits, w.left) (halts-walk fresh (operand_next w.brackets w.words) w.front (word_t w.word w.place) w.rest 10 w.stands e)

  walk-brackets : BracketTooMany ts r → walk_all fresh ts ≡ stopped 11 r
  walk-brackets w =
      let kept = walk_kept fresh w.front (operand_next w.brackets w.words) w.stands in
      let l : 8 ≤ w.brackets = omega (arith, kept.brackets, w.full) in
      let e : pass (operand_next w.brackets w.words) (open_t w.place) ≡ refused 11 = rw (le-ltb w.brackets 8 l) in
      rw (w.splits, w.left) (halts-walk fresh (operand_next w.brackets w.words) w.front (open_t w.place) w.rest 11 w.stands e)

  words-only : (c : ℕ) → c ≡ 10 → Ends ts c r → WordTooMany ts r
  words-only c e (misplaced f) = absurd (omega arith)
  words-only c e (words f w) = w
  words-only c e (brackets f w) = absurd (omega arith)

  brackets-only : (c : ℕ) → c ≡ 11 → Ends ts c r → BracketTooMany ts r
  brackets-only c e (misplaced f) = absurd (omega arith)
  brackets-only c e (words f w) = absurd (omega arith)
  brackets-only c e (brackets f w) = w

  pub word-limit-walk : Exactly (walk_all fresh ts ≡ stopped 10 r) (WordTooMany ts r)
  word-limit-walk = (λ h. words-only 10 refl (walk_ends ts 10 r h), walk-words)

  pub bracket-limit-walk : Exactly (walk_all fresh ts ≡ stopped 11 r) (BracketTooMany ts r)
  bracket-limit-walk = (λ h. brackets-only 11 refl (walk_ends ts 11 r h), walk-brackets)

-- ---- the reading

exactly-then : {A B C : Type 0} → Exactly A B → Exactly B C → Exactly A C
exactly-then p q = (λ a. q.0 (p.0 a), λ c. p.1 (q.1 c))

pub ends-number : (ts : List Tok) (c : ℕ) (r : List Tok) → Ends ts c r → StopNumber c
ends-number ts c r (misplaced e) = inl e
ends-number ts c r (words e w) = inr (inl e)
ends-number ts c r (brackets e w) = inr (inr e)

bad-verdict : (o : Out Tree) (c : ℕ) (r : List Tok) → verdict o ≡ stopped c r → o ≡ bad c r
bad-verdict (good t z k) c r h = zero_one (cc)
bad-verdict (bad d z) c r h = let q : d ≡ c = cc in let p : z ≡ r = cc in rw (q, p)

module _ (rule : Rule) (s : List ℕ) where
  pub whole-stops : (c : ℕ) (r : List Tok) → Exactly (whole rule s ≡ bad c r) (walk_all fresh (tokens s) ≡ stopped c r)
  whole-stops c r = (λ h. sym (whole-walked rule s) ∙ ap verdict h, λ h. bad-verdict (whole rule s) c r (whole-walked rule s ∙ h))

  pub refused-number : (c : ℕ) (r : List Tok) → whole rule s ≡ bad c r → StopNumber c
  refused-number c r h = ends-number (tokens s) c r (walk_ends (tokens s) c r ((whole-stops c r).0 h))

  pub never-used-up : (r : List Tok) → whole rule s ≡ bad 0 r → ⊥
  never-used-up r h = none (refused-number 0 r h)
    where
      none : StopNumber 0 → ⊥
      none (inl e) = omega arith
      none (inr (inl e)) = omega arith
      none (inr (inr e)) = omega arith

  pub word-limit-read : (r : List Tok) → Exactly (whole rule s ≡ bad 10 r) (WordTooMany (tokens s) r)
  word-limit-read r = exactly-then (whole-stops 10 r) (word-limit-walk (tokens s) r)

  pub bracket-limit-read : (r : List Tok) → Exactly (whole rule s ≡ bad 11 r) (BracketTooMany (tokens s) r)
  bracket-limit-read r = exactly-then (whole-stops 11 r) (bracket-limit-walk (tokens s) r)
