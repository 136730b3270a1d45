-- Three regions that are written side by side: what is to be written into each of them is what is left to write, one piece on.
use mathlib.Core.Path.{◌≡◌, refl, sym, ap, ◌∙◌}
use Prim.Native.Nat.{ℕ, suc, ◌+◌, ◌-◌, ◌*◌, ◌≤◌, ◌<◌}
use native.Mathlib.Omega.{arith}
use mathlib.Core.Bool.{Bool, true, false, cond}
use mathlib.Core.List.{List, [], ◌∷◌, ◌++◌, append_assoc}
use lib.Dec.{eqb, ltb}
use lib.ListN.{length, get_or, set, take, drop, length-append}
use lib.Seq.{sets, sets-eq, drop-drop, set_comm, length-sets}
use borrow.Rule.Slice.PartMut.{put_mid, mid_of}
use borrow.Author.Tests.{eqb-true, eq-eqb, ne_eqb}
use Rattle.laws.proofs.Lists.{drop-next, drop-none, sets-append, sets-front}
use Rattle.laws.proofs.Parts.{tail_written}
use Rattle.list.specs.Ginix.{one}
use Rattle.list.specs.Front.{in_front}
use Rattle.convert.proofs.RunLaws.{closed, runs_from, runs, runs-at}
use Rattle.layout.specs.declared.kept.Places.{Places}
use Rattle.layout.specs.declared.entry.Spots.{Spots}
use Rattle.layout.specs.Layout.{cell_bytes, cells_bytes, cell_singles, cell_lowers, cell_uppers, kept_bytes, cells_in, lists_bytes, words_bytes, entry_bytes, directory_bytes}
use Rattle.layout.specs.Laid.{laid, laid_to, LaidWithin, entered, entered_to}
use Rattle.layout.proofs.BytesLaws.{cells-length}
use Rattle.layout.proofs.KeptBytesLaws.{kept-length}

-- what was copied into a lent part, said of the whole
pub part-sets : (a k : ℕ) (xs vs : List ℕ) {ys : List ℕ} → k ≡ length vs → a + length vs ≤ length xs → ys ≡ vs → put_mid a k xs ys ≡ sets xs a vs
part-sets a k xs vs e h is =
    rw (is, e, drop-drop (length vs) a xs)
    (sym (append_assoc (take a xs) vs (drop (a + length vs) xs)) ∙ sym (sets-eq vs xs a h))

-- ---- cells

one_cell : (out : List ℕ) (at x : ℕ) (xs : List ℕ) → sets out at (cells_bytes (x ∷ xs)) ≡ sets (sets out at (cell_bytes x)) (at + 4) (cells_bytes xs)
unfolding cells_bytes
one_cell out at x xs = sets-append out at (cell_bytes x) (cells_bytes xs)

last-cell : (out : List ℕ) (at x : ℕ) → sets out at (cells_bytes (x ∷ [])) ≡ sets out at (cell_bytes x)
unfolding cells_bytes
last-cell out at x = refl

pub five-cells : (out : List ℕ) (at a b c d e : ℕ) →
    sets out at (cells_bytes (a ∷ b ∷ c ∷ d ∷ e ∷ []))
    ≡ sets (sets (sets (sets (sets out at (cell_bytes a)) (at + 4) (cell_bytes b)) (at + 8) (cell_bytes c)) (at + 12) (cell_bytes d)) (at + 16) (cell_bytes e)
five-cells out at a b c d e =
    let p : at + 4 + 4 ≡ at + 8 = omega arith in
    let q : at + 8 + 4 ≡ at + 12 = omega arith in
    let r : at + 12 + 4 ≡ at + 16 = omega arith in
    rw (one_cell, one_cell, p, one_cell, q, one_cell, r, last-cell)

-- ---- two places

set-sets : (out : List ℕ) (a : ℕ) (vs : List ℕ) (b w : ℕ) → a + length vs ≤ b → set (sets out a vs) b w ≡ sets (set out b w) a vs
set-sets out a [] b w h = refl
set-sets out a (v ∷ vs) b w h =
    set-sets (set out a v) (suc a) vs b w (omega arith)
    ∙ ap (λ (o : List ℕ). sets o (suc a) vs) (set_comm out a b v w (λ (e : a ≡ b). omega arith))

pub sets-comm : (out : List ℕ) (a : ℕ) (vs : List ℕ) (b : ℕ) (ws : List ℕ) → a + length vs ≤ b → sets (sets out a vs) b ws ≡ sets (sets out b ws) a vs
sets-comm out a vs b [] h = refl
sets-comm out a vs b (w ∷ ws) h =
    ap (λ (o : List ℕ). sets o (suc b) ws) (set-sets out a vs b w h) ∙ sets-comm (set out b w) a vs (suc b) ws (omega arith)

-- what was written from the start of a lent tail, said of the whole
pub tail-sets : (a : ℕ) (xs vs : List ℕ) {ys : List ℕ} → a + length vs ≤ length xs → ys ≡ in_front vs (mid_of a (length xs - a) xs) →
    put_mid a (length xs - a) xs ys ≡ sets xs a vs
tail-sets a xs vs {ys} h e = tail_written a xs ys vs e ∙ sym (sets-eq vs xs a h)

pub tail-length : (a : ℕ) (xs ys vs : List ℕ) → put_mid a (length xs - a) xs ys ≡ sets xs a vs → length (put_mid a (length xs - a) xs ys) ≡ length xs
tail-length a xs ys vs e = ap length e ∙ length-sets xs a vs

-- ---- three regions

abbrev pub plan : List ℕ → ℕ → List ℕ → ℕ → List ℕ → ℕ → List ℕ → List ℕ
plan out a xs b ys d zs = sets (sets (sets out a xs) b ys) d zs

pub plan-turn : (out : List ℕ) (a : ℕ) (x xs : List ℕ) (b : ℕ) (y ys : List ℕ) (d : ℕ) (z zs : List ℕ) → a + length x + length xs ≤ b →
    b + length y + length ys ≤ d →
    plan out a (x ++ xs) b (y ++ ys) d (z ++ zs) ≡ plan (plan out a x b y d z) (a + length x) xs (b + length y) ys (d + length z) zs
plan-turn out a x xs b y ys d z zs h g =
    let a' = a + length x in
    let b' = b + length y in
    let d' = d + length z in
    let o = sets out a x in
    let p = sets o b y in
    ap (λ (l : List ℕ). sets (sets l b (y ++ ys)) d (z ++ zs)) (sets-append out a x xs)
    ∙ ap (λ (l : List ℕ). sets l d (z ++ zs)) (sets-append (sets o a' xs) b y ys ∙ ap (λ (l : List ℕ). sets l b' ys) (sets-comm o a' xs b y (omega arith)))
    ∙ sets-append (sets (sets p a' xs) b' ys) d z zs
    ∙ ap (λ (l : List ℕ). sets l d' zs)
    (
    sets-comm (sets p a' xs) b' ys d z (omega arith)
    ∙ ap (λ (l : List ℕ). sets l b' ys) (sets-comm p a' xs d z (omega arith))
    )

-- ---- a list: singles, lower and upper bounds

abbrev pub kept_plan : List ℕ → Places → List ℕ → List ℕ
kept_plan out at c = plan out at.single (cells_bytes (cell_singles c)) at.lower (cells_bytes (cell_lowers c)) at.upper (cells_bytes (cell_uppers c))

-- there is room for so many singles and pairs
pub record Placed (at : Places) (singles pairs room : ℕ) : Type 0 where
  pub single : at.single + 4 * singles ≤ at.lower
  pub lower : at.lower + 4 * pairs ≤ at.upper
  pub upper : at.upper + 4 * pairs ≤ room

abbrev pub PlacedFor : Places → List ℕ → ℕ → Type 0
PlacedFor at c room = Placed at (length (cell_singles c)) (length (cell_lowers c)) room

-- the three regions where one interval more stands in front, of which t says whether it is a single
abbrev plan_of : Bool → List ℕ → Places → ℕ → ℕ → List ℕ → List ℕ → List ℕ → List ℕ
plan_of t out at l u S L U =
    plan out at.single (cells_bytes (cond t (l ∷ S) S)) at.lower (cells_bytes (cond t L (l ∷ L))) at.upper (cells_bytes (cond t U (u ∷ U)))

laid-step : (t : Bool) (out : List ℕ) (at : Places) (l u : ℕ) (S L U : List ℕ) {room : ℕ} →
    Placed at (length (cond t (l ∷ S) S)) (length (cond t L (l ∷ L))) room →
    plan_of t out at l u S L U
    ≡ plan (laid t out at l u) (laid_to t at).single (cells_bytes S) (laid_to t at).lower (cells_bytes L) (laid_to t at).upper (cells_bytes U)
unfolding cells_bytes
laid-step true out at l u S L U is =
    ap (λ (o : List ℕ). sets (sets o at.lower (cells_bytes L)) at.upper (cells_bytes U)) (sets-append out at.single (cell_bytes l) (cells_bytes S))
laid-step false out at l u S L U is =
    let z : at.single + 0 ≡ at.single = omega arith in
    plan-turn out at.single [] (cells_bytes S) at.lower (cell_bytes l) (cells_bytes L) at.upper (cell_bytes u) (cells_bytes U)
    (omega (arith, cells-length S)) (omega (arith, cells-length L))
    ∙ ap (λ (k : ℕ). plan (laid false out at l u) k (cells_bytes S) (at.lower + 4) (cells_bytes L) (at.upper + 4) (cells_bytes U)) z

placed-step : (t : Bool) (at : Places) (l : ℕ) (S L : List ℕ) (room : ℕ) → Placed at (length (cond t (l ∷ S) S)) (length (cond t L (l ∷ L))) room →
    LaidWithin t at room × Placed (laid_to t at) (length S) (length L) room
placed-step true at l S L room is = (omega arith, record { single = omega arith; lower = omega arith; upper = omega arith })
placed-step false at l S L room is = ((omega arith, omega arith), record { single = omega arith; lower = omega arith; upper = omega arith })

module _ (at : Places) (l u : ℕ) (r : List ℕ) {room : ℕ} (is : PlacedFor at (l ∷ u ∷ r) room) where
  pub kept-laid : (out : List ℕ) → kept_plan out at (l ∷ u ∷ r) ≡ kept_plan (laid (eqb l u) out at l u) (laid_to (eqb l u) at) r
  unfolding cell_singles cell_lowers cell_uppers
  kept-laid out = laid-step (eqb l u) out at l u (cell_singles r) (cell_lowers r) (cell_uppers r) is

  pub placed_on : LaidWithin (eqb l u) at room × PlacedFor (laid_to (eqb l u) at) r room
  unfolding cell_singles cell_lowers
  placed_on = placed-step (eqb l u) at l (cell_singles r) (cell_lowers r) room is

pub laid-length : (t : Bool) (out : List ℕ) (at : Places) (l u : ℕ) → length (laid t out at l u) ≡ length out
laid-length true out at l u = length-sets out at.single (cell_bytes l)
laid-length false out at l u = simp length-sets

-- nothing is left
pub kept-done : (out : List ℕ) (at : Places) → kept_plan out at [] ≡ out
unfolding cell_singles cell_lowers cell_uppers cells_bytes
kept-done out at = refl

-- where the three regions begin
abbrev pub kept_places : ℕ → ℕ → Places
kept_places singles pairs = record { single = 0; lower = 4 * singles; upper = 4 * (singles + pairs) }

module _ (c : List ℕ) (singles pairs : ℕ) (s : singles ≡ length (cell_singles c)) (m : pairs ≡ length (cell_lowers c)) where
  pub placed-start : (room : ℕ) → length (kept_bytes c) ≤ room → PlacedFor (kept_places singles pairs) c room
  placed-start room h = let k = kept-length c in record { single = omega arith; lower = omega arith; upper = omega arith }

  pub kept-start : (out : List ℕ) → length (kept_bytes c) ≤ length out → kept_plan out (kept_places singles pairs) c ≡ in_front (kept_bytes c) out
  unfolding kept_bytes
  kept-start out h =
      let S = cells_bytes (cell_singles c) in
      let L = cells_bytes (cell_lowers c) in
      let U = cells_bytes (cell_uppers c) in
      let p : 0 + length S ≡ 4 * singles = omega (arith, cells-length (cell_singles c)) in
      let q : 0 + length (S ++ L) ≡ 4 * (singles + pairs) = omega (arith, length-append S L, cells-length (cell_singles c), cells-length (cell_lowers c)) in
      sym
      (
      sym (sets-front (kept_bytes c) out h)
      ∙ sets-append out 0 (S ++ L) U
      ∙ ap (λ (k : ℕ). sets (sets out 0 (S ++ L)) k U) q
      ∙ ap (λ (o : List ℕ). sets o (4 * (singles + pairs)) U) (sets-append out 0 S L ∙ ap (λ (k : ℕ). sets (sets out 0 S) k L) p)
      )

-- ---- how many singles and pairs

pair_step : (l : ℕ) (t : Bool) (L : List ℕ) → length (cond t L (l ∷ L)) ≡ 1 - one t + length L
pair_step l true L = omega arith
pair_step l false L = omega arith

-- how many runs of xs go on behind their first number; u is the number before xs, and b is 1 where it begins its run
unfoldable pub pairs_from : ℕ → ℕ → List ℕ → ℕ
pairs_from b u [] = 0
pairs_from b u (x ∷ xs) = one (ltb (cond (eqb x (u + 1)) 0 1) b) + pairs_from (cond (eqb x (u + 1)) 0 1) x xs

pub pairs-at : (b u : ℕ) (xs : List ℕ) (i : ℕ) → i < length xs →
    pairs_from b u (drop i xs)
    ≡ one (ltb (cond (eqb (get_or xs i 0) (u + 1)) 0 1) b) + pairs_from (cond (eqb (get_or xs i 0) (u + 1)) 0 1) (get_or xs i 0) (drop (i + 1) xs)
unfolding pairs_from
pairs-at b u xs i h = rw (drop-next xs i h)

pub pairs_end : (b u : ℕ) (xs : List ℕ) (i : ℕ) → length xs ≤ i → pairs_from b u (drop i xs) ≡ 0
unfolding pairs_from
pairs_end b u xs i h = rw (drop-none xs i h)

went_on : (t : Bool) (k : ℕ) → 1 - one t + (one (ltb 0 (one t)) + k) ≡ 1 + k
went_on true k = omega arith
went_on false k = omega arith

broke-off : (t : Bool) (k : ℕ) → 1 - one t + (one (ltb 1 (one t)) + k) ≡ 1 - one t + k
broke-off true k = omega arith
broke-off false k = omega arith

pairs-step : (l u x : ℕ) (xs : List ℕ) (t : Bool) → eqb x (u + 1) ≡ t → l ≤ u →
    ((l : ℕ) → l ≤ x → length (cell_lowers (runs_from l x xs)) ≡ 1 - one (eqb l x) + pairs_from (one (eqb l x)) x xs) →
    length (cell_lowers (closed t l u (runs_from (cond t l x) x xs)))
    ≡ 1 - one (eqb l u) + (one (ltb (cond t 0 1) (one (eqb l u))) + pairs_from (cond t 0 1) x xs)
unfolding cell_lowers
pairs-step l u x xs true e h ih =
    let q = eqb-true x (u + 1) e in
    (rw (ne_eqb l x (λ (g : l ≡ x). omega arith)) at (ih l (omega arith))) ∙ sym (went_on (eqb l u) (pairs_from 0 x xs))
pairs-step l u x xs false e h ih =
    let r = rw (eq-eqb x x refl) at (ih x (omega arith)) in
    omega (arith, pair_step l (eqb l u) (cell_lowers (runs_from x x xs)), broke-off (eqb l u) (pairs_from 1 x xs))

pairs-from : (l u : ℕ) (xs : List ℕ) → l ≤ u → length (cell_lowers (runs_from l u xs)) ≡ 1 - one (eqb l u) + pairs_from (one (eqb l u)) u xs
unfolding runs_from pairs_from cell_lowers
pairs-from l u [] h = pair_step l (eqb l u) []
pairs-from l u (x ∷ xs) h = pairs-step l u x xs (eqb x (u + 1)) refl h (λ l g. pairs-from l x xs g)

pub runs-pairs : (xs : List ℕ) → 0 < length xs → length (cell_lowers (runs xs)) ≡ pairs_from 1 (get_or xs 0 0) (drop 1 xs)
runs-pairs xs h =
    let x = get_or xs 0 0 in
    let e = ap (λ (c : List ℕ). length (cell_lowers c)) (runs-at xs 0 h) in
    omega (arith, rw (eq-eqb x x refl) at (pairs-from x x (drop 1 xs) (omega arith)))

pub none_kept : (length (cell_singles []) ≡ 0) × (length (cell_lowers []) ≡ 0) × (kept_bytes [] ≡ [])
unfolding cell_singles cell_lowers cell_uppers kept_bytes cells_bytes
none_kept = (refl, refl, refl)

-- ---- an index: lists, words and entries

abbrev pub index_plan : ℕ → List ℕ → Spots → List (List ℕ) → List (List ℕ) → List ℕ
index_plan n out at ws xss = plan out at.list (lists_bytes n xss) at.word (words_bytes ws) at.entry (directory_bytes n at.word at.list ws xss)

-- a word's list, its bytes and its entry, written one after the other
pub word-entered : (out : List ℕ) (at : Spots) (w c : List ℕ) {s m : ℕ} {o p q : List ℕ} → s ≡ length (cell_singles c) → m ≡ length (cell_lowers c) →
    o ≡ sets out at.list (kept_bytes c) → p ≡ sets o at.word w → q ≡ sets p at.entry (cells_bytes (at.word ∷ length w ∷ at.list ∷ s ∷ m ∷ [])) →
    q ≡ entered out at w c
word-entered out at w c es em eo ep eq = eq ∙ rw (ep, eo, es, em)

pub index-entered : (n : ℕ) (out : List ℕ) (at : Spots) (w : List ℕ) (ws : List (List ℕ)) (xs : List ℕ) (xss : List (List ℕ)) →
    at.list + length (lists_bytes n (xs ∷ xss)) ≤ at.word → at.word + length (words_bytes (w ∷ ws)) ≤ at.entry →
    index_plan n out at (w ∷ ws) (xs ∷ xss) ≡ index_plan n (entered out at w (cells_in n xs)) (entered_to at w (cells_in n xs)) ws xss
unfolding lists_bytes words_bytes directory_bytes
index-entered n out at w ws xs xss h g =
    let c = cells_in n xs in
    plan-turn out at.list (kept_bytes c) (lists_bytes n xss) at.word w (words_bytes ws) at.entry (entry_bytes at.word w at.list c)
    (directory_bytes n (at.word + length w) (at.list + length (kept_bytes c)) ws xss)
    (omega (arith, length-append (kept_bytes c) (lists_bytes n xss))) (omega (arith, length-append w (words_bytes ws)))
    ∙ ap (λ (k : ℕ). plan (entered out at w c) (at.list + length (kept_bytes c)) (lists_bytes n xss) (at.word + length w) (words_bytes ws) k
    (directory_bytes n (at.word + length w) (at.list + length (kept_bytes c)) ws xss))
    (ap (λ (k : ℕ). at.entry + k) (cells-length (at.word ∷ length w ∷ at.list ∷ length (cell_singles c) ∷ length (cell_lowers c) ∷ [])))
