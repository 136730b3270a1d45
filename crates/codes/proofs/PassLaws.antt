-- Laws of the pass that puts groups in brackets: what is written behind the first n, what one token comes to by its code, and the pass from token to token.
use Prim.Native.Nat.{ℕ, ◌+◌, ◌*◌, ◌/◌, ◌≤◌, ◌<◌}
use native.Mathlib.Omega.{arith}
use native.Mathlib.Numerals.{add-one}
use mathlib.Core.Path.{◌≡◌, refl, sym, ap, ap₂, ◌∙◌}
use mathlib.Core.Bool.{Bool, true, false, cond}
use mathlib.Core.List.{List, [], ◌∷◌, ◌++◌, map, map-append, append-nil, append_assoc}
use lib.ListN.{length, get_or, take, drop, set, length-set, length-map}
use lib.Seq.{take-suc-set}
use Rattle.std.specs.Prelude.{Option, Some, None, slice_get, option_map}
use Rattle.std.proofs.lemmas.Option.{slice_get-map, slice_get_past, slice_get_read, slice_get_within}
use Rattle.laws.proofs.Tests.{leb-cases}
use Rattle.word.specs.declared.Op.{Op}
use Rattle.word.specs.declared.Op.TheVariants.{And, Or, Not}
use Rattle.question.specs.Token.{Tok, word_t, op_t, open_t, close_t, other_t}
use Rattle.codes.specs.declared.code.Code.{Code}
use Rattle.codes.specs.declared.code.Code.TheVariants as kind
use Rattle.codes.specs.declared.group.Grouping.{Grouping}
use Rattle.codes.specs.Code.{operator_of_code, operator_at, code_of, codes_of, written_of}
use Rattle.codes.specs.Group.{binds_first, goes_on, is_wide, opening, closing, levels_around, ends_group, innermost, grouped_on, grouped}
use Rattle.codes.specs.Grouping.{WideAt, PutsCode, GroupsCode, GroupsCodes}
use Rattle.codes.proofs.CodeLaws.{written-read}
use Rattle.codes.proofs.ReadsLaws.{stands, stands-code, stands-end, code-word, code-open, code-close, code-operator}

-- ---- a code behind the first n

abbrev pub only : {A : Type 0} → Bool → A → List A
only wanted code = cond wanted (code ∷ []) []

only-written : {A : Type 0} (written : Code → A) (wanted : Bool) (c : Code) → only wanted (written c) ≡ map written (only wanted c)
only-written written true c = refl
only-written written false c = refl

pub put_some : {A : Type 0} (code : A) (n : ℕ) (out : List A) → n < length out → PutsCode true code n out (set out n code) (n + 1)
put_some code n out h = record {
  long = length-set out n code;
  ahead = omega arith;
  few = omega arith;
  written = rw (add-one n) (take-suc-set out n code h);
}

pub put-none : {A : Type 0} (code : A) (n : ℕ) (out : List A) → PutsCode false code n out out n
put-none code n out = record { long = refl; ahead = omega arith; few = omega arith; written = sym (append-nil (take n out)) }

pub put_two : {A : Type 0} {a b : Bool} {c d : A} {n n₁ n₂ : ℕ} {out out₁ out₂ : List A} → PutsCode a c n out out₁ n₁ → PutsCode b d n₁ out₁ out₂ n₂ → n₂ ≤ n + 3
put_two first second = let p = first.few in let q = second.few in omega arith

-- ---- what one token comes to

close-first : (inside : Bool) (ts : List Tok) → codes_of (closing inside ts) ≡ only inside kind.Close ++ codes_of ts
unfolding codes_of
close-first true ts = refl
close-first false ts = refl

open-first : (wide : Bool) (ts : List Tok) → codes_of (opening wide ts) ≡ only wide kind.Open ++ codes_of ts
unfolding codes_of
open-first true ts = refl
open-first false ts = refl

module _ (inside : Bool) (outer : ℕ) (r : List Tok) where
  -- the codes of a token and of what is behind it
  abbrev on : Tok → List Code
  on t = codes_of (grouped_on inside outer (t ∷ r))

  on_or : (p : ℕ) →
      on (op_t Or p) ≡ only inside kind.Close ++ kind.Op Or ∷ (only (is_wide r) kind.Open ++ codes_of (grouped_on (is_wide r) outer r))
  unfolding grouped_on codes_of
  on_or p =
      close-first inside (op_t Or p ∷ opening (is_wide r) (grouped_on (is_wide r) outer r))
      ∙ ap (λ (cs : List Code). only inside kind.Close ++ kind.Op Or ∷ cs) (open-first (is_wide r) (grouped_on (is_wide r) outer r))

  on-close : (p : ℕ) → on (close_t p) ≡ only inside kind.Close ++ kind.Close ∷ codes_of (grouped_on (innermost outer) (outer / 2) r)
  unfolding grouped_on codes_of
  on-close p = close-first inside (close_t p ∷ grouped_on (innermost outer) (outer / 2) r)

  -- any other
  on-else : (t : Tok) → (code_of t ≡ kind.Op Or → ⊥) → (code_of t ≡ kind.Open → ⊥) → (code_of t ≡ kind.Close → ⊥) →
      on t ≡ only (ends_group inside (code_of t)) kind.Close ++ code_of t ∷ codes_of (grouped_on inside outer r)
  unfolding grouped_on codes_of
  on-else (word_t w p) a b c = refl
  on-else (op_t And p) a b c = refl
  on-else (op_t Or p) a b c = absurd (a refl)
  on-else (op_t Not p) a b c = refl
  on-else (open_t p) a b c = absurd (b refl)
  on-else (close_t p) a b c = absurd (c refl)
  on-else (other_t p) a b c = refl

-- ---- whether a group is more than one word, by the codes

-- whether an operator that goes on stands there
abbrev pub goes_by : Option Op → Bool
goes_by None = false
goes_by (Some o) = binds_first o

-- what is not of the higher rank is `or`
pub only-or : (o : Op) → binds_first o ≡ false → o ≡ Or
only-or And e = absurd (cc)
only-or Or e = refl
only-or Not e = absurd (cc)

pub never-or : {code : Code} {o : Op} → code ≡ kind.Op o → binds_first o ≡ true → code ≡ kind.Op Or → ⊥
never-or e b f = let q : kind.Op _ ≡ kind.Op Or = sym e ∙ f in go _ b (cc)
  where
    go : (o : Op) → binds_first o ≡ true → o ≡ Or → ⊥
    go o b q = let z : false ≡ true = rw q at b in cc

goes_on_lem : (t : Tok) (r : List Tok) → goes_on (t ∷ r) ≡ goes_by (operator_of_code (Some (code_of t)))
goes_on_lem (word_t w p) r = refl
goes_on_lem (op_t And p) r = refl
goes_on_lem (op_t Or p) r = refl
goes_on_lem (op_t Not p) r = refl
goes_on_lem (open_t p) r = refl
goes_on_lem (close_t p) r = refl
goes_on_lem (other_t p) r = refl

goes_at : (toks : List Tok) (codes : List Code) (i : ℕ) → codes_of toks ≡ codes → goes_by (operator_at codes i) ≡ goes_on (drop i toks)
goes_at toks codes i e =
    leb-cases (length codes) i
    (λ h. rw (slice_get_past codes i h, stands-end toks codes i e h))
    (λ h. let s = stands toks codes i e h in rw (s.code, s.here) (sym (goes_on_lem s.tok (drop (i + 1) toks))))

wide-else : (t : Tok) (r : List Tok) → (code_of t ≡ kind.Word → ⊥) → true ≡ is_wide (t ∷ r)
wide-else (word_t w p) r h = absurd (h refl)
wide-else (op_t o p) r h = refl
wide-else (open_t p) r h = refl
wide-else (close_t p) r h = refl
wide-else (other_t p) r h = refl

pub wide-none : (codes : List Code) (i : ℕ) → (slice_get codes i ≡ Some kind.Word → ⊥) → WideAt codes i true
wide-none codes i h toks e =
    leb-cases (length codes) i
    (λ g. rw (stands-end toks codes i e g))
    (λ g. let s = stands toks codes i e g in rw s.here (wide-else s.tok (drop (i + 1) toks) (λ w. h (s.code ∙ ap Some w))))

pub wide_word : (codes : List Code) (i : ℕ) → slice_get codes i ≡ Some kind.Word → {o : Option Op} → o ≡ operator_at codes (i + 1) → WideAt codes i (goes_by o)
wide_word codes i h f toks e =
    let s = stands toks codes i e (slice_get_within codes i kind.Word h) in
    let w = code-word s.tok (stands-code s h) in
    rw (s.here, w.2, f) (goes_at toks codes (i + 1) e)

-- the same, as `is_wide` tells them
pub wide_no : (codes : List Code) (i : ℕ) → (slice_get codes i ≡ Some kind.Word → ⊥) → WideAt codes i true
wide_no = wide-none

pub wide_told : (codes : List Code) (i : ℕ) (r : Bool) → slice_get codes i ≡ Some kind.Word → r ≡ goes_by (operator_at codes (i + 1)) → WideAt codes i r
wide_told codes i r h e = rw e (wide_word codes i h refl)

-- ---- from token to token

-- a place at which a code was read
pub at-within : {A : Type 0} (code : A → Code) (codes : List A) (i : ℕ) {c : Code} → slice_get (map code codes) i ≡ Some c → i < length codes
at-within code codes i {c} e = omega (arith, slice_get_within (map code codes) i c e, length-map codes code)

module _ {A : Type 0} (code : A → Code) (written : Code → A) (read_back : (c : Code) → code (written c) ≡ c) (codes : List A) (i : ℕ)
    (within : i < length codes) (at : Grouping) {out out₁ out₂ : List A} {n₁ n₂ : ℕ} {x : A} (read : x ≡ get_or codes i x) {c : Code} (told : c ≡ code x)
    {ended : Bool} (is : ended ≡ ends_group at.inside c) {bracket : A} (closes : bracket ≡ written kind.Close) (first : PutsCode ended bracket at.count out out₁ n₁)
    (second : PutsCode true x n₁ out₁ out₂ n₂) where
  -- what stands there, and the code that it is read as
  stood : slice_get codes i ≡ Some x
  stood = slice_get_read codes (length codes) i x refl within read

  here : slice_get (map code codes) i ≡ Some c
  here = slice_get-map code codes i ∙ ap (option_map code) stood ∙ ap Some (sym told)

  -- it stands there as the code is written
  here-written : (toks : List Tok) → written_of written toks ≡ codes → x ≡ written c
  here-written toks e =
      let r = written-read code written read_back toks codes e in
      let q : Some x ≡ Some (written c) =
      sym stood ∙ ap (λ (xs : List A). slice_get xs i) (sym e) ∙ slice_get-map written (codes_of toks) i
      ∙ ap (option_map written) (ap (λ (cs : List Code). slice_get cs i) r ∙ here) in
      cc

  -- with what the tokens behind come to
  left-same : (toks : List Tok) (e : written_of written toks ≡ codes) (next : List Code) →
      ((t : Tok) → code_of t ≡ c →
      on at.inside at.outer (drop (i + 1) toks) t ≡ only (ends_group at.inside c) kind.Close ++ c ∷ next) →
      take n₂ out₂ ++ map written next ≡ take at.count out ++ written_of written (grouped_on at.inside at.outer (drop i toks))
  left-same toks e next h =
      let r = written-read code written read_back toks codes e in
      let s = stands toks (map code codes) i r (rw (length-map codes code) within) in
      let front = take at.count out in
      let token : code_of s.tok ≡ c = stands-code s here in
      let close : only ended bracket ≡ map written (only (ends_group at.inside c) kind.Close) =
      ap₂ (λ (w : Bool) (y : A). only w y) is closes ∙ only-written written (ends_group at.inside c) kind.Close in
      let whole : map written (only (ends_group at.inside c) kind.Close) ++ written c ∷ map written next ≡
      written_of written (grouped_on at.inside at.outer (drop i toks)) =
      sym (map-append written (only (ends_group at.inside c) kind.Close) (c ∷ next)) ∙ ap (map written) (rw s.here (sym (h s.tok token))) in
      ap (λ (cs : List A). cs ++ map written next) (second.written ∙ ap (λ (cs : List A). cs ++ x ∷ []) first.written)
      ∙ append_assoc (front ++ only ended bracket) (x ∷ []) (map written next)
      ∙ append_assoc front (only ended bracket) (x ∷ map written next)
      ∙ ap (λ (cs : List A). front ++ cs) (ap₂ (λ (ds : List A) (y : A). ds ++ y ∷ map written next) close (here-written toks e) ∙ whole)

  pub group-or : c ≡ kind.Op Or → {wide : Bool} → WideAt (map code codes) (i + 1) wide → {opens : A} → opens ≡ written kind.Open →
      {out₃ : List A} {n₃ : ℕ} → PutsCode wide opens n₂ out₂ out₃ n₃ →
      GroupsCode written codes i at out out₃ (record { inside = wide; outer = at.outer; count = n₃ })
  group-or o {wide} w {opens} p {out₃} {n₃} third = record {
    long = third.long ∙ second.long ∙ first.long;
    few = let a = first.few in let b = second.few in let d = third.few in omega arith;
    same = λ toks e.
        let behind = codes_of (grouped_on wide at.outer (drop (i + 1) toks)) in
        let open-here : only wide opens ++ map written behind ≡ map written (only wide kind.Open ++ behind) =
        ap (λ (y : A). only wide y ++ map written behind) p ∙ ap (λ (ys : List A). ys ++ map written behind) (only-written written wide kind.Open)
        ∙ sym (map-append written (only wide kind.Open) behind) in
        ap (λ (cs : List A). cs ++ map written behind) third.written ∙ append_assoc (take n₂ out₂) (only wide opens) (map written behind)
        ∙ ap (λ (cs : List A). take n₂ out₂ ++ cs) open-here
        ∙ left-same toks e (only wide kind.Open ++ behind)
        (λ t f. let q = code-operator Or t (f ∙ o) in
        ap (on at.inside at.outer (drop (i + 1) toks)) q.1 ∙ on_or at.inside at.outer (drop (i + 1) toks) q.0
        ∙ ap₂ (λ (y : Code) (v : Bool). only (ends_group at.inside y) kind.Close ++ y ∷ (only v kind.Open ++ codes_of (grouped_on v at.outer (drop (i + 1) toks))))
        (sym o) (sym (w toks (written-read code written read_back toks codes e))));
  }

  pub group-open : c ≡ kind.Open → {levels : ℕ} → levels ≡ levels_around at.inside at.outer →
      GroupsCode written codes i at out out₂ (record { inside = false; outer = levels; count = n₂ })
  unfolding grouped_on codes_of
  group-open o {levels} m = record {
    long = second.long ∙ first.long;
    few = put_two first second;
    same = λ toks e. left-same toks e (codes_of (grouped_on false levels (drop (i + 1) toks)))
        (λ t f. let q = code-open t (f ∙ o) in
        ap (on at.inside at.outer (drop (i + 1) toks)) q.1
        ∙ ap₂ (λ (y : Code) (z : ℕ). only (ends_group at.inside y) kind.Close ++ y ∷ codes_of (grouped_on false z (drop (i + 1) toks))) (sym o) (sym m));
  }

  pub group-close : c ≡ kind.Close → {inner : Bool} {levels : ℕ} → inner ≡ innermost at.outer → levels ≡ at.outer / 2 →
      GroupsCode written codes i at out out₂ (record { inside = inner; outer = levels; count = n₂ })
  group-close o {inner} {levels} b m = rw (b, m) record {
    long = second.long ∙ first.long;
    few = put_two first second;
    same = λ toks e. left-same toks e (codes_of (grouped_on (innermost at.outer) (at.outer / 2) (drop (i + 1) toks)))
        (λ t f. let q = code-close t (f ∙ o) in
        ap (on at.inside at.outer (drop (i + 1) toks)) q.1 ∙ on-close at.inside at.outer (drop (i + 1) toks) q.0
        ∙ ap (λ (y : Code). only (ends_group at.inside y) kind.Close ++ y ∷ codes_of (grouped_on (innermost at.outer) (at.outer / 2) (drop (i + 1) toks))) (sym o));
  }

  pub group-else : (c ≡ kind.Op Or → ⊥) → (c ≡ kind.Open → ⊥) → (c ≡ kind.Close → ⊥) →
      GroupsCode written codes i at out out₂ (record { inside = at.inside; outer = at.outer; count = n₂ })
  group-else a b d = record {
    long = second.long ∙ first.long;
    few = put_two first second;
    same = λ toks e. left-same toks e (codes_of (grouped_on at.inside at.outer (drop (i + 1) toks)))
        (λ t f. on-else at.inside at.outer (drop (i + 1) toks) t (λ g. a (sym f ∙ g)) (λ g. b (sym f ∙ g)) (λ g. d (sym f ∙ g))
        ∙ ap (λ (y : Code). only (ends_group at.inside y) kind.Close ++ y ∷ codes_of (grouped_on at.inside at.outer (drop (i + 1) toks))) f);
  }

-- ---- the pass

module _ {A : Type 0} (written : Code → A) where
  -- before the code at place i
  pub record Passing (codes out₀ out : List A) (i : ℕ) (at : Grouping) : Type 0 where
    pub inside : i ≤ length codes
    pub long : length out ≡ length out₀
    pub few : at.count ≤ 3 * i
    pub same : (toks : List Tok) → written_of written toks ≡ codes →
        take at.count out ++ written_of written (grouped_on at.inside at.outer (drop i toks)) ≡ written_of written (grouped toks)

  pub pass-start : (codes out : List A) → Passing codes out out 0 (record { inside = false; outer = 0; count = 0 })
  pass-start codes out = record { inside = omega arith; long = refl; few = omega arith; same = λ toks e. refl }

  pub pass-next : {codes out₀ out out' : List A} {i : ℕ} {at r : Grouping} → i < length codes → Passing codes out₀ out i at →
      GroupsCode written codes i at out out' r → Passing codes out₀ out' (i + 1) r
  pass-next h p g = record {
    inside = omega arith;
    long = g.long ∙ p.long;
    few = let a = g.few in let b = p.few in omega arith;
    same = λ toks e. g.same toks e ∙ p.same toks e;
  }

  -- no token is left
  none-left : (toks : List Tok) (codes : List A) (i : ℕ) → written_of written toks ≡ codes → length codes ≤ i → drop i toks ≡ []
  none-left toks codes i e h =
      let l = length-map (codes_of toks) written in
      let m = ap length e in
      stands-end toks (codes_of toks) i refl (omega arith)

  pub pass-end : {codes out₀ out out' : List A} {i n : ℕ} {at : Grouping} {bracket : A} → length codes ≤ i → 3 * length codes + 1 ≤ length out₀ →
      Passing codes out₀ out i at → bracket ≡ written kind.Close → PutsCode at.inside bracket at.count out out' n → GroupsCodes written codes out₀ out' n
  unfolding grouped_on codes_of
  pass-end {codes} {out₀} {out} {out'} {i} {n} {at} {bracket} h room p closes put = record {
    long = put.long ∙ p.long;
    within = let a = put.few in let b = p.few in let d = p.inside in omega arith;
    coded = λ toks e.
        let last : written_of written (grouped_on at.inside at.outer (drop i toks)) ≡ only at.inside bracket =
        ap (λ (ts : List Tok). written_of written (grouped_on at.inside at.outer ts)) (none-left toks codes i e h)
        ∙ ap (map written) (close-first at.inside [] ∙ append-nil (only at.inside kind.Close))
        ∙ sym (only-written written at.inside kind.Close) ∙ ap (only at.inside) (sym closes) in
        put.written ∙ ap (λ (cs : List A). take at.count out ++ cs) (sym last) ∙ p.same toks e;
  }
