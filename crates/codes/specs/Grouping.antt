-- What the pass that puts the groups of a question's codes in brackets writes, where the codes are those of some tokens.
use Rattle.std.specs.Prelude.{ℕ, ◌+◌, ◌≤◌, ◌≡◌, Bool, cond, List, [], ◌∷◌, ◌++◌, length, take, drop}
use Rattle.question.specs.Token.{Tok}
use Rattle.codes.specs.declared.code.Code.{Code}
use Rattle.codes.specs.declared.group.Grouping.{Grouping}
use Rattle.codes.specs.Code.{codes_of, written_of}
use Rattle.codes.specs.Group.{is_wide, grouped_on, grouped}

-- what the code at place i says of the group that begins there
abbrev pub WideAt : List Code → ℕ → Bool → Type 0
WideAt codes i r = (toks : List Tok) → codes_of toks ≡ codes → r ≡ is_wide (drop i toks)

-- one code more behind the first n, or none
pub record PutsCode {A : Type 0} (wanted : Bool) (code : A) (n : ℕ) (out out' : List A) (r : ℕ) : Type 0 where
  pub long : length out' ≡ length out
  pub ahead : n ≤ r
  pub few : r ≤ n + 1
  pub written : take r out' ≡ take n out ++ cond wanted (code ∷ []) []

-- what is written, with what the tokens left come to, is the same behind the token at place i as before it
pub record GroupsCode {A : Type 0} (written : Code → A) (codes : List A) (i : ℕ) (at : Grouping) (out out' : List A) (r : Grouping) : Type 0 where
  pub long : length out' ≡ length out
  pub few : r.count ≤ at.count + 3
  pub same : (toks : List Tok) → written_of written toks ≡ codes →
      take r.count out' ++ written_of written (grouped_on r.inside r.outer (drop (i + 1) toks)) ≡
      take at.count out ++ written_of written (grouped_on at.inside at.outer (drop i toks))

-- the first r are the codes of the tokens with their groups in brackets
pub record GroupsCodes {A : Type 0} (written : Code → A) (codes out out' : List A) (r : ℕ) : Type 0 where
  pub long : length out' ≡ length out
  pub within : r ≤ length out
  pub coded : (toks : List Tok) → written_of written toks ≡ codes → take r out' ≡ written_of written (grouped toks)
