use Prim.Native.Nat.{ℕ, ◌≤◌, ◌<◌}
use mathlib.Core.Path.{◌≡◌, refl}
use native.Mathlib.Omega.{arith}
use lib.ListN.{length}
use Rattle.question.specs.declared.token.Token.{Token}
use Rattle.question.specs.declared.token.Token.TheVariants.{End, Word, Op, Open, Close, Other}
use Rattle.question.specs.Next.{TokenWithin, end_of}
use Rattle.cases_query.proofs.read_case.print_places.Goals as goal
use Rattle.cases_query.proofs.read_case.print_places.Goals.{In_default}
use Rattle.cases_query.proofs.read_case.print_places.Given.{Over}

-- a token that is not the end lies ahead
lies-ahead : (at len : ℕ) (t : Token) → ((p : ℕ) → t ≡ End p → ⊥) → TokenWithin at len t → (at < end_of t) × (end_of t ≤ len)
lies-ahead at len (End p) h w = absurd (h p refl)
lies-ahead at len (Word p q) h w = (omega arith, omega arith)
lies-ahead at len (Op o p q) h w = (omega arith, omega arith)
lies-ahead at len (Open p) h w = (omega arith, omega arith)
lies-ahead at len (Close p) h w = (omega arith, omega arith)
lies-ahead at len (Other p) h w = (omega arith, omega arith)

ahead : (g : Over) (c : In_default g) → let t = c.next_token-token.result in
    (c.loop-out.at < end_of t) × (end_of t ≤ length c.args.question.now)
ahead g c = lies-ahead _ _ c.next_token-token.result c.in_default.not-End c.next_token-token.ensures.lies

pub token_end-at-requires : goal.token_end-at-requires
token_end-at-requires g c =
    let a = ahead g (goal.at.token_end-at-requires g c).In_default in omega arith

pub loop-out-smaller : goal.loop-out-smaller
loop-out-smaller g c =
    let a = ahead g (goal.at.loop-out-smaller g c).In_default in omega (arith, c.token_end-at.ensures)

pub loop-out-preserved : goal.loop-out-preserved
loop-out-preserved g c =
    let a = ahead g (goal.at.loop-out-preserved g c).In_default in omega (arith, c.token_end-at.ensures)
