-- Laws of a promise, which determines what comes of a call; and of a list that is written where it has room: at once where its bound says so, and else
-- after a pass that only counts.
use mathlib.Core.Path.{◌≡◌, sym, ap, ◌∙◌}
use Prim.Native.Nat.{ℕ, ◌*◌, ◌/◌, ◌≤◌, ◌<◌}
use native.Mathlib.Omega.{arith}
use mathlib.Core.Bool.{true, false}
use mathlib.Core.List.{List}
use lib.ListN.{length}
use borrow.Author.Tests.{le-leb, lt-leb}
use Rattle.std.specs.Prelude.{Result, Ok, Err}
use Rattle.refusal.specs.declared.Refusal.{Refusal}
use Rattle.refusal.specs.declared.Refusal.TheVariants.{Room}
use Rattle.list.specs.declared.answer.Tally.{Tally}
use Rattle.list.specs.Interval.{intervals}
use Rattle.list.specs.Outcome.{Outcome}
use Rattle.list.specs.Answer.{Gives}
use Rattle.list.specs.Sweeps.{Listing, Sweeps}

-- two calls of which the same comes, lent the same
pub gives-agree : {o : Outcome} {out a b : List ℕ} {r s : Result Tally Refusal} → Gives o out a r → Gives o out b s → (r ≡ s) × (a ≡ b)
gives-agree p q = (p.answer ∙ sym q.answer, p.cells ∙ sym q.cells)

pub listed : {c out out' : List ℕ} {t : Tally} → intervals c ≤ length out / 2 → Sweeps c true out out' t → Listing c out out' (Ok t)
listed {c} {out} h s = let f = le-leb (intervals c) (length out / 2) h in record { answer = rw (f, s.tally); cells = s.cells ∙ rw f }

-- a pass that only counts tells whether there is room, and leaves all as it was
module _ {c out out₁ : List ℕ} {t : Tally} (s : Sweeps c false out out₁ t) where
  needed : t.intervals ≡ intervals c
  needed = ap (λ (r : Tally). r.intervals) s.tally

  pub counted-refused : length out / 2 < t.intervals → Listing c out out₁ (Err (Room t.intervals))
  counted-refused h =
      let n = needed in
      let f = lt-leb (intervals c) (length out / 2) (omega arith) in
      record { answer = rw (f, n); cells = s.cells ∙ rw f }

  pub counted-room : 2 * intervals c ≡ length c → t.intervals ≤ length out / 2 → length c ≤ length out₁
  counted-room e h = let n = needed in let l = ap length s.cells in omega arith

  pub counted-listed : {out' : List ℕ} {t' : Tally} → t.intervals ≤ length out / 2 → Sweeps c true out₁ out' t' → Listing c out out' (Ok t')
  counted-listed h w = let n = needed in listed (omega arith) (rw s.cells at w)
