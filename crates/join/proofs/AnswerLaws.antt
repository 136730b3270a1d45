-- The frame of a join: what room a join surely needs no more than, and what is answered.
use mathlib.Core.Path.{◌≡◌, ◌∙◌}
use mathlib.Core.Logic.{◌⊎◌, ⊎_elim}
use Prim.Native.Nat.{ℕ, ◌*◌, ◌≤◌}
use native.Mathlib.Omega.{arith}
use mathlib.Core.List.{List, [], ◌∷◌}
use lib.ListN.{length}
use Rattle.limits.specs.Limits.{record_max}
use Rattle.refusal.specs.declared.Refusal.{Refusal}
use Rattle.list.specs.declared.answer.Tally.{Tally}
use Rattle.std.specs.Prelude.{Result, Ok, Err}
use Rattle.list.specs.Interval.{intervals}
use Rattle.list.specs.Sweeps.{Listing}
use Rattle.list.specs.Ginix.{union_of, intersection_of}
use Rattle.list.proofs.StretchLaws.{proper-length}
use Rattle.list.proofs.JoinLaws.{union-proper, intersection-proper}
use Rattle.index.specs.Format.{list_of}
use Rattle.merge.specs.Request.{SoundRequest, lists_of}
use Rattle.merge.proofs.ListsLaws.{asked-proper}
use Rattle.join.specs.Join.{request_of, Joins}
use Rattle.join.specs.Bound.{interval_sum}
use Rattle.join.proofs.JoinBound.{union-bound, intersection-bound}

-- ---- every method

intersection-asked : (index entries : List ℕ) → SoundRequest index entries →
    intervals (intersection_of (lists_of index entries)) ≤ interval_sum (lists_of index entries)
unfolding lists_of
intersection-asked index [] a = absurd (let h = a.some in omega arith)
intersection-asked index (e ∷ es) a = intersection-bound (list_of index e) (lists_of index es) (asked-proper a)

module _ {join_of : List (List ℕ) → List ℕ} (kind : (join_of ≡ union_of) ⊎ (join_of ≡ intersection_of)) where
  pub join-bound : {index entries : List ℕ} → SoundRequest index entries → intervals (join_of (lists_of index entries)) ≤ interval_sum (lists_of index entries)
  join-bound a = ⊎_elim (λ e. rw e (union-bound _ (asked-proper a))) (λ e. rw e (intersection-asked _ _ a)) kind

  pub join-whole : (cs : List (List ℕ)) → 2 * intervals (join_of cs) ≡ length (join_of cs)
  join-whole cs =
      ⊎_elim
      (λ e. rw e (proper-length record_max (union_of cs) (union-proper cs)))
      (λ e. rw e (proper-length record_max (intersection_of cs) (intersection-proper cs)))
      kind

-- ---- by what the check of the request answers

module _ (method : List (List ℕ) → List ℕ) (index entries : List ℕ) {out : List ℕ} where
  pub joins-asked : {out' : List ℕ} {r : Result Tally Refusal} → request_of index entries ≡ Ok tt → Listing (method (lists_of index entries)) out out' r →
      Joins method index entries out out' r
  joins-asked e l = record { answer = l.answer ∙ rw e; cells = l.cells ∙ rw e }
