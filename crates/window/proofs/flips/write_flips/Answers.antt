use Prim.Native.Nat.{◌+◌}
use mathlib.Core.Path.{◌≡◌, sym, ◌∙◌}
use native.Mathlib.Omega.{arith}
use native.Mathlib.Nat.{add-zero}
use lib.ListN.{length, get_or}
use lib.Seq.{length-sets}
use Rattle.window.proofs.WordFlips.{flip_marks, cells_left, left-none, left-count, left-write}
use Rattle.window.proofs.flips.write_flips.Goals as goal
use Rattle.window.proofs.flips.write_flips.Goals.{In-loop-w}

-- what is left in a turn: the cells of its word, and those of the words behind it
turn : (c : In-loop-w) → let l = c.loop-w in let a = c.args in
    let marks = length (flip_marks (get_or a.ws.now l.w-index 0) l.k) in
    l.k + length (cells_left a.ws.now a.base l.k l.w-index) ≡ l.k + marks + length (cells_left a.ws.now a.base (l.k + marks) (l.w-index + 1))
turn c = let l = c.loop-w in let a = c.args in left-count a.ws.now a.base l.k l.w-index (omega arith)

pub loop-w-preserved : goal.loop-w-preserved
loop-w-preserved c =
    let l = c.loop-w in
    let a = c.args in
    let wrote = c.write_marks-k.ensures in (
      omega arith,
      omega arith,
      rw wrote.writes (simp length-sets l.invariant.2),
      rw wrote.counts (l.invariant.3 ∙ turn (goal.at.loop-w-preserved c).In-loop-w),
      rw (wrote.writes, wrote.counts, l.invariant.1) (l.invariant.4 ∙ left-write a.ws.now a.base l.k l.w-index (omega arith) l.out),
    )

pub returns : goal.returns
returns c =
    let l = c.loop-w in
    let a = c.args in
    let none = left-none a.ws.now a.base l.k l.w-index (omega arith) in
    record { count = sym (l.invariant.3 ∙ rw none (add-zero l.k)); written = sym (l.invariant.4 ∙ rw none) }

pub write_marks-k-requires-clause-room : goal.write_marks-k-requires-clause-room
write_marks-k-requires-clause-room c = omega (arith, turn (goal.at.write_marks-k-requires-clause-room c).In-loop-w)
