use mathlib.Core.Path.{sym, ◌∙◌}
use native.Mathlib.Nat.{add-zero}
use native.Mathlib.Omega.{arith}
use lib.ListN.{get_or}
use Rattle.window.proofs.WordFlips.{flipped-few, flip-count, left-none, left-count, left-carry}
use Rattle.window.proofs.flips.count_flips.Goals as goal

pub loop-w-preserved : goal.loop-w-preserved
loop-w-preserved c =
    let l = c.loop-w in
    let ws = c.args.ws.now in
    let fits = (c.type_inv.ws l.w-index).fits in
    let w = get_or ws l.w-index 0 in
    let count = flip-count w l.k fits in (
      omega arith,
      omega (arith, flipped-few w l.k l.c fits l.invariant.3),
      (λ base. rw l.invariant.3 (l.invariant.2 base ∙ rw count at (left-count ws base l.k l.w-index (omega arith)))),
      rw l.invariant.3 (rw count at (left-carry ws l.k l.w-index fits)),
    )

pub returns : goal.returns
returns c base =
    let l = c.loop-w in
    sym (l.invariant.2 base ∙ rw (left-none c.args.ws.now base l.k l.w-index (omega arith)) (add-zero l.k))

pub overflow_add-k : goal.overflow_add-k
overflow_add-k c =
    let l = c.loop-w in
    omega (arith, flipped-few (get_or c.args.ws.now l.w-index 0) l.k l.c (c.type_inv.ws l.w-index).fits l.invariant.3)
