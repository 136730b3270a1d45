use mathlib.Core.Path.{refl, sym, ap, ◌∙◌}
use Prim.Native.Nat.{◌+◌}
use native.Mathlib.Omega.{arith}
use lib.ListN.{drop, get_or, length-set}
use lib.Seq.{sets}
use Rattle.laws.proofs.Lists.{drop-next, drop-none, sets-one, sets-front}
use Rattle.layout.proofs.entry.write_bytes.Goals as goal

pub loop-i-init : goal.loop-i-init
loop-i-init c = (refl, refl)

pub loop-i-preserved : goal.loop-i-preserved
loop-i-preserved c =
    let at = c.loop-i in
    let bytes = c.args.bytes.now in
    let next = ap (sets at.out at.i) (drop-next bytes at.i c.loop-i-test.true) in (
      simp length-set at.invariant.0,
      at.invariant.1 ∙ next ∙ sets-one at.out at.i (get_or bytes at.i 0) (drop (at.i + 1) bytes),
    )

pub returns : goal.returns
returns c =
    let at = c.loop-i in
    let bytes = c.args.bytes.now in
    sym (at.invariant.1 ∙ ap (sets at.out at.i) (drop-none bytes at.i c.loop-i-test.false))
    ∙ sets-front bytes c.args.out.now c.requires
