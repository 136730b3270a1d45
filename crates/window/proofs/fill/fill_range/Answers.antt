use Prim.Native.Nat.{◌/◌}
use mathlib.Core.Path.{refl}
use native.Mathlib.Omega.{arith}
use Rattle.std.proofs.lemmas.Grind.{common_steps}
use Rattle.window.proofs.FillLaws.{filled-join, fill_one, fill-first, fill-between, fill-last}
use Rattle.window.proofs.fill.fill_range.Goals as goal

pub returns-then-j-i : goal.returns-then-j-i
returns-then-j-i c = fill_one c.args.ws.now c.args.a c.args.b _ (omega arith) refl (omega arith) c.requires.order

pub returns : goal.returns
returns c =
    let a = c.args in
    let i = a.a / 64 in
    let j = a.b / 64 in
    let first = fill-first a.ws.now a.a i (omega arith) refl in
    filled-join (omega arith) (omega arith) first
    (fill-last a.b j (omega (arith, first.long)) (omega arith) refl
    (fill-between _ _ (grind (arith, common_steps)) (grind (arith, common_steps)) (grind (arith, common_steps, first.long)) (c.fill.ensures.after (λ y h. h))))
