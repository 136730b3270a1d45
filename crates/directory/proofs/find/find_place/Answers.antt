use Prim.Native.Nat.{◌+◌, ◌-◌, ◌/◌}
use mathlib.Core.Path.{sym, ◌∙◌}
use native.Mathlib.Omega.{arith}
use Rattle.directory.proofs.StandingLaws.{place-splits, place-behind, place-not-behind}
use Rattle.directory.proofs.find.find_place.Goals as goal

pub loop-low-init : goal.loop-low-init
loop-low-init c =
    let n = c.word_count-high.ensures.is in
    let w = (place-splits c.args.index.now c.requires c.args.word.now).within in
    (omega arith, rw n w, rw n (omega arith), c.word_count-high.ensures.few)

pub loop-low-preserved-then-stands_before : goal.loop-low-preserved-then-stands_before
loop-low-preserved-then-stands_before c =
    let l = c.loop-low in
    let middle = l.low + (l.high - l.low) / 2 in
    let e = sym c.stands_before.ensures ∙ c.if-stands_before.true in
    let g = place-behind c.args.index.now c.requires c.args.word.now middle (omega (arith, l.invariant.2)) e in
    (g, l.invariant.1, l.invariant.2, l.invariant.3)

pub loop-low-preserved : goal.loop-low-preserved
loop-low-preserved c =
    let l = c.loop-low in
    let middle = l.low + (l.high - l.low) / 2 in
    let e = sym c.stands_before.ensures ∙ c.if-stands_before.false in
    let g = place-not-behind c.args.index.now c.requires c.args.word.now middle e in
    (l.invariant.0, g, omega (arith, l.invariant.2), omega (arith, l.invariant.3))
