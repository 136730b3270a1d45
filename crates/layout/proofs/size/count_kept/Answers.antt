use mathlib.Core.Path.{sym, ◌∙◌}
use Prim.Native.Nat.{◌<◌, ◌-◌}
use native.Mathlib.Omega.{arith}
use lib.ListN.{length, take, drop, length-drop}
use Rattle.limits.specs.Limits.{record_max}
use Rattle.list.specs.Among.{among}
use Rattle.list.proofs.StretchLaws.{cells-proper-from}
use Rattle.convert.specs.Convert.{intervals_of}
use Rattle.convert.proofs.NumberLaws.{good-number-small, rest-all, rest-small}
use Rattle.convert.proofs.RunLaws.{runs_none, runs-cells, runs-count, breaks-at, breaks-end}
use Rattle.layout.proofs.KeptBytesLaws.{cells_count}
use Rattle.layout.proofs.WriteLaws.{pairs-at, pairs_end, runs-pairs, none_kept}
use Rattle.layout.proofs.size.count_kept.Goals as goal

pub returns-in_default : goal.returns-in_default
returns-in_default c =
    let xs = c.args.numbers.now in
    let e = sym (runs-cells record_max xs c.requires) ∙ runs_none xs (omega arith) in
    record { singles = rw e (sym none_kept.0); pairs = rw e (sym none_kept.1); most = omega arith }

pub loop-x-init : goal.loop-x-init
loop-x-init c =
    let xs = c.args.numbers.now in
    let some : 0 < length xs = omega arith in (
      good-number-small record_max xs c.requires 0 some,
      omega arith,
      omega arith,
      omega arith,
      rw (rest-all xs) (runs-count xs some),
      rw (rest-all xs) (omega (arith, runs-pairs xs some)),
    )

pub loop-x-preserved : goal.loop-x-preserved
loop-x-preserved c =
    let at = c.loop-x in
    let xs = c.args.numbers.now in
    let rest = take (length xs - 1) (drop 1 xs) in
    let some = c.loop-x-test.true in
    let apart = c.gap-apart.ensures in
    let on = c.goes_on-pairs.ensures in
    let next = rw (← apart.is) at (pairs-at at.begins at.upper rest at.x-index some) in (
      rest-small record_max xs c.requires at.x-index some,
      apart.most,
      omega (arith, at.invariant.2, on.either),
      omega (arith, at.invariant.3, on.begun),
      omega (arith, at.invariant.4, breaks-at at.upper rest at.x-index some, apart.is),
      omega (arith, at.invariant.5, on.is),
    )

pub returns : goal.returns
returns c =
    let at = c.loop-x in
    let xs = c.args.numbers.now in
    let rest = take (length xs - 1) (drop 1 xs) in
    let e = runs-cells record_max xs c.requires in
    let n = rw e at at.invariant.4 in
    let pairs = rw e at at.invariant.5 in
    let both = cells_count record_max 1 (intervals_of xs) (cells-proper-from (among xs) record_max record_max (omega arith)) in
    let none = breaks-end at.upper rest at.x-index c.loop-x-test.false in
    let no_more = pairs_end at.begins at.upper rest at.x-index c.loop-x-test.false in
    record { singles = omega arith; pairs = omega arith; most = omega (arith, length-drop 1 xs) }
