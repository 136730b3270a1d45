-- Test by test, in the definition's order.
use Prim.Native.Nat.{◌+◌, ◌*◌}
use mathlib.Core.Path.{◌≡◌, sym, ap, ◌∙◌}
use mathlib.Core.Bool.{not, not-not}
use native.Mathlib.Omega.{arith}
use lib.Dec.{eqb}
use lib.ListN.{length}
use Rattle.index.specs.Format.{directory_start, word_count, edition, entry_size}
use Rattle.index.proofs.FrameLaws.{trailer-highest, trailer-count, trailer-order, trailer-else}
use Rattle.index.proofs.check.trailer_good.Goals as goal

pub returns-then-trailer-gt-WORDS_MAX : goal.returns-then-trailer-gt-WORDS_MAX
returns-then-trailer-gt-WORDS_MAX c = sym (ap not (trailer-count c.args.index.now (omega arith) (omega arith)))

pub returns-then-trailer : goal.returns-then-trailer
returns-then-trailer c =
    let index = c.args.index.now in
    sym (ap not (trailer-order index (omega arith) (omega arith) (omega arith)))

pub returns : goal.returns
returns c =
    let index = c.args.index.now in
    let e : c.entry_place.result + 20 ≡ directory_start index + entry_size (edition index) * word_count index + 20 = omega arith in
    ap (λ n. eqb n (length index)) e
    ∙ sym (ap not (trailer-else index (omega arith) (omega arith) (omega arith))
    ∙ not-not (eqb (directory_start index + entry_size (edition index) * word_count index + 20) (length index)))

pub returns-then-trailer-gt-RECORD_MAX : goal.returns-then-trailer-gt-RECORD_MAX
returns-then-trailer-gt-RECORD_MAX c = sym (ap not (trailer-highest c.args.index.now (omega arith)))
