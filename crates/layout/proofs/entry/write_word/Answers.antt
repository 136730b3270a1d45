-- Each piece by what its callee promises, said of the whole output (WriteLaws).
use mathlib.Core.Path.{◌≡◌}
use Prim.Native.Nat.{◌+◌, ◌*◌, ◌-◌, ◌≤◌}
use native.Mathlib.Omega.{arith}
use lib.ListN.{length}
use borrow.Rule.Slice.PartMut.{put_mid}
use Rattle.convert.specs.Convert.{intervals_of}
use Rattle.layout.specs.Layout.{kept_bytes}
use Rattle.layout.proofs.KeptBytesLaws.{kept-length}
use Rattle.layout.proofs.WriteLaws.{tail-sets, word-entered, tail-length}
use Rattle.layout.proofs.entry.write_word.Goals as goal
use Rattle.layout.proofs.entry.write_word.Goals.{After-count_kept-kept}

-- the list's counts are no more than the bytes before the entry
few : (c : After-count_kept-kept) → 4 * (c.count_kept-kept.result.singles + 2 * c.count_kept-kept.result.pairs) ≤ c.args.at.entry
few c =
    let kept = c.count_kept-kept.ensures in
    omega (arith, kept-length (intervals_of c.args.numbers.now), kept.singles, kept.pairs, c.requires.within.list, c.requires.within.bytes)

pub returns-clause-enters : goal.returns-clause-enters
returns-clause-enters c =
    let out = c.args.out.now in
    let at = c.args.at in
    let word = c.args.word.now in
    let cells = intervals_of c.args.numbers.now in
    let room = c.requires.within in
    let kept = c.count_kept-kept in
    let list = c.write_list in
    let with-list = put_mid at.list (length out - at.list) out list.new.out in
    let e = tail-sets at.list out (kept_bytes cells) (omega (arith, room.list, room.bytes, room.entry)) list.ensures in
    let same = tail-length at.list out list.new.out (kept_bytes cells) e in
    let f = tail-sets at.word with-list word (omega (arith, same, room.bytes, room.entry)) c.write_bytes.ensures in
    let put = c.put_five.ensures in
    word-entered out at word cells kept.ensures.singles kept.ensures.pairs e f put

pub returns-clause-moves : goal.returns-clause-moves
returns-clause-moves c =
    let out = c.args.out.now in
    let at = c.args.at in
    let word = c.args.word.now in
    let cells = intervals_of c.args.numbers.now in
    let kept = c.count_kept-kept in
    let long = kept-length cells in
    let size : c.list_size.result ≡ length (kept_bytes cells) =
    omega (arith, kept.ensures.singles, kept.ensures.pairs, c.list_size.ensures) in
    rw size

pub overflow_cast-kept : goal.overflow_cast-kept
overflow_cast-kept c = omega (arith, few (goal.at.overflow_cast-kept c).After-count_kept-kept)

pub overflow_cast-kept-2 : goal.overflow_cast-kept-2
overflow_cast-kept-2 c = omega (arith, few (goal.at.overflow_cast-kept-2 c).After-count_kept-kept)
