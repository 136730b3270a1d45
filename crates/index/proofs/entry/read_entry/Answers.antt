-- Entry i starts where the trailer and its number say, and its fields are the cells from there.
use Prim.Native.Nat.{◌+◌, ◌*◌}
use mathlib.Core.Path.{◌≡◌, ◌∙◌}
use native.Mathlib.Omega.{arith}
use Rattle.index.specs.Format.{directory_start, edition, entry_size}
use Rattle.index.proofs.EntryLaws.{entry-word-start, entry-word-length, entry-list-start, entry-singles, entry-pairs}
use Rattle.index.proofs.entry.read_entry.Goals as goal

pub returns : goal.returns
returns c =
    let framed = c.requires.framed in
    let index = c.args.index.now in
    let i = c.args.i in
    let at = c.entry_place-at.result in
    let e : at ≡ directory_start index + entry_size (edition index) * i = omega arith in
    record {
      word-start = c.cell_at.ensures ∙ entry-word-start index i at e;
      word-length = c.cell_at-2.ensures ∙ entry-word-length index i at e;
      list-start = c.cell_at-3.ensures ∙ entry-list-start index i at e;
      singles = c.cell_at-4.ensures ∙ entry-singles index i at e;
      pairs = c.cell_at-5.ensures ∙ entry-pairs index i at e;
      small = record {
        word-length = omega arith;
        singles = omega arith;
        pairs = omega arith;
      };
    }
