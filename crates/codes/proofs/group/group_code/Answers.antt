-- By the code: an `or`, a bracket that opens or closes, or another. Before each the same two calls have written the code, and a bracket before it.
use mathlib.Core.Path.{refl, sym, ap, ◌∙◌}
use Rattle.word.specs.declared.Op.TheVariants.{Or}
use Rattle.codes.specs.declared.code.Code.TheVariants as kind
use Rattle.codes.proofs.PassLaws.{only-or, never-or, group-or, group-open, group-close, group-else}
use Rattle.codes.proofs.group.group_code.Goals as goal

pub returns-then-binds_first : goal.returns-then-binds_first
returns-then-binds_first g c =
    group-else g.C.AsCode.code g.C.AsCode.written g.met.C.AsCode.read_back c.args.codes.now c.args.i c.requires.within c.args.at c.index-codes-i.is
    c.to_code-code.ensures c.ends_group-ended.ensures c.of_code.ensures c.put_code-begun.ensures c.put_code-count.ensures (never-or c.in-Op.is (sym c.binds_first.ensures ∙ c.if-binds_first.true))
    (λ e. let g = c.in-Op.is in absurd (cc)) (λ e. let g = c.in-Op.is in absurd (cc))

pub returns-else-binds_first : goal.returns-else-binds_first
returns-else-binds_first g c =
    group-or g.C.AsCode.code g.C.AsCode.written g.met.C.AsCode.read_back c.args.codes.now c.args.i c.requires.within c.args.at c.index-codes-i.is
    c.to_code-code.ensures c.ends_group-ended.ensures c.of_code.ensures c.put_code-begun.ensures c.put_code-count.ensures (c.in-Op.is ∙ ap kind.Op (only-or c.in-Op.op (sym c.binds_first.ensures ∙ c.if-binds_first.false)))
    c.is_wide-wide.ensures c.of_code-in-Op.ensures c.put_code.ensures

pub returns-in-Open : goal.returns-in-Open
returns-in-Open g c =
    group-open g.C.AsCode.code g.C.AsCode.written g.met.C.AsCode.read_back c.args.codes.now c.args.i c.requires.within c.args.at c.index-codes-i.is
    c.to_code-code.ensures c.ends_group-ended.ensures c.of_code.ensures c.put_code-begun.ensures c.put_code-count.ensures c.in-Open.is c.enter.ensures

pub returns-in-Close : goal.returns-in-Close
returns-in-Close g c =
    group-close g.C.AsCode.code g.C.AsCode.written g.met.C.AsCode.read_back c.args.codes.now c.args.i c.requires.within c.args.at c.index-codes-i.is
    c.to_code-code.ensures c.ends_group-ended.ensures c.of_code.ensures c.put_code-begun.ensures c.put_code-count.ensures c.in-Close.is refl refl

pub returns-in_default : goal.returns-in_default
returns-in_default g c =
    group-else g.C.AsCode.code g.C.AsCode.written g.met.C.AsCode.read_back c.args.codes.now c.args.i c.requires.within c.args.at c.index-codes-i.is
    c.to_code-code.ensures c.ends_group-ended.ensures c.of_code.ensures c.put_code-begun.ensures c.put_code-count.ensures (c.in_default.not-Op Or) c.in_default.not-Open c.in_default.not-Close
