use Rattle.std.proofs.Common.{rules, sym, arith}
use Rattle.lines.proofs.SplitLaws.{whole_end-last, whole_end-nowhere}
use Rattle.lines.proofs.split.whole_end.Goals as goal

pub returns-in-Some-clause-place : goal.returns-in-Some-clause-place
returns-in-Some-clause-place c = omega (arith, whole_end-last c.args.input.now c.args.most c.in-Some.last (search rules) (search rules) (search rules))

pub returns-in-None-clause-place : goal.returns-in-None-clause-place
returns-in-None-clause-place c = sym (whole_end-nowhere c.args.input.now c.args.most (search rules))
