-- An accepted question is within the limits, so there is room for its codes and its slots. The row is blank before, so that the halves that are not filled
-- have no entry.
use native.Mathlib.Omega.{arith}
use mathlib.Core.Path.{refl}
use Rattle.question.specs.Limits.{WithinLimits}
use Rattle.question.specs.Rules.{rule_of}
use Rattle.question.proofs.ParsedLaws.{accepted-within, asked-parsed}
use Rattle.source.specs.Source.{satisfying}
use Rattle.source.proofs.AskLaws.{listing-answers}
use Rattle.query.proofs.AskLaws.{compiled-short, compiled-asked, compiled-ready, halves-source}
use Rattle.query.proofs.ask.answer_accepted.Goals as goal
use Rattle.query.proofs.ask.answer_accepted.Goals.{Start}

within : (s : Start) → WithinLimits s.args.question.now
within s =
    let a = s.args in
    let is = s.requires.asked in
    accepted-within (rule_of a.rule) a.question.now is.tree is.words (asked-parsed a.rule a.question.now is.tree is.words is.is).1

pub compile-compiled-requires-clause-room : goal.compile-compiled-requires-clause-room
compile-compiled-requires-clause-room c = let limits = within (goal.at.compile-compiled-requires-clause-room c).Start in omega arith

pub compile-compiled-requires-clause-few : goal.compile-compiled-requires-clause-few
compile-compiled-requires-clause-few c = let limits = within (goal.at.compile-compiled-requires-clause-few c).Start in omega arith

pub answer_codes-requires-clause-asked : goal.answer_codes-requires-clause-asked
answer_codes-requires-clause-asked c =
    let a = c.args in
    let over = c.requires.halves in
    let is = c.requires.asked in
    let made = c.compile-compiled.ensures in
    compiled-asked (made.codes, made.slots) over a.rule is.tree is.words is.is c.blank-row.ensures

pub answer_codes-requires-clause-short : goal.answer_codes-requires-clause-short
answer_codes-requires-clause-short c =
    let a = c.args in
    let over = c.requires.halves in
    let is = c.requires.asked in
    let made = c.compile-compiled.ensures in
    compiled-short (made.codes, made.slots) over a.rule is.tree is.words is.is refl

pub answer_codes-requires-clause-ready : goal.answer_codes-requires-clause-ready
answer_codes-requires-clause-ready c =
    let a = c.args in
    let over = c.requires.halves in
    let is = c.requires.asked in
    let made = c.compile-compiled.ensures in
    let of = halves-source a.halves a.over.main.now a.over.arrivals.now in
    record {
      source = of.0;
      last = of.1.last;
      tree = is.tree;
      ready = compiled-ready (made.codes, made.slots) over a.rule is.tree is.words is.is c.blank-row.ensures of.0 of.1;
    }

pub returns : goal.returns
returns c source of =
    let a = c.args in
    let is = c.requires.asked in
    let made = c.compile-compiled.ensures in
    listing-answers (satisfying source) is.is
    (c.answer_codes.ensures source of.last is.tree
    (compiled-ready (made.codes, made.slots) c.requires.halves a.rule is.tree is.words is.is c.blank-row.ensures source of))
