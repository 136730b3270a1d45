use mathlib.Core.Path.{sym, ◌∙◌}
use native.Mathlib.Omega.{arith}
use Rattle.refusal.proofs.FirstLaws.{first-start, first-hit, first-miss, first-end}
use Rattle.index.specs.Format.{word_count}
use Rattle.index.specs.Sound.{bad_list}
use Rattle.index.proofs.RuleLaws.{told-bad, told-good, list-room}
use borrow.Author.Rules.{rules}
use Rattle.index.proofs.check.first_bad_list.Goals as goal

pub loop-k-init : goal.loop-k-init
loop-k-init c = (omega arith, let index = c.args.index.now in first-start (bad_list index) (word_count index))

pub list_good-requires : goal.list_good-requires
list_good-requires c =
    let at = c.loop-k in
    let index = c.args.index.now in
    let room = list-room index c.args.trailer at.k c.read_entry-entry.result c.requires.framed c.read_entry-entry.ensures
    (c.requires.entries at.k (omega arith)) in
    search rules

pub returns-then-not-list_good : goal.returns-then-not-list_good
returns-then-not-list_good c =
    let at = c.loop-k in
    let index = c.args.index.now in
    let rule = c.list_good.ensures at.k c.read_entry-entry.ensures c.requires.framed.is.highest in
    c.found.ensures ∙ sym (at.invariant.1 ∙ first-hit (bad_list index) at.k (word_count index) (omega arith) (told-bad _ _ rule c.if-not-list_good.true))

pub loop-k-preserved : goal.loop-k-preserved
loop-k-preserved c =
    let at = c.loop-k in
    let index = c.args.index.now in
    let rule = c.list_good.ensures at.k c.read_entry-entry.ensures c.requires.framed.is.highest in
    (omega arith, at.invariant.1 ∙ first-miss (bad_list index) at.k (word_count index) (omega arith) (told-good _ _ rule c.if-not-list_good.false))

pub returns : goal.returns
returns c =
    let index = c.args.index.now in
    let at = c.loop-k in
    sym (at.invariant.1 ∙ first-end (bad_list index) at.k (word_count index) (omega arith))
