use Prim.Native.Nat.{◌<◌}
use native.Mathlib.Omega.{arith}
use mathlib.Core.Path.{ap, ◌∙◌}
use lib.ListN.{length}
use Rattle.question.specs.Token.{tokens}
use Rattle.question.specs.Limits.{token_words}
use Rattle.slots.proofs.CompileLaws.{NextWord, NextOther, next_word, next-other, next-none}
use Rattle.slots.proofs.CompileLaws.{compile-start, compile-other, compile-word, slot-left, codes-written, slots_filled}
use Rattle.slots.proofs.compile.compile.Given.{Over}
use Rattle.slots.proofs.compile.compile.Goals as goal
use Rattle.slots.proofs.compile.compile.Goals.{In-Word, In_default}

pub loop-start-init : goal.loop-start-init
loop-start-init g c =
    let a = c.args in
    compile-start g.C.AsCode.written a.halves a.over.main.now a.over.arrivals.now a.question.now a.codes.now a.row.now

pub returns-in-End-clause-codes : goal.returns-in-End-clause-codes
returns-in-End-clause-codes g c =
    let none = next-none c.next_token-token.ensures c.in-End.is in
    codes-written c.loop-start.invariant none c.requires.room

pub returns-in-End-clause-slots : goal.returns-in-End-clause-slots
returns-in-End-clause-slots g c =
    let none = next-none c.next_token-token.ensures c.in-End.is in
    slots_filled c.loop-start.invariant none

-- the word of a turn, and the slot that there is for it
word : (g : Over) (c : In-Word g) → NextWord c.args.question.now c.loop-start.at c.in-Word.start c.in-Word.end
word g c = next_word c.next_token-token.ensures c.in-Word.is

slot : (g : Over) (c : In-Word g) → c.loop-start.slots < length (token_words (tokens c.args.question.now))
slot g c = slot-left c.loop-start.invariant (word g c).words

pub fill_halves-requires-clause-slot : goal.fill_halves-requires-clause-slot
fill_halves-requires-clause-slot g c =
    let pre = c.requires in
    omega (arith, slot g (goal.at.fill_halves-requires-clause-slot g c).In-Word, pre.few)

pub loop-start-preserved-in-Word : goal.loop-start-preserved-in-Word
loop-start-preserved-in-Word g c =
    let filled = c.fill_halves.ensures in
    let found = word g (goal.at.loop-start-preserved-in-Word g c).In-Word in
    let pre = c.requires in
    compile-word c.loop-start.invariant pre.room found.coded c.of_code.ensures pre.both found.words filled.stand filled.others

-- the token of a turn that is neither a word nor the end
other : (g : Over) (c : In_default g) → NextOther c.args.question.now c.loop-start.at c.next_token-token.result
other g c = next-other c.next_token-token.ensures c.in_default.not-End c.in_default.not-Word

pub loop-start-preserved : goal.loop-start-preserved
loop-start-preserved g c =
    let found = other g (goal.at.loop-start-preserved g c).In_default in
    rw c.token_end-at.ensures (compile-other c.loop-start.invariant c.requires.room found.coded (c.of_code-in_default.ensures ∙ ap g.C.AsCode.written c.token_code.ensures) found.words)

pub slice_bounds-fill_halves-count : goal.slice_bounds-fill_halves-count
slice_bounds-fill_halves-count g c =
    let found = word g c in omega arith

pub slice_bounds-fill_halves-start : goal.slice_bounds-fill_halves-start
slice_bounds-fill_halves-start g c =
    let found = word g c in omega arith

pub slice_bounds-fill_halves-end : goal.slice_bounds-fill_halves-end
slice_bounds-fill_halves-end g c =
    let found = word g c in omega arith

pub overflow_add-slots : goal.overflow_add-slots
overflow_add-slots g c =
    let free = slot g (goal.at.overflow_add-slots g c).In-Word in omega arith

pub bounds-codes-count : goal.bounds-codes-count
bounds-codes-count g c =
    let found = word g (goal.at.bounds-codes-count g c).In-Word in omega arith

pub overflow_add-count : goal.overflow_add-count
overflow_add-count g c =
    let found = word g (goal.at.overflow_add-count g c).In-Word in omega arith

pub loop-start-smaller-in-Word : goal.loop-start-smaller-in-Word
loop-start-smaller-in-Word g c =
    let found = word g (goal.at.loop-start-smaller-in-Word g c).In-Word in omega arith

pub bounds-codes-count-in_default : goal.bounds-codes-count-in_default
bounds-codes-count-in_default g c =
    let found = other g (goal.at.bounds-codes-count-in_default g c).In_default in omega arith

pub overflow_add-count-in_default : goal.overflow_add-count-in_default
overflow_add-count-in_default g c =
    let found = other g (goal.at.overflow_add-count-in_default g c).In_default in omega arith

pub token_end-at-requires : goal.token_end-at-requires
token_end-at-requires g c =
    let found = other g (goal.at.token_end-at-requires g c).In_default in omega arith

pub loop-start-smaller : goal.loop-start-smaller
loop-start-smaller g c =
    let found = other g (goal.at.loop-start-smaller g c).In_default in omega (arith, c.token_end-at.ensures)
