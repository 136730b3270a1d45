-- At first no sense says anything.
use mathlib.Core.Path.{refl}
use Rattle.slots.specs.Having.{having}
use Rattle.slots.proofs.RowLaws.{stay-both, stay-having, read_again}
use Rattle.senses.proofs.KeptSenses.{sensed-none}
use Rattle.query.proofs.drive.sweep_question.Goals as goal

pub sweep-requires-clause-lends : goal.sweep-requires-clause-lends
sweep-requires-clause-lends g c =
    let by = c.requires.asked in
    let stays = c.forget_senses.ensures.slots in
    read_again by.lent stays

pub sweep-requires-clause-window : goal.sweep-requires-clause-window
sweep-requires-clause-window g c = refl

pub sweep-requires-clause-ends : goal.sweep-requires-clause-ends
sweep-requires-clause-ends g c =
    let a = c.args in
    let stays = c.forget_senses.ensures.slots in
    let same = stay-having a.over.main.now a.over.arrivals.now stays in
    rw same c.requires.ends

pub sweep-requires-clause-slotted : goal.sweep-requires-clause-slotted
sweep-requires-clause-slotted g c =
    let a = c.args in
    let by = c.requires.asked in
    let stays = c.forget_senses.ensures.slots in
    let same = stay-having a.over.main.now a.over.arrivals.now stays in
    let none = sensed-none (having a.over.main.now a.over.arrivals.now a.row.now) 16 1 in
    rw (same, c.forget_senses.ensures.senses) (record { few = by.few; all = by.all; sensed = none })

pub sweep-requires-clause-room : goal.sweep-requires-clause-room
sweep-requires-clause-room g c =
    let a = c.args in
    let stays = c.forget_senses.ensures.slots in
    let same = stay-having a.over.main.now a.over.arrivals.now stays in
    rw same c.requires.room

pub returns-clause-slots : goal.returns-clause-slots
returns-clause-slots g c =
    let swept = c.sweep.ensures in
    let stays = c.forget_senses.ensures.slots in
    stay-both stays swept.slots

pub returns-clause-tallies : goal.returns-clause-tallies
returns-clause-tallies g c =
    let swept = c.sweep.ensures in
    let a = c.args in
    let stays = c.forget_senses.ensures.slots in
    rw (stay-having a.over.main.now a.over.arrivals.now stays) at swept.tallies
