-- The senses of all the words of each tree that the codes read as are known at x.
use Rattle.slots.specs.Having.{having}
use Rattle.query.proofs.TestLaws.{tree-steady}
use Rattle.query.proofs.drive.look_at.Goals as goal

pub renew_senses-requires-clause-lends : goal.renew_senses-requires-clause-lends
renew_senses-requires-clause-lends g c =
    let pre = c.requires in
    pre.lends

pub renew_senses-requires-clause-within : goal.renew_senses-requires-clause-within
renew_senses-requires-clause-within g c =
    let pre = c.requires in
    let slotted = pre.slotted in
    slotted.few

pub renew_senses-requires-clause-near : goal.renew_senses-requires-clause-near
renew_senses-requires-clause-near g c =
    let pre = c.requires in
    pre.near

pub renew_senses-requires-clause-sensed : goal.renew_senses-requires-clause-sensed
renew_senses-requires-clause-sensed g c =
    let pre = c.requires in
    let slotted = pre.slotted in
    slotted.sensed

pub returns-clause-slots : goal.returns-clause-slots
returns-clause-slots g c =
    let renewed = c.renew_senses.ensures in
    renewed.slots

pub returns-clause-sensed : goal.returns-clause-sensed
returns-clause-sensed g c =
    let renewed = c.renew_senses.ensures in
    renewed.sensed

pub returns-clause-steady : goal.returns-clause-steady
returns-clause-steady g c =
    let a = c.args in
    let renewed = c.renew_senses.ensures in
    λ t o. tree-steady o (having a.over.main.now a.over.arrivals.now a.row.now) a.slots a.x c.requires.slotted.all renewed.known
    c.look_level.ensures
