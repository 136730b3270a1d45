-- An entry that the index has lies in it; its place is what the entry says.
use mathlib.Core.Path.{sym, ◌∙◌}
use Rattle.directory.proofs.AnswerLaws.{entry-good}
use Rattle.naburain.proofs.naburain_word.Goals as goal

pub sound_entry-found-requires : goal.sound_entry-found-requires
sound_entry-found-requires c =
    let good = sym c.entry_refusal.ensures ∙ c.in-Ok.is in
    entry-good c.args.index.now c.args.entry good

pub returns-in-Ok : goal.returns-in-Ok
returns-in-Ok c =
    let good = sym c.entry_refusal.ensures ∙ c.in-Ok.is in
    let e = c.sound_entry-found.ensures.is in
    rw (good, e.word-start, e.word-length)

pub returns-in-Err : goal.returns-in-Err
returns-in-Err c =
    let bad = sym c.entry_refusal.ensures ∙ c.in-Err.is in
    rw (bad, c.number_of.ensures, c.value_of.ensures)
