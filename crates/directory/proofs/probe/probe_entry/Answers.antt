-- An entry that is not refused is one of a sound index.
use mathlib.Core.Path.{sym, ◌∙◌}
use Rattle.directory.proofs.AnswerLaws.{entry-good}
use Rattle.directory.proofs.probe.probe_entry.Goals as goal

pub probe_sound-requires : goal.probe_sound-requires
probe_sound-requires c = entry-good c.args.index.now c.args.entry (sym c.entry_refusal.ensures ∙ c.in_ok-entry_refusal.was)
