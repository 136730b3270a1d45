-- A checked index is sound.
use mathlib.Core.Path.{sym, ◌∙◌}
use Rattle.index.proofs.CheckLaws.{good-sound}
use Rattle.directory.proofs.entry.entry_refusal.Goals as goal

pub word_count-requires : goal.word_count-requires
word_count-requires c = good-sound c.args.index.now (sym c.check_index.ensures ∙ c.in_ok-check_index.was)
