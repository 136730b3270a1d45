-- An entry that is not refused is one of a sound index.
use mathlib.Core.Path.{sym, ◌∙◌}
use borrow.Author.Rules.{rules}
use Rattle.directory.proofs.AnswerLaws.{entry-good}
use Rattle.directory.proofs.entry.entry_word.Goals as goal

pub word_of-requires : goal.word_of-requires
word_of-requires c =
    let e = entry-good c.args.index.now c.args.entry (sym c.entry_refusal.ensures ∙ c.in-Ok.is) in
    search rules
