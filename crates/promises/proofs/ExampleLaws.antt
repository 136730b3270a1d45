-- The example's index is sound, and so is one that holds `AND`: computed. That one is found by a lookup there, and no question can name it.
use Rattle.std.specs.Prelude.{Ok}
use mathlib.Core.Path.{◌≡◌, refl}
use Rattle.word.specs.Word.{is_word_byte, all_word_bytes, same, before, small_letter, small_operator_of, operator_of, is_small_operator, is_word}
use Rattle.refusal.specs.declared.Refusal.TheVariants.{Grammar}
use Rattle.refusal.specs.First.{first_from, first}
use Rattle.list.specs.Interval.{proper_from, is_proper}
use Rattle.list.specs.Cell.{numbers_in}
use Rattle.list.specs.Kept.{walk_from, walked, are_longer, is_kept}
use Rattle.index.specs.Format.{entry_place, word_start, word_length, list_start, single_count, pair_count, list_length, words_end, lists_end, word_of}
use Rattle.index.specs.Format.{singles_of, lower_of, upper_of}
use Rattle.index.specs.Sound.{bad_length, bad_edition, bad_trailer, bad_directory, bad_word, bad_entry, bad_end, bad_list}
use Rattle.index.specs.Check.{contents_of, check_of}
use Rattle.directory.specs.Standing.{standing_of}
use Rattle.directory.specs.Entry.{lookup_of}
use Rattle.question.specs.Token.{run, gather, tokens_at, tokens}
use Rattle.question.specs.Grammar.{from_left, question, operand, links, whole}
use Rattle.question.specs.Reading.{is_foreign, refusal_of, refuses, parsed, asked}
use Rattle.promises.specs.Example.{example, capitals, holding}

sound : (check_of example ≡ (Ok tt)) × (check_of holding ≡ (Ok tt))
unfolding is_word_byte all_word_bytes same before small_operator_of is_small_operator is_word first_from first proper_from is_proper numbers_in walk_from walked are_longer is_kept entry_place word_start word_length list_start single_count pair_count list_length words_end lists_end word_of singles_of lower_of upper_of bad_length bad_edition bad_trailer bad_directory bad_word bad_entry bad_end bad_list contents_of check_of
sound = (refl, refl)

pub example-good : check_of example ≡ (Ok tt)
example-good = sound.0

pub holding-good : check_of holding ≡ (Ok tt)
holding-good = sound.1

pub holding-found : lookup_of holding capitals ≡ Ok 0
unfolding lookup_of standing_of first_from first same entry_place word_start word_length word_of
holding-found = rw holding-good

pub holding-unasked : asked 1 capitals ≡ refuses (Grammar 0)
unfolding is_word_byte same small_letter small_operator_of operator_of first_from first run gather tokens_at tokens from_left question operand links whole is_foreign refusal_of parsed asked
holding-unasked = refl
