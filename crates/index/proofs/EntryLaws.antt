-- The cells from where entry i starts are its fields.
use Prim.Native.Nat.{ℕ, ◌+◌, ◌*◌}
use mathlib.Core.Path.{◌≡◌}
use mathlib.Core.List.{List}
use Rattle.list.specs.Cell.{cell_at}
use Rattle.index.specs.Format.{directory_start, edition, entry_size, entry_place, word_start, word_length, list_start, single_count, pair_count}

module _ (index : List ℕ) (i at : ℕ) (e : at ≡ directory_start index + entry_size (edition index) * i) where
  pub entry-word-start : cell_at index at ≡ word_start index i
  unfolding word_start entry_place
  entry-word-start = rw e

  pub entry-word-length : cell_at index (at + 4) ≡ word_length index i
  unfolding word_length entry_place
  entry-word-length = rw e

  pub entry-list-start : cell_at index (at + 8) ≡ list_start index i
  unfolding list_start entry_place
  entry-list-start = rw e

  pub entry-singles : cell_at index (at + 12) ≡ single_count index i
  unfolding single_count entry_place
  entry-singles = rw e

  pub entry-pairs : cell_at index (at + 16) ≡ pair_count index i
  unfolding pair_count entry_place
  entry-pairs = rw e
