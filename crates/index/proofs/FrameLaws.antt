-- The rule of the trailer, test by test, and what an index that keeps it is known to be.
use Prim.Native.Nat.{ℕ, ◌+◌, ◌*◌, ◌≤◌, ◌<◌}
use mathlib.Core.Path.{◌≡◌}
use native.Mathlib.Omega.{arith}
use mathlib.Core.Bool.{true, false, not}
use mathlib.Core.List.{List}
use lib.Dec.{eqb}
use lib.ListN.{length}
use borrow.Author.Tests.{lt-ltb, le-ltb}
use Rattle.limits.specs.Limits.{index_max, record_max, words_max}
use Rattle.index.specs.declared.trailer.Trailer.{Trailer}
use Rattle.index.specs.Format.{words_start, directory_start, word_count, highest, edition, entry_size}
use Rattle.index.specs.Read.{TrailerOf, Framed}
use Rattle.index.specs.Sound.{bad_trailer}
use Rattle.index.proofs.SoundLaws.{trailer-facts}

module _ (index : List ℕ) where
  pub trailer-highest : record_max < highest index → bad_trailer index ≡ true
  unfolding bad_trailer
  trailer-highest h = rw (lt-ltb record_max (highest index) h)

  pub trailer-count : highest index ≤ record_max → words_max < word_count index → bad_trailer index ≡ true
  unfolding bad_trailer
  trailer-count g h = rw (le-ltb record_max (highest index) g, lt-ltb words_max (word_count index) h)

  pub trailer-order : highest index ≤ record_max → word_count index ≤ words_max → directory_start index < words_start index → bad_trailer index ≡ true
  unfolding bad_trailer
  trailer-order f g h = rw (le-ltb record_max (highest index) f, le-ltb words_max (word_count index) g, lt-ltb (directory_start index) (words_start index) h)

  pub trailer-else : highest index ≤ record_max → word_count index ≤ words_max → words_start index ≤ directory_start index →
      bad_trailer index ≡ not (eqb (directory_start index + entry_size (edition index) * word_count index + 20) (length index))
  unfolding bad_trailer
  trailer-else f g h = rw (le-ltb record_max (highest index) f, le-ltb words_max (word_count index) g, le-ltb (directory_start index) (words_start index) h)

pub framed : (index : List ℕ) (t : Trailer) → length index ≤ index_max → TrailerOf index t → bad_trailer index ≡ false → Framed index t
framed index t h is e =
    let f = trailer-facts index e in
    record { is = is; ordered = omega arith; whole = omega arith; long = h; highest = omega arith }
