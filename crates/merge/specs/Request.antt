-- Reference 8.5: the request of a join, its lists, and what it has where it is not refused.
use Rattle.std.specs.Prelude.{ℕ, ◌≤◌, ◌<◌, List, [], ◌∷◌, length, get_or}
use Rattle.limits.specs.Limits.{join_max}
use Rattle.index.specs.Format.{word_count, list_of}
use Rattle.index.specs.Sound.{Sound}

-- Reference 8.5: what a request that is not refused has, 1 to 16 entries of a sound index
pub record SoundRequest (index entries : List ℕ) : Type 0 where
  pub sound : Sound index
  pub some : 1 ≤ length entries
  pub few : length entries ≤ join_max
  pub below : (j : ℕ) → j < length entries → get_or entries j 0 < word_count index

-- Reference 8.5: the lists of the entries asked for
unfoldable pub lists_of : List ℕ → List ℕ → List (List ℕ)
lists_of index [] = []
lists_of index (e ∷ es) = list_of index e ∷ lists_of index es
