-- What the passes of a build answer and hold, each by the definitions that the build goes by.
use Rattle.std.specs.Prelude.{ℕ, ◌+◌, ◌-◌, ◌*◌, ◌≤◌, ◌<◌, ◌≡◌, false, List, length, get_or, Option, Some, None, Result, Ok, Err}
use Rattle.std.proofs.lemmas.List.Edits.{sets}
use Rattle.limits.specs.Limits.{index_max, record_max, words_max}
use Rattle.refusal.specs.declared.Refusal.{Refusal}
use Rattle.refusal.specs.declared.Refusal.TheVariants.{BuildWord}
use Rattle.refusal.specs.First.{first}
use Rattle.convert.specs.Convert.{bad_number_of}
use Rattle.index.specs.Format.{part}
use Rattle.layout.specs.declared.entry.Spots.{Spots}
use Rattle.build.specs.Lent.{lent_words, sum_to, bad_count, bad_rest, lists_from}
use Rattle.build.specs.Build.{lent_of, index_from}
use Rattle.layout.specs.Layout.{lists_bytes, words_bytes, directory_bytes}

-- the first bad word is refused, or how many words there are
abbrev pub words_answer : Option ℕ → ℕ → Result ℕ Refusal
words_answer (Some i) count = Err (BuildWord i)
words_answer None count = Ok count

-- every count is good, and they take all numbers
pub record Fair (counts : List ℕ) (total : ℕ) : Type 0 where
  pub each : first (bad_count counts total) (length counts) ≡ None
  pub all : bad_rest counts total (length counts) ≡ false

-- the list of each count lies within the numbers, and ascends
pub record Lists (counts numbers : List ℕ) : Type 0 where
  pub room : (i : ℕ) → i < length counts → sum_to counts i + get_or counts i 0 ≤ length numbers
  pub good : (i : ℕ) → i < length counts → bad_number_of (part (sum_to counts i) (get_or counts i 0) numbers) ≡ None

-- Reference 9.2: nothing that is lent is refused; how many words there are then, and how long their bytes and the index
pub record GoodLent (n : ℕ) (words counts numbers : List ℕ) : Type 0 where
  pub good : lent_of n words counts numbers ≡ Ok tt
  pub few : length counts ≤ words_max
  pub as_many : length (lent_words words) ≡ length counts
  pub lists : Lists counts numbers
  pub bytes : length (words_bytes (lent_words words)) + length counts ≡ length words
  pub size : length (index_from n words counts numbers)
      ≡ length (lists_bytes record_max (lists_from counts numbers)) + (length words - length counts) + 20 * length counts + 20

-- words with their lists: all lists, all words' bytes and all entries, each behind the other
abbrev pub all_entered : List ℕ → Spots → List (List ℕ) → List (List ℕ) → List ℕ
all_entered out at ws xss =
    sets (sets (sets out at.list (lists_bytes record_max xss)) at.word (words_bytes ws)) at.entry (directory_bytes record_max at.word at.list ws xss)

-- the same of what is lent
abbrev pub lent_entered : List ℕ → Spots → List ℕ → List ℕ → List ℕ → List ℕ
lent_entered out at words counts numbers = all_entered out at (lent_words words) (lists_from counts numbers)

pub record AllWithin (at : Spots) (ws xss : List (List ℕ)) (room : ℕ) : Type 0 where
  pub lists : at.list + length (lists_bytes record_max xss) ≤ at.word
  pub words : at.word + length (words_bytes ws) ≤ at.entry
  pub entries : at.entry + 20 * length ws ≤ room
  pub small : at.entry + 20 * length ws ≤ index_max
  pub as_many : length xss ≡ length ws
