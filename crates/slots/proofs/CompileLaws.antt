-- Laws of the pass over a question's tokens: what is written so far, with what the tokens left come to, is the question's codes and words.
use Prim.Native.Nat.{ℕ, zero, suc, ◌+◌, ◌*◌, ◌≤◌, ◌<◌}
use native.Mathlib.Omega.{arith}
use native.Mathlib.Numerals.{add-one}
use native.Mathlib.Decide.{ℕ_discrete}
use mathlib.Core.Path.{◌≡◌, refl, sym, ap, ◌∙◌, subst}
use mathlib.Core.List.{List, [], ◌∷◌, ◌++◌, map, append_assoc, append-nil}
use lib.ListN.{length, get_or, take, drop, set, length-set, length-drop}
use lib.Seq.{take-suc-set}
use Rattle.laws.proofs.Tests.{leb-cases}
use Rattle.index.specs.Format.{word_count}
use Rattle.index.specs.Sound.{Sound}
use Rattle.directory.specs.declared.parts.Regions.{Regions}
use Rattle.directory.specs.Regions.{RegionsOf}
use Rattle.std.specs.Prelude.{Ok, Err}
use Rattle.directory.specs.Standing.{standing_of}
use Rattle.directory.proofs.StandingLaws.{stands_at, here-has, absent-has}
use Rattle.question.specs.declared.token.Token.{Token}
use Rattle.question.specs.declared.token.Token.TheVariants.{End, Word, Op, Open, Close, Other}
use Rattle.question.specs.Token.{cut, tokens_at, tokens}
use Rattle.question.specs.Next.{headed, TokenWithin, NextToken, end_of}
use Rattle.question.specs.Limits.{token_words}
use Rattle.codes.specs.declared.code.Code.{Code}
use Rattle.codes.specs.declared.code.Code.TheVariants as kind
use Rattle.codes.specs.Code.{codes_of, written_of, token_code}
use Rattle.slots.specs.declared.row.Entries.{Entries}
use Rattle.slots.specs.declared.row.Row.{Row}
use Rattle.slots.specs.Row.{no_entries, entries_at}
use Rattle.slots.specs.Having.{half_of}
use Rattle.slots.specs.Compile.{StandsFor, HalvesStand, HalvesAlone, WritesCodes, FillsSlots}
use Rattle.slots.proofs.EntriesLaws.{entry-lists, no-entry, one_entry}
use Rattle.slots.proofs.RowLaws.{none-among}

-- ---- the entries for a word

module _ (index : List ℕ) (sound : Sound index) (w : List ℕ) where
  pub here-below : (i : ℕ) → standing_of index w ≡ Ok i → i < word_count index
  here-below i e = (stands_at index sound w (Ok i) e).1

  pub entries-here : (i : ℕ) (r : Regions) → standing_of index w ≡ Ok i → RegionsOf index i r → StandsFor index w (record { first = i; count = 1; regions = r })
  entries-here i r e marks = record {
    among = record { within = omega (arith, here-below i e); marked = λ h. marks };
    have = λ x. one_entry index i x ∙ entry-lists index i x (here-below i e) ∙ sym (here-has index sound w i x e);
  }

  pub entries-absent : (p : ℕ) → standing_of index w ≡ Err p → StandsFor index w no_entries
  entries-absent p e = record { among = none-among index; have = λ x. no-entry index 0 x ∙ sym (absent-has index sound w p x e) }

-- ---- the next token

-- a token from `at` up to n puts its code before those behind it
pub record Coded (s : List ℕ) (at n : ℕ) (code : Code) : Type 0 where
  pub ahead : at < n
  pub inside : n ≤ length s
  pub codes : codes_of (tokens_at s at) ≡ code ∷ codes_of (tokens_at s n)

-- the word from p up to q, or a token that is neither a word nor the end, is the next one
pub record NextWord (s : List ℕ) (at p q : ℕ) : Type 0 where
  pub lies : TokenWithin at (length s) (Word p q)
  pub coded : Coded s at q kind.Word
  pub words : token_words (tokens_at s at) ≡ cut s p q ∷ token_words (tokens_at s q)

pub record NextOther (s : List ℕ) (at : ℕ) (t : Token) : Type 0 where
  pub coded : Coded s at (end_of t) (token_code t)
  pub words : token_words (tokens_at s at) ≡ token_words (tokens_at s (end_of t))

module _ {s : List ℕ} {at : ℕ} where
  pub next_word : {t : Token} {p q : ℕ} → NextToken s at t → t ≡ Word p q → NextWord s at p q
  unfolding codes_of token_words
  next_word {t} {p} {q} next e =
      let h : tokens_at s at ≡ headed s (Word p q) = next.heads ∙ ap (headed s) e in
      let w : TokenWithin at (length s) (Word p q) = subst (TokenWithin at (length s)) e next.lies in
      record { lies = w; coded = record { ahead = omega arith; inside = w.2; codes = rw h }; words = rw h }

  pub next-other : {t : Token} → NextToken s at t → ((p : ℕ) → t ≡ End p → ⊥) → ((p q : ℕ) → t ≡ Word p q → ⊥) → NextOther s at t
  unfolding codes_of token_words
  next-other {t} next = go t next.heads next.lies
    where
      go : (t : Token) → tokens_at s at ≡ headed s t → TokenWithin at (length s) t → ((p : ℕ) → t ≡ End p → ⊥) → ((p q : ℕ) → t ≡ Word p q → ⊥) → NextOther s at t
      go (End p) e w h h' = absurd (h p refl)
      go (Word p q) e w h h' = absurd (h' p q refl)
      go (Op o p q) e w h h' = record { coded = record { ahead = omega arith; inside = w.2; codes = rw e }; words = rw e }
      go (Open p) e w h h' = record { coded = record { ahead = omega arith; inside = omega arith; codes = rw e }; words = rw e }
      go (Close p) e w h h' = record { coded = record { ahead = omega arith; inside = omega arith; codes = rw e }; words = rw e }
      go (Other p) e w h h' = record { coded = record { ahead = omega arith; inside = omega arith; codes = rw e }; words = rw e }

  pub next-none : {t : Token} {p : ℕ} → NextToken s at t → t ≡ End p → tokens_at s at ≡ []
  next-none next e = next.heads ∙ ap (headed s) e

-- ---- codes and slots, one after the other

write-next : {A : Type 0} (codes left more all : List A) (n : ℕ) (v : A) → n < length codes → left ≡ v ∷ more → take n codes ++ left ≡ all →
    take (n + 1) (set codes n v) ++ more ≡ all
write-next {A} codes left more all n v h e w =
    rw (add-one n, take-suc-set codes n v h) (append_assoc (take n codes) (v ∷ []) more ∙ ap (λ (r : List A). take n codes ++ r) (sym e) ∙ w)

drop_head : (l : List (List ℕ)) (k : ℕ) (w : List ℕ) (r : List (List ℕ)) → drop k l ≡ w ∷ r → (k < length l) × (get_or l k [] ≡ w) × (drop (k + 1) l ≡ r)
drop_head [] zero w r e = absurd (let z : ◌≡◌ {A = ℕ} 0 1 = cc in omega arith)
drop_head [] (suc k) w r e = absurd (let z : ◌≡◌ {A = ℕ} 0 1 = cc in omega arith)
drop_head (v ∷ l) zero w r e = (omega arith, (cc), (cc))
drop_head (v ∷ l) (suc k) w r e =
    let i : suc k + 1 ≡ suc (k + 1) = omega arith in
    let h = drop_head l k w r e in
    (omega (arith, h.0), h.1, rw i h.2)

-- ---- the halves of a slot, one after the other

module _ (main arrivals word : List ℕ) (k : ℕ) where
  -- a range for one half more
  module _ (half : ℕ) {e : Entries} (slots₀ slots slots' : List Entries) (kept : entries_at slots' (2 * k + half) ≡ e)
      (others : (i : ℕ) → (i ≡ 2 * k + half → ⊥) → entries_at slots' i ≡ entries_at slots i) where
    pub halves-more : HalvesStand half main arrivals word k slots → StandsFor (half_of main arrivals half) word e →
        HalvesStand (half + 1) main arrivals word k slots'
    halves-more f new h l = go (ℕ_discrete h half)
      where
        go : Dec (h ≡ half) → StandsFor (half_of main arrivals h) word (entries_at slots' (2 * k + h))
        go (yes q) = rw (q, kept) new
        go (no q) = rw (others (2 * k + h) (λ r. q (omega arith))) (f h (leb-cases half h (λ g. absurd (q (omega arith))) (λ g. g)))

    pub alone-more : HalvesAlone half k slots₀ slots → HalvesAlone (half + 1) k slots₀ slots'
    alone-more f j free = others j (free half (omega arith)) ∙ f j (λ h l. free h (omega arith))

-- ---- the slots, one after the other

-- the halves of the first n slots stand for the words
abbrev Filled : ℕ → List ℕ → List ℕ → List (List ℕ) → List Entries → ℕ → Type 0
Filled halves main arrivals words slots n = (k : ℕ) → k < n → HalvesStand halves main arrivals (get_or words k []) k slots

-- and all other ranges stay
abbrev OthersStay : ℕ → List Entries → List Entries → ℕ → Type 0
OthersStay halves slots slots' n = (j : ℕ) → ((k half : ℕ) → k < n → half < halves → j ≡ 2 * k + half → ⊥) → entries_at slots' j ≡ entries_at slots j

module _ (halves n : ℕ) (both : halves ≤ 2) (slots slots' : List Entries) (others : HalvesAlone halves n slots slots') where
  filled_next : (main arrivals : List ℕ) (words : List (List ℕ)) → Filled halves main arrivals words slots n →
      HalvesStand halves main arrivals (get_or words n []) n slots' → Filled halves main arrivals words slots' (n + 1)
  filled_next main arrivals words f new k l half h = go (ℕ_discrete k n)
    where
      go : Dec (k ≡ n) → StandsFor (half_of main arrivals half) (get_or words k []) (entries_at slots' (2 * k + half))
      go (yes q) = rw q (new half h)
      go (no q) = rw (others (2 * k + half) (λ i g r. q (omega arith))) (f k (leb-cases n k (λ g. absurd (q (omega arith))) (λ g. g)) half h)

  others-next : (slots₀ : List Entries) → OthersStay halves slots₀ slots n → OthersStay halves slots₀ slots' (n + 1)
  others-next slots₀ s j free = others j (λ half h. free n half (omega arith) h) ∙ s j (λ k half l. free k half (omega arith))

-- ---- the pass

-- before the token at `at`
pub record Compiling {A : Type 0} (written : Code → A) (halves : ℕ) (main arrivals s : List ℕ) (codes₀ : List A) (row₀ : Row) (codes : List A) (row : Row) (count slots at : ℕ) : Type 0 where
  pub near : count ≤ at
  pub inside : at ≤ length s
  pub codes-long : length codes ≡ length codes₀
  pub coded : take count codes ++ written_of written (tokens_at s at) ≡ written_of written (tokens s)
  pub some : slots ≤ length (token_words (tokens s))
  pub left : drop slots (token_words (tokens s)) ≡ token_words (tokens_at s at)
  pub filled : Filled halves main arrivals (token_words (tokens s)) row.ranges slots
  pub others : OthersStay halves row₀.ranges row.ranges slots

pub compile-start : {A : Type 0} (written : Code → A) (halves : ℕ) (main arrivals s : List ℕ) (codes : List A) (row : Row) → Compiling written halves main arrivals s codes row codes row 0 0 0
unfolding tokens
compile-start written halves main arrivals s codes row = record {
  near = omega arith;
  inside = omega arith;
  codes-long = refl;
  coded = refl;
  some = omega arith;
  left = refl;
  filled = λ j h. absurd (omega arith);
  others = λ j free. refl;
}

module _ {A : Type 0} {written : Code → A} {halves : ℕ} {main arrivals s : List ℕ} {codes₀ : List A} {row₀ : Row} {codes : List A} {row : Row} {count slots at : ℕ}
    (c : Compiling written halves main arrivals s codes₀ row₀ codes row count slots at) where
  module _ {n : ℕ} {v : Code} {w : A} (room : length s ≤ length codes₀) (next : Coded s at n v) (is : w ≡ written v) where
    code-written : take (count + 1) (set codes count w) ++ written_of written (tokens_at s n) ≡ written_of written (tokens s)
    code-written =
        write-next codes (written_of written (tokens_at s at)) (written_of written (tokens_at s n)) (written_of written (tokens s)) count w (omega arith)
        (ap (map written) next.codes ∙ ap (λ (x : A). x ∷ written_of written (tokens_at s n)) (sym is)) c.coded

    pub compile-other : token_words (tokens_at s at) ≡ token_words (tokens_at s n) →
        Compiling written halves main arrivals s codes₀ row₀ (set codes count w) row (count + 1) slots n
    compile-other e = record {
      near = omega arith;
      inside = next.inside;
      codes-long = length-set codes count w ∙ c.codes-long;
      coded = code-written;
      some = c.some;
      left = c.left ∙ e;
      filled = c.filled;
      others = c.others;
    }

    -- the slot's halves are filled, and the row is row'
    pub compile-word : {bytes : List ℕ} {row' : Row} → halves ≤ 2 → token_words (tokens_at s at) ≡ bytes ∷ token_words (tokens_at s n) →
        HalvesStand halves main arrivals bytes slots row'.ranges → HalvesAlone halves slots row.ranges row'.ranges →
        Compiling written halves main arrivals s codes₀ row₀ (set codes count w) row' (count + 1) (slots + 1) n
    compile-word {bytes} {row'} both e stand others =
        let head = drop_head (token_words (tokens s)) slots bytes (token_words (tokens_at s n)) (c.left ∙ e) in
        record {
          near = omega arith;
          inside = next.inside;
          codes-long = length-set codes count w ∙ c.codes-long;
          coded = code-written;
          some = omega (arith, head.0);
          left = head.2;
          filled = filled_next halves slots both row.ranges row'.ranges others main arrivals (token_words (tokens s)) c.filled (rw head.1 stand);
          others = others-next halves slots both row.ranges row'.ranges others row₀.ranges c.others;
        }

  -- there is a slot for a word that is left
  pub slot-left : {w : List ℕ} {more : List (List ℕ)} → token_words (tokens_at s at) ≡ w ∷ more → slots < length (token_words (tokens s))
  slot-left {w} {more} is = (drop_head (token_words (tokens s)) slots w more (c.left ∙ is)).0

  module _ (e : tokens_at s at ≡ []) where
    pub codes-written : length s ≤ length codes₀ → WritesCodes written s codes₀ codes count
    unfolding codes_of
    codes-written room = record {
      long = c.codes-long;
      within = omega arith;
      coded = sym (append-nil (take count codes)) ∙ ap (λ (r : List A). take count codes ++ r) (sym (ap (written_of written) e)) ∙ c.coded;
    }

    pub slots_filled : FillsSlots halves main arrivals s row₀ row slots
    unfolding token_words
    slots_filled = record {
      count = omega (arith, length-drop slots (token_words (tokens s)), ap length (c.left ∙ ap token_words e));
      stand = c.filled;
      stay = c.others;
    }
