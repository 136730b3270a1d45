-- The lists that are lent, one after the other: the next one and those behind it; and that no limit above their numbers changes what they are written as.
use Rattle.std.specs.Prelude.{None}
use mathlib.Core.Path.{◌≡◌, refl, sym, ap, ◌∙◌}
use Prim.Native.Nat.{ℕ, suc, ◌+◌, ◌-◌, ◌≤◌, ◌<◌}
use native.Mathlib.Omega.{arith}
use mathlib.Core.List.{List, [], ◌∷◌, ◌++◌}
use lib.ListN.{length, get_or, take, drop, length-append}
use lib.Seq.{drop-drop}
use Rattle.laws.proofs.Lists.{drop-next, drop-none}
use Rattle.limits.specs.Limits.{record_max}
use Rattle.convert.specs.Convert.{bad_number_of}
use Rattle.list.proofs.RecordLaws.{Ascends}
use Rattle.convert.proofs.NumberLaws.{ascends-good}
use Rattle.convert.proofs.RunLaws.{runs-cells}
use Rattle.index.proofs.SoundLaws.{part_length}
use Rattle.build.specs.Lent.{sum_to, lists_from}
use Rattle.layout.specs.Layout.{kept_bytes, cells_in, lists_bytes, entry_bytes, directory_bytes}
use Rattle.build.specs.Passes.{Lists}
use Rattle.build.proofs.CountLaws.{list-part}

-- ---- the next list

pub lists-next : (counts numbers : List ℕ) (i start : ℕ) {end : ℕ} → i < length counts → end ≡ start + get_or counts i 0 →
    lists_from (drop i counts) (drop start numbers) ≡ take (end - start) (drop start numbers) ∷ lists_from (drop (i + 1) counts) (drop end numbers)
unfolding lists_from
lists-next counts numbers i start {end} h e =
    let f : end - start ≡ get_or counts i 0 = omega arith in
    rw (drop-next counts i h, f, drop-drop (get_or counts i 0) start numbers, ← e)

module _ {counts numbers : List ℕ} (is : Lists counts numbers) (i : ℕ) {start end : ℕ} (h : i < length counts) (s : start ≡ sum_to counts i)
    (e : end ≡ start + get_or counts i 0) where
  pub list-good : bad_number_of (take (end - start) (drop start numbers)) ≡ None
  list-good = rw (list-part counts numbers i start end s e) (is.good i h)

  pub list-long : length (take (end - start) (drop start numbers)) ≡ get_or counts i 0
  list-long = ap length (list-part counts numbers i start end s e) ∙ part_length (sum_to counts i) (get_or counts i 0) numbers (is.room i h)

  pub list-within : end ≤ length numbers
  list-within = omega (arith, is.room i h)

pub lists-none : (counts numbers : List ℕ) (i : ℕ) → length counts ≤ i → lists_from (drop i counts) numbers ≡ []
unfolding lists_from
lists-none counts numbers i h = rw (drop-none counts i h)

pub lists-bytes-next : (n : ℕ) (xs : List ℕ) (xss : List (List ℕ)) →
    length (lists_bytes n (xs ∷ xss)) ≡ length (kept_bytes (cells_in n xs)) + length (lists_bytes n xss)
unfolding lists_bytes
lists-bytes-next n xs xss = length-append (kept_bytes (cells_in n xs)) (lists_bytes n xss)

pub lists-bytes-none : (n : ℕ) → length (lists_bytes n []) ≡ 0
unfolding lists_bytes
lists-bytes-none n = refl

-- ---- no limit above the numbers is seen

pub ascends-more : (n m p : ℕ) (xs : List ℕ) → n ≤ m → Ascends n p xs → Ascends m p xs
ascends-more n m p [] h a = tt
ascends-more n m p (x ∷ xs) h a = (a.0, omega (arith, a.1), ascends-more n m x xs h a.2)

module _ (n : ℕ) (h : n ≤ record_max) where
  cells-limit : (xs : List ℕ) → Ascends n 0 xs → cells_in n xs ≡ cells_in record_max xs
  cells-limit xs a = sym (runs-cells n xs (ascends-good n xs a)) ∙ runs-cells record_max xs (ascends-good record_max xs (ascends-more n record_max 0 xs h a))

  pub lists-limit : (xss : List (List ℕ)) → ((i : ℕ) → i < length xss → Ascends n 0 (get_or xss i [])) → lists_bytes n xss ≡ lists_bytes record_max xss
  unfolding lists_bytes
  lists-limit [] f = refl
  lists-limit (xs ∷ xss) f = rw (cells-limit xs (f 0 (omega arith)), lists-limit xss (λ i g. f (suc i) (omega arith)))

  pub directory-limit : (a b : ℕ) (ws xss : List (List ℕ)) → ((i : ℕ) → i < length xss → Ascends n 0 (get_or xss i [])) →
      directory_bytes n a b ws xss ≡ directory_bytes record_max a b ws xss
  unfolding directory_bytes
  directory-limit a b [] xss f = refl
  directory-limit a b (w ∷ ws) [] f = refl
  directory-limit a b (w ∷ ws) (xs ∷ xss) f =
      let c = cells_in record_max xs in
      rw (cells-limit xs (f 0 (omega arith)))
      (ap (λ (r : List ℕ). entry_bytes a w b c ++ r) (directory-limit (a + length w) (b + length (kept_bytes c)) ws xss (λ i g. f (suc i) (omega arith))))
