-- Texts: `/` is byte 10, `\` before two hexadecimal digits is their byte, and every other byte is itself.
use Rattle.std.specs.Prelude.{ℕ, ◌+◌, ◌*◌, ◌/◌, ◌%◌, ◌<◌, ◌≤◌, ◌≡◌, cond, List, [], ◌∷◌, eqb, length, drop}

abbrev pub plain : ℕ → ℕ
plain b = cond (eqb b 47) 10 b

-- a hexadecimal digit's number: a letter is 9 above its last four bits
abbrev pub nibble : ℕ → ℕ
nibble b = (b % 16 + b / 64 * 9) % 16

unfoldable pub text_of : List ℕ → List ℕ
text_of [] = []
text_of (x ∷ []) = plain x ∷ []
text_of (x ∷ y ∷ []) = plain x ∷ text_of (y ∷ [])
text_of (x ∷ y ∷ z ∷ r) = cond (eqb x 92) ((16 * nibble y + nibble z) ∷ text_of r) (plain x ∷ text_of (y ∷ z ∷ r))

-- the first byte that a text says from i on, and where it goes on
pub record Spells (s : List ℕ) (i byte next : ℕ) : Type 0 where
  pub text : text_of (drop i s) ≡ byte ∷ text_of (drop next s)
  pub further : i < next
  pub within : next ≤ length s
