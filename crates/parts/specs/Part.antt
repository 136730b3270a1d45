-- Parts of bytes, between bytes b; a line is the part that ends at byte 10.
use Rattle.std.specs.Prelude.{ℕ, suc, cond, List, [], ◌∷◌, eqb}

-- Reference 10: how many bytes stand before the next b, or before the end
unfoldable pub part_length : ℕ → List ℕ → ℕ
part_length b [] = 0
part_length b (x ∷ xs) = cond (eqb x b) 0 (suc (part_length b xs))

-- Reference 10: a byte before the parts behind it belongs to the first of them
abbrev pub onto : ℕ → List (List ℕ) → List (List ℕ)
onto x [] = (x ∷ []) ∷ []
onto x (part ∷ parts) = (x ∷ part) ∷ parts

-- Reference 10: the parts; bytes behind the last b are one more, and nothing there is none
unfoldable pub parts_of : ℕ → List ℕ → List (List ℕ)
parts_of b [] = []
parts_of b (x ∷ xs) = cond (eqb x b) ([] ∷ parts_of b xs) (onto x (parts_of b xs))
