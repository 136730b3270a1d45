-- Reference 11: a contract leaves one outcome for every input, a refusal or not: one return, and one content of what is lent.
use Rattle.std.specs.Prelude.{ℕ, ◌≡◌, List}

-- Reference 11: of a call that writes nothing any two returns that its contract allows are equal
abbrev pub OneReturn : {R : Type 0} → (R → Type 0) → Type 0
OneReturn {R} allows = (r s : R) → allows r → allows s → r ≡ s

-- Reference 11: of a call that is lent cells or bytes to write so are any two returns, and what is lent afterwards
abbrev pub OneOutcome : {R : Type 0} → (List ℕ → R → Type 0) → Type 0
OneOutcome {R} allows = (a b : List ℕ) (r s : R) → allows a r → allows b s → (r ≡ s) × (a ≡ b)
