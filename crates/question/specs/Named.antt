-- Reference 6.3: the rule that a number names, and refusal 22 of a number that names none.
use Rattle.std.specs.Prelude.{ℕ, ◌≡◌, cond, eqb, Result, Ok, Err}
use Rattle.refusal.specs.declared.Refusal.{Refusal}
use Rattle.refusal.specs.declared.Refusal.TheVariants.{RuleNumber}
use Rattle.question.specs.declared.rule.Rule.{Rule}
use Rattle.question.specs.declared.rule.Rule.TheVariants.{FromLeft, AndFirst}

abbrev pub named : ℕ → Result Rule Refusal
named n = cond (eqb n 1) (Ok FromLeft) (cond (eqb n 2) (Ok AndFirst) (Err (RuleNumber n)))

abbrev pub IsNamed : ℕ → Result Rule Refusal → Type 0
IsNamed n r = r ≡ named n
