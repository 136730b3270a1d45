-- Reference 6.3: the two rules by which what stands in a row is grouped, and their numbers.
use Rattle.std.specs.Prelude.{ℕ, Bool, cond, ◌||◌, List, [], ◌∷◌, eqb}
use Rattle.word.specs.declared.Op.TheVariants.{And, Or, Not}
use Rattle.question.specs.Grammar.{Tree, pair, Link, link, Rule, from_left}

-- Reference 6.3, rule 2: the first group of a row, all that stands before its first `or`, grouped from the left
unfoldable pub first_group : Tree → List Link → Tree
first_group first [] = first
first_group first (link And operand ∷ links) = first_group (pair And first operand) links
first_group first (link Not operand ∷ links) = first_group (pair Not first operand) links
first_group first (link Or operand ∷ links) = first

-- Reference 6.3, rule 2: behind each `or` the group that stands between it and the next one
unfoldable pub later_groups : List Link → List Link
later_groups [] = []
later_groups (link And operand ∷ links) = later_groups links
later_groups (link Not operand ∷ links) = later_groups links
later_groups (link Or operand ∷ links) = link Or (first_group operand links) ∷ later_groups links

-- Reference 6.3, rule 2: the groups, grouped from the left
unfoldable pub and_first : Rule
and_first first links = from_left (first_group first links) (later_groups links)

-- Reference 6.3: the numbers of the rules
abbrev pub is_rule : ℕ → Bool
is_rule n = eqb n 1 || eqb n 2

-- Reference 6.3: the rule of a number
abbrev pub rule_of : ℕ → Rule
rule_of n = cond (eqb n 2) and_first from_left
