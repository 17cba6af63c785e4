-- A rule that the code found to be broken, as its number.
use Rattle.std.specs.Prelude.{ℕ, Option, Some, None}
use Rattle.lvs_spec.specs.Refusals.{rule_number}
use Rattle.lvs_spec.specs.declared.refusal.Rule.{Rule}
use Rattle.lvs_rules.specs.Lowest.{no_rule}

abbrev pub number : Option Rule → ℕ
number None = no_rule
number (Some r) = rule_number r
