-- The code's refusals as those of the format: each one's number, and where.
use Rattle.std.specs.Prelude.{ℕ, ◌+◌}
use Rattle.lvs_spec.specs.Answers.{Refusal, plain}
use Rattle.lvs_spec.specs.declared.refusal.Refusal.{Refusal as Refused}
use Rattle.lvs_spec.specs.declared.refusal.Refusal.TheVariants as refused
use Rattle.lvs_spec.specs.declared.refusal.Rule.{Rule}
use Rattle.lvs_spec.specs.declared.refusal.Rule.TheVariants as rule
use Rattle.lvs_spec.specs.declared.refusal.NameFault.{NameFault}
use Rattle.lvs_spec.specs.declared.refusal.NameFault.TheVariants.{TooLong, Malformed, ManyComponents}
use Rattle.lvs_spec.specs.declared.refusal.Side.{Side}
use Rattle.lvs_spec.specs.declared.refusal.Side.TheVariants.{Packet, Key}

abbrev pub rule_number : Rule → ℕ
rule_number rule.ManyNodes = 4
rule_number rule.TagRange = 5
rule_number rule.OwnId = 6
rule_number rule.StartId = 7
rule_number rule.Destination = 8
rule_number rule.Signer = 9
rule_number rule.OneTerm = 10
rule_number rule.Parent = 11
rule_number rule.Call = 12
rule_number rule.Root = 13
rule_number rule.Parallel = 14

-- the first of a name's three refusals
abbrev pub first_refusal : Side → ℕ
first_refusal Packet = 21
first_refusal Key = 24

abbrev pub name_number : Side → NameFault → ℕ
name_number side TooLong = first_refusal side
name_number side Malformed = first_refusal side + 1
name_number side ManyComponents = first_refusal side + 2

abbrev pub refusal_of : Refused → Refusal
refusal_of refused.TooLong = plain 1
refusal_of (refused.Malformed place) = record { number = 2; at = place }
refusal_of refused.OtherVersion = plain 3
refusal_of (refused.Rule r node) = record { number = rule_number r; at = node }
refusal_of (refused.Name side fault) = plain (name_number side fault)
refusal_of refused.ShortWords = plain 27
refusal_of refused.NoDescription = plain 30
refusal_of refused.ShortOutput = plain 31
refusal_of (refused.UnfitCertificate index) = record { number = 32; at = index }
refusal_of refused.ManyCertificates = plain 33
refusal_of refused.ShortPath = plain 34
