-- `lvs_grammar::types::meaning_of` meets its contract: a type that is none of the table's is unknown. Assumes nothing.
use Rattle.std.proofs.Common.{◌∙◌, rules}
use Rattle.lvs_spec.specs.Grammar.{known_types}
use Rattle.lvs_grammar.proofs.Apart.{unknown_type}
use Rattle.lvs_grammar.proofs.types.meaning_of.Goals as goal

pub returns-in_default : goal.returns-in_default
unfolding known_types
returns-in_default c = c.unknown_type.ensures ∙ search (rules, unknown_type)
