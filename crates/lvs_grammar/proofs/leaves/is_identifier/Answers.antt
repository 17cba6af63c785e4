-- `lvs_grammar::leaves::is_identifier` meets its contract: the first byte is a letter, and the iterator has tested the others. Assumes nothing.
use Rattle.std.proofs.Common.{◌∙◌, sym, rules}
use borrow.Author.Tests.{tests}
use Rattle.std.proofs.lemmas.Iterator.{YieldsList-from_slice}
use Rattle.std.proofs.lemmas.Iterator.Search.{all_from_yields_List}
use Rattle.lvs_spec.specs.Leaves.{letter_or_digit}
use Rattle.lvs_grammar.proofs.PlainBytes.{identifier_empty, identifier_some}
use Rattle.lvs_grammar.proofs.leaves.is_identifier.Goals as goal

pub returns-in-empty : goal.returns-in-empty
returns-in-empty c = sym (identifier_empty _ c.in-empty.len_below)

pub returns-then-is_letter : goal.returns-then-is_letter
returns-then-is_letter c =
    all_from_yields_List letter_or_digit _ _ _ c.all.ensures.ran (YieldsList-from_slice _ c.iter.ensures.rest) (λ x b q k. search (rules, tests))
    ∙ sym (identifier_some _ c.in-len1-up.len_at_least ∙ rw (sym c.is_letter.ensures ∙ c.if-is_letter.true))

pub returns-else-is_letter : goal.returns-else-is_letter
returns-else-is_letter c = c.if-is_letter.false ∙ sym (identifier_some _ c.in-len1-up.len_at_least ∙ rw (sym c.is_letter.ensures ∙ c.if-is_letter.false))
