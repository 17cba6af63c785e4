-- `lvs_grammar::leaves::marked` meets its contract: the first byte is the mark, and the part after it an identifier. Assumes nothing.
use Rattle.std.proofs.Common.{◌∙◌, sym, eq-eqb, ne_eqb}
use Rattle.lvs_grammar.proofs.PlainBytes.{marked_empty, marked_some}
use Rattle.lvs_grammar.proofs.leaves.marked.Goals as goal

pub returns-in-empty : goal.returns-in-empty
returns-in-empty c = sym (marked_empty _ _ c.in-empty.len_below)

pub returns-then-first-mark : goal.returns-then-first-mark
returns-then-first-mark c =
    c.is_identifier.ensures ∙ sym (marked_some _ _ c.in-len1-up.len_at_least ∙ rw (eq-eqb _ _ c.if-first-mark.true))

pub returns-else-first-mark : goal.returns-else-first-mark
returns-else-first-mark c =
    ne_eqb _ _ c.if-first-mark.false ∙ sym (marked_some _ _ c.in-len1-up.len_at_least ∙ rw (ne_eqb _ _ c.if-first-mark.false))
