-- The elements that the filter lets through are counted. Assumes nothing.
use Rattle.std.proofs.Common.{◌≤◌, ◌∙◌, length, ap, inl, rules, arith}
use Rattle.std.proofs.lemmas.Iterator.Consumers.{YieldsList-from_first, YieldsList-from_filter, count_from_yields_List}
use borrow.Author.Tests.{tests}
use Rattle.tlv.specs.Element.{Element}
use Rattle.tlv.specs.Answers.{element_of, elements_left}
use Rattle.lvs_describe.specs.Sorts.{is_of}
use Rattle.lvs_describe.proofs.Loops.{elements_most, items_filtered}
use Rattle.lvs_describe.proofs.rows.count_items.Goals as goal

pub count-requires-clause-fits : goal.count-requires-clause-fits
count-requires-clause-fits c =
    let few : length (elements_left c.filter.result.iter) ≤ length c.args.s.now =
    rw (ap elements_left c.filter.ensures.source ∙ c.of.ensures.left) (elements_most _) in
    inl (omega (arith, few))

pub returns : goal.returns
returns c =
    count_from_yields_List _ _ c.count.ensures.ran
    (YieldsList-from_filter _ (λ (e : Element). is_of c.args.sort e.type)
    (YieldsList-from_first element_of elements_left _ (ap elements_left c.filter.ensures.source ∙ c.of.ensures.left))
    c.filter.ensures.closure (λ x b q k. search (rules, tests)))
    ∙ items_filtered c.args.sort _
