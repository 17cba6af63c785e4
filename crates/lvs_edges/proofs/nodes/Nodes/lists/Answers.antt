-- `lvs_edges::nodes::Nodes::lists` meets its contract. Assumes nothing.
use Rattle.std.proofs.Common.{rules, tests, Bool, sym, ap, ◌∙◌, eqb, ◌&&◌}
use Rattle.std.proofs.lemmas.Iterator.Consumers.{YieldsList-from_first}
use Rattle.std.proofs.lemmas.Iterator.Search.{any_from_yields_List}
use Rattle.tlv.specs.Element.{Element}
use Rattle.tlv.specs.Lists.{member}
use Rattle.tlv.specs.Answers.{element_of, elements_left}
use Rattle.tlv.specs.Fields.{elements, integers, number_of}
use Rattle.tlv.proofs.Iterated.{any_same, any_insides, eqb_sym}
use Rattle.lvs_spec.specs.Types as type
use Rattle.lvs_spec.specs.Walk.{lists}
use Rattle.lvs_edges.proofs.nodes.Nodes.lists.Goals as goal

pub returns : goal.returns
unfolding lists integers
returns c =
    let b = c.body.result.now in
    let listed : Element → Bool = λ e. eqb e.type type.SignConstraint && eqb c.args.signer (number_of e.inside) in
    any_from_yields_List listed c.any.new.self _ _ c.any.ensures.ran
    (YieldsList-from_first element_of elements_left {s = c.of.result} (elements b) c.of.ensures.left) (λ x b q k. search (rules, tests, eqb_sym))
    ∙ any_same listed (elements b) ∙ sym (any_insides (eqb c.args.signer) number_of type.SignConstraint b)
    ∙ ap (λ x. member c.args.signer (integers type.SignConstraint x)) c.body.ensures ∙ ap (member c.args.signer) (c.args.self.now.read.signers_are c.args.node)
