-- `lvs_constraints::Trial::constraint_holds` meets its contract. Assumes nothing.
use Rattle.std.proofs.Common.{rules, tests, Bool, sym, ◌∙◌, eqb, ◌&&◌}
use Rattle.std.proofs.lemmas.Iterator.Consumers.{YieldsList-from_first}
use Rattle.std.proofs.lemmas.Iterator.Search.{any_from_yields_List}
use Rattle.tlv.specs.Element.{Element}
use Rattle.tlv.specs.Answers.{element_of, elements_left}
use Rattle.tlv.specs.Fields.{elements}
use Rattle.tlv.proofs.Iterated.{any_same}
use Rattle.lvs_spec.specs.Types as type
use Rattle.lvs_spec.specs.Model.{option_of}
use Rattle.lvs_spec.specs.Walk.{option_holds}
use Rattle.lvs_constraints.specs.Trials.{bindings, content}
use Rattle.lvs_constraints.proofs.Holds.{constraint_listed}
use Rattle.lvs_constraints.proofs.Trial.constraint_holds.Goals as goal

pub returns : goal.returns
returns c =
    let t = c.args.self.now in
    let holds : Element → Bool = λ e. eqb e.type type.ConstraintOption && option_holds (bindings t) (content t) (option_of e.inside) in
    any_from_yields_List holds c.any.new.self _ _ c.any.ensures.ran
    (YieldsList-from_first element_of elements_left {s = c.of.result} (elements c.args.s.now) c.of.ensures.left) (λ x b q k. search (rules, tests))
    ∙ any_same holds (elements c.args.s.now) ∙ sym (constraint_listed _ _ _)
