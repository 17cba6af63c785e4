-- `lvs_constraints::Trial::constraints_hold` meets its contract. Assumes nothing.
use Rattle.std.proofs.Common.{rules, tests, Bool, sym, ◌∙◌, eqb, not, ◌||◌}
use Rattle.std.proofs.lemmas.Iterator.Consumers.{YieldsList-from_first}
use Rattle.std.proofs.lemmas.Iterator.Search.{all_from_yields_List}
use Rattle.tlv.specs.Element.{Element}
use Rattle.tlv.specs.Answers.{element_of, elements_left}
use Rattle.tlv.specs.Fields.{elements}
use Rattle.tlv.proofs.Iterated.{all_same}
use Rattle.lvs_spec.specs.Types as type
use Rattle.lvs_spec.specs.Model.{constraint_of}
use Rattle.lvs_spec.specs.Walk.{constraint_holds}
use Rattle.lvs_constraints.specs.Trials.{bindings, content}
use Rattle.lvs_constraints.proofs.Holds.{constraints_listed}
use Rattle.lvs_constraints.proofs.Trial.constraints_hold.Goals as goal

pub returns : goal.returns
returns c =
    let t = c.args.self.now in
    let holds : Element → Bool = λ e. not (eqb e.type type.Constraint) || constraint_holds (bindings t) (content t) (constraint_of e.inside) in
    all_from_yields_List holds c.all.new.self _ _ c.all.ensures.ran
    (YieldsList-from_first element_of elements_left {s = c.of.result} (elements c.args.s.now) c.of.ensures.left) (λ x b q k. search (rules, tests))
    ∙ all_same holds (elements c.args.s.now) ∙ sym (constraints_listed _ _ _)
