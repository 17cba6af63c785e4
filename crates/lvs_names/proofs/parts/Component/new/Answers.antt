-- `lvs_names::Component::new` gives a component: a parameter's bytes fit. Assumes nothing.
use Rattle.lvs_names.proofs.Alone.{alone_test}
use Rattle.lvs_names.proofs.parts.Component.new.Goals as goal

pub invariant_of-result : goal.invariant_of-result
invariant_of-result c = record { fits = λ i. (c.type_inv.bytes i).fits; alone = alone_test c.requires }
