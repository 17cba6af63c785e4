-- `lvs_certificates::first_allowed`: none of the entries so far may sign, and those that are left are fit.
use Rattle.lvs_spec.specs.Model.{model_of}
use Rattle.lvs_spec.specs.Certificates.{entries, allows}
use Rattle.lvs_certificates.specs.Left.{entries_left}
use Rattle.lvs_certificates.proofs.Searches.{Sought}
use Rattle.lvs_certificates.proofs.first_allowed.Given as goal

abbrev pub invariant-loop-index : goal.invariant-loop-index
invariant-loop-index l =
    Sought (allows (model_of l.nodes.model.now) l.packet) (entries l.list) l.index-iterator.count (entries_left l.index-iterator.iter)
