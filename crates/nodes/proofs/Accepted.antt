-- Of a model that the verdict accepts, the count of its Nodes is the number that the verdict gives. Assumes nothing.
use mathlib.Core.Path.{◌≡◌, sym, ap, ◌∙◌}
use mathlib.Core.List.{List}
use Prim.Native.Nat.{ℕ}
use lib.ListN.{length-map}
use Rattle.tlv.specs.Element.{cuts}
use Rattle.tlv.specs.Fields.{insides}
use Rattle.tlv.proofs.RoundTrip.{split_nexts}
use Rattle.std.specs.declared.option.Option.TheVariants.{Some}
use Rattle.tlv_reader.specs.Count.{count_of}
use Rattle.lvs_spec.specs.Types as type
use Rattle.lvs_spec.specs.Grammar.{model, order}
use Rattle.lvs_spec.specs.WellFormed.{well_formed, well_formed_by}
use Rattle.lvs_spec.specs.Model.{node_of, model_of}
use Rattle.lvs_spec.specs.Verdict.{accepted, verdict}
use Rattle.lvs_spec.proofs.Grammar.{Row, row}
use Rattle.lvs_spec.proofs.Reading.{accepted_passed, accepted_judged}
use Rattle.lvs_spec.proofs.Rules.{judge_count}

-- THE COUNT IS THE VERDICT'S
pub accepted_count : (b : List ℕ) (n : ℕ) → verdict b ≡ accepted n → count_of type.Node b ≡ Some n
unfolding count_of model_of well_formed well_formed_by
accepted_count b n h =
    let r : Row (well_formed_by 6) model (order model) (cuts b) = row (well_formed_by 6) model (order model) (cuts b) (accepted_passed b h).formed in
    rw (split_nexts b r.elements r.cut_is)
    (ap Some (sym (length-map (insides type.Node b) node_of) ∙ judge_count (model_of b) (accepted_judged b h)))
