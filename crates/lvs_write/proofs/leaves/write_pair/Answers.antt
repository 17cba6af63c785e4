use mathlib.Core.List.{◌++◌}
use Rattle.lvs_description.specs.Format.{integer_bytes, take_number}
use Rattle.lvs_write.specs.Steps.{el}
use Rattle.lvs_write.proofs.Moves.{leaf_wrote, leaf_missed}
use Rattle.lvs_write.proofs.Fronts.{pair_spelled}
use Rattle.lvs_write.proofs.Places.{both_taken, first_missing, second_missing}
use Rattle.lvs_write.proofs.leaves.write_pair.Goals as goal

pub returns-in_err-x : goal.returns-in_err-x
returns-in_err-x c =
    rw c.from_residual.ensures (leaf_missed (λ p. el c.args.a (integer_bytes p.0) ++ el c.args.b (integer_bytes p.1)) (pair_spelled _ _)
    (first_missing take_number take_number c.in_err-x.ensures))

pub returns-in_err-y : goal.returns-in_err-y
returns-in_err-y c =
    rw c.from_residual-in_err-y.ensures (leaf_missed (λ p. el c.args.a (integer_bytes p.0) ++ el c.args.b (integer_bytes p.1)) (pair_spelled _ _)
    (second_missing take_number take_number c.in_ok-x.ensures c.in_err-y.ensures))

pub returns : goal.returns
returns c =
    leaf_wrote (both_taken take_number take_number c.in_ok-x.ensures c.in_ok-y.ensures) (λ p. el c.args.a (integer_bytes p.0) ++ el c.args.b
    (integer_bytes p.1)) (pair_spelled _ _) c.behind.ensures c.put_pair-size.ensures
