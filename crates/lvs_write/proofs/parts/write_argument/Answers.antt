use Rattle.lvs_write.proofs.Containers.{argument_missing, argument_value, argument_tag, argument_other}
use Rattle.lvs_write.proofs.parts.write_argument.Goals as goal

pub returns-in_err-kind : goal.returns-in_err-kind
returns-in_err-kind c = rw c.from_residual.ensures (argument_missing c.in_err-kind.ensures)

pub returns-in-0 : goal.returns-in-0
returns-in-0 c = argument_value c.in_ok-kind.ensures c.in-0.is c.write_component.ensures

pub returns-in-1 : goal.returns-in-1
returns-in-1 c = argument_tag c.in_ok-kind.ensures c.in-1.is c.write_integer.ensures

pub returns-in_default : goal.returns-in_default
returns-in_default c = argument_other c.in_ok-kind.ensures c.in_default.in_default-own.rest.0.1 c.in_default.in_default-own.rest.1
