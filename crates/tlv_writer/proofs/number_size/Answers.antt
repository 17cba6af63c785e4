use Rattle.std.proofs.Common.{arith}
use Rattle.tlv_writer.proofs.Numbers.{number_size_1, number_size}
use Rattle.tlv_writer.proofs.number_size.Goals as goal

pub returns-then-n-lt253 : goal.returns-then-n-lt253
returns-then-n-lt253 c = number_size_1 _ (omega arith)

pub overflow_add-result : goal.overflow_add-result
overflow_add-result c = omega (arith, (number_size _ c.if-n-lt253.false c.mark_of.ensures c.width_of.ensures).1)

pub returns : goal.returns
returns c = number_size _ c.if-n-lt253.false c.mark_of.ensures c.width_of.ensures
