use Rattle.std.proofs.Common.{refl, arith}
use Rattle.tlv_writer.proofs.Numbers.{short_size, long_size, short_stored, long_stored, digits_behind, number_size}
use Rattle.tlv_writer.proofs.put_number.Goals as goal

pub bounds-out-at : goal.bounds-out-at
bounds-out-at c = omega (arith, short_size c.args.n (omega arith))

pub returns-then-n-lt253 : goal.returns-then-n-lt253
returns-then-n-lt253 c = short_stored _ _ _ (omega arith)

pub bounds-out-at-2 : goal.bounds-out-at-2
bounds-out-at-2 c = omega (arith, long_size c.args.n (omega arith))

pub put_digits-requires : goal.put_digits-requires
put_digits-requires c = digits_behind _ _ c.args.out.now c.if-n-lt253.false c.mark_of-mark.ensures c.width_of-w.ensures c.requires (omega arith)

pub overflow_add-result-3 : goal.overflow_add-result-3
overflow_add-result-3 c = omega (arith, (number_size _ c.if-n-lt253.false c.mark_of-mark.ensures c.width_of-w.ensures).0)

pub returns : goal.returns
returns c = long_stored _ _ _ c.if-n-lt253.false c.mark_of-mark.ensures c.width_of-w.ensures refl c.put_digits.ensures
