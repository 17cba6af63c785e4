use Rattle.std.proofs.Common.{arith}
use Rattle.tlv_writer.proofs.Stores.{stored_length}
use Rattle.lvs_write.proofs.Sizes.{header_length}
use Rattle.lvs_write.proofs.Places.{header_both}
use Rattle.lvs_write.proofs.leaves.put_header.Goals as goal

pub put_number-middle-requires : goal.put_number-middle-requires
put_number-middle-requires c = omega (arith, header_length c.args.typ c.args.n)

pub put_number-requires : goal.put_number-requires
put_number-requires c = omega (arith, header_length c.args.typ c.args.n, stored_length c.put_number-middle.ensures.1)

pub returns : goal.returns
returns c = header_both _ _ _ c.put_number-middle.ensures c.put_number.ensures
