use Rattle.std.proofs.Common.{refl, arith}
use Rattle.tlv_writer.proofs.Numbers.{digits_stored}
use Rattle.tlv_writer.proofs.put_digits.Goals as goal

pub returns : goal.returns
returns c = digits_stored c.requires refl (omega arith) c.to_be_bytes.ensures c.copy_from_slice.ensures.after
