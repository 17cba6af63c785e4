use Rattle.std.proofs.Common.{arith}
use Rattle.tlv_writer.proofs.Stores.{stored_part}
use Rattle.tlv_writer.proofs.put_bytes.Goals as goal

pub returns : goal.returns
returns c = stored_part _ _ _ c.copy_from_slice.ensures.after (omega arith) (omega arith)
