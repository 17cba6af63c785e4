use Rattle.std.proofs.Common.{rules}
use Rattle.lvs_write.proofs.Moves.{then_wrote, stop_wrote, wrote_as}
use Rattle.lvs_write.proofs.Containers.{symbol_parts}
use Rattle.lvs_write.proofs.parts.write_symbol.Goals as goal

pub returns-in_err-tag : goal.returns-in_err-tag
returns-in_err-tag c = rw c.from_residual.ensures (wrote_as symbol_parts (stop_wrote _ c.in_err-tag.ensures))

pub returns : goal.returns
returns c = wrote_as symbol_parts (then_wrote c.in_ok-tag.ensures c.write_text.ensures (search rules))
