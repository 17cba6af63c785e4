use Rattle.lvs_describe.proofs.Puts.{text_put}
use Rattle.lvs_describe.proofs.output.Output.text.Goals as goal

pub returns : goal.returns
returns c = text_put c.in_ok-number.ensures c.bytes.ensures
