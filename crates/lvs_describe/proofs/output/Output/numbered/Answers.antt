use Rattle.lvs_describe.proofs.Puts.{describes_then}
use Rattle.lvs_describe.proofs.output.Output.numbered.Goals as goal

pub returns : goal.returns
returns c = describes_then c.in_ok-number.ensures c.text.ensures
