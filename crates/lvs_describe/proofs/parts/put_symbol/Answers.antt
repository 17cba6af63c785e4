use Rattle.lvs_describe.proofs.Puts.{describes_as}
use Rattle.lvs_describe.proofs.Containers.{symbol_is}
use Rattle.lvs_describe.proofs.parts.put_symbol.Goals as goal

pub returns : goal.returns
returns c = describes_as (symbol_is _ c.number_in-tag.ensures c.inside_of.ensures) c.numbered.ensures
