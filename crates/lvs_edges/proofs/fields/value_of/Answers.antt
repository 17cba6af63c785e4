-- `lvs_edges::fields::value_of` meets its contract. Assumes nothing.
use Rattle.lvs_edges.proofs.FixedPlaces.{plain_inside}
use Rattle.lvs_edges.proofs.fields.value_of.Goals as goal

pub returns-then-plain_value : goal.returns-then-plain_value
returns-then-plain_value c = plain_inside (c.plain_value.ensures c.if-plain_value.true)
