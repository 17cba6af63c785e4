-- `lvs_edges::fields::pattern_fields` meets its contract. Assumes nothing.
use Rattle.lvs_edges.proofs.FixedPlaces.{plain_fields}
use Rattle.lvs_edges.proofs.fields.pattern_fields.Goals as goal

pub returns-then-plain_pattern : goal.returns-then-plain_pattern
returns-then-plain_pattern c = plain_fields (c.plain_pattern.ensures c.if-plain_pattern.true)
