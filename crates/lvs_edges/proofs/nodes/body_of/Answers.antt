-- `lvs_edges::nodes::body_of` meets its contract. Assumes nothing.
use Rattle.std.proofs.Common.{arith}
use Rattle.tlv.proofs.Cuts.{seen, SeenOf}
use Rattle.lvs_edges.proofs.Bodies.{body_first, body_next}
use Rattle.lvs_edges.proofs.nodes.body_of.Goals as goal

pub loop-typ-init : goal.loop-typ-init
loop-typ-init c = body_first _

pub returns-then-in_body : goal.returns-then-in_body
returns-then-in_body c = c.loop-typ.invariant

pub loop-typ-smaller : goal.loop-typ-smaller
loop-typ-smaller c = let st : SeenOf _ _ c.element.ensures c.in-Found.is = seen _ _ c.element.ensures c.in-Found.is in omega arith

pub loop-typ-preserved : goal.loop-typ-preserved
loop-typ-preserved c = body_next c.loop-typ.invariant (seen _ _ c.element.ensures c.in-Found.is) c.in_body.ensures c.if-in_body.false

pub returns-in-End : goal.returns-in-End
returns-in-End c = c.loop-typ.invariant

pub returns-in-Malformed : goal.returns-in-Malformed
returns-in-Malformed c = c.loop-typ.invariant
