-- `lvs_follow::follow_name`: where the words so far have led.
use Rattle.lvs_spec.specs.Model.{model_of}
use Rattle.lvs_follow.proofs.Steps.{Come}
use Rattle.lvs_follow.proofs.follow_name.Given as goal

abbrev pub invariant-loop-ordinal : goal.invariant-loop-ordinal
invariant-loop-ordinal l =
    Come
    (record {
      m = model_of l.context.nodes.now.model.now;
      packet = l.context.names.packet.now;
      key = l.context.names.key.now;
      side = l.side;
      from = l.from;
      words = l.path;
      slots = l.fn.slots.spans;
    })
    l.node l.at l.ordinal-index l.slots.spans
