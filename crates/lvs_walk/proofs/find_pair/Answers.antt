-- `lvs_walk::find_pair` meets its contract. Assumes nothing.
use Rattle.std.proofs.Common.{arith}
use Rattle.lvs_bindings.specs.Names.{name_for}
use Rattle.lvs_walk.specs.Search.{side_of}
use Rattle.lvs_walk.proofs.Answers.{clear_named, pair_first}
use Rattle.lvs_walk.proofs.find_pair.Goals as goal

pub walk-requires : goal.walk-requires
unfolding name_for side_of
walk-requires c =
    record {
      only_named = clear_named _ _ _ c.requires.slots_value;
      started = c.start-start.ensures;
      few = omega (arith, c.requires.packet_len_bound, c.requires.key_len_bound);
    }

pub returns : goal.returns
returns c = pair_first _ _ _ _ _ _ _ c.start-start.ensures c.requires.slots_value c.walk.ensures
