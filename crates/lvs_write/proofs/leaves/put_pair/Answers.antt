use Rattle.lvs_write.proofs.Places.{pair_put}
use Rattle.lvs_write.proofs.leaves.put_pair.Goals as goal

pub returns-then-has_room : goal.returns-then-has_room
returns-then-has_room c =
    pair_put _ _ _ _ _ c.integer_size-first.ensures.0 c.integer_size.ensures.0 c.put_integer.ensures c.put_integer-then-has_room.ensures
