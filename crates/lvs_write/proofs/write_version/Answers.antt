use Rattle.std.proofs.Common.{sym, ◌∙◌}
use Rattle.lvs_write.proofs.Whole.{version_put, version_no_room}
use Rattle.lvs_write.proofs.write_version.Goals as goal
use Rattle.lvs_write.proofs.write_version.Goals.{then-has_room, else-has_room}

pub returns : goal.returns
returns c =
    elim c.if-has_room.branch [
      | then-has_room w ↦ version_put c.behind.ensures w.out-is w.put_bytes.ensures
      | else-has_room w ↦ version_no_room c.behind.ensures w.out-is (sym c.has_room.ensures ∙ w.if-has_room.false)
    ]
