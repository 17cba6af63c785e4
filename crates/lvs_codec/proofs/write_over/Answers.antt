use Rattle.lvs_codec.proofs.Writes.{put_back, bytes_written}
use Rattle.lvs_codec.proofs.write_over.Goals as goal

pub returns-in-Err : goal.returns-in-Err
returns-in-Err c =
    put_back c.requires.0 c.write.ensures c.judge_model.ensures c.in-Err.is c.copy_from_slice.ensures.after c.copy_from_slice-in-Err.ensures.after

pub returns-in-Ok : goal.returns-in-Ok
returns-in-Ok c = bytes_written c.requires.0 c.write.ensures c.judge_model.ensures c.in-Ok.is
