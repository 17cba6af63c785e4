use Rattle.lvs_codec.proofs.Writes.{bytes_refused, no_room}
use Rattle.lvs_codec.proofs.refuse_short.Goals as goal

pub returns-in-Err : goal.returns-in-Err
returns-in-Err c =
    let refused = bytes_refused c.requires c.write.ensures c.judge_model.ensures c.in-Err.is in record { is = λ before h. refused before }

pub returns-in-Ok : goal.returns-in-Ok
returns-in-Ok c = record { is = no_room c.requires c.write.ensures c.judge_model.ensures c.in-Ok.is }
