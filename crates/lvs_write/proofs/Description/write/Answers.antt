use Rattle.lvs_write.proofs.Whole.{description_written}
use Rattle.lvs_write.proofs.Description.write.Goals as goal

pub returns : goal.returns
returns c = description_written _ _ c.write_model.ensures
