use Rattle.lvs_write.proofs.Places.{text_there, text_short, text_missing}
use Rattle.lvs_write.proofs.cursor.Cursor.text.Goals as goal

pub returns-in_err-n : goal.returns-in_err-n
returns-in_err-n c = rw c.from_residual.ensures (text_missing c.in_err-n.ensures)

pub returns-in_err-text : goal.returns-in_err-text
returns-in_err-text c = rw c.from_residual-in_err-text.ensures (text_short c.in_ok-n.ensures c.in_err-text.ensures.cases)

pub returns : goal.returns
returns c = let split = c.in_ok-text.ensures.cases in text_there c.in_ok-n.ensures c.in_ok-text.text c.in_ok-text.texts split.0 split.1 split.2
