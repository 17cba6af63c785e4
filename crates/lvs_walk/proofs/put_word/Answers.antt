-- `lvs_walk::put_word` meets its contract. Assumes nothing.
use Rattle.std.proofs.Common.{sym}
use lib.Seq.{set_out}
use Rattle.lvs_walk.proofs.put_word.Goals as goal

-- there is no such word
pub returns-else-depth-path : goal.returns-else-depth-path
returns-else-depth-path c = let a = c.args in sym (set_out a.path.now a.depth a.ordinal c.if-depth-path.false)
