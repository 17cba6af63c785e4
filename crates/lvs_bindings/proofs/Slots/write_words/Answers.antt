-- `lvs_bindings::Slots::write_words` meets its contract. Assumes nothing.
use Rattle.std.proofs.Common.{arith}
use Rattle.lvs_bindings.proofs.Written.{written_first, written_next, written_all, one_read}
use Rattle.lvs_bindings.proofs.Slots.write_words.Goals as goal

pub loop-i-init : goal.loop-i-init
loop-i-init c = written_first _ _ _

pub loop-i-preserved : goal.loop-i-preserved
loop-i-preserved c =
    written_next c.loop-i.invariant c.args.self.now.all (omega arith) (rw c.copy_from_slice.ensures.after c.tag_words-words.ensures)
    (one_read _ c.is_some.ensures c.from-bound.ensures) c.copy_from_slice.ensures.len

pub returns : goal.returns
returns c = written_all c.loop-i.invariant c.args.self.now.all (omega arith)
