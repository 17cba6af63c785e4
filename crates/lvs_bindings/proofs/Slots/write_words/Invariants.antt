-- `lvs_bindings::Slots::write_words`: the words of the first Tags are written, and the bound ones among them counted.
use Rattle.lvs_bindings.proofs.Written.{Written}
use Rattle.lvs_bindings.proofs.Slots.write_words.Given as goal

abbrev pub invariant-loop-i : goal.invariant-loop-i
invariant-loop-i l = Written l.packet l.self.spans l.initial.buffer l.buffer l.bound l.i
