-- `lvs_bindings::words::tag_words` meets its contract. Assumes nothing.
use Rattle.lvs_bindings.proofs.Written.{words_none, words_packet, words_key}
use Rattle.lvs_bindings.proofs.words.tag_words.Goals as goal

pub returns-in_default : goal.returns-in_default
returns-in_default c = rw c.in_default.is (words_none _)

pub returns-then-start-n : goal.returns-then-start-n
returns-then-start-n c = rw c.in-Some.is (words_packet _ _ c.if-start-n.true)

pub returns-else-start-n : goal.returns-else-start-n
returns-else-start-n c = rw c.in-Some.is (words_key _ _ c.if-start-n.false)
