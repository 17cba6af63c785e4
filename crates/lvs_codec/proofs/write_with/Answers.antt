use Rattle.std.proofs.Common.{sym}
use lib.Seq.{length-take-le}
use Rattle.lvs_codec.proofs.Writes.{sized_front, on_the_front}
use Rattle.lvs_codec.proofs.write_with.Goals as goal

pub returns-then-output-size : goal.returns-then-output-size
returns-then-output-size c = c.refuse_short.ensures.is _ c.if-output-size.true

pub write_over-requires : goal.write_over-requires
write_over-requires c = (sized_front c.requires _ c.if-output-size.false, sym (length-take-le _ _ c.if-output-size.false))

pub returns : goal.returns
returns c = on_the_front c.requires c.args.output.now c.if-output-size.false c.write_over.ensures
