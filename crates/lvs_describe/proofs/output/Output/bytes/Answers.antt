use Rattle.std.proofs.Common.{refl, arith, rules}
use Rattle.lvs_describe.proofs.Puts.{bytes_wrote}
use Rattle.lvs_describe.proofs.output.Output.bytes.Goals as goal

pub returns : goal.returns
returns c =
    record {
      same_numbers = refl;
      same_texts = refl;
      by_room = bytes_wrote {s = c.args.self.now} c.args.s.now refl refl (search rules) (omega arith) c.copy_from_slice.ensures.after (omega arith) refl;
    }
