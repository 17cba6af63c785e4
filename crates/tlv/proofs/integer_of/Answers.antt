-- `tlv::integer_of` meets its contract. Assumes nothing.
use Rattle.std.proofs.Common.{refl, arith}
use Rattle.tlv.proofs.Bytes.{spelled_1, spelled_2, spelled_4, four, front, spelled_8}
use Rattle.tlv.proofs.Fields.{integer_found}
use Rattle.tlv.proofs.integer_of.Goals as goal

pub returns-in-len1 : goal.returns-in-len1
returns-in-len1 c = integer_found _ 1 (omega arith) refl (omega (arith, c.from.ensures, spelled_1 c.args.s.now (omega arith)))

pub returns-in-len2 : goal.returns-in-len2
returns-in-len2 c =
    integer_found _ 2 (omega arith) refl (omega (arith, c.from-in-len2.ensures, c.from_be_bytes.ensures, spelled_2 c.args.s.now (omega arith)))

pub returns-in-len4 : goal.returns-in-len4
returns-in-len4 c =
    integer_found _ 4 (omega arith) refl
    (omega (arith, c.from-in-len4.ensures, c.from_be_bytes-in-len4.ensures, spelled_4 c.args.s.now (omega arith)))

pub returns-in-len8 : goal.returns-in-len8
returns-in-len8 c =
    let s = c.args.s.now in
    integer_found _ 8 (omega arith) refl
    (omega (
      arith,
      c.from_be_bytes-in-len8.ensures,
      spelled_8 s (omega arith),
      four s (omega arith) (omega arith) (omega arith) (omega arith),
      front s (omega arith),
    ))
