-- `tlv::Place::element` meets its contract: the tests that led to each return say which case of `read_at` holds. Assumes nothing.
use Rattle.std.proofs.Common.{sym, ◌+◌, arith}
use Rattle.tlv.proofs.Numbers.{byte, no_byte}
use Rattle.tlv.proofs.AtPlace.{at_end, malformed_type, no_length, too_long_lem, found, type_low, type_ok}
use Rattle.tlv.proofs.Place.element.Goals as goal

pub returns-then-s-at : goal.returns-then-s-at
returns-then-s-at c = sym (at_end _ _ c.if-s-at.true)

pub overflow_cast-typ : goal.overflow_cast-typ
overflow_cast-typ c = omega (arith, c.type_inv.s c.args.self.at)

pub returns-then-typ-lt1 : goal.returns-then-typ-lt1
returns-then-typ-lt1 c = sym (malformed_type _ _ (omega arith) (byte _ _ (omega arith) (omega arith)) (type_low c.if-typ-lt1.true))

pub returns-then-s-middle : goal.returns-then-s-middle
returns-then-s-middle c =
    sym (no_length _ _ (omega arith) (byte _ _ (omega arith) (omega arith)) (type_ok (omega arith) (omega arith))
    (no_byte _ (c.args.self.at + 1) (omega arith)))

pub overflow_cast-len : goal.overflow_cast-len
overflow_cast-len c = omega (arith, c.type_inv.s (c.args.self.at + 1))

pub returns-then-s-start : goal.returns-then-s-start
returns-then-s-start c =
    sym (too_long_lem _ _ (omega arith) (byte _ _ (omega arith) (omega arith)) (type_ok (omega arith) (omega arith))
    (byte _ _ (omega arith) (omega arith)) c.if-s-start.true)

pub returns : goal.returns
returns c =
    sym (found _ _ (omega arith) (byte _ _ (omega arith) (omega arith)) (type_ok (omega arith) (omega arith)) (byte _ _ (omega arith) (omega arith))
    c.if-s-start.false)
