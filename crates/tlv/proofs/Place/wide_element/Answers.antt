-- `tlv::Place::wide_element` meets its contract: the tests that led to each return say which case of `read_at` holds. Assumes nothing.
use Rattle.std.proofs.Common.{sym, arith}
use Rattle.tlv.proofs.Numbers.{numbered}
use Rattle.tlv.proofs.AtPlace.{at_end, no_type, malformed_type, no_length, too_long_lem, found, type_low, type_high, type_ok}
use Rattle.tlv.proofs.Place.wide_element.Goals as goal

pub returns-then-s-at : goal.returns-then-s-at
returns-then-s-at c = sym (at_end _ _ c.if-s-at.true)

pub returns-in_default : goal.returns-in_default
returns-in_default c = sym (no_type _ _ (omega arith) (numbered _ _ c.number_at.ensures c.in_default.is))

pub returns-then-t-lt1 : goal.returns-then-t-lt1
returns-then-t-lt1 c = sym (malformed_type _ _ (omega arith) (numbered _ _ c.number_at.ensures c.in-Some.is) (type_low c.if-t-lt1.true))

pub returns-then-t-gt4294967295 : goal.returns-then-t-gt4294967295
returns-then-t-gt4294967295 c =
    sym (malformed_type _ _ (omega arith) (numbered _ _ c.number_at.ensures c.in-Some.is) (type_high c.if-t-lt1.false c.if-t-gt4294967295.true))

pub returns-in_default-number_at : goal.returns-in_default-number_at
returns-in_default-number_at c =
    sym (no_length _ _ (omega arith) (numbered _ _ c.number_at.ensures c.in-Some.is) (type_ok c.if-t-lt1.false c.if-t-gt4294967295.false)
    (numbered _ _ c.number_at-2.ensures c.in_default-number_at.is))

pub overflow_sub-left : goal.overflow_sub-left
overflow_sub-left c = (numbered _ _ c.number_at-2.ensures c.in-Some-number_at.is).within

pub returns-then-left-len : goal.returns-then-left-len
returns-then-left-len c =
    sym (too_long_lem _ _ (omega arith) (numbered _ _ c.number_at.ensures c.in-Some.is) (type_ok c.if-t-lt1.false c.if-t-gt4294967295.false)
    (numbered _ _ c.number_at-2.ensures c.in-Some-number_at.is) c.if-left-len.true)

pub returns : goal.returns
returns c =
    sym (found _ _ (omega arith) (numbered _ _ c.number_at.ensures c.in-Some.is) (type_ok c.if-t-lt1.false c.if-t-gt4294967295.false)
    (numbered _ _ c.number_at-2.ensures c.in-Some-number_at.is) c.if-left-len.false)
