-- `tlv::number_at` meets its contract: the tests that led to each return say which case of the definition holds. Assumes nothing.
use Rattle.std.proofs.Common.{◌+◌, ◌-◌, ◌<◌, length, get_or, sym, ap, ◌∙◌, arith}
use Rattle.tlv.specs.Number.{width}
use Rattle.tlv.proofs.Numbers.{none_left, one_byte, too_short, not_shortest, many_bytes, width_most, width_there, width_value}
use Rattle.tlv.proofs.number_at.Goals as goal

pub returns-then-s-at : goal.returns-then-s-at
returns-then-s-at c = sym (none_left _ _ c.if-s-at.true)

pub returns-then-first-lt253 : goal.returns-then-first-lt253
returns-then-first-lt253 c = rw c.from.ensures (sym (one_byte _ _ (omega arith) c.if-first-lt253.true))

pub overflow_add-next : goal.overflow_add-next
overflow_add-next c = omega (arith, c.width_of.ensures, width_most (get_or c.args.s.now c.args.at 0))

pub returns-in_err-get : goal.returns-in_err-get
returns-in_err-get c =
    let short : length c.args.s.now - (c.args.at + 1) < width (get_or c.args.s.now c.args.at 0) = grind (arith, c.in_err-get.ensures, c.width_of.ensures) in
    c.from_residual.ensures ∙ sym (too_short _ _ (omega arith) (omega arith) short)

pub returns-in_err-value : goal.returns-in_err-value
returns-in_err-value c =
    absurd (width_there _ _ (get_or c.args.s.now c.args.at 0) c.in_ok-get.ensures.lookup.0 c.integer_of.ensures
    (ap (λ w. c.args.at + 1 + w) c.width_of.ensures) c.in_err-value.was)

pub returns-then-value-least_of : goal.returns-then-value-least_of
returns-then-value-least_of c =
    let cut = c.in_ok-get.ensures.lookup.0 in
    let v = width_value _ _ (get_or c.args.s.now c.args.at 0) cut c.integer_of.ensures (ap (λ w. c.args.at + 1 + w) c.width_of.ensures) c.in_ok-value.was in
    sym (not_shortest _ _ (omega arith) (omega arith) (omega (arith, cut.0, cut.1, c.width_of.ensures)) (omega (arith, v, c.least_of.ensures)))

pub returns : goal.returns
returns c =
    let cut = c.in_ok-get.ensures.lookup.0 in
    let v = width_value _ _ (get_or c.args.s.now c.args.at 0) cut c.integer_of.ensures (ap (λ w. c.args.at + 1 + w) c.width_of.ensures) c.in_ok-value.was in
    rw (v, c.width_of.ensures)
    (sym (many_bytes _ _ (omega arith) (omega arith) (omega (arith, cut.0, cut.1, c.width_of.ensures)) (omega (arith, v, c.least_of.ensures))))
