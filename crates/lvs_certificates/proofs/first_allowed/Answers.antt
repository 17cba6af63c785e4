-- `lvs_certificates::first_allowed` meets its contract. Assumes nothing.
use Rattle.std.proofs.Common.{◌∙◌, ap, refl, Some}
use Rattle.lvs_certificates.proofs.Searches.{sought_first, sought_none, sought_bad, given_good, given_signs, given_passed}
use Rattle.lvs_certificates.proofs.Keys.{packet_short}
use Rattle.lvs_certificates.proofs.first_allowed.Goals as goal

pub loop-index-init : goal.loop-index-init
loop-index-init c =
    rw (c.into_iter-index-iterator.ensures.into_iter_gives, c.enumerate-index-items.ensures.source, c.enumerate-index-items.ensures.count)
    (sought_first c.requires.fit refl)

pub returns-in_default : goal.returns-in_default
returns-in_default c = absurd (sought_bad c.loop-index.invariant c.in-Some.ensures.steps.0 c.in_default.is)

pub find_pair-pair-requires-clause-packet_len_bound : goal.find_pair-pair-requires-clause-packet_len_bound
find_pair-pair-requires-clause-packet_len_bound c = packet_short _ c.requires.good_packet

pub find_pair-pair-requires-clause-key_len_bound : goal.find_pair-pair-requires-clause-key_len_bound
find_pair-pair-requires-clause-key_len_bound c = (given_good c.in-Some.ensures.steps.0 c.in-Some-entry.is c.loop-index.invariant).short

pub returns-then-is_some : goal.returns-then-is_some
returns-then-is_some c =
    let h = c.in-Some.ensures.steps in
    ap Some h.1
    ∙ given_signs h.0 c.in-Some-entry.is c.loop-index.invariant c.requires.good_packet c.find_pair-pair.ensures c.is_some.ensures c.if-is_some.true

pub loop-index-preserved : goal.loop-index-preserved
loop-index-preserved c =
    let h = c.in-Some.ensures.steps in
    rw h.2
    (given_passed h.0 c.in-Some-entry.is c.loop-index.invariant c.requires.good_packet c.find_pair-pair.ensures c.is_some.ensures c.if-is_some.false)

pub returns : goal.returns
returns c = sought_none c.loop-index.invariant c.in-None.ensures.steps.0.0
