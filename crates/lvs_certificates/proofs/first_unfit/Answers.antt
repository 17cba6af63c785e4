-- `lvs_certificates::first_unfit` meets its contract. Assumes nothing.
use Rattle.std.proofs.Common.{rules, tests, arith, refl, ◌∙◌, ◌<◌, ◌^◌, length, inl}
use Rattle.std.proofs.lemmas.Iterator.Adapters.{position_from-zero}
use Rattle.std.proofs.lemmas.Iterator.Consumers.{YieldsList-from_first}
use Rattle.std.proofs.lemmas.Iterator.Search.{position_from_yields_List}
use Rattle.lvs_spec.specs.Certificates.{entries, unfit}
use Rattle.lvs_certificates.specs.Left.{entry_of, entries_left}
use Rattle.lvs_certificates.proofs.Searches.{entries_most, position_is}
use Rattle.lvs_certificates.proofs.first_unfit.Goals as goal

pub position-requires-clause-fits : goal.position-requires-clause-fits
position-requires-clause-fits c =
    let most = entries_most c.args.list.now in
    let low : length c.args.list.now < 2 ^ 64 = search (rules, tests) in
    inl (omega (arith, most, low))

pub returns : goal.returns
returns c =
    let all = entries c.args.list.now in
    position_from_yields_List unfit c.position.new.self _ _ c.position.ensures.ran
    (YieldsList-from_first entry_of entries_left {s = record { rest = c.args.list }} all refl) (λ x b q k. search (rules, tests))
    ∙ position_from-zero unfit all ∙ position_is unfit 0 all
