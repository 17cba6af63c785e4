-- `lvs_certificates::is_unfit` meets its contract. Assumes nothing.
use Rattle.std.proofs.Common.{◌∙◌, sym, ap}
use Rattle.lvs_names.proofs.Alone.{alone_of}
use Rattle.lvs_spec.specs.Certificates.{unfit}
use Rattle.lvs_certificates.specs.Left.{entry_of}
use Rattle.lvs_certificates.proofs.Keys.{unfit_is, unfit_broken}
use Rattle.lvs_certificates.proofs.is_unfit.Goals as goal

pub returns-in-Some : goal.returns-in-Some
returns-in-Some c =
    let key = c.in-Some.key in
    c.is_err.ensures.value ∙ unfit_is key.fits (alone_of _ _ key.alone) c.read_name.ensures ∙ ap (λ e. unfit (entry_of e)) (sym c.in-Some.is)

pub returns-in-None : goal.returns-in-None
returns-in-None c = sym unfit_broken ∙ ap (λ e. unfit (entry_of e)) (sym c.in-None.is)
