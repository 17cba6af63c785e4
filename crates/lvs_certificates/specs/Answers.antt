-- What the code answers for what the definitions of lvs_spec say.
use Rattle.std.specs.Prelude.{ℕ, Option, Result, Ok, Err}
use Rattle.std.proofs.Math.Option as math
use Rattle.tlv.specs.Answers.{integer_from}
use Rattle.lvs_spec.specs.Certificates.{ListReading, many_entries, unfit_entry, fit_entries}
use Rattle.lvs_spec.specs.declared.refusal.Refusal.{Refusal}
use Rattle.lvs_spec.specs.declared.refusal.Refusal.TheVariants.{ManyCertificates, UnfitCertificate}

-- the index of an entry, if there is such an entry
abbrev pub index_from : math.Option ℕ → Option ℕ
index_from o = integer_from o

abbrev pub list_answer : ListReading → Result (Unit {0}) Refusal
list_answer many_entries = Err ManyCertificates
list_answer (unfit_entry i) = Err (UnfitCertificate i)
list_answer fit_entries = Ok tt
