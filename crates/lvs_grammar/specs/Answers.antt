-- What the bytes of a model come to before rule 4 (docs/format.md, 5). Definitions only.
use Rattle.std.specs.Prelude.{cond, List, ℕ, Result, Ok, Err}
use Rattle.std.proofs.Math.Option.{Option, none, some}
use Rattle.lvs_spec.specs.WellFormed.{too_long, other_version}
use Rattle.lvs_spec.specs.Places.{fault_place}
use Rattle.lvs_spec.specs.Model.{model_of}
use Rattle.lvs_spec.specs.Refusals.{refusal_of}
use Rattle.lvs_spec.specs.Verdict as verdict
use Rattle.lvs_spec.specs.declared.refusal.Refusal.{Refusal}
use Rattle.lvs_spec.specs.declared.refusal.Refusal.TheVariants.{TooLong, OtherVersion, Malformed}

abbrev pub reading_by : Option ℕ → Result (Unit {0}) Refusal
reading_by none = Ok tt
reading_by (some p) = Err (Malformed p)

-- 1 is tested before 2; 3 outranks any fault after Version
unfoldable pub reading_of : List ℕ → Result (Unit {0}) Refusal
reading_of b = cond (too_long b) (Err TooLong) (cond (other_version b) (Err OtherVersion) (reading_by (fault_place b)))

-- each case in the format's terms: refusal 1, 3, or 2 with a place; or the model that the bytes describe
abbrev pub means : Result (Unit {0}) Refusal → List ℕ → verdict.Reading
means (Err r) b = verdict.unreadable (refusal_of r).number (refusal_of r).at
means (Ok u) b = verdict.describes (model_of b)
