-- Each case of an answer, with the numbers and values of docs/format.md.
use Rattle.std.specs.Prelude.{ℕ, ◌≤◌, ◌≡◌, List, length, Result, Ok, Err}
use Rattle.lvs_spec.specs.Limits.{max_name_bytes, max_components}
use Rattle.lvs_spec.specs.Model.{model_of}
use Rattle.lvs_spec.specs.Verdict.{Verdict as Judgement, verdict}
use Rattle.lvs_spec.specs.Answers.{bad, good, inputs}
use Rattle.lvs_spec.specs.Refusals.{refusal_of}
use Rattle.lvs_spec.specs.declared.refusal.Refusal.{Refusal}
use Rattle.lvs_names.specs.Rows.{row_from}
use Rattle.lvs_names.specs.declared.Row.{Row}
use Rattle.lvs_rules.specs.Faults.{judged_of}
use Rattle.lvs_verdict.specs.declared.Inputs.{Inputs}

abbrev pub verdict_of : Result ℕ Refusal → Judgement
verdict_of r = judged_of r

-- p is the row of a name's components
pub record RowOf (name : List ℕ) (p : Row) : Type 0 where
  pub short : length name ≤ max_name_bytes
  pub count : length (row_from name p.start) ≡ p.count
  pub few : p.count ≤ max_components

-- inputs that no rule refuses, with the rows of the two names
pub record GoodInputs (model packet key : List ℕ) (p k : Row) : Type 0 where
  pub is : inputs model packet key ≡ good (model_of model) (row_from packet p.start) (row_from key k.start)
  pub nodes : ℕ
  pub accepted : verdict model ≡ Judgement.accepted nodes
  pub packet_row : RowOf packet p
  pub key_row : RowOf key k

abbrev pub InputsOf : List ℕ → List ℕ → List ℕ → Result Inputs Refusal → Type 0
InputsOf model packet key (Ok i) = GoodInputs model packet key i.packet i.key
InputsOf model packet key (Err r) = inputs model packet key ≡ bad (refusal_of r)
