-- An answer as that of docs/format.md; and what the functions of the writing call promise each other.
use Rattle.std.specs.Prelude.{ℕ, ◌≤◌, ◌<◌, ◌≡◌, List, length, Result, Ok, Err}
use Rattle.std.proofs.Math.Option.{some}
use Rattle.lvs_spec.specs.Limits.{max_model_bytes}
use Rattle.lvs_spec.specs.Model.{Model}
use Rattle.lvs_description.specs.Description.{model_bytes, description_of}
use Rattle.lvs_description.specs.Answers.{WriteAnswer as Writing, DescribeAnswer as Describing, write_outcome}
use Rattle.lvs_spec.specs.Refusals.{refusal_of}
use Rattle.lvs_spec.specs.declared.refusal.Refusal.{Refusal}
use Rattle.lvs_describe.specs.declared.Lengths.{Lengths}

abbrev pub write_answer_of : Result ℕ Refusal → Writing
write_answer_of (Ok n) = Writing.written n
write_answer_of (Err r) = Writing.refused (refusal_of r)

abbrev pub describe_answer_of : Result Lengths Refusal → Describing
describe_answer_of (Ok l) = Describing.described l.numbers l.texts
describe_answer_of (Err r) = Describing.refused (refusal_of r)

-- the two lists describe a model of `size` bytes, which is not too long
pub record Sized (ns ts : List ℕ) (size : ℕ) : Type 0 where
  pub model : Model
  pub is : description_of ns ts ≡ some model
  pub size_is : size ≡ length (model_bytes model)
  pub small : size ≤ max_model_bytes

-- r is the answer to the two lists and an output that held `before`, and then holds `after`
abbrev pub Answered : List ℕ → List ℕ → List ℕ → Result ℕ Refusal → List ℕ → Type 0
Answered ns ts before r after = record { answer = write_answer_of r; output = after } ≡ write_outcome ns ts before

-- r refuses the two lists with any output of fewer than `size` bytes, which stays
pub record AnsweredShort (ns ts : List ℕ) (size : ℕ) (r : Refusal) : Type 0 where
  pub is : (before : List ℕ) → length before < size → Answered ns ts before (Err r) before
