-- Two answers that say the same are the same: each can be read back. Assumes nothing.
use Prim.Native.Nat.{ℕ}
use mathlib.Core.Path.{◌≡◌, refl, ap}
use native.Mathlib.Omega.{arith}
use Rattle.std.specs.Prelude.{Result, Ok, Err}
use Rattle.lvs_spec.specs.Answers.{Refusal as Numbered}
use Rattle.lvs_spec.specs.Refusals.{refusal_of}
use Rattle.lvs_spec.specs.declared.refusal.Refusal.{Refusal}
use Rattle.lvs.proofs.Same.{same_back, refusal_from, refusal_back}
use Rattle.lvs_description.specs.Answers.{WriteAnswer as Writing, DescribeAnswer as Describing}
use Rattle.lvs_describe.specs.declared.Lengths.{Lengths}
use Rattle.lvs_codec.specs.Answers.{write_answer_of, describe_answer_of}

-- ---- the two answers

writing_from : Writing → Result ℕ Refusal
writing_from (Writing.written n) = Ok n
writing_from (Writing.refused x) = Err (refusal_from x)

writing_back : (r : Result ℕ Refusal) → writing_from (write_answer_of r) ≡ r
unfolding writing_from
writing_back (Ok n) = refl
writing_back (Err x) = ap Err (refusal_back x)

pub same_writing : (r q : Result ℕ Refusal) → write_answer_of r ≡ write_answer_of q → r ≡ q
same_writing = same_back write_answer_of writing_from writing_back

describing_from : Describing → Result Lengths Refusal
describing_from (Describing.described n t) = Ok (record { numbers = n; texts = t })
describing_from (Describing.refused x) = Err (refusal_from x)

describing_back : (r : Result Lengths Refusal) → describing_from (describe_answer_of r) ≡ r
unfolding describing_from
describing_back (Ok l) = refl
describing_back (Err x) = ap Err (refusal_back x)

pub same_describing : (r q : Result Lengths Refusal) → describe_answer_of r ≡ describe_answer_of q → r ≡ q
same_describing = same_back describe_answer_of describing_from describing_back

-- an answer that is a refusal

no_refusal : {n : ℕ} {y : Numbered} → Writing.written n ≡ Writing.refused y → ⊥
no_refusal p = let z : ◌≡◌ {A = ℕ} 0 1 = cc in omega arith

pub refusing : (r : Result ℕ Refusal) {y : Numbered} → write_answer_of r ≡ Writing.refused y → (x : Refusal) × (r ≡ Err x) × (refusal_of x ≡ y)
refusing (Ok n) e = absurd (no_refusal e)
refusing (Err x) e = (x, refl, cc)

no_list_refusal : {n t : ℕ} {y : Numbered} → Describing.described n t ≡ Describing.refused y → ⊥
no_list_refusal p = let z : ◌≡◌ {A = ℕ} 0 1 = cc in omega arith

pub refusing_list : (r : Result Lengths Refusal) {y : Numbered} → describe_answer_of r ≡ Describing.refused y
    → (x : Refusal) × (r ≡ Err x) × (refusal_of x ≡ y)
refusing_list (Ok l) e = absurd (no_list_refusal e)
refusing_list (Err x) e = (x, refl, cc)
