-- The describing call's outcome, from what its callees answered. Assumes nothing.
use Prim.Native.Nat.{ℕ}
use mathlib.Core.Path.{◌≡◌, refl, sym, ap, ◌∙◌}
use mathlib.Core.Bool.{Bool, true, false, ◌&&◌}
use mathlib.Core.List.{List}
use lib.Dec.{leb}
use lib.ListN.{length}
use Rattle.std.specs.Prelude.{Option, Result, Ok, Err}
use Rattle.std.specs.Option.{ok_or}
use Rattle.lvs_spec.specs.Model.{Model, model_of}
use Rattle.lvs_spec.specs.Verdict.{accepted, verdict}
use Rattle.lvs_spec.specs.Refusals.{refusal_of}
use Rattle.lvs_spec.specs.declared.refusal.Refusal.{Refusal}
use Rattle.lvs_spec.specs.declared.refusal.Refusal.TheVariants as refusals
use Rattle.lvs_verdict.specs.Answers.{verdict_of}
use Rattle.lvs_description.specs.Description.{numbers_of, texts_of}
use Rattle.lvs_description.specs.Answers.{DescribeOutcome, describe_refused}
use Rattle.lvs_description.specs.Answers.{described_to, described_as, describe_outcome}
use Rattle.lvs_description.proofs.Calls.{refused_model, describing_is}
use Rattle.lvs_describe.specs.Answers.{Outcome, described as put}
use Rattle.lvs_describe.specs.declared.Lengths.{Lengths}
use Rattle.lvs_codec.specs.Answers.{describe_answer_of}

-- a refused model
pub model_refused : (b ns ts : List ℕ) (x : Refusal) → verdict_of (Err x) ≡ verdict b → describe_refused (refusal_of x) ns ts ≡ describe_outcome b ns ts
model_refused b ns ts x e = describing_is (refused_model (sym e))

-- ---- an accepted one: what `lvs_describe::describe` answered, as an outcome of this call

abbrev or_refused : Option Lengths → Result Lengths Refusal
or_refused o = ok_or o refusals.NoDescription

abbrev outcome_from : Outcome → DescribeOutcome
outcome_from o = record { answer = describe_answer_of (or_refused o.answer); numbers = o.numbers; texts = o.texts }

described_to_lem : (m : Model) (ns ts : List ℕ) → outcome_from (put m ns ts) ≡ described_to m ns ts
unfolding put described_to
described_to_lem m ns ts = go (leb (length (numbers_of m)) (length ns) && leb (length (texts_of m)) (length ts)) refl
  where
    go : (t : Bool) → (leb (length (numbers_of m)) (length ns) && leb (length (texts_of m)) (length ts)) ≡ t
        → outcome_from (put m ns ts) ≡ described_to m ns ts
    go true e = rw (e, described_to, put)
    go false e = rw (e, described_to, put)

pub model_described : (b ns ts : List ℕ) {k : ℕ} {d : Option Lengths} {r : Result Lengths Refusal} {ns' ts' : List ℕ} → verdict_of (Ok k) ≡ verdict b
    → record { answer = d; numbers = ns'; texts = ts' } ≡ put (model_of b) ns ts → r ≡ or_refused d
    → record { answer = describe_answer_of r; numbers = ns'; texts = ts' } ≡ describe_outcome b ns ts
unfolding describe_outcome described_as
model_described b ns ts {k} {ns' = ns'} {ts' = ts'} e g h =
    ap (λ (x : Result Lengths Refusal). record { answer = describe_answer_of x; numbers = ns'; texts = ts' }) h ∙ ap outcome_from g ∙
    described_to_lem (model_of b) ns ts ∙ goes_on
  where
    accepted_is : verdict b ≡ accepted k
    accepted_is = sym e

    goes_on : described_to (model_of b) ns ts ≡ describe_outcome b ns ts
    goes_on = rw accepted_is
