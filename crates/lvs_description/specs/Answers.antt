-- The writing call and the describing call (docs/format.md, 12): what they answer, and what they leave in the lent lists. Definitions only.
use Rattle.std.specs.Prelude.{ℕ, true, false, ◌&&◌, List, ◌++◌, leb, length, drop}
use Rattle.std.proofs.Math.Option.{Option, none, some}
use Rattle.lvs_spec.specs.Model.{Model, model_of}
use Rattle.lvs_spec.specs.Verdict.{Verdict, verdict}
use Rattle.lvs_spec.specs.Answers.{Refusal, plain}
use Rattle.lvs_description.specs.Description.{model_bytes, description_of, numbers_of, texts_of}

-- lists that form no description, or that are too short for one
abbrev pub no_description : ℕ
no_description = 30

-- an output too short for the bytes
abbrev pub short_output : ℕ
short_output = 31

-- xs over the front of a list; what is behind stays
abbrev pub on_front : List ℕ → List ℕ → List ℕ
on_front xs before = xs ++ drop (length xs) before

-- ---- writing

-- written with this length, or refused
pub data WriteAnswer : Type 0 where
  written : ℕ → WriteAnswer
  refused : Refusal → WriteAnswer

pub record WriteOutcome : Type 0 where
  pub answer : WriteAnswer
  pub output : List ℕ

abbrev pub write_refused : Refusal → List ℕ → WriteOutcome
write_refused r before = record { answer = WriteAnswer.refused r; output = before }

-- bytes that would be accepted, where there is room for them
unfoldable pub written_to : List ℕ → List ℕ → WriteOutcome
written_to bs before =
    elim (leb (length bs) (length before)) [
      | true ↦ record { answer = written (length bs); output = on_front bs before }
      | false ↦ write_refused (plain short_output) before
    ]

-- what reading the bytes would refuse is refused with the same two numbers
unfoldable pub written_as : Verdict → List ℕ → List ℕ → WriteOutcome
written_as (Verdict.refused r i) bs before = write_refused (record { number = r; at = i }) before
written_as (Verdict.accepted n) bs before = written_to bs before

unfoldable pub written_from : Option Model → List ℕ → WriteOutcome
written_from none before = write_refused (plain no_description) before
written_from (some m) before = written_as (verdict (model_bytes m)) (model_bytes m) before

-- the description in two lists, written into a lent output
unfoldable pub write_outcome : List ℕ → List ℕ → List ℕ → WriteOutcome
write_outcome ns ts before = written_from (description_of ns ts) before

-- ---- describing

-- described with so many numbers and bytes of texts, or refused
pub data DescribeAnswer : Type 0 where
  described : ℕ → ℕ → DescribeAnswer
  refused : Refusal → DescribeAnswer

pub record DescribeOutcome : Type 0 where
  pub answer : DescribeAnswer
  pub numbers : List ℕ
  pub texts : List ℕ

abbrev pub describe_refused : Refusal → List ℕ → List ℕ → DescribeOutcome
describe_refused r ns ts = record { answer = DescribeAnswer.refused r; numbers = ns; texts = ts }

-- a description, where there is room for both of its lists
unfoldable pub described_to : Model → List ℕ → List ℕ → DescribeOutcome
described_to m ns ts =
    elim (leb (length (numbers_of m)) (length ns) && leb (length (texts_of m)) (length ts)) [
      | true ↦ record {
        answer = described (length (numbers_of m)) (length (texts_of m));
        numbers = on_front (numbers_of m) ns;
        texts = on_front (texts_of m) ts;
      }
      | false ↦ describe_refused (plain no_description) ns ts
    ]

unfoldable pub described_as : Verdict → Model → List ℕ → List ℕ → DescribeOutcome
described_as (Verdict.refused r i) m ns ts = describe_refused (record { number = r; at = i }) ns ts
described_as (Verdict.accepted n) m ns ts = described_to m ns ts

-- a model's description, in two lent lists
unfoldable pub describe_outcome : List ℕ → List ℕ → List ℕ → DescribeOutcome
describe_outcome b ns ts = described_as (verdict b) (model_of b) ns ts
