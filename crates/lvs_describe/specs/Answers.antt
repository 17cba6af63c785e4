-- The describing call: its answer, and what the two lent lists hold after it. Definitions only.
use Rattle.std.specs.Prelude.{ℕ, cond, ◌&&◌, List, leb, length, Option, None, Some}
use Rattle.lvs_spec.specs.Model.{Model}
use Rattle.lvs_description.specs.Description.{numbers_of, texts_of}
use Rattle.lvs_description.specs.Answers.{on_front}
use Rattle.lvs_describe.specs.declared.Lengths.{Lengths}

pub record Outcome : Type 0 where
  pub answer : Option Lengths
  pub numbers : List ℕ
  pub texts : List ℕ

-- ns and ts are the lists before the call
unfoldable pub described : Model → List ℕ → List ℕ → Outcome
described m ns ts =
    cond (leb (length (numbers_of m)) (length ns) && leb (length (texts_of m)) (length ts))
    (record {
      answer = Some (record { numbers = length (numbers_of m); texts = length (texts_of m) });
      numbers = on_front (numbers_of m) ns;
      texts = on_front (texts_of m) ts;
    })
    (record { answer = None; numbers = ns; texts = ts })
