-- `lvs_grammar::check_grammar` meets its contract: each test says which case of `reading_of` holds. Assumes nothing.
use Rattle.std.proofs.Common.{◌∙◌, sym, ap}
use borrow.Author.Tests.{lt-ltb, le-ltb}
use Rattle.lvs_spec.specs.WellFormed.{too_long}
use Rattle.lvs_spec.specs.Places.{fault_place}
use Rattle.lvs_grammar.specs.Answers.{reading_of}
use Rattle.lvs_grammar.specs.Faults.{fault_of}
use Rattle.lvs_grammar.proofs.check_grammar.Goals as goal

pub returns-then-model-gt-MAX_MODEL_BYTES : goal.returns-then-model-gt-MAX_MODEL_BYTES
unfolding reading_of too_long
returns-then-model-gt-MAX_MODEL_BYTES c = rw (lt-ltb _ _ c.if-model-gt-MAX_MODEL_BYTES.true)

pub returns-then-other_version : goal.returns-then-other_version
unfolding reading_of too_long
returns-then-other_version c = rw (le-ltb _ _ c.if-model-gt-MAX_MODEL_BYTES.false, sym c.other_version.ensures ∙ c.if-other_version.true)

pub returns-in-Ok : goal.returns-in-Ok
unfolding reading_of too_long fault_place
returns-in-Ok c =
    rw (
      le-ltb _ _ c.if-model-gt-MAX_MODEL_BYTES.false,
      sym c.other_version.ensures ∙ c.if-other_version.false,
      sym c.fault_in.ensures ∙ ap fault_of c.in-Ok.is,
    )

pub returns-in-Err : goal.returns-in-Err
unfolding reading_of too_long fault_place
returns-in-Err c =
    rw (
      le-ltb _ _ c.if-model-gt-MAX_MODEL_BYTES.false,
      sym c.other_version.ensures ∙ c.if-other_version.false,
      sym c.fault_in.ensures ∙ ap fault_of c.in-Err.is,
    )
