use Rattle.lvs_codec.proofs.Writes.{nothing_described, measured, too_long_lem, sized}
use Rattle.lvs_codec.proofs.write_model.Goals as goal

pub returns-in_default : goal.returns-in_default
returns-in_default c = nothing_described _ _ c.args.output.now c.in_default.ensures

pub returns-then-size-gt-MAX_MODEL_BYTES : goal.returns-then-size-gt-MAX_MODEL_BYTES
returns-then-size-gt-MAX_MODEL_BYTES c = too_long_lem (measured _ _ c.in-Some.ensures) c.args.output.now c.if-size-gt-MAX_MODEL_BYTES.true

pub write_within-requires-clause-sized : goal.write_within-requires-clause-sized
write_within-requires-clause-sized c = sized (measured _ _ c.in-Some.ensures) c.if-size-gt-MAX_MODEL_BYTES.false

pub write_within-requires-2-clause-sized : goal.write_within-requires-2-clause-sized
write_within-requires-2-clause-sized c = sized (measured _ _ c.in-Some.ensures) c.if-size-gt-MAX_MODEL_BYTES.false
