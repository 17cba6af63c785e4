-- Each case of an answer, with the numbers and values of docs/format.md.
use Rattle.std.specs.Prelude.{Bool, true, false, Result, Ok, Err}
use Rattle.lvs_spec.specs.Answers.{FollowAnswer}
use Rattle.lvs_spec.specs.Refusals.{refusal_of}
use Rattle.lvs_spec.specs.declared.refusal.Refusal.{Refusal}

abbrev pub follow_answer_of : Result Bool Refusal → FollowAnswer
follow_answer_of (Ok true) = FollowAnswer.accepted
follow_answer_of (Ok false) = FollowAnswer.no
follow_answer_of (Err r) = FollowAnswer.refused (refusal_of r)
