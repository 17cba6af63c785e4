-- Each case of an answer, with the numbers and values of docs/format.md.
use Rattle.std.specs.Prelude.{ℕ, Option, None, Some, Result, Ok, Err}
use Rattle.lvs_spec.specs.Answers.{MatchAnswer as Matching, SignAnswer as Signing}
use Rattle.lvs_spec.specs.Certificates.{SuggestAnswer as Suggesting}
use Rattle.lvs_spec.specs.Refusals.{refusal_of}
use Rattle.lvs_spec.specs.declared.refusal.Refusal.{Refusal}
use Rattle.lvs_walk.specs.declared.goal.Pair.{Pair}
use Rattle.lvs.specs.declared.found.Match.{Match}

abbrev pub MatchAnswer : Type 0
MatchAnswer = Result (Option Match) Refusal

abbrev pub match_answer_of : MatchAnswer → Matching
match_answer_of (Ok (Some x)) = Matching.matched x.node x.bound
match_answer_of (Ok None) = Matching.no_match
match_answer_of (Err r) = Matching.refused (refusal_of r)

abbrev pub SignAnswer : Type 0
SignAnswer = Result (Option Pair) Refusal

abbrev pub sign_answer_of : SignAnswer → Signing
sign_answer_of (Ok (Some z)) = Signing.allowed z.packet z.key
sign_answer_of (Ok None) = Signing.not_allowed
sign_answer_of (Err r) = Signing.refused (refusal_of r)

abbrev pub SuggestAnswer : Type 0
SuggestAnswer = Result (Option ℕ) Refusal

abbrev pub suggest_answer_of : SuggestAnswer → Suggesting
suggest_answer_of (Ok (Some i)) = Suggesting.certificate i
suggest_answer_of (Ok None) = Suggesting.no_certificate
suggest_answer_of (Err r) = Suggesting.refused (refusal_of r)
