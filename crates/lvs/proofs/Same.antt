-- Two answers that say the same are the same: each can be read back. Assumes nothing.
use Prim.Native.Nat.{ℕ}
use mathlib.Core.Path.{◌≡◌, refl, sym, ap, ◌∙◌}
use mathlib.Core.Bool.{true, false}
use mathlib.Core.List.{List, [], ◌∷◌}
use lib.ListN.{get_or}
use Rattle.std.specs.Prelude.{Bool, None, Some, Result, Ok, Err}
use Rattle.lvs_spec.specs.Verdict.{Verdict as Judgement}
use Rattle.lvs_spec.specs.Answers as refusals
use Rattle.lvs_spec.specs.Answers.{MatchAnswer as Matching, SignAnswer as Signing, FollowAnswer as Following}
use Rattle.lvs_spec.specs.Certificates.{SuggestAnswer as Suggesting}
use Rattle.lvs_spec.specs.Refusals.{refusal_of}
use Rattle.lvs_spec.specs.declared.refusal.Refusal.{Refusal}
use Rattle.lvs_spec.specs.declared.refusal.Refusal.TheVariants as refused
use Rattle.lvs_spec.specs.declared.refusal.Rule.TheVariants as rule
use Rattle.lvs_spec.specs.declared.refusal.NameFault.TheVariants.{TooLong, Malformed, ManyComponents}
use Rattle.lvs_spec.specs.declared.refusal.Side.TheVariants.{Packet, Key}
use Rattle.lvs_verdict.specs.Answers.{verdict_of}
use Rattle.lvs_follow.specs.Answers.{follow_answer_of}
use Rattle.lvs.specs.Answers.{MatchAnswer, match_answer_of, SignAnswer, sign_answer_of, SuggestAnswer, suggest_answer_of}

pub same_back : {A B : Type 0} (f : A → B) (back : B → A) → ((a : A) → back (f a) ≡ a) → (r q : A) → f r ≡ f q → r ≡ q
same_back f back is r q e = sym (is r) ∙ ap back e ∙ is q

-- ---- refusals

-- those of the numbers from 0 on; where the format has none, any
numbered : ℕ → List Refusal
numbered at =
    refused.TooLong ∷ refused.TooLong ∷ refused.Malformed at ∷ refused.OtherVersion ∷ refused.Rule rule.ManyNodes at ∷ refused.Rule rule.TagRange at ∷
    refused.Rule rule.OwnId at ∷ refused.Rule rule.StartId at ∷ refused.Rule rule.Destination at ∷ refused.Rule rule.Signer at ∷
    refused.Rule rule.OneTerm at ∷ refused.Rule rule.Parent at ∷ refused.Rule rule.Call at ∷ refused.Rule rule.Root at ∷ refused.Rule rule.Parallel at ∷
    refused.TooLong ∷ refused.TooLong ∷ refused.TooLong ∷ refused.TooLong ∷ refused.TooLong ∷ refused.TooLong ∷ refused.Name Packet TooLong ∷
    refused.Name Packet Malformed ∷ refused.Name Packet ManyComponents ∷ refused.Name Key TooLong ∷ refused.Name Key Malformed ∷
    refused.Name Key ManyComponents ∷ refused.ShortWords ∷ refused.TooLong ∷ refused.TooLong ∷ refused.NoDescription ∷ refused.ShortOutput ∷
    refused.UnfitCertificate at ∷ refused.ManyCertificates ∷ refused.ShortPath ∷ []

pub refusal_from : refusals.Refusal → Refusal
refusal_from r = get_or (numbered r.at) r.number refused.TooLong

pub refusal_back : (r : Refusal) → refusal_from (refusal_of r) ≡ r
unfolding numbered refusal_from
refusal_back refused.TooLong = refl
refusal_back (refused.Malformed place) = refl
refusal_back refused.OtherVersion = refl
refusal_back (refused.Rule rule.ManyNodes node) = refl
refusal_back (refused.Rule rule.TagRange node) = refl
refusal_back (refused.Rule rule.OwnId node) = refl
refusal_back (refused.Rule rule.StartId node) = refl
refusal_back (refused.Rule rule.Destination node) = refl
refusal_back (refused.Rule rule.Signer node) = refl
refusal_back (refused.Rule rule.OneTerm node) = refl
refusal_back (refused.Rule rule.Parent node) = refl
refusal_back (refused.Rule rule.Call node) = refl
refusal_back (refused.Rule rule.Root node) = refl
refusal_back (refused.Rule rule.Parallel node) = refl
refusal_back (refused.Name Packet TooLong) = refl
refusal_back (refused.Name Packet Malformed) = refl
refusal_back (refused.Name Packet ManyComponents) = refl
refusal_back (refused.Name Key TooLong) = refl
refusal_back (refused.Name Key Malformed) = refl
refusal_back (refused.Name Key ManyComponents) = refl
refusal_back refused.ShortWords = refl
refusal_back refused.NoDescription = refl
refusal_back refused.ShortOutput = refl
refusal_back (refused.UnfitCertificate index) = refl
refusal_back refused.ManyCertificates = refl
refusal_back refused.ShortPath = refl

pub same_refusal : (x y : Refusal) → refusal_of x ≡ refusal_of y → x ≡ y
same_refusal = same_back refusal_of refusal_from refusal_back

-- ---- the calls' answers

verdict_from : Judgement → Result ℕ Refusal
verdict_from (Judgement.accepted n) = Ok n
verdict_from (Judgement.refused r i) = Err (refusal_from (record { number = r; at = i }))

verdict_back : (r : Result ℕ Refusal) → verdict_from (verdict_of r) ≡ r
unfolding verdict_from
verdict_back (Ok n) = refl
verdict_back (Err r) = ap Err (refusal_back r)

pub same_verdict : (r q : Result ℕ Refusal) → verdict_of r ≡ verdict_of q → r ≡ q
same_verdict = same_back verdict_of verdict_from verdict_back

matching_from : Matching → MatchAnswer
matching_from (Matching.matched v n) = Ok (Some (record { node = v; bound = n }))
matching_from Matching.no_match = Ok None
matching_from (Matching.refused r) = Err (refusal_from r)

matching_back : (r : MatchAnswer) → matching_from (match_answer_of r) ≡ r
unfolding matching_from
matching_back (Ok (Some x)) = refl
matching_back (Ok None) = refl
matching_back (Err r) = ap Err (refusal_back r)

pub same_matching : (r q : MatchAnswer) → match_answer_of r ≡ match_answer_of q → r ≡ q
same_matching = same_back match_answer_of matching_from matching_back

signing_from : Signing → SignAnswer
signing_from (Signing.allowed p k) = Ok (Some (record { packet = p; key = k }))
signing_from Signing.not_allowed = Ok None
signing_from (Signing.refused r) = Err (refusal_from r)

signing_back : (r : SignAnswer) → signing_from (sign_answer_of r) ≡ r
unfolding signing_from
signing_back (Ok (Some z)) = refl
signing_back (Ok None) = refl
signing_back (Err r) = ap Err (refusal_back r)

pub same_signing : (r q : SignAnswer) → sign_answer_of r ≡ sign_answer_of q → r ≡ q
same_signing = same_back sign_answer_of signing_from signing_back

following_from : Following → Result Bool Refusal
following_from Following.accepted = Ok true
following_from Following.no = Ok false
following_from (Following.refused r) = Err (refusal_from r)

following_back : (r : Result Bool Refusal) → following_from (follow_answer_of r) ≡ r
unfolding following_from
following_back (Ok true) = refl
following_back (Ok false) = refl
following_back (Err r) = ap Err (refusal_back r)

pub same_following : (r q : Result Bool Refusal) → follow_answer_of r ≡ follow_answer_of q → r ≡ q
same_following = same_back follow_answer_of following_from following_back

suggesting_from : Suggesting → SuggestAnswer
suggesting_from (Suggesting.certificate i) = Ok (Some i)
suggesting_from Suggesting.no_certificate = Ok None
suggesting_from (Suggesting.refused r) = Err (refusal_from r)

suggesting_back : (r : SuggestAnswer) → suggesting_from (suggest_answer_of r) ≡ r
unfolding suggesting_from
suggesting_back (Ok (Some i)) = refl
suggesting_back (Ok None) = refl
suggesting_back (Err r) = ap Err (refusal_back r)

pub same_suggesting : (r q : SuggestAnswer) → suggest_answer_of r ≡ suggest_answer_of q → r ≡ q
same_suggesting = same_back suggest_answer_of suggesting_from suggesting_back
