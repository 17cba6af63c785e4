-- Which refusal numbers the bytes of a description, and the two calls, can have. Assumes nothing.
use Prim.Native.Nat.{ℕ}
use mathlib.Core.Path.{◌≡◌, refl, sym, ◌∙◌}
use mathlib.Core.Bool.{Bool, true, false}
use mathlib.Core.List.{List, [], ◌∷◌, ◌++◌, Memᴰ}
use mathlib.Core.Option.{Option, none, some}
use Rattle.lvs_spec.specs.WellFormed.{too_long}
use Rattle.lvs_spec.specs.Places.{fault_place}
use Rattle.lvs_spec.specs.Model.{Model}
use Rattle.lvs_spec.specs.Verdict.{Verdict, rules, judge, verdict}
use Rattle.lvs_spec.specs.Demands.{rule_refusals, model_refusals}
use Rattle.lvs_spec.proofs.Refusals.{decide_number}
use Rattle.lvs_description.specs.Description.{model_bytes}
use Rattle.lvs_description.specs.Answers.{no_description, short_output}
use Rattle.lvs_description.proofs.Theorem.{reading_of, verdict_of, written_judged}

-- bytes that were written are never of another version (3)
abbrev pub bytes_refusals : List ℕ
bytes_refusals = 1 ∷ 2 ∷ rule_refusals

-- no description, or what its bytes are refused with, or no room
abbrev pub write_refusals : List ℕ
write_refusals = no_description ∷ (bytes_refusals ++ (short_output ∷ []))

-- what a model is refused with, or too short lists
abbrev pub describe_refusals : List ℕ
describe_refusals = model_refusals ++ (no_description ∷ [])

-- ---- the bytes of a description

judge_number : (m : Model) {r i : ℕ} → judge m ≡ Verdict.refused r i → Memᴰ r rule_refusals
unfolding judge rules
judge_number m h = decide_number m (rules m) h

pub bytes_number : (m : Model) {r i : ℕ} → verdict (model_bytes m) ≡ Verdict.refused r i → Memᴰ r bytes_refusals
unfolding verdict_of reading_of
bytes_number m {r} {i} h = go (too_long (model_bytes m)) (fault_place (model_bytes m)) refl refl (sym (written_judged m) ∙ h)
  where
    go : (x : Bool) (o : Option ℕ) → too_long (model_bytes m) ≡ x → fault_place (model_bytes m) ≡ o → verdict_of m ≡ Verdict.refused r i
        → Memᴰ r bytes_refusals
    go true o p q h =
        let h' : Verdict.refused 1 0 ≡ Verdict.refused r i = rw (p, verdict_of, reading_of) at h in
        let e : r ≡ 1 = cc in
        Memᴰ.head e
    go false (some j) p q h =
        let h' : Verdict.refused 2 j ≡ Verdict.refused r i = rw (p, q, verdict_of, reading_of) at h in
        let e : r ≡ 2 = cc in
        Memᴰ.tail (Memᴰ.head e)
    go false none p q h = Memᴰ.tail (Memᴰ.tail (judge_number m (rw (p, q, verdict_of, reading_of) at h)))
