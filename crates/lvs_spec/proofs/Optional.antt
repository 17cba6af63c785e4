-- An optional element more, in any gap at any depth, changes no answer: the model stays well formed and of its version, and its bare form is the
-- same. Assumes nothing.
use Prim.Native.Nat.{ℕ, zero, suc, ◌≤◌, ◌<◌, ◌^◌}
use mathlib.Core.Path.{◌≡◌, refl, sym, ap, ◌∙◌}
use mathlib.Core.Bool.{Bool, true}
use mathlib.Core.List.{List, [], ◌∷◌, ◌++◌}
use mathlib.Core.Option.{Option, none, some}
use native.Mathlib.Omega.{arith}
use lib.ListN.{length}
use Rattle.tlv.specs.Bytes.{Bytes}
use Rattle.tlv.specs.Element.{Element, type_in_range, Cuts, done, next, nexts, cuts, encode, Each}
use Rattle.tlv.specs.Lists.{is}
use Rattle.tlv.proofs.RoundTrip.{cuts_encoded, nexts_split}
use Rattle.tlv.proofs.Sizes.{split_types, all_in_range}
use Rattle.lvs_spec.specs.Limits.{max_model_bytes}
use Rattle.lvs_spec.specs.Grammar.{Kind, Known, Item, Meaning, meaning, order, step, model, container, optional, critical, known}
use Rattle.lvs_spec.specs.WellFormed.{inside_ok, in_order, well_formed_by, well_formed, first_known, is_other_version, other_version}
use Rattle.lvs_spec.specs.Model.{Model, model_of}
use Rattle.lvs_spec.specs.Verdict.{describes, reading, verdict}
use Rattle.lvs_spec.specs.Answers.{match_outcome, sign_outcome, follow_answer}
use Rattle.lvs_spec.specs.Certificates.{suggest_answer}
use Rattle.lvs_spec.specs.Gaps.{holding, bare, Inserted, here, deeper}
use Rattle.lvs_spec.specs.Demands.{Alike}
use Rattle.lvs_spec.proofs.Grammar.{optional_next, critical_next, known_next, goes_on, known_in_range}
use Rattle.lvs_spec.proofs.Version.{first_optional, first_critical, first_known_lem, container_not_version}
use Rattle.lvs_spec.proofs.Critical.{TypeOk, nexts_append, each_insert, each_replace, inside_shorter}
use Rattle.lvs_spec.proofs.Reading.{Passed, passed, reads}
use Rattle.lvs_spec.proofs.Demand3.{bare_alike}
use Rattle.lvs_spec.proofs.Gaps.{inserted_bare}

-- ---- how the new bytes are cut

cut_inserted : (before after : List Element) (x : Element) → Each TypeOk (before ++ x ∷ after)
    → length (encode (before ++ x ∷ after)) < 2 ^ 64 → cuts (encode (before ++ x ∷ after)) ≡ nexts before (next x (nexts after done))
cut_inserted before after x t l = cuts_encoded _ (all_in_range _ t l) ∙ nexts_append before (x ∷ after) done

-- ---- well formed

module _ (inner : Kind → List ℕ → Bool) (k : Kind) where
  -- what is in order alike wherever it stands makes all before it so
  same_order : (before : List Element) (c c' : Cuts) → ((items : List Item) → in_order inner k items c' ≡ in_order inner k items c)
      → (items : List Item) → in_order inner k items (nexts before c') ≡ in_order inner k items (nexts before c)
  unfolding goes_on
  same_order [] c c' h items = h items
  same_order (e ∷ before) c c' h items = go (meaning e.type) refl (same_order before c c' h)
    where
      goes : (w : Known) (o : Option (List Item)) → ((its : List Item) → in_order inner k its (nexts before c') ≡ in_order inner k its (nexts before c))
          → goes_on inner k w e (nexts before c') o ≡ goes_on inner k w e (nexts before c) o
      goes w none rec = refl
      goes w (some left) rec = rw (rec left)

      go : (m : Meaning) → meaning e.type ≡ m → ((its : List Item) → in_order inner k its (nexts before c') ≡ in_order inner k its (nexts before c))
          → in_order inner k items (next e (nexts before c')) ≡ in_order inner k items (next e (nexts before c))
      go optional q rec = optional_next inner k items e _ q ∙ rec items ∙ sym (optional_next inner k items e _ q)
      go critical q rec = critical_next inner k items e _ q ∙ sym (critical_next inner k items e _ q)
      go (known w) q rec = known_next inner k items e _ w q ∙ goes w (step items e.type) rec ∙ sym (known_next inner k items e _ w q)

  -- a container with another inside that is well formed alike
  same_inside : (e : Element) (inside : List ℕ) (c : Cuts) (j : Kind) → meaning e.type ≡ known (container j) → inner j inside ≡ inner j e.inside
      → (items : List Item) → in_order inner k items (next (holding e inside) c) ≡ in_order inner k items (next e c)
  unfolding goes_on inside_ok
  same_inside e inside c j q h items =
      known_next inner k items (holding e inside) c (container j) q ∙ go (step items e.type) ∙ sym (known_next inner k items e c (container j) q)
    where
      go : (o : Option (List Item)) → goes_on inner k (container j) (holding e inside) c o ≡ goes_on inner k (container j) e c o
      go none = refl
      go (some left) = rw h

-- ---- the version

abbrev decided : Cuts → Bool
decided c = is is_other_version (first_known c)

same_decided : (before : List Element) (c c' : Cuts) → decided c' ≡ decided c → decided (nexts before c') ≡ decided (nexts before c)
same_decided [] c c' h = h
same_decided (e ∷ before) c c' h = go (meaning e.type) refl (same_decided before c c' h)
  where
    go : (m : Meaning) → meaning e.type ≡ m → decided (nexts before c') ≡ decided (nexts before c)
        → decided (next e (nexts before c')) ≡ decided (next e (nexts before c))
    go optional q rec = rw (first_optional e (nexts before c') q, first_optional e (nexts before c) q) rec
    go critical q rec = rw (first_critical e (nexts before c') q, first_critical e (nexts before c) q)
    go (known w) q rec = rw (first_known_lem e (nexts before c') w q, first_known_lem e (nexts before c) w q)

-- ---- an optional element in a gap

module _ (x : Element) (x-optional : meaning x.type ≡ optional) (x-typed : type_in_range x.type ≡ true) where
  same_formed : (n : ℕ) (k : Kind) {b b' : List ℕ} → Inserted x b b' → length b' < 2 ^ 64 → well_formed_by n k b' ≡ well_formed_by n k b
  unfolding well_formed_by
  same_formed zero k i l = refl
  same_formed (suc n) k (here {b} before after s) l =
      rw (
        cut_inserted before after x (each_insert TypeOk before after x x-typed (split_types b _ s)) l,
        nexts_split b _ s,
        nexts_append before after done,
      )
      (same_order (well_formed_by n) k before (nexts after done) (next x (nexts after done))
      (λ items. optional_next (well_formed_by n) k items x (nexts after done) x-optional)
      (order k))
  same_formed (suc n) k (deeper {b} {inside} before after e j s q i) l =
      let e' : Element = holding e inside in
      let shorter = inside_shorter before after e' in
      rw (
        cut_inserted before after e' (each_replace TypeOk before after e e' (known_in_range e.type (container j) q) (split_types b _ s)) l,
        nexts_split b _ s,
        nexts_append before (e ∷ after) done,
      )
      (same_order (well_formed_by n) k before (next e (nexts after done)) (next e' (nexts after done))
      (same_inside (well_formed_by n) k e inside (nexts after done) j q (same_formed n j i (omega arith)))
      (order k))

  same_version : {b b' : List ℕ} → Inserted x b b' → length b' < 2 ^ 64 → other_version b' ≡ other_version b
  unfolding other_version
  same_version (here {b} before after s) l =
      rw (
        cut_inserted before after x (each_insert TypeOk before after x x-typed (split_types b _ s)) l,
        nexts_split b _ s,
        nexts_append before after done,
      )
      (same_decided before (nexts after done) (next x (nexts after done)) (ap (is is_other_version) (first_optional x (nexts after done) x-optional)))
  same_version (deeper {b} {inside} before after e j s q i) l =
      let e' : Element = holding e inside in
      let c = nexts after done in
      let none_is = container_not_version e' j q ∙ sym (container_not_version e j q) in
      let v : decided (next e' c) ≡ decided (next e c) = rw (first_known_lem e' c (container j) q, first_known_lem e c (container j) q) none_is in
      rw (
        cut_inserted before after e' (each_replace TypeOk before after e e' (known_in_range e.type (container j) q) (split_types b _ s)) l,
        nexts_split b _ s,
        nexts_append before (e ∷ after) done,
      )
      (same_decided before (next e c) (next e' c) v)

-- two models with the same bare form, which has the answers of both
alike_by : {a b : List ℕ} → bare a ≡ bare b → Alike (bare a) a → Alike (bare b) b → Alike a b
alike_by e p q =
    record {
      verdicts = sym p.verdicts ∙ ap verdict e ∙ q.verdicts;
      matched = λ name buffer. sym (p.matched name buffer) ∙ ap (λ m. match_outcome m name buffer) e ∙ q.matched name buffer;
      signed = λ packet key s. sym (p.signed packet key s) ∙ ap (λ m. sign_outcome m packet key s) e ∙ q.signed packet key s;
      followed = λ packet key path. sym (p.followed packet key path) ∙ ap (λ m. follow_answer m packet key path) e ∙ q.followed packet key path;
      suggested = λ packet list. sym (p.suggested packet list) ∙ ap (λ m. suggest_answer m packet list) e ∙ q.suggested packet list;
    }

-- for every model that is not refused with 1 to 3: unless it becomes too long, an optional element more changes no answer and no word
pub optional_alike : (b b' : List ℕ) (m : Model) (x : Element) → Bytes b → Bytes b' → reading b ≡ describes m
    → meaning x.type ≡ optional → type_in_range x.type ≡ true → Inserted x b b' → length b' ≤ max_model_bytes → Alike b' b
unfolding well_formed
optional_alike b b' m x by by' r o t i l =
    let p = passed b m r in
    let version = same_version x o t i (omega arith) ∙ p.this in
    let formed = same_formed x o t 7 model i (omega arith) ∙ p.formed in
    let p' : Passed b' = record { short = l; this = version; formed = formed } in
    alike_by (inserted_bare b b' m x r o t i l) (bare_alike b' (model_of b') by' (reads b' p')) (bare_alike b m by r)
