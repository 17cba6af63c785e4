-- Which refusal numbers a model and a name can have. Assumes nothing.
use Prim.Native.Nat.{ℕ, ◌+◌}
use mathlib.Core.Path.{◌≡◌, refl, sym, ap, ◌∙◌, subst}
use mathlib.Core.Bool.{Bool, true, false, false≢true}
use mathlib.Core.List.Memᴰ
use mathlib.Core.List.{List, [], ◌∷◌, ◌++◌, map, Memᴰ}
use mathlib.Core.Option.{Option, none, some}
use native.Mathlib.Omega.{arith}
use borrow.Author.Tests.{ltb-false}
use lib.Dec.{leb, ltb}
use lib.ListN.{length}
use Rattle.tlv.specs.Lists.{all}
use Rattle.lvs_spec.specs.Limits.{max_model_bytes, max_name_bytes, max_components}
use Rattle.lvs_spec.specs.WellFormed.{too_long, other_version}
use Rattle.lvs_spec.specs.Places.{fault_place}
use Rattle.lvs_spec.specs.Model.{Model, model_of}
use Rattle.lvs_spec.specs.Verdict.{Verdict, Test, fault, rules, decide, judge, reading, verdict}
use Rattle.lvs_spec.specs.Names.{Component, bad_name, good_name, name_of, row_reading, name_reading, packet_name, key_name}
use Rattle.lvs_spec.specs.Answers.{Refusal, unusable, judged, usable_model}
use Rattle.lvs_spec.specs.Demands.{rule_refusals, model_refusals, packet_refusals, key_refusals, MalformedAt}
use Rattle.lvs_spec.proofs.Lists.{clash}
use Rattle.lvs_spec.proofs.Grammar.{both}
use Rattle.lvs_spec.proofs.Usable.{usable_verdict}

-- a rule of the table has its number
abbrev pub numbers : List (ℕ × Test) → List ℕ
numbers rs = map (λ (x : ℕ × Test). x.0) rs

pub decide_number : (m : Model) (rs : List (ℕ × Test)) {r i : ℕ} → decide m rs ≡ Verdict.refused r i → Memᴰ r (numbers rs)
unfolding decide
decide_number m [] h = clash (cc)
decide_number m (x ∷ rs) {r} {i} h = go (fault m x.1) refl (λ h. decide_number m rs {i = i} h)
  where
    go : (o : Option ℕ) → fault m x.1 ≡ o → (decide m rs ≡ Verdict.refused r i → Memᴰ r (numbers rs)) → Memᴰ r (numbers (x ∷ rs))
    go none q rec = Memᴰ.tail (rec (rw (q, decide) at h))
    go (some j) q rec =
        let h' : Verdict.refused x.0 j ≡ Verdict.refused r i = rw (q, decide) at h in
        let e : r ≡ x.0 = cc in
        Memᴰ.head e

-- a model is refused with 1 to 14
pub verdict_number : (b : List ℕ) {r i : ℕ} → verdict b ≡ Verdict.refused r i → Memᴰ r model_refusals
unfolding verdict reading judge rules
verdict_number b {r} {i} h = go (too_long b) (other_version b) (fault_place b) refl refl refl
  where
    go : (x y : Bool) (o : Option ℕ) → too_long b ≡ x → other_version b ≡ y → fault_place b ≡ o → Memᴰ r model_refusals
    go true y o p q s =
        let h' : Verdict.refused 1 0 ≡ Verdict.refused r i = rw (p, verdict, reading) at h in
        let e : r ≡ 1 = cc in
        Memᴰ.head e
    go false true o p q s =
        let h' : Verdict.refused 3 0 ≡ Verdict.refused r i = rw (p, q, verdict, reading) at h in
        let e : r ≡ 3 = cc in
        Memᴰ.tail (Memᴰ.tail (Memᴰ.head e))
    go false false (some j) p q s =
        let h' : Verdict.refused 2 j ≡ Verdict.refused r i = rw (p, q, s, verdict, reading) at h in
        let e : r ≡ 2 = cc in
        Memᴰ.tail (Memᴰ.head e)
    go false false none p q s =
        Memᴰ.tail (Memᴰ.tail (Memᴰ.tail (decide_number (model_of b) (rules (model_of b)) (rw (p, q, s, verdict, reading) at h))))

all_in : (f : ℕ → Bool) {x : ℕ} {xs : List ℕ} → Memᴰ x xs → all f xs ≡ true → f x ≡ true
all_in f (Memᴰ.head {x = y} {xs = xs} e) h = ap f e ∙ (both (f y) (all f xs) h).0
all_in f (Memᴰ.tail {x = y} {xs = xs} i) h = all_in f i (both (f y) (all f xs) h).1

-- with 2 only where it is malformed, at that place
pub refused_malformed : (b : List ℕ) {p : ℕ} → verdict b ≡ Verdict.refused 2 p → MalformedAt b p
unfolding verdict reading too_long judge rules
refused_malformed b {p} h = go (too_long b) (other_version b) (fault_place b) refl refl refl
  where
    go : (x y : Bool) (o : Option ℕ) → too_long b ≡ x → other_version b ≡ y → fault_place b ≡ o → MalformedAt b p
    go true y o t v f =
        let h' : Verdict.refused 1 0 ≡ Verdict.refused 2 p = rw (t, verdict, reading) at h in
        let e : ◌≡◌ {A = ℕ} 1 2 = cc in
        absurd (omega arith)
    go false true o t v f =
        let h' : Verdict.refused 3 0 ≡ Verdict.refused 2 p = rw (t, v, verdict, reading) at h in
        let e : ◌≡◌ {A = ℕ} 3 2 = cc in
        absurd (omega arith)
    go false false (some i) t v f =
        let h' : Verdict.refused 2 i ≡ Verdict.refused 2 p = rw (t, v, f, verdict, reading) at h in
        let e : i ≡ p = cc in
        record { short = ltb-false max_model_bytes (length b) t; this = v; place = f ∙ ap some e }
    go false false none t v f = absurd (no_two (decide_number (model_of b) (rules (model_of b)) (rw (t, v, f, verdict, reading) at h)))
      where
        no_two : Memᴰ {A = ℕ} 2 rule_refusals → ⊥
        no_two i = false≢true (all_in (leb 3) i refl)

-- and so it is by the other calls
pub unusable_number : (b : List ℕ) {x : Refusal} → usable_model b ≡ unusable x → Memᴰ x.number model_refusals
unfolding judged
unusable_number b {x} h = go (verdict b) refl (sym (usable_verdict b) ∙ h)
  where
    go : (v : Verdict) → verdict b ≡ v → judged (model_of b) (verdict b) ≡ unusable x → Memᴰ x.number model_refusals
    go (Verdict.accepted n) e h = clash (cc)
    go (Verdict.refused r i) e h =
        let q : r ≡ x.number = cc in
        subst (λ (k : ℕ). Memᴰ k model_refusals) q (verdict_number b e)

-- a name is refused with one of three numbers
abbrev name_refusals : ℕ → List ℕ
name_refusals base = base ∷ (base + 1) ∷ (base + 2) ∷ []

name_number : (base : ℕ) (b : List ℕ) {r : ℕ} → name_reading base b ≡ bad_name r → Memᴰ r (name_refusals base)
unfolding name_reading row_reading
name_number base b {r} h = go (ltb max_name_bytes (length b)) (name_of b) refl refl
  where
    row : (t : Bool) (cs : List Component) → ltb max_components (length cs) ≡ t → row_reading base (some cs) ≡ bad_name r
        → Memᴰ r (name_refusals base)
    row true cs p h =
        let h' : bad_name (base + 2) ≡ bad_name r = rw p at h in
        let e : r ≡ base + 2 = cc in
        Memᴰ.tail (Memᴰ.tail (Memᴰ.head e))
    row false cs p h = let h' : good_name cs ≡ bad_name r = rw p at h in clash (cc)

    go : (t : Bool) (o : Option (List Component)) → ltb max_name_bytes (length b) ≡ t → name_of b ≡ o → Memᴰ r (name_refusals base)
    go true o p q = let h' : bad_name base ≡ bad_name r = rw p at h in let e : r ≡ base = cc in Memᴰ.head e
    go false none p q = let h' : bad_name (base + 1) ≡ bad_name r = rw (p, q) at h in let e : r ≡ base + 1 = cc in Memᴰ.tail (Memᴰ.head e)
    go false (some cs) p q = row (ltb max_components (length cs)) cs refl (rw (p, q) at h)

pub packet_number : (b : List ℕ) {r : ℕ} → packet_name b ≡ bad_name r → Memᴰ r packet_refusals
unfolding packet_name
packet_number b h = name_number 21 b h

pub key_number : (b : List ℕ) {r : ℕ} → key_name b ≡ bad_name r → Memᴰ r key_refusals
unfolding key_name
key_number b h = name_number 24 b h

-- a call takes a model, a packet name, and one input more, with refusals of its own
module _ (own : List ℕ) where
  pub of_model : (b : List ℕ) {x : Refusal} → usable_model b ≡ unusable x → Memᴰ x.number (model_refusals ++ (packet_refusals ++ own))
  of_model b h = Memᴰ.append_left (packet_refusals ++ own) (unusable_number b h)

  pub of_packet : (b : List ℕ) {r : ℕ} → packet_name b ≡ bad_name r → Memᴰ r (model_refusals ++ (packet_refusals ++ own))
  of_packet b h = Memᴰ.append_right model_refusals (Memᴰ.append_left own (packet_number b h))

  pub of_own : {r : ℕ} → Memᴰ r own → Memᴰ r (model_refusals ++ (packet_refusals ++ own))
  of_own i = Memᴰ.append_right model_refusals (Memᴰ.append_right packet_refusals i)
