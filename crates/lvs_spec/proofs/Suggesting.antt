-- The suggesting call: an index is answered exactly when that certificate is the first that is allowed, and "none" exactly when none is. Assumes nothing.
use Prim.Native.Nat.{ℕ, ◌+◌}
use mathlib.Core.Path.{◌≡◌, refl, sym, ap, ◌∙◌, subst, fun_ext}
use mathlib.Core.Logic.{◌↔◌}
use mathlib.Core.Bool.{Bool, true, false}
use mathlib.Core.List.Memᴰ
use mathlib.Core.List.{List, [], ◌∷◌, ◌++◌, map, append-nil, Memᴰ}
use mathlib.Core.Option.{Option, none, some}
use native.Mathlib.Omega.{arith}
use lib.ListN.{length, length-map}
use Rattle.tlv.specs.Bytes.{Bytes}
use Rattle.tlv.specs.Element.{Element, Cuts, done, broken, next, cuts, pieces, element_bytes, encode, InRange, Each, nexts}
use Rattle.tlv.specs.Lists.{first_index}
use Rattle.tlv.specs.Lists as lists
use Rattle.tlv.proofs.Bytes.{bytes_left, bytes_right}
use Rattle.tlv.proofs.RoundTrip.{element_bytes_lem, element_fits, cuts_encoded, split_nexts, encode_split}
use Rattle.lvs_spec.specs.Model.{Model}
use Rattle.lvs_spec.specs.Names.{Component, NameReading, bad_name, good_name, packet_name, key_name}
use Rattle.lvs_spec.specs.Walk.{Pair, pairs}
use Rattle.lvs_spec.specs.Answers.{Refusal, Usable, unusable, usable, usable_model, inputs_in, inputs, SignAnswer, not_allowed, allowed, SignOutcome}
use Rattle.lvs_spec.specs.Answers.{pair_found, sign_with, sign_outcome}
use Rattle.lvs_spec.specs.Certificates.{Entry, entries, is_bad, unfit, is_allowed, roomy, allows, SuggestAnswer, no_certificate, certificate}
use Rattle.lvs_spec.specs.Certificates.{suggested}
use Rattle.lvs_spec.specs.Certificates.{ListReading, many_entries, unfit_entry, fit_entries, list_reading}
use Rattle.lvs_spec.specs.Certificates.{suggest_from, suggest_name, suggest_in, suggest_answer}
use Rattle.lvs_spec.specs.Demands.{list_refusals, suggest_refusals, joined, SuggestInputs, FirstAllowed, NoCertificate}
use Rattle.lvs_spec.specs.Demands.{SomeAllowed, NoneAllowed}
use Rattle.lvs_spec.proofs.Lists.{clash}
use Rattle.lvs_spec.proofs.Indices.{index_here, index_later, index_first, first_index_lem, index_none, none_index, index_map}
use Rattle.lvs_spec.proofs.Names.{good_element}
use Rattle.lvs_spec.proofs.Certificates.{reading_fit, fit_reading}
use Rattle.lvs_spec.proofs.Refusals.{of_model, of_packet, of_own}
use Rattle.lvs_spec.proofs.Inputs.{roomy_enough}
use Rattle.lvs_spec.proofs.Signing.{signs_first, sign_some, sign_none}

-- ---- how a call ends

-- it goes on with the search: no rule refuses the inputs
record Searched (b packet list : List ℕ) (m : Model) (ps : List Component) : Type 0 where
  usable_is : usable_model b ≡ usable m
  packet_good : packet_name packet ≡ good_name ps
  list_fit : list_reading (entries list) ≡ fit_entries

searched_is : {b packet list : List ℕ} {m : Model} {ps : List Component} → Searched b packet list m ps
    → suggest_answer b packet list ≡ suggested (first_index (allows m packet) 0 (entries list))
unfolding suggest_answer suggest_in suggest_name suggest_from
searched_is s = rw s.usable_is (rw s.packet_good (rw s.list_fit))

data Ended (b packet list : List ℕ) : SuggestAnswer → Type 0 where
  refusing : (r : Refusal) → Memᴰ r.number suggest_refusals → Ended b packet list (SuggestAnswer.refused r)
  searching : {m : Model} {ps : List Component} {o : Option ℕ} → Searched b packet list m ps → first_index (allows m packet) 0 (entries list) ≡ o
      → Ended b packet list (suggested o)

ended : (b packet list : List ℕ) → Ended b packet list (suggest_answer b packet list)
unfolding suggest_answer suggest_in suggest_name suggest_from
ended b packet list = go (usable_model b) (packet_name packet) (list_reading (entries list)) refl refl refl
  where
    go : (u : Usable) (r : NameReading) (l : ListReading) → usable_model b ≡ u → packet_name packet ≡ r → list_reading (entries list) ≡ l
        → Ended b packet list (suggest_answer b packet list)
    go (unusable x) r l eu er el = rw (eu, suggest_answer) (refusing x (of_model list_refusals b eu))
    go (usable m) (bad_name x) l eu er el =
        rw (eu, suggest_answer) (rw er (refusing _ (of_packet list_refusals packet er)))
    go (usable m) (good_name ps) many_entries eu er el =
        rw (eu, suggest_answer) (rw er (rw el (refusing _ (of_own list_refusals (Memᴰ.tail (Memᴰ.head refl))))))
    go (usable m) (good_name ps) (unfit_entry i) eu er el = rw (eu, suggest_answer) (rw er (rw el (refusing _ (of_own list_refusals (Memᴰ.head refl)))))
    go (usable m) (good_name ps) fit_entries eu er el =
        let s : Searched b packet list m ps = record { usable_is = eu; packet_good = er; list_fit = el } in
        rw (searched_is s) (searching s refl)

-- a refusal is one of an input that the call takes
pub suggest_number : (b packet list : List ℕ) (r : Refusal) → suggest_answer b packet list ≡ SuggestAnswer.refused r → Memᴰ r.number suggest_refusals
unfolding suggested
suggest_number b packet list r h = go (ended b packet list) h
  where
    go : {a : SuggestAnswer} → Ended b packet list a → a ≡ SuggestAnswer.refused r → Memᴰ r.number suggest_refusals
    go (refusing q i) h = let e : q.number ≡ r.number = cc in subst (λ (x : ℕ). Memᴰ x suggest_refusals) e i
    go (searching {o = none} s e) h = clash (cc)
    go (searching {o = some i} s e) h = clash (cc)

-- ---- the list, as entries and as certificate names

-- the tests of an entry, of its bytes
bad_key : List ℕ → Bool
bad_key k = is_bad (key_name k)

signs : Model → List ℕ → List ℕ → Bool
signs m packet k = is_allowed (sign_with (inputs_in (usable m) packet k) roomy).answer

-- the entries are elements, and the names their bytes
record Cut (list : List ℕ) (keys : List (List ℕ)) : Type 0 where
  els : List Element
  keys_are : keys ≡ map element_bytes els
  entries_are : entries list ≡ map some els

module _ {list : List ℕ} {keys : List (List ℕ)} (c : Cut list keys) where
  cut_count : length (entries list) ≡ length keys
  cut_count = rw (c.entries_are, c.keys_are) (length-map c.els some ∙ sym (length-map c.els element_bytes))

  index_keys : (f : Entry → Bool) (g : List ℕ → Bool) → ((e : Element) → f (some e) ≡ g (element_bytes e))
      → first_index f 0 (entries list) ≡ first_index g 0 keys
  index_keys f g same =
      ap (first_index f 0) c.entries_are ∙ index_map f some 0 c.els ∙
      ap (λ (h : Element → Bool). first_index h 0 c.els) (fun_ext same) ∙
      sym (ap (first_index g 0) c.keys_are ∙ index_map g element_bytes 0 c.els)

  unfit_keys : first_index unfit 0 (entries list) ≡ first_index bad_key 0 keys
  unfolding unfit bad_key
  unfit_keys = index_keys unfit bad_key (λ e. refl)

  allowed_keys : (m : Model) (packet : List ℕ) → first_index (allows m packet) 0 (entries list) ≡ first_index (signs m packet) 0 keys
  unfolding allows signs
  allowed_keys m packet = index_keys (allows m packet) (signs m packet) (λ e. refl)

pieces_nexts : (els : List Element) → pieces (nexts els done) ≡ map some els
unfolding pieces
pieces_nexts [] = refl
pieces_nexts (e ∷ els) = ap (λ (l : List Entry). some e ∷ l) (pieces_nexts els)

joined_encode : (els : List Element) → joined (map element_bytes els) ≡ encode els
unfolding encode
joined_encode [] = refl
joined_encode (e ∷ els) = ap (λ (l : List ℕ). element_bytes e ++ l) (joined_encode els)

-- a list without an unfit entry is cut whole
fit_cut : (i : ℕ) (c : Cuts) → first_index unfit i (pieces c) ≡ none → (els : List Element) × (c ≡ nexts els done)
unfolding pieces first_index unfit
fit_cut i done h = ([], refl)
fit_cut i broken h = clash (cc)
fit_cut i (next e c) h = go (unfit (some e)) refl (fit_cut (i + 1) c)
  where
    go : (t : Bool) → unfit (some e) ≡ t → (first_index unfit (i + 1) (pieces c) ≡ none → (els : List Element) × (c ≡ nexts els done))
        → (els : List Element) × (next e c ≡ nexts els done)
    go true p rec = let z = sym (index_here unfit i {x = some e} (pieces c) p) ∙ h in clash (cc)
    go false p rec =
        let (els, q) = rec (sym (index_later unfit i {x = some e} (pieces c) p) ∙ h) in
        (e ∷ els, ap (next e) q)

-- good key names are elements
good_elements : (keys : List (List ℕ)) → Bytes (joined keys) → ((k : List ℕ) → Memᴰ k keys → (ks : List Component) × (key_name k ≡ good_name ks))
    → (els : List Element) × (keys ≡ map element_bytes els) × Each InRange els
unfolding key_name
good_elements [] by good = ([], refl, tt)
good_elements (k ∷ keys) by good =
    let bytes = bytes_left k (joined keys) by in
    let (h, e, p) = good_element 24 k (good k (Memᴰ.head refl)).1 in
    let k-is : k ≡ element_bytes e = sym (element_bytes_lem k bytes p) ∙ append-nil (element_bytes e) in
    let (els, q, fits) = good_elements keys (bytes_right k (joined keys) by) (λ x m. good x (Memᴰ.tail m)) in
    (e ∷ els, (λ i. k-is i ∷ q i), (element_fits k bytes p, fits))

module _ {b packet list : List ℕ} {m : Model} {ps : List Component} (bytes : Bytes list) where
  -- inputs that no rule refuses lead to the search, and the other way round
  inputs_cut : {keys : List (List ℕ)} → SuggestInputs b packet list m ps keys → Cut list keys
  unfolding entries
  inputs_cut {keys} g =
      let (els, q, fits) = good_elements keys (subst Bytes g.list_is bytes) g.keys_good in
      let coded : list ≡ encode els = g.list_is ∙ ap joined q ∙ joined_encode els in
      record { els = els; keys_are = q; entries_are = ap pieces (ap cuts coded ∙ cuts_encoded els fits) ∙ pieces_nexts els }

  searched : {keys : List (List ℕ)} → SuggestInputs b packet list m ps keys → Searched b packet list m ps
  unfolding bad_key
  searched {keys} g =
      let c = inputs_cut g in
      record {
        usable_is = g.usable_is;
        packet_good = g.packet_good;
        list_fit = fit_reading (entries list)
            (record { few = omega (arith, cut_count c, g.few); fit = unfit_keys c ∙ none_index bad_key 0 keys (λ k i. rw (g.keys_good k i).1) });
      }

  searched_inputs : Searched b packet list m ps → (keys : List (List ℕ)) × Cut list keys × SuggestInputs b packet list m ps keys
  unfolding entries bad_key
  searched_inputs s =
      let f = reading_fit (entries list) s.list_fit in
      let (els, p) = fit_cut 0 (cuts list) f.fit in
      let keys : List (List ℕ) = map element_bytes els in
      let c : Cut list keys = record { els = els; keys_are = refl; entries_are = ap pieces p ∙ pieces_nexts els } in (
        keys,
        c,
        record {
          usable_is = s.usable_is;
          packet_good = s.packet_good;
          list_is = sym (joined_encode els ∙ encode_split list bytes els (split_nexts list els p));
          few = omega (arith, cut_count c, f.few);
          keys_good = λ k i. good k (key_name k) refl (index_none bad_key 0 keys (sym (unfit_keys c) ∙ f.fit) k i);
        },
      )
    where
      good : (k : List ℕ) (r : NameReading) → key_name k ≡ r → is_bad (key_name k) ≡ false → (ks : List Component) × (key_name k ≡ good_name ks)
      good k (bad_name x) p h = clash (cc)
      good k (good_name ks) p h = (ks, p)

-- ---- a certificate that is allowed, and one that is not

module _ (b packet key : List ℕ) {m : Model} (used : usable_model b ≡ usable m) where
  abbrev answer : SignAnswer
  answer = (sign_with (inputs_in (usable m) packet key) roomy).answer

  answer_is : (sign_outcome b packet key roomy).answer ≡ answer
  unfolding sign_outcome inputs
  answer_is = rw used

  signs_some : signs m packet key ≡ true → SomeAllowed b packet key
  unfolding signs
  signs_some h = go answer refl h
    where
      go : (a : SignAnswer) → answer ≡ a → is_allowed a ≡ true → SomeAllowed b packet key
      go (SignAnswer.refused r) p q = clash (cc)
      go not_allowed p q = clash (cc)
      go (allowed x y) p q = ((sign_some b packet key roomy).0 (x, y, answer_is ∙ p)).0

  some_signs : SomeAllowed b packet key → signs m packet key ≡ true
  unfolding signs
  some_signs s = let (x, y, e) = (sign_some b packet key roomy).1 (s, roomy_enough packet key) in ap is_allowed (sym answer_is ∙ e)

  signs_none : {ps ks : List Component} → packet_name packet ≡ good_name ps → key_name key ≡ good_name ks → signs m packet key ≡ false
      → NoneAllowed b packet key
  unfolding signs pair_found
  signs_none {ps} {ks} p k h =
      go (lists.first (pairs m ps ks)) (ap (λ (o : SignOutcome). o.answer) (signs_first m packet key roomy p k ((roomy_enough packet key).enough ps ks p k)))
    where
      go : (o : Option Pair) → answer ≡ (pair_found o roomy).answer → NoneAllowed b packet key
      go none e = ((sign_none b packet key roomy).0 (answer_is ∙ e)).0
      go (some z) e = let t = sym (ap is_allowed e) ∙ h in clash (cc)

  none_signs : NoneAllowed b packet key → signs m packet key ≡ false
  unfolding signs
  none_signs s = ap is_allowed (sym answer_is ∙ (sign_none b packet key roomy).1 (s, roomy_enough packet key))

-- ---- the theorems

module _ (b packet list : List ℕ) (bytes : Bytes list) where
  -- an index is answered exactly when that certificate is the first that is allowed
  pub suggest_first : {i : ℕ} → (suggest_answer b packet list ≡ certificate i) ↔ FirstAllowed b packet list i
  unfolding suggested
  suggest_first {i} = (λ h. go (ended b packet list) h, back)
    where
      found : {m : Model} {ps : List Component} → Searched b packet list m ps → first_index (allows m packet) 0 (entries list) ≡ some i
          → FirstAllowed b packet list i
      found {m} {ps} s e =
          let (keys, c, g) = searched_inputs bytes s in
          let r = index_first (signs m packet) 0 keys (sym (allowed_keys c m packet) ∙ e) in
          let g' = subst (SuggestInputs b packet list m ps) r.is g in
          record {
            model = m;
            components = ps;
            before = r.before;
            key = r.it;
            behind = r.behind;
            inputs = g';
            index = omega (arith, r.index);
            allowed = signs_some b packet r.it s.usable_is r.passes;
            earlier = λ k n.
                signs_none b packet k s.usable_is s.packet_good (g'.keys_good k (Memᴰ.append_left _ n)).1
                (index_none (signs m packet) 0 r.before r.earlier k n);
          }

      go : {a : SuggestAnswer} → Ended b packet list a → a ≡ certificate i → FirstAllowed b packet list i
      go (refusing r n) h = clash (cc)
      go (searching {o = none} s e) h = clash (cc)
      go (searching {o = some j} s e) h = let q : j ≡ i = cc in found s (e ∙ ap some q)

      back : FirstAllowed b packet list i → suggest_answer b packet list ≡ certificate i
      back f =
          let m = f.model in
          let used = f.inputs.usable_is in
          let earlier = none_index (signs m packet) 0 f.before (λ k n. none_signs b packet k used (f.earlier k n)) in
          let index = first_index_lem (signs m packet) 0 f.before f.behind earlier (some_signs b packet f.key used f.allowed) in
          searched_is (searched bytes f.inputs) ∙
          ap suggested (allowed_keys (inputs_cut bytes f.inputs) m packet ∙ index) ∙ ap certificate (omega (arith, f.index))

  -- "none" exactly when none is
  pub suggest_none : (suggest_answer b packet list ≡ no_certificate) ↔ NoCertificate b packet list
  unfolding suggested
  suggest_none = (λ h. go (ended b packet list) h, back)
    where
      found : {m : Model} {ps : List Component} → Searched b packet list m ps → first_index (allows m packet) 0 (entries list) ≡ none
          → NoCertificate b packet list
      found {m} {ps} s e =
          let (keys, c, g) = searched_inputs bytes s in
          record {
            model = m;
            components = ps;
            keys = keys;
            inputs = g;
            none_allowed = λ k n.
                signs_none b packet k s.usable_is s.packet_good (g.keys_good k n).1
                (index_none (signs m packet) 0 keys (sym (allowed_keys c m packet) ∙ e) k n);
          }

      go : {a : SuggestAnswer} → Ended b packet list a → a ≡ no_certificate → NoCertificate b packet list
      go (refusing r n) h = clash (cc)
      go (searching {o = none} s e) h = found s e
      go (searching {o = some j} s e) h = clash (cc)

      back : NoCertificate b packet list → suggest_answer b packet list ≡ no_certificate
      back f =
          let m = f.model in
          let none-signs-any = none_index (signs m packet) 0 f.keys (λ k n. none_signs b packet k f.inputs.usable_is (f.none_allowed k n)) in
          searched_is (searched bytes f.inputs) ∙ ap suggested (allowed_keys (inputs_cut bytes f.inputs) m packet ∙ none-signs-any)
