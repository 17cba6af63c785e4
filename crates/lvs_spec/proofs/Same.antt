-- Two models with the same traces have the same matches, signing outcomes, paths and suggestions. Assumes nothing.
use Prim.Native.Nat.{ℕ, ◌+◌}
use mathlib.Core.Path.{◌≡◌, refl, sym, ap, ◌∙◌, fun_ext}
use mathlib.Core.Bool.{Bool, true, false}
use mathlib.Core.List.{List, [], ◌∷◌, ◌++◌, Memᴰ}
use mathlib.Core.Option.{none, some}
use lib.Dec.{ltb}
use lib.ListN.{length}
use Rattle.tlv.specs.Element.{element_bytes}
use Rattle.tlv.specs.Lists.{each, first_index}
use Rattle.lvs_spec.specs.Limits.{binding_words}
use Rattle.lvs_spec.specs.Model.{Model, model_of}
use Rattle.lvs_spec.specs.Verdict.{Verdict, verdict}
use Rattle.lvs_spec.specs.Names.{Component, NameReading, bad_name, good_name, packet_name, key_name}
use Rattle.lvs_spec.specs.Walk.{Match, Event, looked, found, continue, answers, packet_trace, packet_matches, key_trace, lists}
use Rattle.lvs_spec.specs.Walk.{signed, sign_trace, pair_trace, pairs}
use Rattle.lvs_spec.specs.Answers.{usable, usable_model, match_room, match_name, match_in, match_outcome, input_names, inputs_in, inputs, Buffers}
use Rattle.lvs_spec.specs.Answers.{sign_room, sign_with, sign_outcome, followed, follow_with, follow_answer}
use Rattle.lvs_spec.specs.Certificates.{Entry, entries, ListReading, many_entries, unfit_entry, fit_entries, list_reading, roomy, is_allowed}
use Rattle.lvs_spec.specs.Certificates.{allows, suggested}
use Rattle.lvs_spec.specs.Certificates.{suggest_from, suggest_name, suggest_in, suggest_answer}
use Rattle.lvs_spec.proofs.Usable.{accepted_usable}
use Rattle.lvs_spec.proofs.Following.{follow_same}

-- the same edges looked at and the same answers found, in the same order, for all names
pub record SameTraces (m n : Model) : Type 0 where
  pub packet : (cs : List Component) → packet_trace m cs ≡ packet_trace n cs
  pub pair : (ps ks : List Component) → pair_trace m ps ks ≡ pair_trace n ps ks

-- the continuations of a trace have to be the same only where it has found something
each_found : {A B : Type 0} {f g : A → List (Event B)} (t : List (Event A)) → ((a : A) → Memᴰ a (answers t) → f a ≡ g a)
    → each (continue f) t ≡ each (continue g) t
each_found [] h = refl
each_found (looked ∷ t) h = ap (λ l. looked ∷ l) (each_found t h)
each_found {f = f} {g = g} (found a ∷ t) h =
    ap (λ l. l ++ each (continue f) t) (h a (Memᴰ.head refl)) ∙ ap (λ l. g a ++ l) (each_found t (λ x i. h x (Memᴰ.tail i)))

-- it is enough that packet names are walked alike, and key names after each packet match, and that the same signers are listed
pub same_traces : {m n : Model} → ((cs : List Component) → packet_trace m cs ≡ packet_trace n cs)
    → ((ps ks : List Component) (x : Match) → Memᴰ x (packet_matches n ps) → key_trace m ks x ≡ key_trace n ks x)
    → ((v k : ℕ) → lists m v k ≡ lists n v k) → SameTraces m n
unfolding pair_trace packet_matches sign_trace signed
same_traces {m} {n} packet key listed =
    record {
      packet = packet;
      pair = λ ps ks.
          ap (λ t. each (continue (sign_trace m ks)) t) (packet ps) ∙ each_found (packet_trace n ps) (λ x i. sign ks x (key ps ks x i));
    }
  where
    sign : (ks : List Component) (x : Match) → key_trace m ks x ≡ key_trace n ks x → sign_trace m ks x ≡ sign_trace n ks x
    sign ks x e =
        ap (λ t. each (continue (signed m x)) t) e ∙ each_found (key_trace n ks x) (λ y _. rw (listed x.node y.node))

-- two models that are each like the same third
pub through : {m n o : Model} → SameTraces o m → SameTraces o n → SameTraces m n
through s t = record { packet = λ cs. sym (s.packet cs) ∙ t.packet cs; pair = λ ps ks. sym (s.pair ps ks) ∙ t.pair ps ks }

module _ {m n : Model} (s : SameTraces m n) where
  match_same : (r : NameReading) (buffer : List ℕ) → match_name m r buffer ≡ match_name n r buffer
  unfolding match_name match_room
  match_same (bad_name x) buffer = refl
  match_same (good_name cs) buffer = go (ltb (length buffer) binding_words)
    where
      go : (t : Bool) → match_room t m cs buffer ≡ match_room t n cs buffer
      go true = refl
      go false = rw (s.packet cs)

  sign_same : (r q : NameReading) (w : Buffers) → sign_with (input_names m r q) w ≡ sign_with (input_names n r q) w
  unfolding input_names sign_with sign_room
  sign_same (bad_name x) q w = refl
  sign_same (good_name ps) (bad_name x) w = refl
  sign_same (good_name ps) (good_name ks) w = go (ltb (length w.words) binding_words) (ltb (length w.path) (length ps + length ks))
    where
      go : (t u : Bool) → sign_room t u m ps ks w ≡ sign_room t u n ps ks w
      go true u = refl
      go false true = refl
      go false false = rw (s.pair ps ks)

  path_same : (r q : NameReading) (path : List ℕ) → follow_with (input_names m r q) path ≡ follow_with (input_names n r q) path
  unfolding input_names follow_with pairs
  path_same (bad_name x) q path = refl
  path_same (good_name ps) (bad_name x) path = refl
  path_same (good_name ps) (good_name ks) path = ap followed (follow_same m n ps ks (ap answers (s.pair ps ks)) path)

  allows_same : (packet : List ℕ) (e : Entry) → allows m packet e ≡ allows n packet e
  unfolding allows inputs_in
  allows_same packet none = refl
  allows_same packet (some e) = ap (λ o. is_allowed o.answer) (sign_same (packet_name packet) (key_name (element_bytes e)) roomy)

  suggest_same : (packet : List ℕ) (r : NameReading) (es : List Entry) → suggest_name m packet r es ≡ suggest_name n packet r es
  unfolding suggest_name suggest_from
  suggest_same packet (bad_name x) es = refl
  suggest_same packet (good_name cs) es = go (list_reading es)
    where
      go : (l : ListReading) → suggest_from m packet es l ≡ suggest_from n packet es l
      go many_entries = refl
      go (unfit_entry i) = refl
      go fit_entries = ap (λ (f : Entry → Bool). suggested (first_index f 0 es)) (fun_ext (allows_same packet))

-- the same match and signing outcomes, paths and suggestions, for all names, buffers and lists
pub record SameAnswers (a b : List ℕ) : Type 0 where
  pub matched : (name buffer : List ℕ) → match_outcome a name buffer ≡ match_outcome b name buffer
  pub signed : (packet key : List ℕ) (s : Buffers) → sign_outcome a packet key s ≡ sign_outcome b packet key s
  pub followed : (packet key path : List ℕ) → follow_answer a packet key path ≡ follow_answer b packet key path
  pub suggested : (packet list : List ℕ) → suggest_answer a packet list ≡ suggest_answer b packet list

-- two models that the calls go on with
same_answers : (a b : List ℕ) {m n : Model} → usable_model a ≡ usable m → usable_model b ≡ usable n → SameTraces m n → SameAnswers a b
unfolding match_outcome match_in inputs inputs_in sign_outcome follow_answer suggest_answer suggest_in
same_answers a b p q s =
    record {
      matched = λ name buffer. rw (p, q, match_outcome) (match_same s (packet_name name) buffer);
      signed = λ packet key w. rw (p, q, sign_outcome) (sign_same s (packet_name packet) (key_name key) w);
      followed = λ packet key path. rw (p, q, follow_answer) (path_same s (packet_name packet) (key_name key) path);
      suggested = λ packet list. rw (p, q, suggest_answer) (suggest_same s packet (packet_name packet) (entries list));
    }

pub accepted_same : (a b : List ℕ) (i j : ℕ) → verdict a ≡ Verdict.accepted i → verdict b ≡ Verdict.accepted j → SameTraces (model_of a) (model_of b)
    → SameAnswers a b
accepted_same a b i j p q s = same_answers a b (accepted_usable a i p) (accepted_usable b j q) s
