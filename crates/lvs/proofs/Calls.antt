-- What the calls' definitions come to, by what the callees answered. Assumes nothing.
use Prim.Native.Nat.{ℕ, ◌+◌, ◌≤◌, ◌<◌}
use mathlib.Core.Path.{◌≡◌, refl, sym, ap, ◌∙◌}
use mathlib.Core.Bool.{Bool}
use mathlib.Core.List.{List, ◌++◌}
use mathlib.Core.Option as math
use mathlib.Core.Option.{none, some}
use Rattle.std.specs.Prelude.{Option, None, Some, Result, Ok, Err}
use native.Mathlib.Omega.{arith}
use borrow.Author.Tests.{lt-ltb, le-ltb}
use lib.Dec.{ltb}
use lib.ListN.{length, drop}
use Rattle.tlv.specs.Lists.{first, first_index}
use Rattle.lvs_spec.specs.Limits.{max_certificates, binding_words}
use Rattle.lvs_spec.specs.Model.{model_of}
use Rattle.lvs_spec.specs.Verdict.{Verdict, verdict}
use Rattle.lvs_spec.specs.Names.{Component, bad_name, good_name, name_reading, packet_name}
use Rattle.lvs_spec.specs.Walk.{Match, packet_matches, pairs}
use Rattle.lvs_spec.specs.Answers.{Refusal, MatchAnswer, plain, words, bound_count, match_refused, match_found, match_walked, match_room, match_name, match_in}
use Rattle.lvs_spec.specs.Answers.{match_outcome}
use Rattle.lvs_spec.specs.Answers.{bad, good, inputs, SignAnswer, Buffers, sign_refused, pair_found, sign_room, sign_with, sign_outcome}
use Rattle.lvs_spec.specs.Demands.{RoomFor}
use Rattle.lvs_spec.specs.Certificates.{Entry, entries, ListReading, many_entries, unfit_entry, fit_entries, list_reading, allows}
use Rattle.lvs_spec.specs.Certificates.{SuggestAnswer, suggested, suggest_from, suggest_name, suggest_in, suggest_answer}
use Rattle.lvs_spec.specs.Refusals.{refusal_of}
use Rattle.lvs_spec.specs.declared.refusal.Refusal.{Refusal as Refused}
use Rattle.lvs_spec.proofs.Usable.{accepted_usable, refused_unusable}
use Rattle.lvs_spec.proofs.Indices.{index_below}
use Rattle.lvs_spec.proofs.Signing.{room_first}
use Rattle.lvs_spec.proofs.Certificates.{reading_fit}
use Rattle.lvs_certificates.specs.Answers.{index_from, list_answer}
use Rattle.lvs_spec.proofs.Lists.{clash}
use Rattle.lvs_names.specs.Rows.{row_from}
use Rattle.lvs_names.specs.declared.Row.{Row}
use Rattle.lvs_verdict.specs.Answers.{GoodInputs}
use Rattle.lvs_bindings.specs.Slots.{Wrote}
use Rattle.lvs_bindings.specs.declared.Span.{Span}
use Rattle.lvs_walk.specs.Calls.{FirstPair}
use Rattle.lvs_walk.specs.declared.goal.Pair.{Pair as Nodes}
use Rattle.lvs_walk.proofs.Answers.{none_outcome, some_outcome}

-- ---- the match call

module _ (b name buffer : List ℕ) where
  pub match_refused_lem : {r i : ℕ} → verdict b ≡ Verdict.refused r i → match_outcome b name buffer ≡ match_refused (record { number = r; at = i }) buffer
  unfolding match_outcome match_in
  match_refused_lem {r} {i} h = rw (refused_unusable b r i h)

  module _ {n : ℕ} (accepted : verdict b ≡ Verdict.accepted n) where
    pub match_bad_name : {r : Refusal} → r ≡ plain r.number → bad_name r.number ≡ name_reading 21 name → match_outcome b name buffer ≡ match_refused r buffer
    unfolding match_outcome match_in match_name packet_name
    match_bad_name p h = rw (accepted_usable b n accepted, ← h) (ap (λ r. match_refused r buffer) (sym p))

    module _ {cs : List Component} (good_name_lem : good_name cs ≡ name_reading 21 name) where
      goes_on : match_outcome b name buffer ≡ match_room (ltb (length buffer) binding_words) (model_of b) cs buffer
      unfolding match_outcome match_in match_name packet_name
      goes_on = rw (accepted_usable b n accepted, ← good_name_lem)

      pub match_no_room : length buffer < binding_words → match_outcome b name buffer ≡ match_refused (plain 27) buffer
      unfolding match_room
      match_no_room h = goes_on ∙ rw (lt-ltb (length buffer) binding_words h)

      module _ (room : binding_words ≤ length buffer) where
        walked : match_outcome b name buffer ≡ match_found (first (packet_matches (model_of b) cs)) buffer
        unfolding match_room match_walked packet_matches
        walked = goes_on ∙ rw (le-ltb (length buffer) binding_words room)

        pub match_none : first (packet_matches (model_of b) cs) ≡ none → match_outcome b name buffer ≡ record { answer = MatchAnswer.no_match; words = buffer }
        unfolding match_found
        match_none h = walked ∙ rw h

        pub match_some : {x : Match} {k : ℕ} {after : List ℕ} → first (packet_matches (model_of b) cs) ≡ some x → k ≡ bound_count x.bindings
            → after ≡ words x.bindings ++ drop binding_words buffer
            → record { answer = MatchAnswer.matched x.node k; words = after } ≡ match_outcome b name buffer
        unfolding match_found
        match_some h c w = rw (c, w) (sym (walked ∙ rw h))

-- ---- the signing call

module _ (b packet key : List ℕ) (s : Buffers) where
  pub sign_refused_lem : {r : Refusal} → inputs b packet key ≡ bad r → sign_outcome b packet key s ≡ sign_refused r s
  unfolding sign_outcome sign_with
  sign_refused_lem e = ap (λ i. sign_with i s) e

  module _ {p k : Row} (g : GoodInputs b packet key p k) where
    abbrev ps : List Component
    ps = row_from packet p.start

    abbrev ks : List Component
    ks = row_from key k.start

    counted : length ps + length ks ≡ p.count + k.count
    counted = rw (g.packet_row.count, g.key_row.count)

    read_on : sign_outcome b packet key s ≡ sign_with (good (model_of b) ps ks) s
    unfolding sign_outcome
    read_on = ap (λ i. sign_with i s) g.is

    pub sign_no_words : length s.words < binding_words → sign_outcome b packet key s ≡ sign_refused (plain 27) s
    unfolding sign_with sign_room
    sign_no_words h = read_on ∙ rw (lt-ltb (length s.words) binding_words h)

    module _ (room : binding_words ≤ length s.words) where
      pub sign_no_room : length s.path < p.count + k.count → sign_outcome b packet key s ≡ sign_refused (plain 34) s
      unfolding sign_with sign_room
      sign_no_room h = read_on ∙ rw (le-ltb (length s.words) binding_words room, counted, lt-ltb (length s.path) (p.count + k.count) h)

      module _ (path_room : p.count + k.count ≤ length s.path) {r : Option Nodes} {slots : List (Option Span)} {after : List ℕ}
          (f : FirstPair (model_of b) ps ks packet key s.path r slots after) where
        enough : RoomFor ps ks s
        enough = record { words = room; path = omega (arith, counted, path_room) }

        searched : sign_outcome b packet key s ≡ pair_found (first (pairs (model_of b) ps ks)) s
        searched = read_on ∙ room_first (model_of b) ps ks s enough

        pub sign_none : r ≡ None
            → record { answer = SignAnswer.not_allowed; buffers = record { words = s.words; path = after } } ≡ sign_outcome b packet key s
        sign_none e = none_outcome {s = s} f e ∙ sym searched

        pub sign_some : {x : Nodes} {n : ℕ} {words : List ℕ} → r ≡ Some x → Wrote packet slots s.words n words
            → record { answer = SignAnswer.allowed x.packet x.key; buffers = record { words = words; path = after } } ≡ sign_outcome b packet key s
        sign_some e wrote = some_outcome {s = s} f e enough wrote ∙ sym searched

-- ---- the suggesting call

-- the list is fit
pub read_as_fit : {t : Unit {0}} {l : ListReading} → Ok t ≡ list_answer l → l ≡ fit_entries
read_as_fit {l = many_entries} e = clash (cc)
read_as_fit {l = unfit_entry i} e = clash (cc)
read_as_fit {l = fit_entries} e = refl

-- an index as the definitions have it
abbrev pub index_of : Option ℕ → math.Option ℕ
index_of None = none
index_of (Some i) = some i

pub same_index : (o : math.Option ℕ) → index_of (index_from o) ≡ o
same_index none = refl
same_index (some i) = refl

module _ (b packet list : List ℕ) where
  pub suggest_refused : {r i : ℕ} → verdict b ≡ Verdict.refused r i → suggest_answer b packet list ≡ SuggestAnswer.refused (record { number = r; at = i })
  unfolding suggest_answer suggest_in
  suggest_refused {r} {i} h = rw (refused_unusable b r i h)

  module _ {n : ℕ} (accepted : verdict b ≡ Verdict.accepted n) where
    pub suggest_bad_packet : {r : Refusal} → r ≡ plain r.number → bad_name r.number ≡ name_reading 21 packet
        → suggest_answer b packet list ≡ SuggestAnswer.refused r
    unfolding suggest_answer suggest_in suggest_name packet_name
    suggest_bad_packet p h = rw (accepted_usable b n accepted, ← h) (ap SuggestAnswer.refused (sym p))

    module _ {ps : List Component} (name : good_name ps ≡ name_reading 21 packet) where
      listed : suggest_answer b packet list ≡ suggest_from (model_of b) packet (entries list) (list_reading (entries list))
      unfolding suggest_answer suggest_in suggest_name packet_name
      listed = rw (accepted_usable b n accepted, ← name)

      -- the list is refused
      pub suggest_bad_list : {x : Refused} → Err x ≡ list_answer (list_reading (entries list))
          → suggest_answer b packet list ≡ SuggestAnswer.refused (refusal_of x)
      unfolding suggest_from
      suggest_bad_list {x} read = listed ∙ go (list_reading (entries list)) read
        where
          said : Result (Unit {0}) Refused → SuggestAnswer
          said (Err r) = SuggestAnswer.refused (refusal_of r)
          said (Ok t) = SuggestAnswer.no_certificate

          go : (l : ListReading) → Err x ≡ list_answer l → suggest_from (model_of b) packet (entries list) l ≡ SuggestAnswer.refused (refusal_of x)
          go many_entries e = ap said (sym e)
          go (unfit_entry i) e = ap said (sym e)
          go fit_entries e = clash (cc)

      -- it is read, and searched
      pub suggest_found : {t : Unit {0}} {o : Option ℕ} → Ok t ≡ list_answer (list_reading (entries list))
          → o ≡ index_from (first_index (allows (model_of b) packet) 0 (entries list)) → suggest_answer b packet list ≡ suggested (index_of o)
      unfolding suggest_from
      suggest_found read e =
          listed ∙ ap (suggest_from (model_of b) packet (entries list)) (read_as_fit read) ∙ ap suggested (sym (ap index_of e ∙ same_index _))

-- one that was found fits into a word
pub index_few : (f : Entry → Bool) (list : List ℕ) {t : Unit {0}} {i : ℕ} → Ok t ≡ list_answer (list_reading (entries list))
    → Some i ≡ index_from (first_index f 0 (entries list)) → i < max_certificates
index_few f list read e =
    omega (arith, index_below f 0 (entries list) (sym (ap index_of e ∙ same_index _)), (reading_fit (entries list) (read_as_fit read)).few)
