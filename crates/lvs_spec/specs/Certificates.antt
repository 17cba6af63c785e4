-- What the suggesting call answers (docs/format.md, 8.4): the first certificate of a list that may sign a packet.
use Rattle.std.specs.Prelude.{ℕ, Bool, true, false, cond, List, ltb, length, replicate}
use Rattle.std.proofs.Math.Option.{Option, none, some}
use Rattle.tlv.specs.Element.{Element, cuts, pieces, element_bytes}
use Rattle.tlv.specs.Lists.{first_index}
use Rattle.lvs_spec.specs.Limits.{max_certificates, binding_words, path_words}
use Rattle.lvs_spec.specs.Model.{Model}
use Rattle.lvs_spec.specs.Names.{NameReading, bad_name, good_name, packet_name, key_name}
use Rattle.lvs_spec.specs.Answers.{Refusal, Usable, unusable, usable, usable_model, plain, inputs_in}
use Rattle.lvs_spec.specs.Answers.{SignAnswer, not_allowed, allowed, Buffers, sign_with}

-- an entry of the list: an element of any type, which should be a certificate's name; or `none`, a rest that cannot be cut
abbrev pub Entry : Type 0
Entry = Option Element

-- the list is cut by its elements' lengths
unfoldable pub entries : List ℕ → List Entry
entries list = pieces (cuts list)

abbrev pub is_bad : NameReading → Bool
is_bad (bad_name r) = true
is_bad (good_name cs) = false

-- it cannot be cut, or 24 to 26 would refuse it as a key name
unfoldable pub unfit : Entry → Bool
unfit none = true
unfit (some e) = is_bad (key_name (element_bytes e))

-- what a list comes to before the search: it has bytes left after 64 entries, be it that they cannot be cut; or an entry is unfit
pub data ListReading : Type 0 where
  many_entries : ListReading
  unfit_entry : (index : ℕ) → ListReading
  fit_entries : ListReading

unfoldable pub fitness : Option ℕ → ListReading
fitness none = fit_entries
fitness (some i) = unfit_entry i

-- the first is tested before the second
unfoldable pub list_reading : List Entry → ListReading
list_reading es = cond (ltb max_certificates (length es)) many_entries (fitness (first_index unfit 0 es))

abbrev pub is_allowed : SignAnswer → Bool
is_allowed (SignAnswer.refused r) = false
is_allowed not_allowed = false
is_allowed (allowed p k) = true

-- room enough for the bindings and for every path
unfoldable pub roomy : Buffers
roomy = record { words = replicate binding_words 0; path = replicate path_words 0 }

-- the signing answer allows an entry as the key name
unfoldable pub allows : Model → List ℕ → Entry → Bool
allows m packet none = false
allows m packet (some e) = is_allowed (sign_with (inputs_in (usable m) packet (element_bytes e)) roomy).answer

pub data SuggestAnswer : Type 0 where
  refused : Refusal → SuggestAnswer
  no_certificate : SuggestAnswer
  certificate : (index : ℕ) → SuggestAnswer

unfoldable pub suggested : Option ℕ → SuggestAnswer
suggested none = no_certificate
suggested (some i) = certificate i

unfoldable pub suggest_from : Model → List ℕ → List Entry → ListReading → SuggestAnswer
suggest_from m packet es many_entries = SuggestAnswer.refused (plain 33)
suggest_from m packet es (unfit_entry i) = SuggestAnswer.refused (record { number = 32; at = i })
suggest_from m packet es fit_entries = suggested (first_index (allows m packet) 0 es)

unfoldable pub suggest_name : Model → List ℕ → NameReading → List Entry → SuggestAnswer
suggest_name m packet (bad_name r) es = SuggestAnswer.refused (plain r)
suggest_name m packet (good_name cs) es = suggest_from m packet es (list_reading es)

unfoldable pub suggest_in : Usable → List ℕ → List ℕ → SuggestAnswer
suggest_in (unusable r) packet list = SuggestAnswer.refused r
suggest_in (usable m) packet list = suggest_name m packet (packet_name packet) (entries list)

unfoldable pub suggest_answer : List ℕ → List ℕ → List ℕ → SuggestAnswer
suggest_answer model packet list = suggest_in (usable_model model) packet list
