-- The entries of a list, one after the other: how many there are, and searches among them. Assumes nothing.
use Prim.Native.Nat.{ℕ, ◌+◌, ◌-◌, ◌≤◌, ◌<◌}
use mathlib.Core.Path.{◌≡◌, refl, sym, ap, ◌∙◌}
use mathlib.Core.Bool.{Bool, true, false, cond}
use mathlib.Core.List.{List, [], ◌∷◌, ◌++◌}
use mathlib.Core.Option.{Option, none, some}
use native.Mathlib.Omega.{arith}
use borrow.Author.Tests.{ltb-false}
use lib.Dec.{ltb}
use lib.ListN.{length, take, drop, length-drop, take-append-drop}
use Rattle.std.specs.Prelude.{Option as Answer, Some, None, is_some, Ok, Err}
use Rattle.std.specs.List.{position_from}
use Rattle.std.proofs.Common.{take_all}
use Rattle.tlv.specs.Bytes.{Bytes}
use Rattle.tlv.specs.Element.{malformed, element, element_bytes, Cuts, done, broken, next, cuts, pieces}
use Rattle.tlv.specs.Lists.{first_index}
use Rattle.tlv.proofs.Cuts.{done_nil, by_elements, cuts_end, cuts_malformed, cuts_next, rest_shorter}
use Rattle.tlv.proofs.RoundTrip.{element_back, element_fits}
use Rattle.lvs_spec.specs.Limits.{max_certificates}
use Rattle.lvs_spec.specs.Model.{Model, component_of}
use Rattle.lvs_spec.specs.Names.{Component as Binding, good_name, packet_name}
use Rattle.lvs_spec.specs.Certificates.{Entry, entries, unfit, fit_entries, fitness, list_reading, allows}
use Rattle.lvs_spec.specs.declared.refusal.Refusal.TheVariants.{ManyCertificates, UnfitCertificate}
use Rattle.lvs_spec.proofs.Lists.{clash}
use Rattle.lvs_spec.proofs.Certificates.{no_entry, reading_fit}
use Rattle.lvs_spec.proofs.Indices.{index_here, index_later, index_below}
use Rattle.lvs_names.specs.Alone.{Alone}
use Rattle.lvs_names.specs.Contents.{RowStep}
use Rattle.lvs_names.specs.Rows.{row_at, row_from}
use Rattle.lvs_names.specs.declared.parts.Component.{Component}
use Rattle.lvs_names.proofs.Alone.{alone_of}
use Rattle.lvs_bindings.specs.declared.Span.{Span}
use Rattle.lvs_walk.specs.Calls.{FirstPair}
use Rattle.lvs_walk.specs.declared.goal.Pair.{Pair}
use Rattle.lvs_certificates.specs.Answers.{index_from, list_answer}
use Rattle.lvs_certificates.specs.Left.{entry_of}
use Rattle.lvs_certificates.proofs.Keys.{whole_is, GoodKey, good_key, allows_found}

-- ---- what a list begins with

pub entries_end : (b : List ℕ) → length b ≡ 0 → entries b ≡ []
entries_end b e = nil (entries b) (no_entry b e)
  where
    nil : (l : List Entry) → length l ≡ 0 → l ≡ []
    nil [] p = refl
    nil (x ∷ l) p = absurd (omega arith)

pub entries_bad : (b : List ℕ) → 0 < length b → row_from b 0 ≡ [] → entries b ≡ none ∷ entries []
unfolding entries pieces row_from row_at
entries_bad b some_left no_row = go (cuts b) refl no_row ∙ ap (λ (l : List Entry). none ∷ l) (sym (entries_end [] refl))
  where
    go : (c : Cuts) → cuts b ≡ c → row_at 0 c ≡ [] → pieces c ≡ none ∷ []
    go done p q = absurd (omega (arith, ap length (done_nil b p)))
    go broken p q = refl
    go (next e r) p q = absurd (omega (arith, ap length q))

pub entries_next : {b x : List ℕ} {h : ℕ} → Bytes x → Alone x h → RowStep b 0 x h
    → entries b ≡ some (component_of x) ∷ entries (take (length b - length x) (drop (length x) b))
unfolding entries pieces
entries_next {b} {x} bytes one st =
    let rest = drop (length x) b in
    let whole : element_bytes (component_of x) ++ rest ≡ b =
    ap (λ (l : List ℕ). l ++ rest) (whole_is bytes one ∙ st.bytes) ∙ take-append-drop (length x) b in
    let k = element_back (component_of x) rest (element_fits x bytes one.is) in
    let all-left : take (length b - length x) rest ≡ rest = take_all _ rest (omega (arith, length-drop (length x) b)) in
    rw (all-left, cuts_next b k.0 (component_of x) rest (ap element (sym whole) ∙ k.1))

-- ---- how many there are

pub entries_most : (b : List ℕ) → length (entries b) ≤ length b
unfolding entries pieces
entries_most b =
    by_elements
    (λ b. length (entries b) ≤ length b)
    (λ b p. rw (cuts_end b p) (omega arith))
    bad
    (λ b h e r p ih. rw (cuts_next b h e r p) (omega (arith, rest_shorter b h e r p)))
    b
  where
    bad : (b : List ℕ) → element b ≡ malformed → length (entries b) ≤ length b
    bad [] p = omega (arith, no_entry [] refl)
    bad (x ∷ xs) p = rw (cuts_malformed (x ∷ xs) p) (omega arith)

-- ---- a search

module _ {A : Type 0} (f : A → Bool) where
  -- the library's word for it
  pub position_is : (i : ℕ) (xs : List A) → position_from f i xs ≡ index_from (first_index f i xs)
  unfolding first_index
  position_is i [] = refl
  position_is i (x ∷ xs) = go (f x) (position_is (i + 1) xs)
    where
      go : (t : Bool) → position_from f (i + 1) xs ≡ index_from (first_index f (i + 1) xs)
          → cond t (Some i) (position_from f (i + 1) xs) ≡ index_from (elim t [ true ↦ some i | false ↦ first_index f (i + 1) xs ])
      go true h = refl
      go false h = h

  -- where there is none, none of those to come is one
  module _ (i : ℕ) (x : A) (xs : List A) (e : first_index f i (x ∷ xs) ≡ none) where
    pub none_here : f x ≡ false
    none_here = go (f x) refl
      where
        go : (t : Bool) → f x ≡ t → t ≡ false
        go true p = let h : some i ≡ none = sym (index_here f i xs p) ∙ e in clash (cc)
        go false p = refl

    pub none_later : first_index f (i + 1) xs ≡ none
    none_later = sym (index_later f i xs none_here) ∙ e

-- a search among entries that are fit: none of the n before those that are left passes the test
pub record Sought (f : Entry → Bool) (all : List Entry) (n : ℕ) (left : List Entry) : Type 0 where
  pub is : first_index f 0 all ≡ first_index f n left
  pub fit : first_index unfit n left ≡ none
  pub few : n + length left ≤ max_certificates

module _ {f : Entry → Bool} {all left : List Entry} where
  pub sought_first : list_reading all ≡ fit_entries → left ≡ all → Sought f all 0 left
  sought_first read e =
      let good = reading_fit all read in
      record { is = ap (first_index f 0) (sym e); fit = ap (first_index unfit 0) e ∙ good.fit; few = omega (arith, good.few, ap length e) }

  module _ {n : ℕ} (s : Sought f all n left) where
    pub sought_none : left ≡ [] → None ≡ index_from (first_index f 0 all)
    unfolding first_index
    sought_none e = ap index_from (sym (s.is ∙ ap (first_index f n) e))

    module _ {x : Entry} {rest : List Entry} (e : left ≡ x ∷ rest) where
      pub sought_fit : unfit x ≡ false
      sought_fit = none_here unfit n x rest (sym (ap (first_index unfit n) e) ∙ s.fit)

      pub sought_here : f x ≡ true → Some n ≡ index_from (first_index f 0 all)
      sought_here t = ap index_from (sym (s.is ∙ ap (first_index f n) e ∙ index_here f n rest t))

      pub sought_next : f x ≡ false → Sought f all (n + 1) rest
      sought_next t =
          record {
            is = s.is ∙ ap (first_index f n) e ∙ index_later f n rest t;
            fit = none_later unfit n x rest (sym (ap (first_index unfit n) e) ∙ s.fit);
            few = omega (arith, s.few, ap length e);
          }

  -- a rest that cannot be cut is not fit
  pub sought_bad : {n : ℕ} {e : Answer Component} {rest : List Entry} → Sought f all n left → left ≡ entry_of e ∷ rest → e ≡ None → ⊥
  unfolding unfit
  sought_bad s step is = let z : true ≡ false = ap (λ e. unfit (entry_of e)) (sym is) ∙ sought_fit s step in clash (cc)

-- the key that the iteration has given
module _ {left rest : List Entry} {e : Answer Component} {k : Component} (step : left ≡ entry_of e ∷ rest) (is : e ≡ Some k) where
  given : left ≡ some (component_of k.bytes.now) ∷ rest
  given = step ∙ ap (λ e. entry_of e ∷ rest) is

  pub given_good : {f : Entry → Bool} {all : List Entry} {n : ℕ} → Sought f all n left → GoodKey k.bytes.now k.header
  given_good s = good_key k.fits (alone_of _ _ k.alone) (sought_fit s given)

  module _ {m : Model} {all : List Entry} {n : ℕ} {packet : List ℕ} {ps : List Binding} {r : Answer Pair} {path after : List ℕ}
      {slots : List (Answer Span)} {t : Bool} (s : Sought (allows m packet) all n left) (good : good_name ps ≡ packet_name packet)
      (found : FirstPair m ps (row_from k.bytes.now k.header) packet k.bytes.now path r slots after) (told : t ≡ is_some r) where
    signs : allows m packet (some (component_of k.bytes.now)) ≡ t
    signs = allows_found k.fits (alone_of _ _ k.alone) packet good (given_good s) found ∙ sym told

    pub given_signs : t ≡ true → Some n ≡ index_from (first_index (allows m packet) 0 all)
    given_signs e = sought_here s given (signs ∙ e)

    pub given_passed : t ≡ false → Sought (allows m packet) all (n + 1) rest
    given_passed e = sought_next s given (signs ∙ e)

-- ---- the tests of the whole list

-- what an answer says of the index that was sought
found_some : (x : Option ℕ) {i : ℕ} → Some i ≡ index_from x → x ≡ some i
found_some none e = clash (cc)
found_some (some j) e = cc

found_none : (x : Option ℕ) → None ≡ index_from x → x ≡ none
found_none none e = refl
found_none (some j) e = clash (cc)

module _ (list : List ℕ) {many : Bool} (tested : many ≡ ltb max_certificates (length (entries list))) where
  pub read_many : many ≡ true → Err ManyCertificates ≡ list_answer (list_reading (entries list))
  unfolding list_reading
  read_many e = sym (rw (← tested, e))

  module _ {o : Answer ℕ} (few : many ≡ false) (found : o ≡ index_from (first_index unfit 0 (entries list))) where
    read_few : list_answer (fitness (first_index unfit 0 (entries list))) ≡ list_answer (list_reading (entries list))
    unfolding list_reading
    read_few = sym (rw (← tested, few))

    pub read_unfit : {i : ℕ} → o ≡ Some i → Err (UnfitCertificate i) ≡ list_answer (list_reading (entries list))
    unfolding fitness
    read_unfit e = sym (ap list_answer (ap fitness (found_some _ (sym e ∙ found)))) ∙ read_few

    pub read_fit : o ≡ None → Ok tt ≡ list_answer (list_reading (entries list))
    unfolding fitness
    read_fit e = sym (ap list_answer (ap fitness (found_none _ (sym e ∙ found)))) ∙ read_few

    -- an index fits into a word
    pub unfit_below : {i : ℕ} → o ≡ Some i → i < max_certificates
    unfit_below e =
        let few-are = ltb-false max_certificates (length (entries list)) (sym tested ∙ few) in
        omega (arith, index_below unfit 0 (entries list) (found_some _ (sym e ∙ found)), few-are)
