-- What the reading of a list says. Assumes nothing.
use Prim.Native.Nat.{ℕ, zero, suc, ◌+◌, ◌≤◌, ◌<◌}
use mathlib.Core.Path.{◌≡◌, refl, sym, ap, ◌∙◌, subst}
use mathlib.Core.Logic.{◌↔◌}
use mathlib.Core.Bool.{Bool, true, false, cond}
use mathlib.Core.List.{List, [], ◌∷◌, ◌++◌, append_assoc}
use mathlib.Core.Option.{Option, none, some}
use native.Mathlib.Omega.{arith}
use borrow.Author.Tests.{lt-ltb, le-ltb, ltb-true, ltb-false}
use lib.Dec.{ltb}
use lib.ListN.{length}
use Rattle.tlv.specs.Bytes.{Bytes}
use Rattle.tlv.specs.Element.{Element, First, end, malformed, first, element, Cuts, done, broken, next, cuts, pieces, element_bytes, encode}
use Rattle.tlv.specs.Element.{InRange, Each, nexts}
use Rattle.tlv.specs.Lists.{first_index}
use Rattle.tlv.proofs.Bytes.{bytes_right}
use Rattle.tlv.proofs.Cuts.{element_nil, cuts_end, cuts_malformed, cuts_next, done_nil}
use Rattle.tlv.proofs.RoundTrip.{element_bytes_lem, element_fits, cuts_encode}
use Rattle.lvs_spec.specs.Limits.{max_certificates}
use Rattle.lvs_spec.specs.Certificates.{Entry, entries, unfit, many_entries, fit_entries, fitness, list_reading}
use Rattle.lvs_spec.proofs.Lists.{clash}

-- ---- a list that is searched

-- it has no more than 64 entries, none of them unfit
pub record Fit (es : List Entry) : Type 0 where
  pub few : length es ≤ max_certificates
  pub fit : first_index unfit 0 es ≡ none

pub reading_fit : (es : List Entry) → list_reading es ≡ fit_entries → Fit es
unfolding list_reading fitness
reading_fit es h = go (ltb max_certificates (length es)) (first_index unfit 0 es) refl refl h
  where
    go : (t : Bool) (o : Option ℕ) → ltb max_certificates (length es) ≡ t → first_index unfit 0 es ≡ o → cond t many_entries (fitness o) ≡ fit_entries → Fit es
    go true o p q h = clash (cc)
    go false (some i) p q h = clash (cc)
    go false none p q h = record { few = ltb-false max_certificates (length es) p; fit = q }

pub fit_reading : (es : List Entry) → Fit es → list_reading es ≡ fit_entries
unfolding list_reading fitness
fit_reading es f = rw (le-ltb max_certificates (length es) f.few, f.fit)

-- ---- a list that is too long

-- n elements can be cut off, and bytes are left
pub record LeftOver (n : ℕ) (b : List ℕ) : Type 0 where
  pub els : List Element
  pub rest : List ℕ
  pub count : length els ≡ n
  pub fits : Each InRange els
  pub is : b ≡ encode els ++ rest
  pub some_left : 0 < length rest

-- bytes are an entry or more
pub some_entry : (b : List ℕ) → 0 < length b → 0 < length (entries b)
unfolding entries pieces
some_entry b l = go (cuts b) refl
  where
    go : (c : Cuts) → cuts b ≡ c → 0 < length (pieces c)
    go done e = absurd (omega (arith, ap length (done_nil b e)))
    go broken e = omega arith
    go (next x c) e = omega arith

pub no_entry : (b : List ℕ) → length b ≡ 0 → length (entries b) ≡ 0
unfolding entries pieces
no_entry [] e = rw (cuts_end [] element_nil)
no_entry (x ∷ xs) e = absurd (omega arith)

-- the rest counts as an entry, so there are more than n entries exactly then
left_over : (n : ℕ) (b : List ℕ) → Bytes b → n < length (entries b) → LeftOver n b
unfolding entries pieces encode
left_over zero b by l = record { els = []; rest = b; count = refl; fits = tt; is = refl; some_left = go b l }
  where
    go : (b : List ℕ) → 0 < length (entries b) → 0 < length b
    go [] l = absurd (omega (arith, no_entry [] refl))
    go (x ∷ xs) l = omega arith
left_over (suc n) b by l = go (element b) refl (left_over n)
  where
    go : (f : First) → element b ≡ f → ((r : List ℕ) → Bytes r → n < length (entries r) → LeftOver n r) → LeftOver (suc n) b
    go end p rec = absurd (omega (arith, ap (λ (c : Cuts). length (pieces c)) (cuts_end b p)))
    go malformed p rec = absurd (omega (arith, ap (λ (c : Cuts). length (pieces c)) (cuts_malformed b p)))
    go (first h e r) p rec =
        let bytes_are = element_bytes_lem b by p in
        let more = ap (λ (c : Cuts). length (pieces c)) (cuts_next b h e r p) in
        let o = rec r (bytes_right (element_bytes e) r (subst Bytes (sym bytes_are) by)) (omega (arith, more)) in
        record {
          els = e ∷ o.els;
          rest = o.rest;
          count = omega (arith, o.count);
          fits = (element_fits b by p, o.fits);
          is = sym bytes_are ∙ ap (λ (l : List ℕ). element_bytes e ++ l) o.is ∙ sym (append_assoc (element_bytes e) (encode o.els) o.rest);
          some_left = o.some_left;
        }

pieces_length : (els : List Element) (c : Cuts) → length (pieces (nexts els c)) ≡ length els + length (pieces c)
unfolding pieces
pieces_length [] c = omega arith
pieces_length (e ∷ els) c = omega (arith, pieces_length els c)

over_many : {n : ℕ} {b : List ℕ} → LeftOver n b → n < length (entries b)
unfolding entries
over_many {n} {b} o =
    let cut : cuts b ≡ nexts o.els (cuts o.rest) = ap cuts o.is ∙ cuts_encode o.els o.rest o.fits in
    omega (arith, ap (λ (c : Cuts). length (pieces c)) cut, pieces_length o.els (cuts o.rest), o.count, some_entry o.rest o.some_left)

-- a list is too long exactly when 64 elements can be cut off it and bytes are left, whatever they are
pub many_exactly : (list : List ℕ) → Bytes list → (list_reading (entries list) ≡ many_entries) ↔ LeftOver max_certificates list
unfolding list_reading fitness
many_exactly list by = (
  λ h. go (ltb max_certificates (length (entries list))) (first_index unfit 0 (entries list)) refl h,
  λ o. rw (lt-ltb max_certificates (length (entries list)) (over_many o)),
)
  where
    go : (t : Bool) (i : Option ℕ) → ltb max_certificates (length (entries list)) ≡ t → cond t many_entries (fitness i) ≡ many_entries
        → LeftOver max_certificates list
    go true i p h = left_over max_certificates list by (ltb-true max_certificates (length (entries list)) p)
    go false none p h = clash (cc)
    go false (some j) p h = clash (cc)
