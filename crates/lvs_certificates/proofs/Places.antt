-- The entries of a list at their places, and how many are cut off before one. Assumes nothing.
use Prim.Native.Nat.{ℕ, ◌+◌, ◌-◌, ◌≤◌, ◌<◌}
use mathlib.Core.Path.{◌≡◌, refl, sym, ap}
use mathlib.Core.Bool.{Bool, true, false}
use mathlib.Core.List.{List, [], ◌∷◌}
use mathlib.Core.Option.{none, some}
use native.Mathlib.Omega.{arith}
use borrow.Author.Tests.{lt-ltb, le-ltb, ltb-true, ltb-false}
use lib.Dec.{ltb}
use lib.ListN.{length, take, drop, length-drop}
use Rattle.tlv.specs.Element.{done, broken, cuts, pieces}
use Rattle.tlv.specs.declared.Place.{Place}
use Rattle.tlv.proofs.Cuts.{Step}
use Rattle.lvs_spec.specs.Limits.{max_certificates}
use Rattle.lvs_spec.specs.Certificates.{Entry, entries}
use Rattle.lvs_spec.proofs.Certificates.{some_entry, no_entry}

-- ---- what stands at a place

module _ (list : List ℕ) (at : ℕ) where
  entries_done : cuts (drop at list) ≡ done → entries (drop at list) ≡ []
  unfolding entries pieces
  entries_done e = rw e

  entries_broken : cuts (drop at list) ≡ broken → entries (drop at list) ≡ none ∷ []
  unfolding entries pieces
  entries_broken e = rw e

  -- the entry that an element is
  abbrev pub entry : ℕ → ℕ → ℕ → Entry
  entry t start stop = some (record { type = t; inside = take (stop - start) (drop start list) })

  entries_next : {t start stop : ℕ} {p : Place} → Step list at t start stop p
      → entries (drop at list) ≡ entry t start stop ∷ entries (drop p.at list)
  unfolding entries pieces
  entries_next st = rw st.cut_is

-- ---- how many there are

-- n of them, at most 64, are cut off before the place
pub record CutOff (list : List ℕ) (at n : ℕ) : Type 0 where
  pub is : length (entries list) ≡ n + length (entries (drop at list))
  pub most : n ≤ max_certificates

pub cut_start : {list : List ℕ} → CutOff list 0 0
cut_start = record { is = omega arith; most = omega arith }

module _ {list : List ℕ} {at n : ℕ} (inv : CutOff list at n) where
  module _ (fewer : n < max_certificates) where
    pub cut_next : {t start stop : ℕ} {p : Place} → Step list at t start stop p → CutOff list p.at (n + 1)
    cut_next st = record { is = omega (arith, inv.is, ap length (entries_next list at st)); most = omega arith }

    few : {es : List Entry} → entries (drop at list) ≡ es → length es ≤ 1 → false ≡ ltb max_certificates (length (entries list))
    few e o = sym (le-ltb max_certificates (length (entries list)) (omega (arith, inv.is, ap length e)))

    -- the list ends after fewer, or with an entry that cannot be cut
    pub cut_end : cuts (drop at list) ≡ done → false ≡ ltb max_certificates (length (entries list))
    cut_end e = few (entries_done list at e) (omega arith)

    pub cut_broken : cuts (drop at list) ≡ broken → false ≡ ltb max_certificates (length (entries list))
    cut_broken e = few (entries_broken list at e) (omega arith)

  -- or 64 are cut off, and bytes are left or not
  pub cut_full : max_certificates ≤ n → ltb at (length list) ≡ ltb max_certificates (length (entries list))
  cut_full full = go (ltb at (length list)) refl
    where
      left : length (drop at list) ≡ length list - at
      left = length-drop at list

      go : (t : Bool) → ltb at (length list) ≡ t → t ≡ ltb max_certificates (length (entries list))
      go true p =
          let some_left = some_entry (drop at list) (omega (arith, left, ltb-true at (length list) p)) in
          sym (lt-ltb max_certificates (length (entries list)) (omega (arith, inv.is, some_left)))
      go false p =
          let none_left = no_entry (drop at list) (omega (arith, left, ltb-false at (length list) p)) in
          sym (le-ltb max_certificates (length (entries list)) (omega (arith, inv.is, inv.most, none_left)))
