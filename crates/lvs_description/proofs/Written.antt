-- The proofs of the theorems that Theorem.antt states, from the laws of the model as a container. Assumes nothing.
use mathlib.Core.Path.{◌≡◌, sym, ◌∙◌}
use mathlib.Core.Bool.{true, false}
use mathlib.Core.List.{List}
use mathlib.Core.Option.{none, some}
use Prim.Native.Nat.{ℕ, ◌≤◌}
use native.Mathlib.Omega.{arith}
use borrow.Author.Tests.{ltb-false}
use lib.ListN.{length}
use Rattle.tlv.specs.Bytes.{Bytes, same_bytes}
use Rattle.lvs_spec.specs.Grammar.{meaning, lookup, known_types}
use Rattle.lvs_spec.specs.Limits.{max_model_bytes}
use Rattle.lvs_spec.specs.WellFormed.{too_long, other_version, well_formed, first_known, is_other_version}
use Rattle.lvs_spec.specs.Places.{fault_place}
use Rattle.lvs_spec.specs.Model.{Model, model_of}
use Rattle.lvs_spec.specs.Verdict.{unreadable, describes, reading, accepted, verdict}
use Rattle.lvs_spec.proofs.Places.{formed_none, none_formed}
use Rattle.lvs_spec.proofs.Reading.{passed, not_long, reads, accepted_passed}
use Rattle.lvs_spec.proofs.Demand3.{good}
use Rattle.lvs_description.specs.Description.{model_bytes, formed}
use Rattle.lvs_description.proofs.Rows.{Short}
use Rattle.lvs_description.proofs.Containers.{model_container}

-- ---- of any description

-- its bytes are well formed where it is
pub formed_is : (m : Model) → Short (model_bytes m) → well_formed (model_bytes m) ≡ formed m
unfolding model_bytes well_formed formed
formed_is m h = model_container.formed_is m h

-- and are then read back
pub back : (m : Model) → Short (model_bytes m) → formed m ≡ true → model_of (model_bytes m) ≡ m
unfolding model_bytes formed
back m h ok = model_container.back m h ok

-- they begin with this version
pub this_version : (m : Model) → Short (model_bytes m) → other_version (model_bytes m) ≡ false
unfolding model_bytes other_version first_known is_other_version meaning known_types lookup same_bytes
this_version m h = rw (model_container.cut_is m h)

short : (b : List ℕ) → too_long b ≡ false → Short b
unfolding too_long
short b p = let h : length b ≤ max_model_bytes = ltb-false _ _ p in omega arith

-- what they are read as: too long,
pub read_long : (m : Model) → too_long (model_bytes m) ≡ true → reading (model_bytes m) ≡ unreadable 1 0
unfolding reading
read_long m p = rw (p, reading)

module _ (m : Model) (p : too_long (model_bytes m) ≡ false) where
  -- malformed at a place,
  pub read_malformed : {i : ℕ} → fault_place (model_bytes m) ≡ some i → reading (model_bytes m) ≡ unreadable 2 i
  unfolding reading
  read_malformed q = let h = short (model_bytes m) p in rw (p, this_version m h, q, reading)

  -- or the description
  pub read_formed : formed m ≡ true → reading (model_bytes m) ≡ describes m
  unfolding reading
  read_formed q =
      let h = short (model_bytes m) p in
      rw (p, this_version m h, formed_none (model_bytes m) (formed_is m h ∙ q), back m h q, reading)

  pub read_none : fault_place (model_bytes m) ≡ none → reading (model_bytes m) ≡ describes m
  read_none q = read_formed (sym (formed_is m (short (model_bytes m) p)) ∙ none_formed (model_bytes m) q)

-- bytes that are accepted describe a model
pub accepted_reading : (b : List ℕ) (n : ℕ) → verdict b ≡ accepted n → reading b ≡ describes (model_of b)
accepted_reading b n p = reads b (accepted_passed b p)

-- and where they were written, the one that they were written from
pub accepted_is : (m : Model) (count : ℕ) → verdict (model_bytes m) ≡ accepted count → reading (model_bytes m) ≡ describes m
accepted_is m count p =
    let P = accepted_passed (model_bytes m) p in
    let fits = not_long (model_bytes m) P.short in
    read_formed m fits (sym (formed_is m (short (model_bytes m) fits)) ∙ P.formed)

-- ---- of a description that was read

module _ (b : List ℕ) (by : Bytes b) (m : Model) (p : reading b ≡ describes m) where
  kept : (formed m ≡ true) × (length (model_bytes m) ≤ length b)
  unfolding model_bytes formed
  kept =
      let P = passed b m p in
      let same : model_of b ≡ m = cc (reads b P) in
      rw (← same) (model_container.kept b (good b by P))

  -- it is written no longer than it was read
  pub no_longer : length (model_bytes m) ≤ length b
  no_longer = kept.1

  -- and read again
  pub again : reading (model_bytes m) ≡ describes m
  again =
      let fits = not_long (model_bytes m) (omega (arith, no_longer, (passed b m p).short)) in
      read_formed m fits kept.0
