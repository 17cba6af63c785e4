-- What the bytes of a model come to before rule 4. Assumes nothing.
use mathlib.Core.Path.{◌≡◌, refl, sym, ◌∙◌}
use mathlib.Core.Logic.{◌↔◌}
use mathlib.Core.Bool.{Bool, true, false}
use mathlib.Core.List.{List}
use mathlib.Core.Option.{Option, none, some}
use Prim.Native.Nat.{ℕ, ◌≤◌}
use borrow.Author.Tests.{le-ltb, ltb-false}
use lib.ListN.{length}
use Rattle.lvs_spec.specs.Limits.{max_model_bytes}
use Rattle.lvs_spec.specs.WellFormed.{too_long, other_version, well_formed}
use Rattle.lvs_spec.specs.Places.{fault_place}
use Rattle.lvs_spec.specs.Model.{Model, model_of}
use Rattle.lvs_spec.specs.Verdict.{Verdict, Reading, unreadable, describes, reading, judge, verdict}
use Rattle.lvs_spec.specs.Demands.{MalformedAt, FaultWithin}
use Rattle.lvs_spec.proofs.Lists.{clash}
use Rattle.lvs_spec.proofs.Places.{formed_none, none_formed, malformed_some, some_malformed, place_within}

-- a model that is not refused with 1 to 3
pub record Passed (b : List ℕ) : Type 0 where
  pub short : length b ≤ max_model_bytes
  pub this : other_version b ≡ false
  pub formed : well_formed b ≡ true

pub passed : (b : List ℕ) (m : Model) → reading b ≡ describes m → Passed b
unfolding reading too_long
passed b m h = go (too_long b) (other_version b) (fault_place b) refl refl refl
  where
    go : (c d : Bool) (o : Option ℕ) → too_long b ≡ c → other_version b ≡ d → fault_place b ≡ o → Passed b
    go true d o p q r = clash (cc (rw (p, reading) at h))
    go false true o p q r = clash (cc (rw (p, q, reading) at h))
    go false false (some i) p q r = clash (cc (rw (p, q, r, reading) at h))
    go false false none p q r = record { short = ltb-false max_model_bytes (length b) p; this = q; formed = none_formed b r }

pub not_long : (b : List ℕ) → length b ≤ max_model_bytes → too_long b ≡ false
unfolding too_long
not_long b l = le-ltb max_model_bytes (length b) l

pub reads : (b : List ℕ) → Passed b → reading b ≡ describes (model_of b)
unfolding reading
reads b p = rw (not_long b p.short, p.this, formed_none b p.formed, reading)

-- the model that is read is the one that the bytes describe
pub read_model : (b : List ℕ) (m : Model) → reading b ≡ describes m → model_of b ≡ m
read_model b m h = cc (reads b (passed b m h), h)

-- ---- a malformed model

pub malformed_refused : (b : List ℕ) {p : ℕ} → MalformedAt b p → verdict b ≡ Verdict.refused 2 p
unfolding verdict reading
malformed_refused b f = rw (not_long b f.short, f.this, f.place, reading, verdict)

pub fault_within : (b : List ℕ) → (well_formed b ≡ false) ↔ FaultWithin b
fault_within b = (
  λ h. let f = malformed_some b h in record { at = f.0; place = f.1; within = place_within b f.1 },
  λ f. some_malformed b f.at f.place,
)

-- ---- an accepted model

module _ (b : List ℕ) {n : ℕ} (h : verdict b ≡ Verdict.accepted n) where
  pub accepted_passed : Passed b
  unfolding verdict
  accepted_passed = go (reading b) refl
    where
      go : (r : Reading) → reading b ≡ r → Passed b
      go (unreadable r i) e = clash (cc (rw (e, verdict) at h))
      go (describes m) e = passed b m e

  pub accepted_judged : judge (model_of b) ≡ Verdict.accepted n
  unfolding verdict
  accepted_judged = sym (rw (reads b accepted_passed, verdict)) ∙ h
