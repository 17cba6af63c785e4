-- Request 1, over the definitions: what a model and its description have to do with each other, and with the bytes that the model is written
-- as. `description_of`, `numbers_of`, `texts_of`, `model_bytes` and `formed` are those of specs/Description.antt; `reading`, `verdict` and the
-- answers of the other calls those of lvs_spec. `Short b`: b has fewer than 2 ^ 64 bytes, so that its length can be written. The proofs are in
-- Lists.antt and Written.antt. Assumes nothing.
use Prim.Native.Nat.{ℕ, ◌≤◌}
use mathlib.Core.Path.{◌≡◌, refl, sym, ap, ◌∙◌}
use mathlib.Core.Bool.{Bool, true, false}
use mathlib.Core.List.{List}
use mathlib.Core.Option.{Option, none, some}
use lib.ListN.{length}
use Rattle.tlv.specs.Bytes.{Bytes}
use Rattle.lvs_spec.specs.WellFormed.{too_long, other_version, well_formed}
use Rattle.lvs_spec.specs.Places.{fault_place}
use Rattle.lvs_spec.specs.Model.{Model, model_of}
use Rattle.lvs_spec.specs.Verdict.{Reading, unreadable, describes, reading, Verdict, accepted, refused, verdict, judge}
use Rattle.lvs_spec.specs.Demands.{Alike}
use Rattle.lvs_spec.proofs.Demand3.{alike}
use Rattle.lvs_description.specs.Description.{model_bytes, description_of, numbers_of, texts_of, formed}
use Rattle.lvs_description.proofs.Rows.{Short}
use Rattle.lvs_description.proofs.Lists as lists
use Rattle.lvs_description.proofs.Written as written

-- ---- lists and descriptions are one to one

-- The lists of a model describe it.
pub description_back : (m : Model) → description_of (numbers_of m) (texts_of m) ≡ some m
description_back = lists.description_back

-- Lists that describe a model are its lists.
pub description_forth : (ns ts : List ℕ) (m : Model) → description_of ns ts ≡ some m → (numbers_of m ≡ ns) × (texts_of m ≡ ts)
description_forth = lists.description_forth

-- ---- a description is read from its bytes

-- The bytes are well formed exactly where the description is: every text and every component's type keeps its rule.
pub written_formed : (m : Model) → Short (model_bytes m) → well_formed (model_bytes m) ≡ formed m
written_formed = written.formed_is

-- Where they are, they describe the model that they were written from.
pub written_back : (m : Model) → Short (model_bytes m) → well_formed (model_bytes m) ≡ true → model_of (model_bytes m) ≡ m
written_back m h ok = written.back m h (sym (written.formed_is m h) ∙ ok)

-- They are of this version.
pub written_version : (m : Model) → Short (model_bytes m) → other_version (model_bytes m) ≡ false
written_version = written.this_version

-- So the bytes of any description are too long (1), malformed at a place (2), or describe it. They are never of another version (3).
unfoldable pub reading_of : Model → Reading
reading_of m =
    elim (too_long (model_bytes m)) [
      | true ↦ unreadable 1 0
      | false ↦ elim (fault_place (model_bytes m)) [ some i ↦ unreadable 2 i | none ↦ describes m ]
    ]

pub written_reading : (m : Model) → reading (model_bytes m) ≡ reading_of m
unfolding reading_of
written_reading m = go (too_long (model_bytes m)) (fault_place (model_bytes m)) refl refl
  where
    go : (x : Bool) (o : Option ℕ) → too_long (model_bytes m) ≡ x → fault_place (model_bytes m) ≡ o → reading (model_bytes m) ≡ reading_of m
    go true o p q = written.read_long m p ∙ rw (p, reading_of)
    go false (some i) p q = written.read_malformed m p q ∙ rw (p, q, reading_of)
    go false none p q = written.read_none m p q ∙ rw (p, q, reading_of)

-- Bytes that are accepted describe the model that they were written from,
pub written_accepted : (m : Model) (count : ℕ) → verdict (model_bytes m) ≡ accepted count → reading (model_bytes m) ≡ describes m
written_accepted = written.accepted_is

-- and no other: the bytes of a well-formed description are those of no other description.
pub written_once : (m m' : Model) → Short (model_bytes m) → formed m ≡ true → model_bytes m ≡ model_bytes m' → m ≡ m'
written_once m m' h ok same =
    let f : well_formed (model_bytes m) ≡ true = written.formed_is m h ∙ ok in
    sym (written_back m h f) ∙ ap model_of same ∙ written_back m' (rw same at h) (rw same at f)

-- Lists whose bytes are accepted are got back from the bytes.
pub written_lists : (ns ts : List ℕ) (m : Model) (count : ℕ) → description_of ns ts ≡ some m → verdict (model_bytes m) ≡ accepted count
    → (numbers_of (model_of (model_bytes m)) ≡ ns) × (texts_of (model_of (model_bytes m)) ≡ ts)
written_lists ns ts m count d p =
    let same : model_of (model_bytes m) ≡ m = cc (written_accepted m count p, written.accepted_reading (model_bytes m) count p) in
    rw same (description_forth ns ts m d)

-- ---- a description is accepted or refused as its bytes are

-- The verdict by the description and the length of its bytes, as the writing call has to find it before a byte is written.
unfoldable pub verdict_of : Model → Verdict
verdict_of m = elim (reading_of m) [ unreadable r i ↦ refused r i | describes x ↦ judge x ]

-- It is the verdict on the bytes: a description that is refused gets the very two numbers that its bytes would get.
pub written_judged : (m : Model) → verdict (model_bytes m) ≡ verdict_of m
unfolding verdict verdict_of
written_judged m = rw (written_reading m, verdict, verdict_of)

-- ---- a model that was read is written again

-- The calls go by the reading alone. Two byte strings with the same reading are alike: they have the same verdict, for all names and buffers
-- the same match and the same words left, and for all names the same signing answer (`Alike`, lvs_spec/specs/Demands.antt).
pub reading_alike : (a b : List ℕ) → reading a ≡ reading b → Alike a b
reading_alike = alike

module _ (b : List ℕ) (by : Bytes b) (m : Model) (p : reading b ≡ describes m) where
  -- A description that was read off bytes is written as bytes that have that description,
  pub written_again : reading (model_bytes m) ≡ describes m
  written_again = written.again b by m p

  -- are no longer,
  pub written_no_longer : length (model_bytes m) ≤ length b
  written_no_longer = written.no_longer b by m p

  -- and are alike.
  pub written_alike : Alike (model_bytes m) b
  written_alike = reading_alike (model_bytes m) b (written_again ∙ sym p)

  -- So they have the same verdict.
  pub written_verdict : verdict (model_bytes m) ≡ verdict b
  written_verdict = written_alike.verdicts

module _ (b : List ℕ) (by : Bytes b) (count : ℕ) (p : verdict b ≡ accepted count) where
  -- An accepted model, described and written again, has the same reading,
  pub accepted_reading : reading (model_bytes (model_of b)) ≡ reading b
  accepted_reading = let r = written.accepted_reading b count p in written_again b by (model_of b) r ∙ sym r

  -- and so the same verdict, matches and signing answers.
  pub accepted_alike : Alike (model_bytes (model_of b)) b
  accepted_alike = reading_alike (model_bytes (model_of b)) b accepted_reading
