-- The whole description: its Version, its size and its bytes. Assumes nothing.
use mathlib.Core.Path.{◌≡◌, refl, sym, ap, subst, ◌∙◌}
use mathlib.Core.Bool.{false}
use mathlib.Core.List.{List, [], ◌∷◌}
use mathlib.Core.Option.{none, some}
use Prim.Native.Nat.{ℕ, ◌+◌, ◌≤◌, ◌<◌}
use native.Mathlib.Omega.{arith}
use borrow.Author.Tests.{leb-false}
use lib.Dec.{leb}
use lib.ListN.{length}
use Rattle.tlv.specs.Number.{number_bytes}
use Rattle.tlv.specs.Element.{element_bytes, encode}
use Rattle.tlv_writer.specs.Stored.{Stored}
use Rattle.lvs_spec.specs.Types as type
use Rattle.lvs_spec.specs.WellFormed.{this_version}
use Rattle.lvs_spec.specs.Model.{Model}
use Rattle.lvs_description.specs.Format.{Lists, Taken, holds}
use Rattle.lvs_description.specs.Description.{model, model_bytes, nothing_left, description_of}
use Rattle.std.specs.Borrow.{Bor}
use Rattle.std.specs.Prelude.{Option, None, Some}
use Rattle.lvs_write.specs.declared.cursor.Cursor.{Cursor}
use Rattle.lvs_write.specs.Spelled.{spelled}
use Rattle.lvs_write.specs.Steps.{capped, left, version_from, Writes, size_of, Written}
use Rattle.lvs_write.proofs.Sizes.{capped_capped}
use Rattle.lvs_write.proofs.Moves.{apart, outcome}

-- ---- the Version

abbrev pub version_bytes : List ℕ
version_bytes = 0x61 ∷ 4 ∷ 0 ∷ 1 ∷ 0x10 ∷ 0 ∷ []

version_is : encode (holds type.Version this_version) ≡ version_bytes
unfolding encode element_bytes number_bytes
version_is = refl

version : {b now : List ℕ} {s r : Cursor} → r ≡ record { numbers = s.numbers; texts = s.texts; at = capped (s.at + 6) }
    → (s.at + 6 ≤ length b → Stored b now s.at version_bytes) → Writes version_from b now s (Some r)
unfolding version_from
version {s = s} e st =
    record {
      by_end =
          record {
            bytes = version_bytes;
            is = λ i. some (version_is i, left (record { numbers = (sym e i).numbers; texts = (sym e i).texts; at = 0 }));
            place = ap (λ (k : Cursor). capped k.at) e ∙ capped_capped (s.at + 6);
            put = λ h room. st room;
          };
    }

pub version_put : {b mid now : List ℕ} {s r : Cursor} → r ≡ record { numbers = s.numbers; texts = s.texts; at = capped (s.at + 6) }
    → now ≡ mid → Stored b mid s.at version_bytes → Writes version_from b now s (Some r)
version_put e p st = version e (λ room. record { is = p ∙ st.is })

pub version_no_room : {b now : List ℕ} {s r : Cursor} → r ≡ record { numbers = s.numbers; texts = s.texts; at = capped (s.at + 6) }
    → now ≡ b → leb (s.at + 6) (length b) ≡ false → Writes version_from b now s (Some r)
version_no_room {b} {s = s} e p f = let far : length b < s.at + 6 = leb-false _ _ f in version e (λ room. absurd (omega arith))

-- ---- the description

module _ (ns ts : Bor (List ℕ)) where
  abbrev given : Lists
  given = record { numbers = ns.now; texts = ts.now }

  abbrev start : Cursor
  start = record { numbers = ns; texts = ts; at = 0 }

  pub not_described : {b b' : List ℕ} → Writes (spelled model) b b' start None → size_of (description_of ns.now ts.now) ≡ None
  unfolding description_of spelled
  not_described M = go (model.from given) refl
    where
      go : (x : Taken Model) → model.from given ≡ x → size_of (description_of ns.now ts.now) ≡ None
      go none q = rw q
      go (some r) q =
          let there : spelled model given ≡ some (encode (model.elements r.0), r.1) = rw q in
          absurd (apart (sym M.by_end.is ∙ there))

  -- what was read, and what is left
  record Read (c : Cursor) : Type 0 where
    model_read : Model
    is : model.from given ≡ some (model_read, left c)
    size_is : capped c.at ≡ capped (length (model_bytes model_read))

  module _ {b b' : List ℕ} {c : Cursor} (M : Writes (spelled model) b b' start (Some c)) where
    read : Read c
    unfolding model_bytes spelled
    read = go (model.from given) refl
      where
        go : (x : Taken Model) → model.from given ≡ x → Read c
        go none q = let nothing : spelled model given ≡ none = rw q in absurd (apart (sym nothing ∙ M.by_end.is))
        go (some r) q =
            let found : spelled model given ≡ some (encode (model.elements r.0), r.1) = rw q in
            let pair : ◌≡◌ {A = List ℕ × Lists} (encode (model.elements r.0), r.1) (M.by_end.bytes, left c) = outcome (sym found ∙ M.by_end.is) in
            record {
              model_read = r.0;
              is = q ∙ (λ i. some (r.0, (pair i).1));
              size_is = M.by_end.place ∙ ap capped (omega (arith, ap length (λ i. (pair i).0)));
            }

    left_over : description_of ns.now ts.now ≡ nothing_left read.model_read c.numbers.now c.texts.now
    unfolding description_of
    left_over = rw read.is

    pub numbers_left : (length c.numbers.now ≡ 0 → ⊥) → size_of (description_of ns.now ts.now) ≡ None
    numbers_left h = ap size_of (left_over ∙ go c.numbers.now h)
      where
        go : (d : List ℕ) → (length d ≡ 0 → ⊥) → nothing_left read.model_read d c.texts.now ≡ none
        go [] k = absurd (k refl)
        go (x ∷ d) k = more c.texts.now
          where
            more : (e : List ℕ) → nothing_left read.model_read (x ∷ d) e ≡ none
            more [] = refl
            more (y ∷ e) = refl

    pub texts_left : length c.numbers.now ≡ 0 → (length c.texts.now ≡ 0 → ⊥) → size_of (description_of ns.now ts.now) ≡ None
    texts_left g h = ap size_of (left_over ∙ go c.numbers.now g c.texts.now h)
      where
        go : (d : List ℕ) → length d ≡ 0 → (e : List ℕ) → (length e ≡ 0 → ⊥) → nothing_left read.model_read d e ≡ none
        go [] j [] k = absurd (k refl)
        go [] j (x ∷ e) k = refl
        go (y ∷ d) j e k = absurd (omega arith)

    pub described_whole : length c.numbers.now ≡ 0 → length c.texts.now ≡ 0 → size_of (description_of ns.now ts.now) ≡ Some (capped c.at)
    described_whole g h =
        ap size_of (left_over ∙ go c.numbers.now g c.texts.now h) ∙ ap Some (sym read.size_is)
      where
        go : (d : List ℕ) → length d ≡ 0 → (e : List ℕ) → length e ≡ 0 → nothing_left read.model_read d e ≡ some read.model_read
        go [] j [] k = refl
        go [] j (x ∷ e) k = absurd (omega arith)
        go (y ∷ d) j e k = absurd (omega arith)

  all_used : (m x : Model) (a d : List ℕ) → nothing_left x a d ≡ some m → x ≡ m
  all_used m x [] [] q = cc
  all_used m x [] (y ∷ ys) q = absurd (apart q)
  all_used m x (y ∷ ys) [] q = absurd (apart q)
  all_used m x (y ∷ ys) (z ∷ zs) q = absurd (apart q)

  -- a description is spelled as its model's bytes
  found : (m : Model) → description_of ns.now ts.now ≡ some m → (rest : Lists) × (spelled model given ≡ some (model_bytes m, rest))
  unfolding description_of model_bytes spelled
  found m p = go (model.from given) refl
    where
      go : (x : Taken Model) → model.from given ≡ x → (rest : Lists) × (spelled model given ≡ some (model_bytes m, rest))
      go none q = absurd (apart (sym (rw q) ∙ p))
      go (some r) q =
          let nothing : nothing_left r.0 r.1.numbers r.1.texts ≡ some m = sym (rw q) ∙ p in
          let same : r.0 ≡ m = all_used m r.0 r.1.numbers r.1.texts nothing in
          let there : spelled model given ≡ some (encode (model.elements r.0), r.1) = rw q in
          (r.1, there ∙ (λ i. some (encode (model.elements (same i)), r.1)))

  pub description_written : {b b' : List ℕ} {r : Option Cursor} → Writes (spelled model) b b' start r → Written ns.now ts.now b b'
  description_written {b} {b'} {r} M = record { put = λ m p h g. put r M m (found m p) h g }
    where
      put : (r : Option Cursor) → Writes (spelled model) b b' start r → (m : Model)
          → (rest : Lists) × (spelled model given ≡ some (model_bytes m, rest)) → length (model_bytes m) ≤ 32768 → length (model_bytes m) ≤ length b
          → Stored b b' 0 (model_bytes m)
      put None M m F h g = absurd (apart (sym M.by_end.is ∙ F.1))
      put (Some c) M m F h g =
          let same : M.by_end.bytes ≡ model_bytes m = (λ i. (outcome (sym M.by_end.is ∙ F.1) i).0) in
          subst (Stored b b' 0) same (M.by_end.put (omega (arith, ap length same)) (omega (arith, ap length same)))
