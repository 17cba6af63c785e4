-- From one place of the lists to another: what is taken off them, and what is written of it, one part behind the other. Assumes nothing.
use mathlib.Core.Path.{◌≡◌, refl, sym, ap, subst, ◌∙◌}
use mathlib.Core.List.{List, [], ◌++◌}
use mathlib.Core.Option.{none, some}
use Prim.Native.Nat.{ℕ, ◌+◌, ◌≤◌}
use native.Mathlib.Omega.{arith}
use lib.ListN.{length, length-append}
use Rattle.std.specs.Prelude.{Option, None, Some, MatchOption}
use Rattle.tlv.specs.Lists.{bind}
use Rattle.tlv_writer.specs.Stored.{Stored}
use Rattle.tlv_writer.proofs.Stores.{stored_both}
use Rattle.lvs_description.specs.Format.{Lists, Taken}
use Rattle.lvs_write.specs.declared.cursor.Cursor.{Cursor}
use Rattle.lvs_write.specs.Spelled.{Bytes, after}
use Rattle.lvs_write.specs.Steps.{capped, left, Took, Missing, Wrote, Writes, Puts}
use Rattle.lvs_write.proofs.Sizes.{capped_low, capped_is, capped_add, capped_capped}

pub apart : {A : Type 0} {a : A} → none ≡ some a → ⊥
apart p = let z : ◌≡◌ {A = ℕ} 0 1 = cc in omega arith

-- a reading has one outcome
pub outcome : {x y : List ℕ × Lists} → ◌≡◌ {A = Bytes} (some x) (some y) → x ≡ y
outcome p = cc

-- ---- one and then another

module _ {f : Lists → Bytes} {b₀ b₁ : List ℕ} {s m : Cursor} (F : Wrote f b₀ b₁ s m) where
  -- a place that is written at is as far on as the bytes before it are long
  exact : s.at + length F.bytes ≤ 32768 → m.at ≡ s.at + length F.bytes
  exact h =
      let far : capped m.at ≡ s.at + length F.bytes = F.place ∙ capped_is _ h in
      sym (capped_low m.at (omega arith)) ∙ far

  both : {g : Lists → Bytes} {b₂ : List ℕ} {r : Cursor} → Wrote g b₁ b₂ m r → length b₁ ≡ length b₀ → Wrote (λ l. after (f l) g) b₀ b₂ s r
  unfolding after
  both {g} {b₂} {r} G long =
      let xs = F.bytes in
      let ys = G.bytes in
      let size : s.at + length (xs ++ ys) ≡ s.at + length xs + length ys = omega (arith, length-append xs ys) in
      record {
        bytes = xs ++ ys;
        is = rw (F.is, G.is);
        place =
            G.place ∙ sym (capped_add m.at (length ys)) ∙ ap (λ (k : ℕ). capped (k + length ys)) F.place ∙ capped_add (s.at + length xs) (length ys) ∙
            ap capped (sym size);
        put =
            λ h room.
            let here : m.at ≡ s.at + length xs = exact (omega arith) in
            stored_both (F.put (omega arith) (omega arith)) (G.put (omega arith) (omega arith)) (sym here);
      }

module _ {f g : Lists → Bytes} {b₀ b₁ b₂ : List ℕ} {s m : Cursor} {r : Option Cursor} where
  pub then_wrote : Writes f b₀ b₁ s (Some m) → Writes g b₁ b₂ m r → length b₁ ≡ length b₀ → Writes (λ l. after (f l) g) b₀ b₂ s r
  unfolding after
  then_wrote F G long = record { by_end = go r G.by_end }
    where
      go : (o : Option Cursor) → MatchOption o (Missing g m) (λ k. Wrote g b₁ b₂ m k)
          → MatchOption o (Missing (λ l. after (f l) g) s) (λ k. Wrote (λ l. after (f l) g) b₀ b₂ s k)
      go None e = record { is = rw (F.by_end.is, e.is) }
      go (Some k) w = both F.by_end w long

-- there is nothing for the first
pub stop_wrote : {f : Lists → Bytes} (g : Lists → Bytes) {b₀ b₁ b₂ : List ℕ} {s : Cursor} → Writes f b₀ b₁ s None → Writes (λ l. after (f l) g) b₀ b₂ s None
unfolding after
stop_wrote g F = record { by_end = record { is = rw F.by_end.is } }

-- ---- the same, and nothing

pub wrote_as : {f g : Lists → Bytes} {b₀ b₁ : List ℕ} {s : Cursor} {r : Option Cursor} → ((l : Lists) → f l ≡ g l) → Writes f b₀ b₁ s r → Writes g b₀ b₁ s r
wrote_as {f} {g} {b₀} {b₁} {s} {r} e W = record { by_end = go r W.by_end }
  where
    go : (o : Option Cursor) → MatchOption o (Missing f s) (λ k. Wrote f b₀ b₁ s k) → MatchOption o (Missing g s) (λ k. Wrote g b₀ b₁ s k)
    go None p = record { is = sym (e (left s)) ∙ p.is }
    go (Some k) w = record { bytes = w.bytes; is = sym (e (left s)) ∙ w.is; place = w.place; put = w.put }

-- nothing is there to write
pub nothing_wrote : (b : List ℕ) (s : Cursor) → Writes (λ l. some ([], l)) b b s (Some s)
nothing_wrote b s = record { by_end = record { bytes = []; is = refl; place = ap capped (omega arith); put = λ h g. record { is = refl } } }

-- there is nothing to go through
pub none_wrote : {f : Lists → Bytes} {b₀ b₁ : List ℕ} {s : Cursor} → Missing f s → Writes f b₀ b₁ s None
none_wrote e = record { by_end = e }

-- ---- what was taken off the lists

module _ {A : Type 0} {take : Lists → Taken A} {s : Cursor} {a : A} {m : Cursor} (T : Took take s a m) where
  -- what is written depends on it
  pub chosen_wrote : (h : A → Lists → Bytes) {f : Lists → Bytes} {b₀ b₁ : List ℕ} {r : Option Cursor}
      → ((l : Lists) → f l ≡ bind (take l) (λ x. h x.0 x.1)) → Writes (h a) b₀ b₁ m r → Writes f b₀ b₁ s r
  chosen_wrote h {f} {b₀} {b₁} {r} f-is W = record { by_end = go r W.by_end }
    where
      there : f (left s) ≡ h a (left m)
      there = f-is (left s) ∙ rw T.is

      go : (o : Option Cursor) → MatchOption o (Missing (h a) m) (λ k. Wrote (h a) b₀ b₁ m k) → MatchOption o (Missing f s) (λ k. Wrote f b₀ b₁ s k)
      go None e = record { is = there ∙ e.is }
      go (Some k) w =
          record {
            bytes = w.bytes;
            is = there ∙ w.is;
            place = w.place ∙ ap (λ (n : ℕ). capped (n + length w.bytes)) T.place;
            put = λ h room. subst (λ (n : ℕ). Stored b₀ b₁ n w.bytes) T.place (w.put (omega (arith, T.place)) (omega (arith, T.place)));
          }

  -- it is written as these bytes
  pub leaf_wrote : (bytes : A → List ℕ) {f : Lists → Bytes} {b₀ b₁ : List ℕ} {r : Cursor} {size : ℕ}
      → ((l : Lists) → f l ≡ bind (take l) (λ x. some (bytes x.0, x.1)))
      → r ≡ record { numbers = m.numbers; texts = m.texts; at = capped (m.at + size) } → Puts b₀ b₁ m.at (bytes a) size → Writes f b₀ b₁ s (Some r)
  leaf_wrote bytes {f} {b₀} {b₁} {r} {size} f-is r-is P =
      record {
        by_end =
            record {
              bytes = bytes a;
              is = f-is (left s) ∙ taken ∙ (λ i. some (bytes a, left (sym r-is i)));
              place =
                  ap (λ (k : Cursor). capped k.at) r-is ∙ capped_capped (m.at + size) ∙ (λ i. capped (T.place i + P.size_is i));
              put =
                  λ h room.
                  subst (λ (n : ℕ). Stored b₀ b₁ n (bytes a)) T.place (P.put (omega (arith, T.place, P.size_is)));
            };
      }
    where
      taken : ◌≡◌ {A = Bytes} (bind (take (left s)) (λ x. some (bytes x.0, x.1))) (some (bytes a, left m))
      taken = rw T.is

-- there is nothing to take
pub leaf_missed : {A : Type 0} {take : Lists → Taken A} (bytes : A → List ℕ) {f : Lists → Bytes} {b₀ b₁ : List ℕ} {s : Cursor}
    → ((l : Lists) → f l ≡ bind (take l) (λ x. some (bytes x.0, x.1))) → Missing take s → Writes f b₀ b₁ s None
leaf_missed bytes {s = s} f-is e = record { by_end = record { is = f-is (left s) ∙ rw e.is } }
