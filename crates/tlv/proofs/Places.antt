-- Two slices compared place by place, for a body that is no `==`: what must-fail/byte_skipped is held against. Assumes nothing.
use Prim.Native.Nat.{ℕ, ◌<◌}
use mathlib.Core.Path.{◌≡◌, sym, ap, subst, ◌∙◌}
use mathlib.Core.Bool.{Bool, true, false}
use mathlib.Core.List.{List}
use native.Mathlib.Omega.{arith}
use borrow.Author.Tests.{ne_eqb}
use lib.Dec.{eqb}
use lib.ListN.{length, get_or}
use lib.Seq.{ext_get_or}
use Rattle.std.specs.Bool.{MatchBool}
use Rattle.std.specs.List.{range_with_len, AllWithin, HoldsAt}
use Rattle.std.proofs.lemmas.List.FromFn.{length-range_with_len, get_or-range_with_len}
use Rattle.tlv.specs.Bytes.{same_bytes}
use Rattle.tlv.proofs.Bytes.{same_refl, same_false}

module _ (s t : List ℕ) where
  pub same_lengths : (length s ≡ length t → ⊥) → eqb (length s) (length t) ≡ same_bytes s t
  same_lengths n = ne_eqb _ _ n ∙ sym (same_false s t (λ e. n (ap length e)))

  -- the bytes at place i
  abbrev pub SameAt : ℕ → Type 0
  SameAt i = get_or s i 0 ≡ get_or t i 0

  abbrev pub OtherAt : ℕ → Type 0
  OtherAt i = SameAt i → ⊥

  abbrev places : List ℕ
  places = range_with_len 0 (length s)

  -- a test of each place
  pub same_places : length s ≡ length t → (r : Bool)
      → MatchBool r (AllWithin SameAt places 0 (length places)) ((k : ℕ) × (k < length places) × HoldsAt OtherAt places k) → r ≡ same_bytes s t
  same_places long true all =
      let each : (i : ℕ) → i < length s → SameAt i =
      λ i l. subst SameAt (get_or-range_with_len 0 (length s) i 0 l ∙ (omega arith))
      (all i 0 (omega arith) (omega (arith, l, length-range_with_len 0 (length s)))) in
      sym (ap (same_bytes s) (sym (ext_get_or 0 s t long each)) ∙ same_refl s)
  same_places long false some = sym (same_false s t (λ e. some.2 0 (ap (λ l. get_or l (get_or places some.0 0) 0) e)))
