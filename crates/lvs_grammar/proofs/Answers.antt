-- What a reading says of the verdict's. Assumes nothing.
use Prim.Native.Nat.{ℕ}
use mathlib.Core.Path.{◌≡◌, refl, sym, subst, ◌∙◌}
use mathlib.Core.Bool.{Bool, true, false}
use mathlib.Core.List.{List}
use mathlib.Core.Option.{Option, none, some}
use Rattle.lvs_spec.specs.WellFormed.{too_long, other_version}
use Rattle.lvs_spec.specs.Places.{fault_place}
use Rattle.lvs_spec.specs.Verdict.{reading}
use Rattle.std.specs.Prelude.{Result}
use Rattle.lvs_spec.specs.declared.refusal.Refusal.{Refusal}
use Rattle.lvs_grammar.specs.Answers.{reading_of, means}

reading_means : (b : List ℕ) → reading b ≡ means (reading_of b) b
unfolding reading reading_of
reading_means b = go (too_long b) (other_version b) (fault_place b) refl refl refl
  where
    go : (x y : Bool) (o : Option ℕ) → too_long b ≡ x → other_version b ≡ y → fault_place b ≡ o → reading b ≡ means (reading_of b) b
    go true y o p q r = rw (p, reading)
    go false true o p q r = rw (p, q, reading)
    go false false none p q r = rw (p, q, r, reading)
    go false false (some i) p q r = rw (p, q, r, reading)

-- the law for callers: r is what the code answered, and a is the answer that the match found it to be
pub reading_is : (b : List ℕ) {r a : Result (Unit {0}) Refusal} → r ≡ reading_of b → r ≡ a → reading b ≡ means a b
reading_is b e f = subst (λ (x : Result (Unit {0}) Refusal). reading b ≡ means x b) (sym e ∙ f) (reading_means b)
