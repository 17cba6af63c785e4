-- A trace that says the same in another way. Assumes nothing.
use mathlib.Core.Path.{◌≡◌, refl, ap, ◌∙◌}
use mathlib.Core.List.{List, [], ◌∷◌, ◌++◌, map}
use Rattle.tlv.specs.Lists.{each}
use Rattle.lvs_spec.specs.Walk.{Event, looked, found, continue}
use Rattle.lvs_walk.specs.Search.{first_found, mapped}

module _ {A B : Type 0} (f : A → B) where
  abbrev pub retold : Event A → Event B
  retold looked = looked
  retold (found a) = found (f a)

  -- its first answer says the same
  pub retold_first : (t : List (Event A)) → first_found (map retold t) ≡ mapped f (first_found t)
  unfolding first_found
  retold_first [] = refl
  retold_first (looked ∷ t) = retold_first t
  retold_first (found a ∷ t) = refl

  pub map-append : (s t : List (Event A)) → map retold (s ++ t) ≡ map retold s ++ map retold t
  map-append [] t = refl
  map-append (e ∷ s) t = ap (λ l. retold e ∷ l) (map-append s t)

  -- a trace that is continued, retold
  pub retold_each : {C : Type 0} (g : C → List (Event A)) (h : C → List (Event B)) → ((c : C) → map retold (g c) ≡ h c) → (t : List (Event C))
      → map retold (each (continue g) t) ≡ each (continue h) t
  retold_each g h same [] = refl
  retold_each g h same (looked ∷ t) = ap (λ l. looked ∷ l) (retold_each g h same t)
  retold_each g h same (found c ∷ t) = map-append (g c) (each (continue g) t) ∙ (λ i. same c i ++ retold_each g h same t i)
