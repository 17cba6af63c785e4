-- What a container holds, by type: the insides of its elements of one type, and integers among them. Definitions only, and total: what is
-- malformed ends the elements.
use Rattle.std.specs.Prelude.{ℕ, List, [], ◌∷◌, ◌++◌, map, eqb}
use Rattle.std.proofs.Math.Option.{none, some}
use Rattle.tlv.specs.Number.{integer}
use Rattle.tlv.specs.Element.{Element, Cuts, done, broken, next, cuts}
use Rattle.tlv.specs.Lists.{when, first_or}

-- what f gives for each element, one after the other
unfoldable pub each_cut : {A : Type 0} → (Element → List A) → Cuts → List A
each_cut f done = []
each_cut f broken = []
each_cut f (next e rest) = f e ++ each_cut f rest

-- the elements that a list of bytes begins with: up to its end, or to where no element stands
unfoldable pub elements : List ℕ → List Element
elements b = each_cut (λ e. e ∷ []) (cuts b)

unfoldable pub inside_of : ℕ → Element → List (List ℕ)
inside_of t e = when (eqb t e.type) e.inside

-- the insides of the elements of type t
unfoldable pub insides : ℕ → List ℕ → List (List ℕ)
insides t b = each_cut (inside_of t) (cuts b)

-- an integer's value; 0 where it has another size, which is malformed
unfoldable pub number_of : List ℕ → ℕ
number_of b = elim (integer b) [ none ↦ 0 | some n ↦ n ]

unfoldable pub integers : ℕ → List ℕ → List ℕ
integers t b = map number_of (insides t b)

-- the inside of the first; nothing where there is none
unfoldable pub the_inside : ℕ → List ℕ → List ℕ
the_inside t b = first_or [] (insides t b)

unfoldable pub the_integer : ℕ → List ℕ → ℕ
the_integer t b = number_of (the_inside t b)
