-- Facts by computation, as a check of the definitions: the lists of document 01's models A and B, and the bytes that these are written as; a
-- description with an element of each kind, whose bytes were encoded apart from these definitions, by a script from the layout of
-- docs/format.md, 12; and lists that describe nothing. Assumes nothing.
use mathlib.Core.Path.{◌≡◌, refl}
use mathlib.Core.List.{List, [], ◌∷◌}
use mathlib.Core.Option.{Option, none, some}
use Prim.Native.Nat.{ℕ}
use Rattle.tlv.specs.Lists.{bind}
use Rattle.lvs_spec.specs.Model.{model_of}
use Rattle.lvs_spec.specs.Bench.{model_a, model_b, model_b_optional}
use Rattle.lvs_spec.proofs.Bench.{computing}
use Rattle.lvs_description.specs.Format.{integer_width, integer_bytes, bytes_of, take_text}
use Rattle.lvs_description.specs.Description.{model_bytes, description_of, lists_of, numbers_of, texts_of}

-- to unfold this is to unfold every definition that lists and bytes are computed by
unfoldable describing : Unit {0}
unfolding computing integer_width integer_bytes bytes_of take_text model_bytes description_of lists_of numbers_of texts_of
describing = tt

-- the bytes that two lists are written as
abbrev bytes_from : List ℕ → List ℕ → Option (List ℕ)
bytes_from ns ts = bind (description_of ns ts) (λ m. some (model_bytes m))

-- ---- models A and B

-- start 0, pattern count 0, one Node (id 0, no Parent, nothing in its four lists), no symbols
abbrev numbers_a : List ℕ
numbers_a = 0 ∷ 0 ∷ 1 ∷ 0 ∷ 0 ∷ 0 ∷ 0 ∷ 0 ∷ 0 ∷ 0 ∷ []

-- start 0, pattern count 1, two Nodes, the second with Parent 0, and no symbols
abbrev numbers_b : List ℕ
numbers_b = 0 ∷ 1 ∷ 2 ∷ 0 ∷ 0 ∷ 0 ∷ 0 ∷ 1 ∷ 1 ∷ 1 ∷ 0 ∷ 0 ∷ 1 ∷ 1 ∷ 0 ∷ 0 ∷ 0 ∷ 0 ∷ 1 ∷ 1 ∷ 0 ∷ []

pub lists_A : (numbers_of (model_of model_a) ≡ numbers_a) × (texts_of (model_of model_a) ≡ [])
unfolding describing
lists_A = (refl, refl)

pub lists_B : (numbers_of (model_of model_b) ≡ numbers_b) × (texts_of (model_of model_b) ≡ [])
unfolding describing
lists_B = (refl, refl)

pub writes_A : (model_bytes (model_of model_a) ≡ model_a) × (bytes_from numbers_a [] ≡ some model_a)
unfolding describing
writes_A = (refl, refl)

pub writes_B : (model_bytes (model_of model_b) ≡ model_b) × (bytes_from numbers_b [] ≡ some model_b)
unfolding describing
writes_B = (refl, refl)

-- the optional element of this one is not written
pub writes_bare : model_bytes (model_of model_b_optional) ≡ model_b
unfolding describing
writes_bare = refl

-- ---- an element of each kind

-- two Nodes, a ValueEdge, a PatternEdge with two Constraints, options, calls and arguments of each kind, two signers, two symbols
abbrev numbers_c : List ℕ
numbers_c =
    0 ∷ 300 ∷ 2 ∷ 0 ∷ 0 ∷ 1 ∷ 2 ∷ 1 ∷ 1 ∷ 8 ∷ 1 ∷ 1 ∷ 1 ∷ 1 ∷ 2 ∷ 3 ∷ 1 ∷ 0 ∷ 8 ∷ 2 ∷ 1 ∷ 1 ∷ 128 ∷ 1 ∷ 2 ∷ 3 ∷ 1 ∷ 0 ∷ 8 ∷ 1 ∷ 1 ∷ 1 ∷ 2 ∷
    8 ∷ 1 ∷ 1 ∷ 70000 ∷ 0 ∷ 1 ∷ 1 ∷ 0 ∷ 0 ∷ 0 ∷ 0 ∷ 2 ∷ 0 ∷ 1 ∷ 2 ∷ 1 ∷ 1 ∷ 2 ∷ 3 ∷ []

-- #a, x, yy, $eq, z, $isValid, n, abc
abbrev texts_c : List ℕ
texts_c =
    35 ∷ 97 ∷ 120 ∷ 121 ∷ 121 ∷ 36 ∷ 101 ∷ 113 ∷ 122 ∷ 36 ∷ 105 ∷ 115 ∷ 86 ∷ 97 ∷ 108 ∷ 105 ∷ 100 ∷ 110 ∷ 97 ∷ 98 ∷ 99 ∷ []

-- with integers of one, two and four bytes
abbrev bytes_c : List ℕ
bytes_c =
    97 ∷ 4 ∷ 0 ∷ 1 ∷ 16 ∷ 0 ∷ 37 ∷ 1 ∷ 0 ∷ 105 ∷ 2 ∷ 1 ∷ 44 ∷ 99 ∷ 80 ∷ 37 ∷ 1 ∷ 0 ∷ 41 ∷ 2 ∷ 35 ∷ 97 ∷ 81 ∷ 8 ∷ 37 ∷ 1 ∷ 1 ∷ 33 ∷ 3 ∷ 8 ∷
    1 ∷ 120 ∷ 83 ∷ 61 ∷ 37 ∷ 1 ∷ 1 ∷ 35 ∷ 1 ∷ 1 ∷ 67 ∷ 29 ∷ 65 ∷ 6 ∷ 33 ∷ 4 ∷ 8 ∷ 2 ∷ 121 ∷ 121 ∷ 65 ∷ 3 ∷ 35 ∷ 1 ∷ 128 ∷ 65 ∷ 14 ∷ 49 ∷
    12 ∷ 39 ∷ 3 ∷ 36 ∷ 101 ∷ 113 ∷ 51 ∷ 5 ∷ 33 ∷ 3 ∷ 8 ∷ 1 ∷ 122 ∷ 67 ∷ 22 ∷ 65 ∷ 20 ∷ 49 ∷ 18 ∷ 39 ∷ 8 ∷ 36 ∷ 105 ∷ 115 ∷ 86 ∷ 97 ∷ 108 ∷
    105 ∷ 100 ∷ 51 ∷ 6 ∷ 35 ∷ 4 ∷ 0 ∷ 1 ∷ 17 ∷ 112 ∷ 99 ∷ 12 ∷ 37 ∷ 1 ∷ 1 ∷ 87 ∷ 1 ∷ 0 ∷ 85 ∷ 1 ∷ 0 ∷ 85 ∷ 1 ∷ 1 ∷ 103 ∷ 6 ∷ 35 ∷ 1 ∷ 1 ∷
    41 ∷ 1 ∷ 110 ∷ 103 ∷ 8 ∷ 35 ∷ 1 ∷ 2 ∷ 41 ∷ 3 ∷ 97 ∷ 98 ∷ 99 ∷ []

pub writes_C : bytes_from numbers_c texts_c ≡ some bytes_c
unfolding describing
writes_C = refl

-- ---- no description

-- a number missing; one too many; a Parent's kind that is neither 0 nor 1; a text's byte too many
pub describes_nothing : (bytes_from (0 ∷ 0 ∷ []) [] ≡ none)
    × (bytes_from (0 ∷ 0 ∷ 1 ∷ 0 ∷ 0 ∷ 0 ∷ 0 ∷ 0 ∷ 0 ∷ 0 ∷ 0 ∷ []) [] ≡ none)
    × (bytes_from (0 ∷ 0 ∷ 1 ∷ 0 ∷ 2 ∷ 0 ∷ 0 ∷ 0 ∷ 0 ∷ 0 ∷ 0 ∷ []) [] ≡ none)
    × (bytes_from numbers_a (35 ∷ []) ≡ none)
unfolding describing
describes_nothing = (refl, refl, refl, refl)
