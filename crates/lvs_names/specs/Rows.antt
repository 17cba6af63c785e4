-- The components of a name from a place on, without the tests that a name has passed before the walk starts.
use Rattle.std.specs.Prelude.{ℕ, ◌+◌, List, [], ◌∷◌, length, drop}
use Rattle.tlv.specs.Element.{Cuts, done, broken, next, cuts, element_bytes}
use Rattle.lvs_spec.specs.Names.{Component}

unfoldable pub row_at : ℕ → Cuts → List Component
row_at at done = []
row_at at broken = []
row_at at (next e rest) =
    record { start = at; size = length (element_bytes e); content = e } ∷ row_at (at + length (element_bytes e)) rest

-- the components from a place of a name on
unfoldable pub row_from : List ℕ → ℕ → List Component
row_from name at = row_at at (cuts (drop at name))
