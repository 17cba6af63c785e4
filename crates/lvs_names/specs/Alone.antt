-- The bytes of one component and no more.
use Rattle.std.specs.Prelude.{ℕ, ◌≡◌, Bool, false, ◌&&◌, List, [], eqb, length}
use Rattle.tlv.specs.Element.{First, end, malformed, first, element}
use Rattle.lvs_spec.specs.Model.{component_of}

unfoldable pub alone_from : First → ℕ → Bool
alone_from end header = false
alone_from malformed header = false
alone_from (first h e rest) header = eqb h header && eqb (length rest) 0

-- b is one component; its header (type and length) has this many of the bytes
unfoldable pub is_alone : List ℕ → ℕ → Bool
is_alone b header = alone_from (element b) header

-- the same, as its laws say it
pub record Alone (b : List ℕ) (header : ℕ) : Type 0 where
  pub is : element b ≡ first header (component_of b) []
