-- Components as parts of a slice.
use Rattle.std.specs.Prelude.{ℕ, ◌+◌, ◌-◌, ◌≤◌, ◌<◌, ◌≡◌, List, [], ◌∷◌, length, take, drop, Option, Some, None}
use Rattle.lvs_spec.specs.Model.{component_of}
use Rattle.lvs_names.specs.Alone.{Alone}
use Rattle.lvs_names.specs.Rows.{row_from}
use Rattle.lvs_names.specs.declared.Content.{Content}
use Rattle.lvs_names.specs.declared.parts.Component.{Component}

-- the type and value of the component that s begins with
pub record ContentOf (s : List ℕ) (c : Content) : Type 0 where
  pub order : c.start ≤ c.end
  pub within : c.end ≤ length s
  pub is : component_of s ≡ record { type = c.typ; inside = take (c.end - c.start) (drop c.start s) }

-- the component b at a place, with a header of so many bytes, is what the row goes on with
pub record RowStep (name : List ℕ) (at : ℕ) (b : List ℕ) (header : ℕ) : Type 0 where
  pub some : 0 < length b
  pub within : at + length b ≤ length name
  pub bytes : b ≡ take (length b) (drop at name)
  pub alone : Alone b header
  pub content : component_of b ≡ component_of (drop at name)
  pub is : row_from name at ≡ record { start = at; size = length b; content = component_of (drop at name) } ∷ row_from name (at + length b)

abbrev pub ComponentAt : List ℕ → ℕ → Option Component → Type 0
ComponentAt name at (Some c) = RowStep name at c.bytes.now c.header
ComponentAt name at None = row_from name at ≡ []
