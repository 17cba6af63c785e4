-- What the code answers: each enum's cases, read as the definitions of lvs_spec.
use Rattle.std.specs.Prelude.{ℕ, ◌+◌, ◌≡◌, cond, ◌&&◌, List, eqb, length, drop, Option as Answer, Some, None, option_map, option_and_then, Result, Ok, Err}
use Rattle.std.proofs.Math.Option.{Option, none, some}
use Rattle.tlv.specs.Element.{First, end, malformed, first, element, cuts}
use Rattle.lvs_spec.specs.Types as type
use Rattle.lvs_spec.specs.Names.{Component, NameReading, bad_name, good_name, components_at, name_reading}
use Rattle.lvs_spec.specs.Refusals.{first_refusal, refusal_of}
use Rattle.lvs_spec.specs.declared.refusal.Side.{Side}
use Rattle.lvs_spec.specs.declared.refusal.Refusal.{Refusal}
use Rattle.lvs_names.specs.Rows.{row_from}
use Rattle.lvs_names.specs.declared.Row.{Row}

-- a good name's components start at a place; a refused one has its refusal number
abbrev pub name_read : List ℕ → Result Row Refusal → NameReading
name_read name (Ok row) = good_name (row_from name row.start)
name_read name (Err r) = bad_name (refusal_of r).number

-- and there are so many; a refusal has no place
abbrev pub Counts : List ℕ → Result Row Refusal → Type 0
Counts name (Ok row) = length (row_from name row.start) ≡ row.count
Counts name (Err r) = (refusal_of r).at ≡ 0

pub record NameOf (side : Side) (name : List ℕ) (r : Result Row Refusal) : Type 0 where
  pub is : name_read name r ≡ name_reading (first_refusal side) name
  pub counts : Counts name r

-- where the components of a name start, if the slice is one element of type 7
unfoldable pub header_from : First → Answer ℕ
header_from end = None
header_from malformed = None
header_from (first h e rest) = cond (eqb e.type type.Name && eqb (length rest) 0) (Some h) None

unfoldable pub header_of : List ℕ → Answer ℕ
header_of b = header_from (element b)

-- n components and those of a row
unfoldable pub counted_from : ℕ → Option (List Component) → Answer ℕ
counted_from n none = None
counted_from n (some cs) = Some (n + length cs)

unfoldable pub count_of : List ℕ → ℕ → Answer ℕ
count_of name at = counted_from 0 (components_at at (cuts (drop at name)))

-- where they start, and how many there are, of a list of bytes that is a name
unfoldable pub read_row : List ℕ → Answer Row
read_row b = option_and_then (λ (start : ℕ). option_map (λ (n : ℕ). record { start = start; count = n }) (count_of b start)) (header_of b)
