-- How many elements of a type a list of bytes is made of. Definitions only.
use Rattle.std.specs.Prelude.{ℕ, cond, List, length, Option, Some, None}
use Rattle.tlv.specs.Element.{split}
use Rattle.tlv.specs.Lists.{is_some}
use Rattle.tlv.specs.Fields.{insides}

-- bytes that are not elements and nothing else have no count
unfoldable pub count_of : ℕ → List ℕ → Option ℕ
count_of t b = cond (is_some (split b)) (Some (length (insides t b))) None
