-- What the code answers at a place of a list of bytes: each enum's cases, read from the definitions.
use Rattle.std.specs.Prelude.{ℕ, ◌+◌, List, length, drop}
use Rattle.std.proofs.Math.Option as math
use Rattle.std.specs.declared.option.Option.{Option}
use Rattle.std.specs.declared.option.Option.TheVariants.{None, Some}
use Rattle.tlv.specs.Number.{Num, unreadable, num, number, integer}
use Rattle.tlv.specs.Element.{Element, First, end, malformed, first, element}
use Rattle.tlv.specs.Fields.{elements}
use Rattle.tlv.specs.declared.Element as declared
use Rattle.tlv.specs.declared.Elements.{Elements}
use Rattle.tlv.specs.declared.Number.{Number}
use Rattle.tlv.specs.declared.Read.{Read}
use Rattle.tlv.specs.declared.Read.TheVariants.{Found, End, Malformed}

abbrev pub number_from : ℕ → Num → Option Number
number_from at unreadable = None
number_from at (num v k) = Some (record { value = v; next = at + k })

-- the number at a place
unfoldable pub number_at : List ℕ → ℕ → Option Number
number_at s at = number_from at (number (drop at s))

abbrev pub read_from : ℕ → First → Read
read_from at end = End
read_from at malformed = Malformed
read_from at (first h e rest) =
    Found e.type (at + h) (at + h + length e.inside) (record { at = at + h + length e.inside })

-- the element at a place; from the end of the list on there is none
unfoldable pub read_at : List ℕ → ℕ → Read
read_at s at = read_from at (element (drop at s))

-- an element as the definitions have it, and those that an iterator has left
abbrev pub element_of : declared.Element → Element
element_of e = record { type = e.typ; inside = e.inside.now }

abbrev pub elements_left : Elements → List Element
elements_left it = elements (drop it.place.at it.src.now)

abbrev pub integer_from : math.Option ℕ → Option ℕ
integer_from math.none = None
integer_from (math.some n) = Some n

unfoldable pub integer_of : List ℕ → Option ℕ
integer_of b = integer_from (integer b)
