-- What the reader's methods answer, from the definitions of tlv. Definitions only.
use Rattle.std.specs.Prelude.{ℕ, List, [], drop}
use Rattle.tlv.specs.Element.{First, end, malformed, first, element}
use Rattle.tlv.specs.Answers.{read_at}
use Rattle.tlv.specs.declared.Read.{Read}
use Rattle.tlv.specs.declared.Read.TheVariants.{Found, End, Malformed}
use Rattle.tlv_reader.specs.declared.Reader.{Reader}

-- the place after what was read at `at`; where no element stands, `at` itself
unfoldable pub place_after : Read → ℕ → ℕ
place_after (Found typ start stop n) at = n.at
place_after End at = at
place_after Malformed at = at

-- the reader r, moved past the element at its place
unfoldable pub moved : Reader → Reader
moved r = record { src = r.src; at = place_after (read_at r.src.now r.at) r.at }

abbrev pub inside_from : First → List ℕ
inside_from end = []
inside_from malformed = []
inside_from (first h e rest) = e.inside

-- the inside of the element at a place; no bytes where none stands
unfoldable pub inside_at : List ℕ → ℕ → List ℕ
inside_at s at = inside_from (element (drop at s))
