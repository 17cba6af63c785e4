-- Numbers (docs/format.md, 2.1 and 2.3). A type or a length is a number of 1, 3, 5 or 9 bytes: below 253 one byte; else 253 and two bytes,
-- 254 and four, 255 and eight, high byte first, in the shortest form (NDN's VAR-NUMBER). An integer value has 1, 2, 4 or 8 bytes,
-- not necessarily the shortest (NDN's NonNegativeInteger). Definitions only.
use Rattle.std.specs.Prelude.{ℕ, ◌+◌, List, [], ◌∷◌, Bool, cond, ◌||◌, ltb, leb, eqb, length, take}
use Rattle.std.proofs.Math.Option.{Option, none, some}
use Rattle.tlv.specs.Bytes.{big_endian, big_endian_bytes}

-- after a first byte of 253, 254 or 255: how many bytes spell the number
unfoldable pub width : ℕ → ℕ
width b = cond (eqb b 253) 2 (cond (eqb b 254) 4 8)

-- and the least number that has no shorter form
unfoldable pub least : ℕ → ℕ
least b = cond (eqb b 253) 253 (cond (eqb b 254) 65536 4294967296)

-- what reading a number finds: none in its shortest form, or its value and how many bytes it takes
pub data Num : Type 0 where
  unreadable : Num
  num : (value size : ℕ) → Num

-- a number of w bytes, at least l, after the first byte
unfoldable pub wide : ℕ → ℕ → List ℕ → Num
wide w l bs =
    cond (leb w (length bs)) (cond (leb l (big_endian (take w bs))) (num (big_endian (take w bs)) (1 + w)) unreadable) unreadable

-- the number at the front of a list of bytes
unfoldable pub number : List ℕ → Num
number [] = unreadable
number (b ∷ bs) = cond (ltb b 253) (num b 1) (wide (width b) (least b) bs)

-- the first byte of a number of 253 or more
unfoldable pub mark : ℕ → ℕ
mark n = cond (ltb n 65536) 253 (cond (ltb n 4294967296) 254 255)

-- the shortest form of a number
unfoldable pub number_bytes : ℕ → List ℕ
number_bytes n = cond (ltb n 253) (n ∷ []) (mark n ∷ big_endian_bytes (width (mark n)) n)

-- how many bytes an integer value may have
abbrev pub integer_size : ℕ → Bool
integer_size n = eqb n 1 || (eqb n 2 || (eqb n 4 || eqb n 8))

-- the integer that a list of bytes is
unfoldable pub integer : List ℕ → Option ℕ
integer b = cond (integer_size (length b)) (some (big_endian b)) none
