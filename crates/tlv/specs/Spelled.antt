-- The number that a part of a list of bytes spells.
use Rattle.std.specs.Prelude.{ℕ, ◌<◌, ◌^◌, ◌≡◌, List, take, drop}
use Rattle.tlv.specs.Bytes.{big_endian}

-- r is the number that the w bytes of s from `at` on spell
pub record Spelled (s : List ℕ) (at w r : ℕ) : Type 0 where
  pub is : r ≡ big_endian (take w (drop at s))
  pub below : r < 256 ^ w
