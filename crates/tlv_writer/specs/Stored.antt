-- What was stored into a list of bytes.
use Rattle.std.specs.Prelude.{ℕ, ◌+◌, ◌^◌, ◌≤◌, ◌<◌, ◌≡◌, true, List}
use Rattle.std.proofs.lemmas.List.Edits.{sets}
use Rattle.tlv.specs.Number.{integer_size}

-- bs was stored from `at` on, and nothing else
pub record Stored (before now : List ℕ) (at : ℕ) (bs : List ℕ) : Type 0 where
  pub is : now ≡ sets before at bs

-- n can be spelled in w bytes from `at` on
pub record Digits (at w n room : ℕ) : Type 0 where
  pub size : integer_size w ≡ true
  pub fits : at + w ≤ room
  pub small : n < 256 ^ w
