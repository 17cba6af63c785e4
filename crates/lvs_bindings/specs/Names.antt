-- The two names' text: the packet's bytes, then the key's.
use Rattle.std.specs.Prelude.{ℕ, ◌+◌, ◌-◌, cond, List, ltb, length, drop}
use Rattle.lvs_spec.specs.declared.refusal.Side.{Side}
use Rattle.lvs_spec.specs.declared.refusal.Side.TheVariants.{Packet, Key}

unfoldable pub name_for : List ℕ → List ℕ → Side → List ℕ
name_for packet key Packet = packet
name_for packet key Key = key

-- where a place of a name lies in the text
unfoldable pub text_place : List ℕ → Side → ℕ → ℕ
text_place packet Packet at = at
text_place packet Key at = length packet + at

-- the text from a place on
unfoldable pub text_from : List ℕ → List ℕ → ℕ → List ℕ
text_from packet key p = cond (ltb p (length packet)) (drop p packet) (drop (p - length packet) key)
