-- The components of either name from a place on, as a walk binds them.
use Rattle.std.specs.Prelude.{ℕ, List}
use Rattle.lvs_spec.specs.Walk.{packet_origin, key_origin, Binding, row_of}
use Rattle.lvs_names.specs.Rows.{row_from}
use Rattle.lvs_bindings.specs.Names.{name_for}
use Rattle.lvs_spec.specs.declared.refusal.Side.{Side}
use Rattle.lvs_spec.specs.declared.refusal.Side.TheVariants.{Packet, Key}

abbrev pub origin_for : Side → ℕ
origin_for Packet = packet_origin
origin_for Key = key_origin

-- the components of a name from a place on
unfoldable pub row_for : List ℕ → List ℕ → Side → ℕ → List Binding
row_for packet key side at = row_of (origin_for side) (row_from (name_for packet key side) at)
