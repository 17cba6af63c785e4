-- The components that are left, as the code sees them in the two names' text. Assumes nothing.
use Prim.Native.Nat.{ℕ, ◌+◌, ◌-◌, ◌≤◌, ◌<◌}
use mathlib.Core.Path.{◌≡◌, sym, subst}
use mathlib.Core.List.{List, [], ◌∷◌}
use native.Mathlib.Omega.{arith}
use borrow.Author.Tests.{lt-ltb, le-ltb}
use lib.ListN.{length, drop}
use Rattle.lvs_spec.specs.Limits.{max_name_bytes}
use Rattle.lvs_spec.specs.Walk.{row_of}
use Rattle.lvs_names.specs.Rows.{row_from}
use Rattle.lvs_names.specs.Contents.{RowStep, ComponentAt}
use Rattle.std.specs.declared.option.Option.{Option as Answer}
use Rattle.std.specs.declared.option.Option.TheVariants.{None, Some}
use Rattle.lvs_names.specs.declared.parts.Component.{Component}
use Rattle.lvs_bindings.specs.Names.{name_for, text_place, text_from}
use Rattle.lvs_bindings.specs.Slots.{place_in, origin_of, binding_at}
use Rattle.lvs_edges.specs.Crossing.{Stands}
use Rattle.lvs_edges.specs.Sides.{origin_for, row_for}
use Rattle.lvs_spec.specs.declared.refusal.Side.{Side}
use Rattle.lvs_spec.specs.declared.refusal.Side.TheVariants.{Packet, Key}

module _ (packet key : List ℕ) (side : Side) where
  pub name_short : (n : ℕ) → length packet ≤ n → length key ≤ n → length (name_for packet key side) ≤ n
  unfolding name_for
  name_short n p k = go side
    where
      go : (g : Side) → length (name_for packet key g) ≤ n
      go Packet = p
      go Key = k

  text_short : (at n : ℕ) → length packet ≤ n → at ≤ n → text_place packet side at ≤ n + n
  unfolding text_place
  text_short at n p k = go side
    where
      go : (g : Side) → text_place packet g at ≤ n + n
      go Packet = omega arith
      go Key = omega arith

  module _ (at : ℕ) (inside : at < length (name_for packet key side)) where
    text_is : text_from packet key (text_place packet side at) ≡ drop at (name_for packet key side)
    unfolding text_from text_place name_for
    text_is = go side inside
      where
        go : (g : Side) → at < length (name_for packet key g) → text_from packet key (text_place packet g at) ≡ drop at (name_for packet key g)
        go Packet h = rw (lt-ltb at (length packet) h)
        go Key h = let e : length packet + at - length packet ≡ at = omega arith in rw (le-ltb (length packet + at) (length packet) (omega arith), e)

    place_is : place_in packet (text_place packet side at) ≡ at
    unfolding place_in text_place name_for
    place_is = go side inside
      where
        go : (g : Side) → at < length (name_for packet key g) → place_in packet (text_place packet g at) ≡ at
        go Packet h = rw (lt-ltb at (length packet) h)
        go Key h = rw (le-ltb (length packet + at) (length packet) (omega arith)) (omega arith)

    origin_is : origin_of packet (text_place packet side at) ≡ origin_for side
    unfolding origin_of text_place name_for
    origin_is = go side inside
      where
        go : (g : Side) → at < length (name_for packet key g) → origin_of packet (text_place packet g at) ≡ origin_for g
        go Packet h = rw (lt-ltb at (length packet) h)
        go Key h = rw (le-ltb (length packet + at) (length packet) (omega arith))

  -- the row goes on with the component that was found
  pub row_found : {at header : ℕ} {b : List ℕ} → RowStep (name_for packet key side) at b header
      → row_for packet key side at ≡ binding_at packet key (text_place packet side at) (length b) ∷ row_for packet key side (at + length b)
  unfolding binding_at row_for row_of
  row_found {at} f =
      let inside : at < length (name_for packet key side) = omega (arith, f.some, f.within) in
      rw (place_is at inside, text_is at inside, origin_is at inside, f.is)

  row_ended : (at : ℕ) → row_from (name_for packet key side) at ≡ [] → row_for packet key side at ≡ []
  unfolding row_for row_of
  row_ended at e = rw e

-- ---- from what the callees ensure

-- a component was found at a place of one of the names; there it stands in their text
pub record Found (packet key : List ℕ) (side : Side) (at text : ℕ) (b : List ℕ) : Type 0 where
  pub some : 0 < length b
  pub within : at + length b ≤ length (name_for packet key side)
  pub stands : Stands packet key text b
  pub row_is : row_for packet key side at ≡ binding_at packet key text (length b) ∷ row_for packet key side (at + length b)

module _ (packet key : List ℕ) (side : Side) (at : ℕ) {name : List ℕ} (name-is : name ≡ name_for packet key side) {r : Answer Component}
    (read : ComponentAt name at r) where
  pub has_component : {x : Component} → r ≡ Some x → RowStep (name_for packet key side) at x.bytes.now x.header
  has_component e = rw name-is at (subst (ComponentAt name at) e read)

  pub no_component : r ≡ None → row_for packet key side at ≡ []
  no_component e = row_ended packet key side at (rw name-is at (subst (ComponentAt name at) e read))

module _ (packet key : List ℕ) (side : Side) (at : ℕ) {header text : ℕ} {b : List ℕ} (packet_short : length packet ≤ max_name_bytes)
    (key_short : length key ≤ max_name_bytes) (text_at : text ≡ text_place packet side at) (f : RowStep (name_for packet key side) at b header) where
  pub component : Found packet key side at text b
  component =
      let inside : at < length (name_for packet key side) = omega (arith, f.some, f.within) in
      let t : text_from packet key text ≡ drop at (name_for packet key side) = rw text_at (text_is packet key side at inside) in
      let short = name_short packet key side max_name_bytes packet_short key_short in
      let low = text_short packet key side at max_name_bytes packet_short (omega (arith, short)) in
      record {
        some = f.some;
        within = f.within;
        stands = record {
          content = rw t (sym f.content);
          low = omega (arith, low, text_at);
          short = omega (arith, short, f.within);
        };
        row_is = rw text_at (row_found packet key side f);
      }

-- the same from what the callees say of a name and a component
pub found_at : (packet key : List ℕ) (side : Side) (at : ℕ) {name : List ℕ} {r : Answer Component} {x : Component} {text : ℕ}
    → length packet ≤ max_name_bytes → length key ≤ max_name_bytes → name ≡ name_for packet key side → ComponentAt name at r → r ≡ Some x
    → text ≡ text_place packet side at → Found packet key side at text x.bytes.now
found_at packet key side at packet_short key_short n read e text_at =
    component packet key side at packet_short key_short text_at (has_component packet key side at n read e)

-- a component ends within the limit
pub ends_low : (packet key : List ℕ) (side : Side) (at : ℕ) {name : List ℕ} {r : Answer Component} {x : Component}
    → length packet ≤ max_name_bytes → length key ≤ max_name_bytes → name ≡ name_for packet key side → ComponentAt name at r → r ≡ Some x
    → at + length x.bytes.now ≤ max_name_bytes
ends_low packet key side at packet_short key_short n read e =
    let f = has_component packet key side at n read e in
    let short = name_short packet key side max_name_bytes packet_short key_short in omega (arith, f.within)
