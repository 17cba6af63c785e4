-- What a model and two names are read as. Assumes nothing.
use Prim.Native.Nat.{ℕ}
use mathlib.Core.Path.{◌≡◌, refl}
use mathlib.Core.List.{List, Memᴰ}
use native.Mathlib.Omega.{arith}
use lib.ListN.{length-replicate}
use Rattle.lvs_spec.specs.Limits.{binding_words, path_words}
use Rattle.lvs_spec.specs.Model.{Model}
use Rattle.lvs_spec.specs.Names.{Component, NameReading, bad_name, good_name, packet_name, key_name}
use Rattle.lvs_spec.specs.Answers.{Refusal, Usable, unusable, usable, usable_model, Inputs, bad, good, input_names, inputs_in, inputs, Buffers}
use Rattle.lvs_spec.specs.Certificates.{roomy}
use Rattle.lvs_spec.specs.Demands.{SignInputs, RoomFor, SignRoom, key_refusals, follow_refusals}
use Rattle.lvs_spec.proofs.Refusals.{key_number, of_model, of_packet, of_own}
use Rattle.lvs_spec.proofs.Names.{good_few}

-- they are refused, or no rule refuses them
pub data Read (b packet key : List ℕ) : Inputs → Type 0 where
  refuses : (r : Refusal) → Memᴰ r.number follow_refusals → Read b packet key (bad r)
  reads : {m : Model} {ps ks : List Component} → SignInputs b packet key m ps ks → Read b packet key (good m ps ks)

pub names_good : (m : Model) (packet key : List ℕ) {ps ks : List Component} → packet_name packet ≡ good_name ps → key_name key ≡ good_name ks
    → inputs_in (usable m) packet key ≡ good m ps ks
unfolding inputs_in input_names
names_good m packet key p k = rw (p, k)

pub inputs_good : {b packet key : List ℕ} {m : Model} {ps ks : List Component} → SignInputs b packet key m ps ks → inputs b packet key ≡ good m ps ks
unfolding inputs
inputs_good {packet = packet} {key = key} {m = m} g = rw g.usable_is (names_good m packet key g.packet_good g.key_good)

pub inputs_read : (b packet key : List ℕ) → Read b packet key (inputs b packet key)
unfolding inputs inputs_in input_names
inputs_read b packet key = go (usable_model b) (packet_name packet) (key_name key) refl refl refl
  where
    go : (u : Usable) (r q : NameReading) → usable_model b ≡ u → packet_name packet ≡ r → key_name key ≡ q → Read b packet key (inputs b packet key)
    go (unusable x) r q eu er eq = rw (eu, inputs) (refuses x (of_model key_refusals b eu))
    go (usable m) (bad_name x) q eu er eq = rw (eu, inputs) (rw er (refuses _ (of_packet key_refusals packet er)))
    go (usable m) (good_name ps) (bad_name x) eu er eq = rw (eu, inputs) (rw (er, eq) (refuses _ (of_own key_refusals (key_number key eq))))
    go (usable m) (good_name ps) (good_name ks) eu er eq =
        let g : SignInputs b packet key m ps ks = record { usable_is = eu; packet_good = er; key_good = eq } in
        rw (inputs_good g) (reads g)

-- ---- room for bindings and path

same_components : {r : NameReading} {cs ds : List Component} → r ≡ good_name cs → r ≡ good_name ds → cs ≡ ds
same_components p q = cc

-- for these names
pub sign_room_lem : {b packet key : List ℕ} {m : Model} {ps ks : List Component} (s : Buffers) → SignInputs b packet key m ps ks
    → RoomFor ps ks s → SignRoom packet key s
sign_room_lem s g room =
    record { enough = λ ps ks p k. rw (same_components p g.packet_good, same_components k g.key_good) room }

-- for any
pub roomy_enough : (packet key : List ℕ) → SignRoom packet key roomy
unfolding packet_name key_name roomy
roomy_enough packet key =
    record {
      enough = λ ps ks p k.
          record {
            words = omega (arith, length-replicate {A = ℕ} binding_words 0);
            path = omega (arith, good_few 21 packet p, good_few 24 key k, length-replicate {A = ℕ} path_words 0);
          };
    }
