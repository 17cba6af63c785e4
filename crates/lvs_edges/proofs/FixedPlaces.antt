-- Edges whose fields stand at fixed places, and those whose fields are searched for. Assumes nothing.
use Prim.Native.Nat.{ℕ, ◌+◌, ◌-◌, ◌<◌}
use mathlib.Core.Path.{◌≡◌, refl, sym, ◌∙◌}
use mathlib.Core.Bool.{Bool, true, false}
use mathlib.Core.List.{List, ◌∷◌}
use native.Mathlib.Omega.{arith}
use lib.ListN.{length, take, drop, get_or}
use lib.Seq.{drop-cons}
use Rattle.tlv.specs.Bytes.{big_endian}
use Rattle.tlv.specs.Number.{integer}
use Rattle.tlv.specs.Fields.{insides, number_of, the_inside, the_integer}
use Rattle.tlv.proofs.Cuts.{Step, short_step}
use Rattle.tlv.proofs.Gathered.{insides_found, insides_other}
use Rattle.lvs_spec.specs.Types as type
use Rattle.lvs_edges.specs.Plain.{PlainNode, PlainValue, PlainPattern, FieldsOf}

-- a test that failed proves anything of its success
pub never : {A : Type 0} → ◌≡◌ {A = Bool} false true → A
never e = let z : ◌≡◌ {A = ℕ} 0 1 = cc in absurd (omega arith)

one_byte : (s : List ℕ) (i : ℕ) → i < length s → number_of (take 1 (drop i s)) ≡ get_or s i 0
unfolding number_of integer big_endian
one_byte s i h = rw (drop-cons s i 0 h) (omega arith)

-- a NodeId of one byte at the front
module _ {s : List ℕ} (N : PlainNode s) where
  node_step : Step s 0 (get_or s 0 0) 2 3 (record { at = 3 })
  node_step = short_step s 0 1 N.long (omega (arith, N.node)) (omega (arith, N.node)) N.node_size (omega arith)

  pub plain_destination : get_or s 2 0 ≡ the_integer type.NodeId s
  unfolding the_integer the_inside
  plain_destination = sym (rw (insides_found type.NodeId node_step N.node) (one_byte s 2 N.long))

  past_node : (k : ℕ) → (k ≡ type.NodeId → ⊥) → insides k s ≡ insides k (drop 3 s)
  past_node k n = insides_other k node_step (λ e. n (sym e ∙ N.node))

-- ---- a ValueEdge

pub plain_inside : {s : List ℕ} → PlainValue s → take (length s - 5) (drop 5 s) ≡ the_inside type.Value s
unfolding the_inside
plain_inside {s} P =
    let l = P.long in
    let step = short_step s 3 (length s - 5) (omega arith) (omega (arith, P.value)) (omega (arith, P.value)) P.value_size (omega (arith, P.short)) in
    let n : 5 + (length s - 5) - 5 ≡ length s - 5 = omega arith in
    sym (rw (past_node P.begins type.Value (λ e. omega arith), insides_found type.Value step P.value, n))

-- ---- a PatternEdge

module _ {s : List ℕ} (P : PlainPattern s) where
  tag_step : Step s 3 (get_or s 3 0) 5 6 (record { at = 6 })
  tag_step = short_step s 3 1 P.long (omega (arith, P.tag)) (omega (arith, P.tag)) P.tag_size (omega arith)

  pub plain_fields : FieldsOf s (record { dest = get_or s 2 0; tag = get_or s 5 0; rest = 6 })
  unfolding the_integer the_inside
  plain_fields =
      let b : insides type.Tag s ≡ take 1 (drop 5 s) ∷ insides type.Tag (drop 6 s) =
      past_node P.begins type.Tag (λ e. omega arith) ∙ insides_found type.Tag tag_step P.tag in
      let c : insides type.Constraint s ≡ insides type.Constraint (drop 6 s) =
      past_node P.begins type.Constraint (λ e. omega arith) ∙ insides_other type.Constraint tag_step (λ e. omega (arith, P.tag)) in
      record {
        destination = plain_destination P.begins;
        tag_is = sym (rw b (one_byte s 5 (omega (arith, P.long))));
        within = P.long;
        constraints = sym c;
      }

pub any_fields : (s : List ℕ) {d t : ℕ} → d ≡ the_integer type.NodeId s → t ≡ the_integer type.Tag s → FieldsOf s (record { dest = d; tag = t; rest = 0 })
any_fields s p q = record { destination = p; tag_is = q; within = omega arith; constraints = refl }
