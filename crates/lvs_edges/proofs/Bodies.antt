-- A Node's body: the part of the model where its edges and signers are. Assumes nothing.
use Prim.Native.Nat.{ℕ, ◌+◌, ◌-◌, ◌≤◌}
use mathlib.Core.Path.{◌≡◌, refl, sym, ap, ◌∙◌}
use mathlib.Core.Bool.{Bool, true, false}
use mathlib.Core.List.{List, [], map}
use native.Mathlib.Omega.{arith}
use lib.ListN.{length, take, drop, get_or, length-drop, get_or-eq_default, get_or-map}
use lib.Seq.{take-add, drop_at, drop-drop, length-take-le}
use Rattle.tlv.specs.Number.{integer}
use Rattle.tlv.specs.Fields.{each_cut, insides, integers, the_inside, the_integer, number_of}
use Rattle.tlv.specs.declared.Place.{Place}
use Rattle.tlv.proofs.Cuts.{Step, cuts_end, element_nil}
use Rattle.tlv.proofs.Gathered.{each_none, insides_other}
use Rattle.lvs_spec.specs.Types as type
use Rattle.lvs_spec.specs.Model.{Node, no_node, node_at, node_of, model_of, edges}
use Rattle.lvs_edges.specs.Edges.{edge_from, file_edges}
use Rattle.lvs_edges.specs.Nodes.{node_inside, Walkable, in_body, BodyFrom, LiesIn, part_of, nowhere}
use Rattle.lvs_edges.specs.declared.body.Body.{Body}
use Rattle.lvs_edges.proofs.Listed.{from_other}

other_type : {t k : ℕ} → in_body t ≡ false → in_body k ≡ true → t ≡ k → ⊥
other_type p q e = let r : ◌≡◌ {A = Bool} false true = sym p ∙ ap in_body e ∙ q in let z : ◌≡◌ {A = ℕ} 0 1 = cc in omega arith

-- ---- where it starts

pub body_first : (s : List ℕ) → BodyFrom s 0
body_first s = record { within = omega arith; edges_are = refl; signers_are = refl }

pub body_next : {s : List ℕ} {at t start stop : ℕ} {n : Place} {r : Bool} → BodyFrom s at → Step s at t start stop n → r ≡ in_body t
    → r ≡ false → BodyFrom s n.at
unfolding file_edges in_body
body_next inv st p q =
    record {
      within = omega (arith, st.moved, st.within);
      edges_are = sym (each_none edge_from st (from_other _ (other_type (sym p ∙ q) refl) (other_type (sym p ∙ q) refl))) ∙ inv.edges_are;
      signers_are = sym (insides_other type.SignConstraint st (other_type (sym p ∙ q) refl)) ∙ inv.signers_are;
    }

-- ---- the typed Node

pub empty_node : no_node ≡ node_of []
unfolding no_node node_of integers the_integer the_inside number_of integer insides each_cut
empty_node = rw (cuts_end [] element_nil)

pub node_at_lem : (model : List ℕ) (v : ℕ) → node_at (model_of model) v ≡ node_of (node_inside model v)
unfolding node_at model_of node_inside
node_at_lem model v = ap (get_or (map node_of (insides type.Node model)) v) empty_node ∙ get_or-map node_of (insides type.Node model) v []

signers_of : (model : List ℕ) (v : ℕ) → integers type.SignConstraint (node_inside model v) ≡ (node_at (model_of model) v).signers
unfolding node_of
signers_of model v = sym (ap (λ (n : Node). n.signers) (node_at_lem model v))

pub edges_of : {model : List ℕ} → Walkable model → (v : ℕ) → file_edges (node_inside model v) ≡ edges (node_at (model_of model) v)
edges_of {model} W v = W.ordered v ∙ ap edges (sym (node_at_lem model v))

-- ---- the part of the model

-- b is the body of the Node v
pub record BodyPart (model : List ℕ) (v : ℕ) (b : Body) : Type 0 where
  pub lies : LiesIn model b
  pub edges_are : file_edges (part_of model b) ≡ edges (node_at (model_of model) v)
  pub signers_are : integers type.SignConstraint (part_of model b) ≡ (node_at (model_of model) v).signers
  pub short : length (part_of model b) ≤ length model

drop-take : (k n : ℕ) (l : List ℕ) → k ≤ length l → drop k (take (k + n) l) ≡ take n (drop k l)
drop-take k n l h = rw (take-add k n l) (drop_at (take k l) (take n (drop k l)) k (length-take-le k l h))

-- from a Node's body on to its end
pub body_part : {model : List ℕ} {v start stop k : ℕ} → Walkable model → start ≤ stop → stop ≤ length model
    → node_inside model v ≡ take (stop - start) (drop start model) → BodyFrom (take (stop - start) (drop start model)) k
    → BodyPart model v (record { start = start + k; end = stop })
unfolding integers
body_part {model} {v} {start} {stop} {k} W order within p B =
    let d : length (drop start model) ≡ length model - start = length-drop start model in
    let l : length (take (stop - start) (drop start model)) ≡ stop - start = length-take-le (stop - start) (drop start model) (omega arith) in
    let w : k ≤ stop - start = omega (arith, B.within) in
    let n : k + (stop - (start + k)) ≡ stop - start = omega arith in
    let q : drop k (take (stop - start) (drop start model)) ≡ take (stop - (start + k)) (drop (start + k) model) =
    ap (λ (x : ℕ). drop k (take x (drop start model))) (sym n) ∙ drop-take k (stop - (start + k)) (drop start model) (omega arith) ∙
    ap (take (stop - (start + k))) (drop-drop k start model) in
    record {
      lies = record { order = omega arith; within = within };
      edges_are = ap file_edges (sym q) ∙ B.edges_are ∙ ap file_edges (sym p) ∙ edges_of W v;
      signers_are =
          ap (integers type.SignConstraint) (sym q) ∙ ap (map number_of) B.signers_are ∙ ap (integers type.SignConstraint) (sym p) ∙
          signers_of model v;
      short = omega (arith, ap length (sym q), l, length-drop k (take (stop - start) (drop start model)));
    }

-- a Node that the model does not have
pub no_body : {model : List ℕ} → Walkable model → (v : ℕ) → length (insides type.Node model) ≤ v → BodyPart model v nowhere
unfolding node_inside
no_body {model} W v h =
    let p : get_or (insides type.Node model) v [] ≡ [] = get_or-eq_default (insides type.Node model) [] {n = v} h in
    record {
      lies = record { order = omega arith; within = omega arith };
      edges_are = ap file_edges (sym p) ∙ edges_of W v;
      signers_are = ap (integers type.SignConstraint) (sym p) ∙ signers_of model v;
      short = omega arith;
    }
