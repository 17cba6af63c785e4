-- The body of each Node, as their loop finds them. Assumes nothing.
use Prim.Native.Nat.{ℕ, zero, suc, ◌+◌, ◌-◌, ◌≤◌, ◌<◌}
use mathlib.Core.Path.{◌≡◌, refl, sym, ap, ◌∙◌}
use mathlib.Core.Bool.{Bool, true, false}
use mathlib.Core.List.{List, [], ◌∷◌}
use native.Mathlib.Numerals.{add-one}
use native.Mathlib.Omega.{arith}
use borrow.Author.Tests.{eqb-true, eqb-false, ltb-true, ltb-false}
use lib.Dec.{eqb, ltb}
use lib.ListN.{length, take, drop, get_or, set, replicate, length-set, length-drop}
use lib.Seq.{drop-cons, get_or-set_same, get_or-set_other, length-take-le}
use Rattle.tlv.specs.Fields.{insides}
use Rattle.tlv.specs.declared.Place.{Place}
use Rattle.tlv.proofs.Cuts.{Step}
use Rattle.tlv.proofs.Gathered.{Stop, insides_found, insides_other, insides_stop}
use Rattle.lvs_spec.specs.Limits.{max_nodes}
use Rattle.lvs_spec.specs.Types as type
use Rattle.lvs_edges.specs.Nodes.{node_inside, Walkable, BodyFrom, nowhere, NodesAt}
use Rattle.lvs_edges.specs.declared.body.Body.{Body}
use Rattle.lvs_edges.proofs.Bodies.{BodyPart, body_part, no_body}

-- the bodies of the first n Nodes are there, and no others; the Nodes from `at` on are the rest
pub record Filled (model : List ℕ) (bodies : List Body) (n at : ℕ) : Type 0 where
  pub few : n ≤ length (insides type.Node model)
  pub room : length bodies ≡ max_nodes
  pub rest : insides type.Node (drop at model) ≡ drop n (insides type.Node model)
  pub done : (v : ℕ) → v < n → BodyPart model v (get_or bodies v nowhere)
  pub empty : (v : ℕ) → n ≤ v → get_or bodies v nowhere ≡ nowhere

none_there : (m v : ℕ) → get_or (replicate m nowhere) v nowhere ≡ nowhere
none_there zero v = refl
none_there (suc m) zero = refl
none_there (suc m) (suc v) = none_there m v

pub filled_first : (model : List ℕ) → Filled model (replicate max_nodes nowhere) 0 0
filled_first model =
    record { few = omega arith; room = refl; rest = refl; done = λ v h. absurd (omega arith); empty = λ v h. none_there max_nodes v }

module _ {model : List ℕ} {bodies : List Body} {n at : ℕ} (F : Filled model bodies n at) where
  module _ {t start stop : ℕ} {p : Place} (step : Step model at t start stop p) where
    pub filled_other : (t ≡ type.Node → ⊥) → Filled model bodies n p.at
    filled_other e = record { few = F.few; room = F.room; rest = sym (insides_other type.Node step e) ∙ F.rest; done = F.done; empty = F.empty }

    module _ (e : t ≡ type.Node) where
      rest_is : drop n (insides type.Node model) ≡ take (stop - start) (drop start model) ∷ insides type.Node (drop p.at model)
      rest_is = sym F.rest ∙ insides_found type.Node step e

      pub more : n < length (insides type.Node model)
      more = omega (arith, ap length rest_is, length-drop n (insides type.Node model))

      pub body_low : {k : ℕ} → BodyFrom (take (stop - start) (drop start model)) k → start + k ≤ stop
      body_low B =
          let l : length (take (stop - start) (drop start model)) ≡ stop - start =
          length-take-le (stop - start) (drop start model) (omega (arith, length-drop start model, step.within)) in
          omega (arith, B.within, step.order)

      pub filled_node : Walkable model → {k : ℕ} → BodyFrom (take (stop - start) (drop start model)) k
          → Filled model (set bodies n (record { start = start + k; end = stop })) (n + 1) p.at
      unfolding node_inside
      filled_node W {k} B =
          let c = drop-cons (insides type.Node model) n [] more in
          let h : get_or (insides type.Node model) n [] ≡ take (stop - start) (drop start model) = cc (c, rest_is) in
          let d : drop (suc n) (insides type.Node model) ≡ insides type.Node (drop p.at model) = cc (c, rest_is) in
          record {
            few = omega (arith, more);
            room = length-set bodies n b ∙ F.room;
            rest = sym d ∙ rw (add-one n);
            done = λ v l. part_at v l W.few (body_part W step.order step.within h B);
            empty = λ v l. get_or-set_other bodies n v b nowhere (λ q. omega arith) ∙ F.empty v (omega arith);
          }
        where
          b : Body
          b = record { start = start + k; end = stop }

          part_at : (v : ℕ) → v < n + 1 → length (insides type.Node model) ≤ max_nodes → BodyPart model n b
              → BodyPart model v (get_or (set bodies n b) v nowhere)
          part_at v small few here = go (eqb v n) refl
            where
              go : (r : Bool) → eqb v n ≡ r → BodyPart model v (get_or (set bodies n b) v nowhere)
              go true q =
                  rw (eqb-true v n q, get_or-set_same bodies n b nowhere (omega (arith, more, F.room))) here
              go false q =
                  let z = eqb-false v n q in
                  rw (get_or-set_other bodies n v b nowhere z) (F.done v (omega arith))

  pub filled_all : Walkable model → Stop model at → NodesAt model bodies
  filled_all W st =
      let none_left : drop n (insides type.Node model) ≡ [] = sym F.rest ∙ insides_stop type.Node st in
      let all_of : length (insides type.Node model) ≤ n = omega (arith, ap length none_left, length-drop n (insides type.Node model)) in
      let b : (v : ℕ) → BodyPart model v (get_or bodies v nowhere) = λ v. go v (ltb v n) refl all_of in
      record {
        lies = λ v. (b v).lies;
        edges_are = λ v. (b v).edges_are;
        signers_are = λ v. (b v).signers_are;
        short = λ v. let s = (b v).short in let w = W.short in omega arith;
      }
    where
      go : (v : ℕ) (r : Bool) → ltb v n ≡ r → length (insides type.Node model) ≤ n → BodyPart model v (get_or bodies v nowhere)
      go v true q l = F.done v (ltb-true v n q)
      go v false q l = let z : n ≤ v = ltb-false v n q in rw (F.empty v z) (no_body W v (omega arith))
