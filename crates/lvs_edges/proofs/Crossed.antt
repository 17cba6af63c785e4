-- The answers for an edge, one law for each return. Assumes nothing.
use Prim.Native.Nat.{ℕ, ◌≤◌, ◌<◌}
use mathlib.Core.Path.{◌≡◌, refl, sym, ap, ◌∙◌, subst}
use mathlib.Core.Logic.{◌⊎◌, inl, inr, ⊎_elim}
use mathlib.Core.Bool.{Bool, true, false, cond, ◌&&◌}
use mathlib.Core.List.{List, [], ◌∷◌, ◌++◌, map}
use mathlib.Core.Option.{Option, none, some, some-injective}
use native.Mathlib.Omega.{arith}
use borrow.Author.Tests.{leb-false}
use lib.Dec.{leb}
use lib.ListN.{length, drop, length-drop}
use Rattle.std.specs.Option.{is_some as read_some}
use Rattle.std.specs.declared.option.Option.{Option as Answer}
use Rattle.std.specs.declared.option.Option.TheVariants.{None, Some}
use Rattle.tlv.specs.Lists.{bind, guard, all}
use Rattle.tlv.specs.Fields.{the_inside, the_integer}
use Rattle.lvs_spec.specs.Limits.{max_tag}
use Rattle.lvs_spec.specs.Types as type
use Rattle.lvs_spec.specs.Model.{Model, Edge, component_of, constraint_of, value_edge_of, pattern_edge_of, destination}
use Rattle.lvs_spec.specs.Names.{same}
use Rattle.lvs_spec.specs.Walk.{Binding, Bindings, Match, bound, bind_tag, bound_to, constraint_holds, crosses, bindings_after, cross}
use Rattle.lvs_spec.specs.Demands.{OnlyNamed}
use Rattle.lvs_spec.proofs.Lists.{bind_from, clash}
use Rattle.lvs_spec.proofs.Temporary.{named_after, temporary_stays}
use Rattle.lvs_spec.proofs.Bindings.{bound_stays}
use Rattle.lvs_bindings.specs.Slots.{binding_at, bindings_of, slot_at, bound_tag, bound_slots, without}
use Rattle.lvs_bindings.specs.declared.Span.{Span}
use Rattle.lvs_bindings.proofs.Bound.{unbound, is_bound, tag_bound, tag_unbound, bound_bindings, bound_back}
use Rattle.lvs_constraints.proofs.Holds.{all_empty}
use Rattle.lvs_edges.specs.Edges.{edge_of}
use Rattle.lvs_edges.specs.Plain.{FieldsOf}
use Rattle.lvs_edges.specs.Crossing.{Ready, Reached, leads_to, reached, arriving, taken_back, new_tag, named_slot, same_as, Passed, Crossed, CrossedValue}
use Rattle.lvs_edges.specs.Crossing.{unbound as tag_back}
use Rattle.lvs_edges.specs.declared.EdgeKind.TheVariants.{Value, Pattern}
use Rattle.lvs_edges.specs.declared.fields.PatternFields.{PatternFields}
use Rattle.lvs_edges.specs.declared.Crossing.{Crossing}

led : (t : Bool) (d : ℕ) (s : Bindings)
    → (bind {B = Reached} (guard t s) λ x. some (record { node = d; bindings = x })) ≡ cond t (some (record { node = d; bindings = s })) none
led true d s = refl
led false d s = refl

-- ---- what search and follower use of a crossing

-- where the edge leads, and that taking back what it bound gives what was before. `Crossed` says besides that a Tag that it bound has a binding
pub record LeadsBack (count : ℕ) (packet key : List ℕ) (e : Edge) (b : Binding) (before : List (Answer Span)) (r : Answer Crossing)
    (after : List (Answer Span)) : Type 0 where
  pub leads : leads_to count (bindings_of packet key before) b e ≡ reached r (bindings_of packet key after)
  pub back : taken_back r (bindings_of packet key after) ≡ bindings_of packet key before

pub crossed_leads : {count : ℕ} {packet key : List ℕ} {e : Edge} {b : Binding} {before after : List (Answer Span)} {r : Answer Crossing}
    → Crossed count packet key e b before r after → LeadsBack count packet key e b before r after
crossed_leads crossed = record { leads = crossed.leads; back = crossed.back }

-- ---- a ValueEdge

-- v is what its Value holds, and t whether that equals the component c
module _ (s c : List ℕ) {v : List ℕ} (v-is : v ≡ the_inside type.Value s) {t : Bool} (h : t ≡ same (component_of v) (component_of c)) where
  value_leads : (count : ℕ) (β : Bindings) (b : Binding) → b.component.content ≡ component_of c
      → leads_to count β b (edge_of Value s) ≡ cond t (some (record { node = the_integer type.NodeId s; bindings = β })) none
  unfolding leads_to edge_of bindings_after value_edge_of destination
  value_leads count β b e = rw (← v-is, e, ← h) (led t (the_integer type.NodeId s) β)

  pub value_shut : t ≡ false → CrossedValue s c None
  value_shut f = record { leads = λ count β b e. value_leads count β b e ∙ rw f; binds_none = refl }

  pub value_open : {d : ℕ} → t ≡ true → d ≡ the_integer type.NodeId s → CrossedValue s c (Some (record { node = d; bound = None }))
  value_open f d = record { leads = λ count β b e. value_leads count β b e ∙ rw (f, ← d); binds_none = refl }

-- where nothing was bound, nothing is taken back
pub kept_back : (r : Answer Crossing) → new_tag r ≡ None → (β : Bindings) → taken_back r β ≡ β
kept_back None e β = refl
kept_back (Some x) e β = ap (λ o. tag_back o β) e

-- a ValueEdge that is crossed alike under all bindings, and after which they are as before: under those that the slots hold
pub value_led : (s : List ℕ) {count : ℕ} {packet key c : List ℕ} {slots : List (Answer Span)} {at : ℕ} {r : Answer Crossing}
    → Ready count packet key at c slots
    → ((n : ℕ) (β : Bindings) (b : Binding) → b.component.content ≡ component_of c → leads_to n β b (edge_of Value s) ≡ reached r β)
    → ((β : Bindings) → taken_back r β ≡ β)
    → LeadsBack count packet key (edge_of Value s) (binding_at packet key at (length c)) slots r slots
unfolding binding_at
value_led s {count} {packet} {key} {c} {slots} {at} ready leads kept =
    record {
      leads = leads count (bindings_of packet key slots) (binding_at packet key at (length c)) ready.stands.content;
      back = kept (bindings_of packet key slots);
    }

-- and so crossed, as `cross` promises it
pub value_crossed : {count : ℕ} {packet key s c : List ℕ} {slots : List (Answer Span)} {at : ℕ} {r : Answer Crossing} → Ready count packet key at c slots
    → CrossedValue s c r
    → Crossed count packet key (edge_of Value s) (binding_at packet key at (length c)) slots r slots
value_crossed {s = s} {r = r} ready value =
    let led = value_led s ready value.leads (kept_back r value.binds_none) in
    record { leads = led.leads; back = led.back; low = λ t e. clash (let g = sym value.binds_none ∙ e in cc) }

-- ---- a PatternEdge

none_read : {o : Answer Span} → read_some o ≡ false → o ≡ None
none_read {o = None} e = refl
none_read {o = Some s} e = clash (cc)

some_read : {o : Answer Span} → read_some o ≡ true → (s : Span) × (o ≡ Some s)
some_read {o = None} e = clash (cc)
some_read {o = Some s} e = (s, refl)

-- nothing stands behind the fields, so that there are no Constraints
pub none_to_hold : {packet key s c : List ℕ} {slots : List (Answer Span)} {rest : ℕ} {o : Answer Span} → true ≡ same_as packet key o c → rest ≡ length s
    → Passed packet key s rest o c slots true
none_to_hold {packet} {key} {s} {c} {slots} {rest} {o} e l =
    let none : length (drop rest s) ≡ 0 = omega (arith, length-drop rest s) in
    record { is = rw (← e) (sym (all_empty (bindings_of packet key slots) (component_of c) (drop rest s) none)) }

module _ {count : ℕ} {packet key s c : List ℕ} {slots : List (Answer Span)} {at : ℕ} {f : PatternFields}
    (ready : Ready count packet key at c slots) (F : FieldsOf s f) {o : Answer Span} (read : o ≡ named_slot count f.tag slots)
    {t : Bool} (P : Passed packet key s f.rest o c slots t) where
  abbrev β : Bindings
  β = bindings_of packet key slots

  abbrev b : Binding
  b = binding_at packet key at (length c)

  -- the edge, crossed with this answer and these slots after it
  abbrev Answered : Answer Crossing → List (Answer Span) → Type 0
  Answered r after = Crossed count packet key (edge_of Pattern s) b slots r after

  -- the Tag is unbound, or bound to what was read
  tag_read : ((o ≡ None) × (bound β f.tag ≡ none)) ⊎ ((x : Span) × (o ≡ Some x) × (bound β f.tag ≡ some (binding_at packet key x.start x.size)))
  unfolding named_slot
  tag_read = go (leb f.tag count) refl
    where
      named : o ≡ slot_at slots f.tag → (r : Answer Span) → slot_at slots f.tag ≡ r
          → ((o ≡ None) × (bound β f.tag ≡ none)) ⊎ ((x : Span) × (o ≡ Some x) × (bound β f.tag ≡ some (binding_at packet key x.start x.size)))
      named q None e = inl (q ∙ e, unbound packet key slots f.tag refl e)
      named q (Some x) e = inr (x, q ∙ e, is_bound packet key slots f.tag refl e)

      go : (u : Bool) → leb f.tag count ≡ u
          → ((o ≡ None) × (bound β f.tag ≡ none)) ⊎ ((x : Span) × (o ≡ Some x) × (bound β f.tag ≡ some (binding_at packet key x.start x.size)))
      go true e = named (read ∙ rw e refl) (slot_at slots f.tag) refl
      go false e = inl (read ∙ rw e refl, ready.only_named.temporary f.tag (leb-false f.tag count e))

  -- the part that was tested has all Constraints of the edge
  all_held : all (constraint_holds β (component_of c)) (pattern_edge_of (drop f.rest s)).constraints
      ≡ all (constraint_holds β (component_of c)) (pattern_edge_of s).constraints
  unfolding pattern_edge_of
  all_held = ap (λ l. all (constraint_holds β (component_of c)) (map constraint_of l)) F.constraints

  crosses_is : crosses β (component_of c) (pattern_edge_of s) ≡ t
  unfolding crosses pattern_edge_of bound_to binding_at
  crosses_is =
      let held = P.is ∙ ap (λ u. same_as packet key o c && u) all_held in
      ⊎_elim (λ (z, w). rw (← F.tag_is, w) (sym (rw z at held))) (λ (x, z, w). rw (← F.tag_is, w) (sym (rw z at held))) tag_read

  -- whether the edge is crossed, and where it leads then
  pattern_leads : leads_to count β b (edge_of Pattern s) ≡ cond t (some (record { node = f.dest; bindings = bind_tag count β f.tag b })) none
  unfolding leads_to edge_of bindings_after pattern_edge_of destination binding_at
  pattern_leads = rw (ready.stands.content, crosses_is, F.destination, F.tag_is) (led t (the_integer type.NodeId s) _)

  pub pattern_shut : t ≡ false → Answered None slots
  pattern_shut e = record { leads = pattern_leads ∙ rw e refl; back = refl; low = λ t i. clash (cc) }

  -- its Tag is not bound anew
  pattern_kept : t ≡ true → bind_tag count β f.tag b ≡ β → Answered (Some (record { node = f.dest; bound = None })) slots
  pattern_kept e same-bindings = record { leads = pattern_leads ∙ rw (e, same-bindings) refl; back = refl; low = λ t i. clash (cc) }

  -- a bound Tag keeps its first place
  pub bound_kept : t ≡ true → {u : Bool} → u ≡ read_some o → u ≡ true → Answered (Some (record { node = f.dest; bound = None })) slots
  bound_kept e u-is u =
      let (x, z) = some_read (sym u-is ∙ u) in
      pattern_kept e (⊎_elim (λ (q, w). clash (let g = sym q ∙ z in cc)) (λ (y, q, w). bound_stays count β f.tag b w) tag_read)

  pub temporary_kept : t ≡ true → count < f.tag → Answered (Some (record { node = f.dest; bound = None })) slots
  temporary_kept e h = pattern_kept e (temporary_stays count β f.tag b h)

  -- an unbound one is bound: where the edge leads then, and that unbinding it gives what was before, be it a Tag that has a binding or not
  module _ (e : t ≡ true) {u : Bool} (u-is : u ≡ read_some o) (u-false : u ≡ false) (named : f.tag ≤ count) {after : List (Answer Span)}
      (after_is : after ≡ bound_slots f.tag (record { start = at; size = length c }) slots) where
    free : bound β f.tag ≡ none
    free = let z = none_read (sym u-is ∙ u-false) in ⊎_elim (λ (q, w). w) (λ (y, q, w). clash (let g = sym z ∙ q in cc)) tag_read

    abbrev x : Span
    x = record { start = at; size = length c }

    now : bindings_of packet key after ≡ bind_tag count β f.tag b
    now = ap (bindings_of packet key) after_is ∙ bound_bindings packet key slots count f.tag x named free

    pub free_led : LeadsBack count packet key (edge_of Pattern s) b slots (Some (record { node = f.dest; bound = Some f.tag })) after
    free_led =
        record {
          leads = pattern_leads ∙ rw (e, now) refl;
          back = ap (λ l. without f.tag (bindings_of packet key l)) after_is ∙ bound_back packet key slots count f.tag x named free;
        }

  -- what is answered is the Tag, if it has a binding
  module _ (all : length slots ≡ max_tag) (e : t ≡ true) {u : Bool} (u-is : u ≡ read_some o) (u-false : u ≡ false) (named : f.tag ≤ count)
      {after : List (Answer Span)} (after_is : after ≡ bound_slots f.tag (record { start = at; size = length c }) slots) where
    pub free_bound : (r : Answer ℕ) → r ≡ bound_tag f.tag → Answered (Some (record { node = f.dest; bound = r })) after
    free_bound None r-is =
        record {
          leads = (free_led e u-is u-false named after_is).leads;
          back = ap (bindings_of packet key) (after_is ∙ tag_unbound f.tag (record { start = at; size = length c }) all (sym r-is));
          low = λ t i. clash (cc);
        }
    free_bound (Some y) r-is =
        let same-tag = (tag_bound f.tag (sym r-is)).0 in
        record {
          leads = (free_led e u-is u-false named after_is).leads;
          back = rw same-tag (free_led e u-is u-false named after_is).back;
          low = λ i q. (tag_bound f.tag (sym r-is ∙ q)).1;
        }

-- ---- any edge

-- only named Tags are bound after it
pub crossed_named : {count : ℕ} {packet key : List ℕ} {before after : List (Answer Span)} {e : Edge} {b : Binding} (r : Answer Crossing)
    → OnlyNamed count (bindings_of packet key before) → LeadsBack count packet key e b before r after → OnlyNamed count (bindings_of packet key after)
unfolding leads_to
crossed_named {count} None named crossed = subst (OnlyNamed count) (sym crossed.back) named
crossed_named {count} {packet} {key} {before} {after} {e} {b} (Some x) named crossed =
    let (s, a, k) = bind_from (bindings_after count (bindings_of packet key before) b e) _ crossed.leads in
    let same-bindings = ap (λ (y : Reached). y.bindings) (some-injective _ _ k) in
    subst (OnlyNamed count) same-bindings (named_after count (bindings_of packet key before) b e named a)

cross_leads : (m : Model) (b : Binding) (x : Match) (i : ℕ) (e : Edge)
    → cross m b x i e ≡ bind (leads_to m.pattern_count x.bindings b e) (arriving (x.path ++ (i ∷ [])))
unfolding cross leads_to
cross_leads m b x i e = go (bindings_after m.pattern_count x.bindings b e)
  where
    go : (o : Option Bindings)
        → (bind {B = Match} o λ s. some (record { node = destination e; bindings = s; path = x.path ++ (i ∷ []) })) ≡
        bind (bind {B = Reached} o λ s. some (record { node = destination e; bindings = s })) (arriving (x.path ++ (i ∷ [])))
    go none = refl
    go (some s) = refl

-- the step of a walk that a crossing is, from x with the edge of ordinal i
pub crossed_step : {count : ℕ} {packet key : List ℕ} {before after : List (Answer Span)} {e : Edge} {b : Binding} {r : Answer Crossing}
    (m : Model) (x : Match) (i : ℕ)
    → count ≡ m.pattern_count → bindings_of packet key before ≡ x.bindings → LeadsBack count packet key e b before r after
    → cross m b x i e ≡ bind (reached r (bindings_of packet key after)) (arriving (x.path ++ (i ∷ [])))
crossed_step {e = e} {b = b} m x i count-is before_is crossed =
    cross_leads m b x i e ∙ ap (λ o. bind o (arriving (x.path ++ (i ∷ [])))) (rw (count-is, before_is) at crossed.leads)
