-- `bare` takes the optional elements out of every gap at every depth, and nothing else. The last four theorems are of any model that is not refused
-- with 1 to 3; the first and the last of them determine `bare`. Assumes nothing.
use Prim.Native.Nat.{ℕ, zero, suc, ◌≤◌, ◌<◌, ◌^◌}
use mathlib.Core.Path.{◌≡◌, refl, sym, ap, ◌∙◌, subst}
use mathlib.Core.Bool.{true, false≢true}
use mathlib.Core.List.{List, ◌∷◌, ◌++◌, Memᴰ}
use mathlib.Core.Option.{some, some-injective}
use native.Mathlib.Omega.{arith}
use lib.ListN.{length}
use Rattle.tlv.specs.Bytes.{Bytes}
use Rattle.tlv.specs.Element.{Element, type_in_range, split, encode, Each}
use Rattle.tlv.proofs.RoundTrip.{cuts_encoded, split_nexts, nexts_split}
use Rattle.tlv.proofs.Sizes.{split_types, all_in_range}
use Rattle.lvs_spec.specs.Limits.{max_model_bytes}
use Rattle.lvs_spec.specs.Grammar.{Kind, Leaf, Item, meaning, order, model, leaf, container, optional, known}
use Rattle.lvs_spec.specs.WellFormed.{inside_ok, well_formed_by, well_formed}
use Rattle.lvs_spec.specs.Model.{Model}
use Rattle.lvs_spec.specs.Verdict.{describes, reading}
use Rattle.lvs_spec.specs.Gaps.{holding, bare_by, bare, Inserted, here, deeper, Holds, among, within, NoOptional}
use Rattle.lvs_spec.proofs.Lists.{clash, each_append}
use Rattle.lvs_spec.proofs.Grammar.{known_in_range, Ordered, stop, skip, take, ordered_split, ordered_past, entered}
use Rattle.lvs_spec.proofs.Bare.{Good, Small, bares, bare_optional, bare_leaf, bare_container, bare_is, held, bare_cuts}
use Rattle.lvs_spec.proofs.Critical.{TypeOk, each_insert, each_replace, inside_shorter}
use Rattle.lvs_spec.proofs.Reading.{passed}
use Rattle.lvs_spec.proofs.Demand3.{good}

each_at : (P : Element → Type 0) {x : Element} {es : List Element} → Each P es → Memᴰ x es → P x
each_at P h (Memᴰ.head e) = subst P (sym e) h.0
each_at P h (Memᴰ.tail i) = each_at P h.1 i

-- ---- nothing optional is left

-- what is left of an element: a leaf itself, a container with the bare form of its inside
data Left (n : ℕ) : Element → Type 0 where
  of_leaf : {e : Element} (l : Leaf) → meaning e.type ≡ known (leaf l) → Left n e
  of_container : (e : Element) (j : Kind) → meaning e.type ≡ known (container j) → Good n j e.inside → Left n (holding e (bare_by n e.inside))

left : (n : ℕ) {k : Kind} {items : List Item} {es : List Element} → Ordered (well_formed_by n) k items es → Each Small es → Each (Left n) (bares n es)
unfolding inside_ok
left n (stop t) s = tt
left n (skip {e = e} q o) s = rw (bare_optional (bare_by n) e q) (left n o s.1)
left n (take {e = e} (leaf l) q p i o) s = rw (bare_leaf (bare_by n) e l q) (of_leaf l q, left n o s.1)
left n (take {e = e} (container j) q p i o) s =
    rw (bare_container (bare_by n) e j q) (of_container e j q (record { bytes = s.0.0; fits = s.0.1; formed = i }), left n o s.1)

module _ (n : ℕ) (inner : (k : Kind) (b : List ℕ) → Good n k b → NoOptional (bare_by n b)) where
  left_known : {e : Element} → Left n e → ¬ (meaning e.type ≡ optional)
  left_known (of_leaf l q) o = clash (cc)
  left_known (of_container e j q g) o = clash (cc)

  left_inner : {e x : Element} (j : Kind) → Left n e → meaning e.type ≡ known (container j) → Holds x e.inside
      → ¬ (meaning x.type ≡ optional)
  left_inner j (of_leaf l q) c h o = clash (cc)
  left_inner {x = x} j (of_container e i q g) c h o = inner i e.inside g x h o

  left_holds : {b : List ℕ} {x : Element} → ((es : List Element) → split b ≡ some es → Each (Left n) es) → Holds x b
      → ¬ (meaning x.type ≡ optional)
  left_holds rows (among {es = es} p i) = left_known (each_at (Left n) (rows es p) i)
  left_holds rows (within {es = es} e j p i c h) = left_inner j (each_at (Left n) (rows es p) i) c h

none_left : (n : ℕ) (k : Kind) (b : List ℕ) → Good n k b → NoOptional (bare_by n b)
unfolding well_formed_by
none_left zero k b g = absurd (false≢true g.formed)
none_left (suc n) k b g = λ x h.
    let d = held g in
    let bs : List Element = bares n d.elements in
    left_holds n (none_left n)
    (λ es p. subst (Each (Left n)) (some-injective bs es (sym (split_nexts _ bs (bare_cuts g)) ∙ p)) (left n d.ordered d.smalls)) h

-- ---- nothing else goes

-- neither the element nor any in it is optional
record Clean (e : Element) : Type 0 where
  itself : ¬ (meaning e.type ≡ optional)
  inner : (j : Kind) → meaning e.type ≡ known (container j) → NoOptional e.inside

module _ (n : ℕ) (inner-same : (k : Kind) (b : List ℕ) → Good n k b → NoOptional b → bare_by n b ≡ b) where
  clean_same : {k : Kind} {items : List Item} {es : List Element} → Ordered (well_formed_by n) k items es → Each Small es
      → ((e : Element) → Memᴰ e es → Clean e) → bares n es ≡ es
  unfolding inside_ok
  clean_same (stop t) s c = refl
  clean_same (skip {e = e} q o) s c = absurd ((c e (Memᴰ.head refl)).itself q)
  clean_same (take {e = e} {es = es} (leaf l) q p i o) s c =
      rw (bare_leaf (bare_by n) e l q) (ap (λ (r : List Element). e ∷ r) (clean_same o s.1 (λ d m. c d (Memᴰ.tail m))))
  clean_same (take {e = e} {es = es} (container j) q p i o) s c =
      let g : Good n j e.inside = record { bytes = s.0.0; fits = s.0.1; formed = i } in
      let kept : bare_by n e.inside ≡ e.inside = inner-same j e.inside g ((c e (Memᴰ.head refl)).inner j q) in
      rw (bare_container (bare_by n) e j q, kept) (ap (λ (r : List Element). e ∷ r) (clean_same o s.1 (λ d m. c d (Memᴰ.tail m))))

same_bare : (n : ℕ) (k : Kind) (b : List ℕ) → Good n k b → NoOptional b → bare_by n b ≡ b
unfolding well_formed_by
same_bare zero k b g free = absurd (false≢true g.formed)
same_bare (suc n) k b g free =
    let d = held g in
    let s : split b ≡ some d.elements = split_nexts b _ d.cut_is in
    bare_is n b d.elements d.cut_is ∙
    ap encode
    (clean_same n (same_bare n) d.ordered d.smalls λ e m.
    record { itself = free e (among s m); inner = λ j q x h. free x (within e j s m q h) }) ∙
    d.encode_is

-- ---- bare twice

module _ (n : ℕ) (inner-twice : (k : Kind) (b : List ℕ) → Good n k b → bare_by n (bare_by n b) ≡ bare_by n b) where
  bares_twice : {k : Kind} {items : List Item} {es : List Element} → Ordered (well_formed_by n) k items es → Each Small es
      → bares n (bares n es) ≡ bares n es
  unfolding inside_ok
  bares_twice (stop t) s = refl
  bares_twice (skip {e = e} q o) s = rw (bare_optional (bare_by n) e q) (bares_twice o s.1)
  bares_twice (take {e = e} (leaf l) q p i o) s =
      rw (bare_leaf (bare_by n) e l q) (rw (bare_leaf (bare_by n) e l q) (ap (λ (r : List Element). e ∷ r) (bares_twice o s.1)))
  bares_twice (take {e = e} (container j) q p i o) s =
      let e' : Element = holding e (bare_by n e.inside) in
      let t = inner-twice j e.inside (record { bytes = s.0.0; fits = s.0.1; formed = i }) in
      rw (bare_container (bare_by n) e j q) (rw (bare_container (bare_by n) e' j q, t) (ap (λ (r : List Element). e' ∷ r) (bares_twice o s.1)))

twice : (n : ℕ) (k : Kind) (b : List ℕ) → Good n k b → bare_by n (bare_by n b) ≡ bare_by n b
unfolding well_formed_by
twice zero k b g = absurd (false≢true g.formed)
twice (suc n) k b g =
    let d = held g in
    bare_is n (bare_by (suc n) b) (bares n d.elements) (bare_cuts g) ∙ ap encode (bares_twice n (twice n) d.ordered d.smalls) ∙
    sym (bare_is n b d.elements d.cut_is)

-- ---- an optional element put in any gap goes again

module _ (x : Element) (x-optional : meaning x.type ≡ optional) (x-typed : type_in_range x.type ≡ true) where
  goes_again : (n : ℕ) (k : Kind) {b b' : List ℕ} → Inserted x b b' → length b' < 2 ^ 64 → well_formed_by n k b ≡ true
      → bare_by n b' ≡ bare_by n b
  unfolding well_formed_by
  goes_again zero k i l g = absurd (false≢true g)
  goes_again (suc n) k (here {b} before after s) l g =
      let es : List Element = before ++ x ∷ after in
      let cut = cuts_encoded es (all_in_range es (each_insert TypeOk before after x x-typed (split_types b _ s)) l) in
      bare_is n (encode es) es cut ∙
      ap encode
      (each_append _ before (x ∷ after) ∙ rw (bare_optional (bare_by n) x x-optional) (sym (each_append _ before after))) ∙
      sym (bare_is n b (before ++ after) (nexts_split b _ s))
  goes_again (suc n) k (deeper {b} {inside} before after e j s q i) l g =
      let e' : Element = holding e inside in
      let es : List Element = before ++ e' ∷ after in
      let types = each_replace TypeOk before after e e' (known_in_range e.type (container j) q) (split_types b _ s) in
      let cut = cuts_encoded es (all_in_range es types l) in
      let shorter = inside_shorter before after e' in
      let ordered = ordered_past (well_formed_by n) k before (ordered_split (well_formed_by n) k (order k) b s g) in
      let formed = (entered (well_formed_by n) k j q ordered.1).formed in
      bare_is n (encode es) es cut ∙
      ap encode
      (each_append _ before (e' ∷ after) ∙
      rw (bare_container (bare_by n) e' j q, goes_again n j i (omega arith) formed)
      (sym (each_append _ before (e ∷ after) ∙ rw (bare_container (bare_by n) e j q)))) ∙
      sym (bare_is n b (before ++ e ∷ after) (nexts_split b _ s))

-- ---- of a model

module _ (b : List ℕ) (m : Model) (bytes : Bytes b) (r : reading b ≡ describes m) where
  -- nothing optional is left in any gap of a bare model
  pub bare_no_optional : NoOptional (bare b)
  unfolding bare
  bare_no_optional = none_left 7 model b (good b bytes (passed b m r))

  -- a model without optional elements is its own bare model
  pub no_optional_bare : NoOptional b → bare b ≡ b
  unfolding bare
  no_optional_bare free = same_bare 7 model b (good b bytes (passed b m r)) free

  -- bare twice is bare once
  pub bare_bare : bare (bare b) ≡ bare b
  unfolding bare
  bare_bare = twice 7 model b (good b bytes (passed b m r))

-- an optional element more, in any gap at any depth, leaves the bare model as it is
pub inserted_bare : (b b' : List ℕ) (m : Model) (x : Element) → reading b ≡ describes m
    → meaning x.type ≡ optional → type_in_range x.type ≡ true → Inserted x b b' → length b' ≤ max_model_bytes → bare b' ≡ bare b
unfolding bare well_formed
inserted_bare b b' m x r o t i l = goes_again x o t 7 model i (omega arith) (passed b m r).formed
