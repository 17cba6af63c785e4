-- Formats and the bytes that they spell: a format made of others spells theirs one behind the other. Assumes nothing.
use mathlib.Core.Path.{◌≡◌, refl, sym, ap, ◌∙◌}
use mathlib.Core.Bool.{Bool, true}
use mathlib.Core.List.{List, [], ◌++◌, append_assoc, append-nil}
use mathlib.Core.Option.{none, some}
use Prim.Native.Nat.{ℕ, zero, suc}
use Rattle.tlv.specs.Lists.{bind, each}
use Rattle.tlv.specs.Element.{encode}
use Rattle.lvs_spec.specs.Types as type
use Rattle.lvs_spec.specs.WellFormed.{this_version}
use Rattle.lvs_description.specs.Format.{Lists, Taken, take_number, take_text, take_component, integer_bytes, Format, holds, integer, text, component}
use Rattle.lvs_description.specs.Format.{◌then◌, under, times, many, within, behind}
use Rattle.lvs_spec.specs.Model.{ValueEdge}
use Rattle.lvs_description.specs.Description.{value_edge}
use Rattle.lvs_write.specs.Spelled.{Bytes, spelled, text_from, after, wrapped, run, counted}
use Rattle.lvs_write.specs.Steps.{el, edge_bytes, version_from}
use Rattle.lvs_write.proofs.Sizes.{encode_one, encode_append}

-- two ways to read the same
abbrev pub Same : (Lists → Bytes) → (Lists → Bytes) → Type 0
Same f g = (l : Lists) → f l ≡ g l

pub after_same : {f f' g g' : Lists → Bytes} → Same f f' → Same g g' → Same (λ l. after (f l) g) (λ l. after (f' l) g')
unfolding after
after_same {f} {f'} {g} {g'} p q l = ap (λ (o : Bytes). after o g) (p l) ∙ go (f' l)
  where
    go : (o : Bytes) → after o g ≡ after o g'
    go none = refl
    go (some x) = rw (q x.1)

pub after_assoc : (o : Bytes) (g h : Lists → Bytes) → after (after o g) h ≡ after o (λ l. after (g l) h)
unfolding after
after_assoc none g h = refl
after_assoc (some x) g h = go (g x.1) refl
  where
    more : (y : List ℕ × Lists) → g x.1 ≡ some y → (z : Bytes) → h y.1 ≡ z → after (after (some x) g) h ≡ after (some x) (λ l. after (g l) h)
    more y p none q = rw (p, q)
    more y p (some z) q = rw (p, q, append_assoc x.0 y.0 z.0)

    go : (o : Bytes) → g x.1 ≡ o → after (after (some x) g) h ≡ after (some x) (λ l. after (g l) h)
    go none p = rw p
    go (some y) p = more y p (h y.1) refl

pub after_nothing : (o : Bytes) → after o (λ l. some ([], l)) ≡ o
unfolding after
after_nothing none = refl
after_nothing (some x) = rw (append-nil x.0)

-- ---- leaves

module _ {A : Type 0} (f : Format A) (take : Lists → Taken A) (bytes : A → List ℕ) where
  as_taken : ((l : Lists) → f.from l ≡ take l) → ((a : A) → encode (f.elements a) ≡ bytes a)
      → (l : Lists) → spelled f l ≡ bind (take l) (λ x. some (bytes x.0, x.1))
  unfolding spelled
  as_taken p q l = rw (p l) (go (take l))
    where
      go : (o : Taken A) → bind {B = List ℕ × Lists} o (λ r. some (encode (f.elements r.0), r.1)) ≡ bind o (λ x. some (bytes x.0, x.1))
      go none = refl
      go (some x) = rw (q x.0)

pub integer_spelled : (t : ℕ) (l : Lists) → spelled (integer t) l ≡ bind (take_number l) (λ x. some (el t (integer_bytes x.0), x.1))
integer_spelled t l = as_taken (integer t) take_number (λ n. el t (integer_bytes n)) (λ k. refl) (λ n. encode_one t (integer_bytes n)) l

pub text_spelled : (t : ℕ) (l : Lists) → text_from t l ≡ bind (take_text l) (λ x. some (el t x.0, x.1))
unfolding text_from
text_spelled t l = as_taken (text t (λ s. true)) take_text (λ s. el t s) (λ k. refl) (λ s. encode_one t s) l

pub component_spelled : (t : ℕ) (l : Lists)
    → spelled (component t) l ≡ bind (take_component l) (λ x. some (el t (el x.0.type x.0.inside), x.1))
component_spelled t l =
    as_taken (component t) take_component (λ e. el t (el e.type e.inside)) (λ k. refl) (λ e. encode_one t (el e.type e.inside)) l

-- two elements, one behind the other
both_encoded : (t u : ℕ) (a b : List ℕ) → encode (holds t a ++ holds u b) ≡ el t a ++ el u b
both_encoded t u a b = encode_append (holds t a) (holds u b) ∙ (λ i. encode_one t a i ++ encode_one u b i)

pub pair_spelled : (t u : ℕ) (l : Lists)
    → spelled (integer t then integer u) l
    ≡ bind ((integer t then integer u).from l) (λ x. some (el t (integer_bytes x.0.0) ++ el u (integer_bytes x.0.1), x.1))
pair_spelled t u l =
    as_taken (integer t then integer u) (integer t then integer u).from (λ p. el t (integer_bytes p.0) ++ el u (integer_bytes p.1))
    (λ k. refl) (λ p. both_encoded t u (integer_bytes p.0) (integer_bytes p.1)) l

abbrev pub value_edge_bytes : ValueEdge → List ℕ
value_edge_bytes e = el type.ValueEdge (edge_bytes e.destination e.value.type e.value.inside)

pub value_edge_spelled : (l : Lists)
    → spelled (within type.ValueEdge value_edge) l ≡ bind (value_edge.from l) (λ x. some (value_edge_bytes x.0, x.1))
value_edge_spelled l =
    as_taken (within type.ValueEdge value_edge) value_edge.from value_edge_bytes (λ k. refl)
    (λ e. encode_one type.ValueEdge _ ∙
    ap (el type.ValueEdge) (both_encoded type.NodeId type.Value (integer_bytes e.destination) (el e.value.type e.value.inside))) l

-- whatever a text is asked to be, it is written alike
pub text_any : (t : ℕ) (ok : List ℕ → Bool) → Same (text_from t) (spelled (text t ok))
unfolding text_from spelled
text_any t ok l = refl

-- ---- formats made of others

module _ {A B : Type 0} where
  pub then_spelled : (f : Format A) (g : Format B) → Same (λ l. after (spelled f l) (spelled g)) (spelled (f then g))
  unfolding spelled after
  then_spelled f g l = go (f.from l) refl
    where
      more : (r : A × Lists) → f.from l ≡ some r → (y : Taken B) → g.from r.1 ≡ y → after (spelled f l) (spelled g) ≡ spelled (f then g) l
      more r e none q = rw (e, q)
      more r e (some s) q = rw (e, q, encode_append (f.elements r.0) (g.elements s.0))

      go : (x : Taken A) → f.from l ≡ x → after (spelled f l) (spelled g) ≡ spelled (f then g) l
      go none e = rw e
      go (some r) e = more r e (g.from r.1) refl

  pub under_spelled : (there : A → B) (back : B → A) (f : Format A) → ((a : A) → back (there a) ≡ a) → Same (spelled f) (spelled (under there back f))
  unfolding spelled
  under_spelled there back f same l = go (f.from l) refl
    where
      go : (x : Taken A) → f.from l ≡ x → spelled f l ≡ spelled (under there back f) l
      go none e = rw e
      go (some r) e = rw e (λ j. some (encode (f.elements (sym (same r.0) j)), r.1))

module _ {A : Type 0} (f : Format A) where
  pub within_spelled : (t : ℕ) → Same (λ l. wrapped t (spelled f l)) (spelled (within t f))
  unfolding spelled wrapped
  within_spelled t l = go (f.from l) refl
    where
      go : (x : Taken A) → f.from l ≡ x → wrapped t (spelled f l) ≡ spelled (within t f) l
      go none e = rw e
      go (some r) e = rw (e, encode_one t (encode (f.elements r.0)))

  pub behind_spelled : Same (λ l. after (version_from l) (spelled f)) (spelled (behind (holds type.Version this_version) f))
  unfolding spelled after version_from
  behind_spelled l = go (f.from l) refl
    where
      go : (x : Taken A) → f.from l ≡ x → after (version_from l) (spelled f) ≡ spelled (behind (holds type.Version this_version) f) l
      go none e = rw e
      go (some r) e = rw (e, encode_append (holds type.Version this_version) (f.elements r.0))

  -- ---- many

  times_bytes : ℕ → Lists → Bytes
  times_bytes n l = bind (times f.from n l) (λ r. some (encode (each f.elements r.0), r.1))

  one_more : (n : ℕ) (l : Lists) → after (spelled f l) (times_bytes n) ≡ times_bytes (suc n) l
  unfolding times_bytes spelled after
  one_more n l = go (f.from l) refl
    where
      more : (r : A × Lists) → f.from l ≡ some r → (y : Taken (List A)) → times f.from n r.1 ≡ y
          → after (spelled f l) (times_bytes n) ≡ times_bytes (suc n) l
      more r e none q = rw (e, q)
      more r e (some s) q = rw (e, q, encode_append (f.elements r.0) (each f.elements s.0))

      go : (x : Taken A) → f.from l ≡ x → after (spelled f l) (times_bytes n) ≡ times_bytes (suc n) l
      go none e = rw e
      go (some r) e = more r e (times f.from n r.1) refl

  run_times : (n : ℕ) → Same (run (spelled f) n) (times_bytes n)
  unfolding run times_bytes encode
  run_times zero l = refl
  run_times (suc n) l = after_same {f = spelled f} {f' = spelled f} (λ k. refl) (run_times n) l ∙ one_more n l

  pub many_spelled : Same (counted (spelled f)) (spelled (many f))
  unfolding counted spelled times_bytes
  many_spelled l = go (take_number l) refl
    where
      go : (x : Taken ℕ) → take_number l ≡ x → counted (spelled f) l ≡ spelled (many f) l
      go none e = rw e
      go (some r) e = rw e (run_times r.0 r.1)

pub run_same : {f g : Lists → Bytes} → Same f g → (n : ℕ) → Same (run f n) (run g n)
unfolding run
run_same p zero l = refl
run_same p (suc n) l = after_same p (run_same p n) l

pub counted_same : {f g : Lists → Bytes} → Same f g → Same (counted f) (counted g)
unfolding counted
counted_same {f} {g} p l = go (take_number l)
  where
    go : (x : Taken ℕ) → bind x (λ r. run f r.0 r.1) ≡ bind x (λ r. run g r.0 r.1)
    go none = refl
    go (some r) = run_same p r.0 r.1

-- many of a format that is spelled as f
pub many_of : {A : Type 0} {f : Lists → Bytes} (g : Format A) → Same f (spelled g) → Same (counted f) (spelled (many g))
many_of g p l = counted_same p l ∙ many_spelled g l
