-- Elements whose size is known from a few numbers: their sizes, their places, and what was taken off the lists for them; and the inside of any
-- element, written into a part that was lent. Assumes nothing.
use mathlib.Core.Path.{◌≡◌, refl, sym, ap, subst, ◌∙◌}
use mathlib.Core.Bool.{Bool, true, false, cond}
use mathlib.Core.List.{List, [], ◌∷◌, ◌++◌}
use mathlib.Core.Option.{none, some}
use Prim.Native.Nat.{ℕ, ◌+◌, ◌-◌, ◌^◌, ◌≤◌, ◌<◌}
use native.Mathlib.Omega.{arith}
use borrow.Author.Tests.{le-leb, lt-leb, leb-true, leb-false, ltb-true}
use borrow.Rule.Slice.PartMut.{put_mid}
use lib.Dec.{leb, ltb, lit≤}
use lib.ListN.{length, take, drop, length-append, length-drop}
use lib.Seq.{length-take-le}
use Rattle.std.specs.Borrow.{Bor}
use Rattle.tlv.specs.Element.{Element}
use Rattle.tlv.specs.Lists.{bind}
use Rattle.tlv.specs.Bytes.{big_endian_bytes}
use Rattle.tlv.specs.Number.{number_bytes, integer_size}
use Rattle.tlv.proofs.Bytes.{length-spelled}
use Rattle.tlv_writer.proofs.Numbers.{number_most}
use Rattle.tlv_writer.specs.Stored.{Stored, Digits}
use Rattle.tlv_writer.proofs.Stores.{stored_both, stored_length, stored_inside}
use Rattle.lvs_description.specs.Format.{Lists, Taken, head_of, take_number, bytes_of, take_text, take_component, integer_width, integer_bytes}
use Rattle.lvs_description.specs.Description.{value_edge}
use Rattle.lvs_spec.specs.Types as type
use Rattle.lvs_write.specs.declared.cursor.Cursor.{Cursor}
use Rattle.lvs_write.specs.Steps.{el, edge_bytes, element_size, header_bytes, Took, Missing, Puts}
use Rattle.lvs_write.proofs.Sizes.{header_then, header_length, element_length, element_room}

-- ---- sizes

pub size_of : (t n : ℕ) {a b : ℕ} → a ≡ length (number_bytes t) → b ≡ length (number_bytes n) → a + (b + n) ≡ element_size t n
unfolding element_size
size_of t n p q = omega arith

module _ (n : ℕ) where
  -- what holds of each of the four widths holds of the shortest
  by_width : (P : ℕ → Type 0) → (n < 256 → P 1) → (n < 65536 → P 2) → (n < 4294967296 → P 4) → P 8 → P (integer_width n)
  unfolding integer_width
  by_width P a b c d = go (ltb n 256) (ltb n 65536) (ltb n 4294967296) refl refl refl
    where
      go : (x y z : Bool) → ltb n 256 ≡ x → ltb n 65536 ≡ y → ltb n 4294967296 ≡ z → P (cond x 1 (cond y 2 (cond z 4 8)))
      go true y z p q r = a (ltb-true _ _ p)
      go false true z p q r = b (ltb-true _ _ q)
      go false false true p q r = c (ltb-true _ _ r)
      go false false false p q r = d

  pub width_most : {w : ℕ} → w ≡ integer_width n → w ≤ 8
  width_most e = rw e (by_width (λ w. w ≤ 8) (λ h. lit≤ tt) (λ h. lit≤ tt) (λ h. lit≤ tt) (lit≤ tt))

  -- an integer's digits have their place behind the header
  pub width_digits : {w at room : ℕ} → w ≡ integer_width n → n < 2 ^ 64 → at + w ≤ room → Digits at w n room
  width_digits {w} e small fits =
      record {
        size = rw e (by_width (λ k. integer_size k ≡ true) (λ h. refl) (λ h. refl) (λ h. refl) refl);
        fits = fits;
        small = rw e (by_width (λ k. n < 256 ^ k) (λ h. h) (λ h. h) (λ h. h) small);
      }

  pub integer_size_lem : {w : ℕ} → w ≡ integer_width n → w ≡ length (integer_bytes n)
  unfolding integer_bytes
  integer_size_lem e = e ∙ sym (length-spelled (integer_width n) n)

  pub integer_stored : {w at : ℕ} {b₀ b₁ : List ℕ} → w ≡ integer_width n → Stored b₀ b₁ at (big_endian_bytes w n) → Stored b₀ b₁ at (integer_bytes n)
  unfolding integer_bytes
  integer_stored {w} {at} {b₀} {b₁} e P = subst (λ (k : ℕ). Stored b₀ b₁ at (big_endian_bytes k n)) e P

-- an integer as an element
pub integer_length : (t n : ℕ) {w size : ℕ} → w ≡ integer_width n → size ≡ element_size t w → (size ≡ length (el t (integer_bytes n))) × (size ≤ 26)
unfolding element_size
integer_length t n {w} {size} e size_is =
    let long : size ≡ length (el t (integer_bytes n)) = size_is ∙ ap (element_size t) (integer_size_lem n e) ∙ sym (element_length t (integer_bytes n)) in
    (long, omega (arith, size_is, number_most t, number_most w, width_most n e))

-- ---- a place and what is put there

pub has_all : (at size len : ℕ) {r : Bool} → r ≡ leb (at + size) len → r ≡ true → at + size ≤ len
has_all at size len e f = leb-true _ _ (sym e ∙ f)

-- there is no room
pub put_none : (at : ℕ) (bs : List ℕ) {b : List ℕ} {size : ℕ} {r : Bool} → size ≡ length bs → r ≡ leb (at + size) (length b) → r ≡ false
    → Puts b b at bs size
put_none at bs {b} {size} long e f =
    let far : length b < at + size = leb-false _ _ (sym e ∙ f) in
    record { size_is = long; put = λ room. absurd (omega arith) }

-- ---- an element in its place

module _ (t at n : ℕ) {size : ℕ} (size_is : size ≡ element_size t n) where
  pub header_fits : (len : ℕ) {r : Bool} → r ≡ leb (at + size) len → r ≡ true → at + length (header_bytes t n) ≤ len
  header_fits len e f = let h : at + size ≤ len = leb-true _ _ (sym e ∙ f) in omega (arith, element_room t n)

  pub inside_fits : {b b₁ : List ℕ} {r : Bool} {start : ℕ} → r ≡ leb (at + size) (length b) → r ≡ true
      → (start ≡ at + length (header_bytes t n)) × Stored b b₁ at (header_bytes t n) → start + n ≤ length b₁
  inside_fits {b} e f H =
      let h : at + size ≤ length b = leb-true _ _ (sym e ∙ f) in
      omega (arith, element_room t n, H.0, stored_length H.1)

  pub puts_all : {b b₁ b₂ i : List ℕ} {start : ℕ} → n ≡ length i → (start ≡ at + length (header_bytes t n)) × Stored b b₁ at (header_bytes t n)
      → Stored b₁ b₂ start i → Puts b b₂ at (el t i) size
  puts_all {b} {b₁} {b₂} {i} n-is H P =
      let head : header_bytes t n ++ i ≡ el t i = ap (λ (j : ℕ). header_bytes t j ++ i) n-is ∙ header_then t i in
      record {
        size_is = size_is ∙ ap (element_size t) n-is ∙ sym (element_length t i);
        put = λ room. subst (Stored b b₂ at) head (stored_both H.1 P (sym H.0));
      }

  -- the inside was written into its place behind the header, a part that was lent
  pub puts_lent : {b b₁ y i : List ℕ} {start end : ℕ} → n ≡ length i → (start ≡ at + length (header_bytes t n)) × Stored b b₁ at (header_bytes t n)
      → end ≡ start + n → end ≤ length b₁ → Stored (take (end - start) (drop start b₁)) y 0 i → Puts b (put_mid start (end - start) b₁ y) at (el t i) size
  puts_lent {b} {b₁} {y} {i} {start} {end} n-is H end_is fits P =
      puts_all n-is H (stored_inside b₁ start (end - start) (omega arith) (omega arith) P)

  pub puts_none : {b : List ℕ} (i : List ℕ) {r : Bool} → n ≡ length i → r ≡ leb (at + size) (length b) → r ≡ false → Puts b b at (el t i) size
  puts_none i n-is e f = put_none at (el t i) (size_is ∙ ap (element_size t) n-is ∙ sym (element_length t i)) e f

-- the part of a list that is lent has just the room
pub lent_room : (start n : ℕ) (b : List ℕ) {k : ℕ} → n ≡ k → start + n ≤ length b → k ≡ length (take (start + n - start) (drop start b))
lent_room start n b e h =
    let same : start + n - start ≡ n = omega arith in
    sym e ∙ sym (length-take-le n (drop start b) (simp length-drop (omega arith))) ∙ ap (λ (j : ℕ). length (take j (drop start b))) (sym same)

pub header_both : (t n at : ℕ) {b₀ b₁ b₂ : List ℕ} {middle r : ℕ} → (middle ≡ at + length (number_bytes t)) × Stored b₀ b₁ at (number_bytes t)
    → (r ≡ middle + length (number_bytes n)) × Stored b₁ b₂ middle (number_bytes n) → (r ≡ at + length (header_bytes t n)) × Stored b₀ b₂ at (header_bytes t n)
unfolding header_bytes
header_both t n at P Q = (omega (arith, P.0, Q.0, header_length t n), stored_both P.1 Q.1 (sym P.0))

-- ---- a component, in an element

pub component_size : (c : ℕ) (src : List ℕ) {n : ℕ} → n ≡ element_size c (length src) → n ≡ length (el c src)
component_size c src e = e ∙ sym (element_length c src)

pub component_small : (c : ℕ) (src : List ℕ) {n : ℕ} → n ≡ element_size c (length src) → length src < 2 ^ 63 → n + 18 < 2 ^ 64
unfolding element_size
component_small c src e h = omega (arith, number_most c, number_most (length src))

pub component_stored : (t c at n : ℕ) (src : List ℕ) {size : ℕ} {b₁ b₂ : List ℕ} {start k : ℕ} {r : Bool} → n ≡ element_size c (length src)
    → size ≡ element_size t n → {b : List ℕ} → r ≡ leb (at + size) (length b) → r ≡ true
    → (start ≡ at + length (header_bytes t n)) × Stored b b₁ at (header_bytes t n)
    → Puts b₁ b₂ start (el c src) k → Puts b b₂ at (el t (el c src)) size
component_stored t c at n src {size} {b₁} {b₂} {start} n-is size_is e f H P =
    let fits = inside_fits t at n size_is e f H in
    let long = component_size c src n-is in
    puts_all t at n size_is long H (P.put (omega (arith, P.size_is)))

-- ---- one behind the other

module _ (at : ℕ) (xs ys : List ℕ) {first second : ℕ} (first_is : first ≡ length xs) (second_is : second ≡ length ys) where
  pub both_size : first + second ≡ length (xs ++ ys)
  both_size = omega (arith, length-append xs ys)

  pub both_stored : {b b₁ b₂ : List ℕ} {i j : ℕ} → at + (first + second) ≤ length b → Puts b b₁ at xs i → Puts b₁ b₂ (at + first) ys j
      → Stored b b₂ at (xs ++ ys)
  both_stored {b} {b₁} {b₂} room P Q =
      let front = P.put (omega (arith, P.size_is)) in
      stored_both front (Q.put (omega (arith, Q.size_is, stored_length front))) (ap (λ (k : ℕ). at + k) (sym first_is))

-- two integers
module _ (at a x b y : ℕ) {first second : ℕ} (first_is : first ≡ length (el a (integer_bytes x))) (second_is : second ≡ length (el b (integer_bytes y))) where
  pub pair_put : {b₀ b₁ b₂ : List ℕ} {i j : ℕ} → Puts b₀ b₁ at (el a (integer_bytes x)) i → Puts b₁ b₂ (at + first) (el b (integer_bytes y)) j
      → Puts b₀ b₂ at (el a (integer_bytes x) ++ el b (integer_bytes y)) (first + second)
  pair_put P Q =
      record {
        size_is = both_size at (el a (integer_bytes x)) (el b (integer_bytes y)) first_is second_is;
        put = λ room. both_stored at (el a (integer_bytes x)) (el b (integer_bytes y)) first_is second_is room P Q;
      }

  pub pair_none : {b₀ : List ℕ} {r : Bool} → r ≡ leb (at + (first + second)) (length b₀) → r ≡ false
      → Puts b₀ b₀ at (el a (integer_bytes x) ++ el b (integer_bytes y)) (first + second)
  pair_none = put_none at _ (both_size at (el a (integer_bytes x)) (el b (integer_bytes y)) first_is second_is)

-- a ValueEdge: its destination, and its component in a Value
module _ (to c : ℕ) (src : List ℕ) where
  abbrev destination : List ℕ
  destination = el type.NodeId (integer_bytes to)

  abbrev value : List ℕ
  value = el type.Value (el c src)

  pub edge_stored : {b b₁ b₂ : List ℕ} {i j : ℕ} → length (edge_bytes to c src) ≡ length b → Puts b b₁ 0 destination i → Puts b₁ b₂ i value j
      → Stored b b₂ 0 (edge_bytes to c src)
  edge_stored {b} {b₁} {b₂} {i} {j} long P Q =
      let first : 0 + i ≡ i = omega arith in
      both_stored 0 destination value P.size_is Q.size_is (omega (arith, P.size_is, Q.size_is, length-append destination value)) P
      (subst (λ (k : ℕ). Puts b₁ b₂ k value j) (sym first) Q)

  module _ {first m second : ℕ} (first_is : (first ≡ length destination) × (first ≤ 26)) (m-is : m ≡ element_size c (length src))
      (second_is : second ≡ element_size type.Value m) where
    pub edge_length : first + second ≡ length (edge_bytes to c src)
    edge_length =
        both_size 0 destination value first_is.0
        (second_is ∙ ap (element_size type.Value) (component_size c src m-is) ∙ sym (element_length type.Value (el c src)))

    pub edge_small : length src < 2 ^ 63 → first + second + 18 < 2 ^ 64
    unfolding element_size
    edge_small h =
        omega (arith, m-is, second_is, first_is.1, number_most c, number_most (length src), number_most type.Value, number_most m)

-- ---- numbers and texts, taken

pub number_there : (s : Cursor) {n : ℕ} {rest : Bor (List ℕ)} → s.numbers.now ≡ n ∷ rest.now
    → Took take_number s n (record { numbers = rest; texts = s.texts; at = s.at })
number_there s e = record { is = rw e; place = refl }

pub number_missing : (s : Cursor) → length s.numbers.now ≡ 0 → Missing take_number s
number_missing s e = record { is = go s.numbers.now e }
  where
    go : (ns : List ℕ) → length ns ≡ 0 → head_of ns s.texts.now ≡ none
    go [] e = refl
    go (n ∷ ns) e = absurd (omega arith)

module _ {s m : Cursor} {n : ℕ} (T : Took take_number s n m) where
  pub text_there : (text rest : Bor (List ℕ)) → n ≤ length m.texts.now → text.now ≡ take n m.texts.now → rest.now ≡ drop n m.texts.now
      → Took take_text s text.now (record { numbers = m.numbers; texts = rest; at = m.at })
  unfolding take_text bytes_of
  text_there text rest h p q = record { is = rw (T.is, le-leb n (length m.texts.now) h, p, q); place = T.place }

  pub text_short : length m.texts.now < n → Missing take_text s
  unfolding take_text bytes_of
  text_short h = record { is = rw (T.is, lt-leb n (length m.texts.now) h) }

pub text_missing : {s : Cursor} → Missing take_number s → Missing take_text s
unfolding take_text
text_missing e = record { is = rw e.is }

-- ---- what a leaf takes: one and then another

-- what is taken then may depend on what was taken first
pub took_chosen : {A B : Type 0} {f : Lists → Taken A} (h : A → Lists → Taken B) {s m r : Cursor} {a : A} {b : B} → Took f s a m → Took (h a) m b r
    → Took (λ l. bind (f l) (λ x. h x.0 x.1)) s b r
took_chosen h T U = record { is = rw (T.is, U.is); place = U.place ∙ T.place }

-- and may be read as something else
pub took_map : {A B : Type 0} {f : Lists → Taken A} (g : A → B) {s r : Cursor} {a : A} → Took f s a r
    → Took (λ l. bind (f l) (λ x. some (g x.0, x.1))) s (g a) r
took_map g T = record { is = rw T.is; place = T.place }

module _ {A B : Type 0} (f : Lists → Taken A) (g : Lists → Taken B) where
  abbrev pub both : Lists → Taken (A × B)
  both l = bind (f l) (λ x. bind (g x.1) (λ y. some ((x.0, y.0), y.1)))

  pub both_taken : {s m r : Cursor} {a : A} {b : B} → Took f s a m → Took g m b r → Took both s (a, b) r
  both_taken T U = record { is = rw (T.is, U.is); place = U.place ∙ T.place }

  pub first_missing : {s : Cursor} → Missing f s → Missing both s
  first_missing e = record { is = rw e.is }

  pub second_missing : {s m : Cursor} {a : A} → Took f s a m → Missing g m → Missing both s
  second_missing T e = record { is = rw (T.is, e.is) }

-- a component's type, and its bytes
pub component_taken : {s m r : Cursor} {v : ℕ} {bs : List ℕ} → Took take_number s v m → Took take_text m bs r
    → Took take_component s (record { type = v; inside = bs }) r
component_taken T U = record { is = rw (T.is, U.is); place = U.place ∙ T.place }

pub component_untyped : {s : Cursor} → Missing take_number s → Missing take_component s
component_untyped e = record { is = rw e.is }

pub component_short : {s m : Cursor} {v : ℕ} → Took take_number s v m → Missing take_text m → Missing take_component s
component_short T e = record { is = rw (T.is, e.is) }

-- a ValueEdge's destination, and its component
pub value_edge_taken : {s m r : Cursor} {to : ℕ} {e : Element} → Took take_number s to m → Took take_component m e r
    → Took value_edge.from s (record { destination = to; value = e }) r
value_edge_taken T U = record { is = rw (T.is, U.is); place = U.place ∙ T.place }

pub edge_nowhere : {s : Cursor} → Missing take_number s → Missing value_edge.from s
edge_nowhere e = record { is = rw e.is }

pub edge_bare : {s m : Cursor} {to : ℕ} → Took take_number s to m → Missing take_component m → Missing value_edge.from s
edge_bare T e = record { is = rw (T.is, e.is) }
