-- `encode` and `split` undo one another. Assumes nothing.
use mathlib.Core.Path.{◌≡◌, refl, sym, ap, ◌∙◌}
use mathlib.Core.List.{List, [], ◌∷◌, ◌++◌, append_assoc, append-nil}
use mathlib.Core.Option.{none, some}
use mathlib.Core.Bool.{Bool, true, false, cond, ◌&&◌}
use Prim.Native.Nat.{ℕ, zero, suc, ◌+◌, ◌-◌, ◌^◌, ◌≤◌, ◌<◌}
use native.Mathlib.Numerals.{one-add}
use native.Mathlib.Omega.{arith}
use borrow.Author.Tests.{lt-ltb, le-ltb, le-leb, ltb-true, ltb-false, eqb-true, eqb-false, leb-true}
use lib.Dec.{leb, ltb, eqb, lit<, lit≤}
use lib.ListN.{length, take, drop, length-append, length-drop, take-append-drop}
use lib.Seq.{take_at, drop-append_seam, drop-append-add, take-append_seam, drop-drop, length-take-le}
use Rattle.tlv.specs.Bytes.{Bytes, big_endian, big_endian_bytes}
use Rattle.tlv.specs.Number.{num, width, least, mark, wide, number, number_bytes, integer_size, integer}
use Rattle.tlv.specs.Element.{Element, First, first, end, malformed, element, typed, sized, type_in_range, Cuts, done, broken, next, cuts, whole}
use Rattle.tlv.specs.Element.{split, element_bytes, encode, InRange, Each, nexts}
use Rattle.tlv.specs.declared.Place.{Place}
use Rattle.tlv.proofs.Bytes.{bytes_left, bytes_right, bytes_append, bytes_spelled, bytes_drop, bytes_take, big_lt, length-spelled, big_spelled}
use Rattle.tlv.proofs.Bytes.{spelled_big}
use Rattle.tlv.proofs.Numbers.{Shape, one, many, shape, unreadable_num}
use Rattle.tlv.proofs.Cuts.{Step, Whole, element_whole, cuts_next, cuts_end, cuts_malformed, none_some, also_some, element_nil, done_nil}

-- ---- a number

-- the first byte of a longer form
pub record Marked (n m : ℕ) : Type 0 where
  pub wide_mark : 253 ≤ m
  pub byte : m < 256
  pub low : least m ≤ n
  pub high : n < 256 ^ width m

marked : (n : ℕ) → 253 ≤ n → n < 2 ^ 64 → Marked n (mark n)
unfolding mark least width
marked n g h = two (ltb n 65536) refl
  where
    four : (t : Bool) → 65536 ≤ n → ltb n 4294967296 ≡ t → Marked n (cond t 254 255)
    four true l e = let u = ltb-true _ _ e in record { wide_mark = lit≤ tt; byte = lit< tt; low = l; high = u }
    four false l e = record { wide_mark = lit≤ tt; byte = lit< tt; low = ltb-false _ _ e; high = h }

    two : (t : Bool) → ltb n 65536 ≡ t → Marked n (cond t 253 (cond (ltb n 4294967296) 254 255))
    two true e = record { wide_mark = lit≤ tt; byte = lit< tt; low = g; high = ltb-true _ _ e }
    two false e = four (ltb n 4294967296) (ltb-false _ _ e) refl

wide_back : (w l n : ℕ) (r : List ℕ) → l ≤ n → n < 256 ^ w → wide w l (big_endian_bytes w n ++ r) ≡ num n (1 + w)
unfolding wide
wide_back w l n r lo hi =
    let e : take w (big_endian_bytes w n ++ r) ≡ big_endian_bytes w n = take_at (big_endian_bytes w n) r w (length-spelled w n) in
    let le : w ≤ length (big_endian_bytes w n ++ r) = omega (arith, length-append (big_endian_bytes w n) r, length-spelled w n) in
    rw (le-leb _ _ le, e, big_spelled w n hi, le-leb _ _ lo)

pub number_back : (n : ℕ) (r : List ℕ) → n < 2 ^ 64 → number (number_bytes n ++ r) ≡ num n (length (number_bytes n))
unfolding number_bytes number
number_back n r h = go (ltb n 253) refl
  where
    go : (t : Bool) → ltb n 253 ≡ t
        → number (cond t (n ∷ []) (mark n ∷ big_endian_bytes (width (mark n)) n) ++ r) ≡ num n
        (length (cond t (n ∷ []) (mark n ∷ big_endian_bytes (width (mark n)) n)))
    go true e = rw e
    go false e =
        let m = marked n (ltb-false _ _ e) h in
        rw (
          le-ltb _ _ m.wide_mark,
          wide_back (width (mark n)) (least (mark n)) n r m.low m.high,
          length-spelled (width (mark n)) n,
          one-add
              (width (mark n)),
        )

pub number_bytes_bytes : (n : ℕ) → n < 2 ^ 64 → Bytes (number_bytes n)
unfolding number_bytes
number_bytes_bytes n h = go (ltb n 253) refl
  where
    go : (t : Bool) → ltb n 253 ≡ t → Bytes (cond t (n ∷ []) (mark n ∷ big_endian_bytes (width (mark n)) n))
    go true e zero = let l : n < 253 = ltb-true _ _ e in omega arith
    go true e (suc i) = lit< tt
    go false e zero = (marked n (ltb-false _ _ e) h).byte
    go false e (suc i) = bytes_spelled (width (mark n)) n (marked n (ltb-false _ _ e) h).high i

-- ---- and from its bytes

three : (P : ℕ → Type 0) → P 253 → P 254 → P 255 → (x : ℕ) → 253 ≤ x → x < 256 → P x
three P a b c x l h = go (eqb x 253) (eqb x 254) refl refl
  where
    go : (s t : Bool) → eqb x 253 ≡ s → eqb x 254 ≡ t → P x
    go true t p q = rw (eqb-true x 253 p) a
    go false true p q = rw (eqb-true x 254 q) b
    go false false p q = let e : x ≡ 255 = omega (arith, eqb-false x 253 p, eqb-false x 254 q) in rw e c

mark_is : (v x : ℕ) → 253 ≤ x → x < 256 → least x ≤ v → v < 256 ^ width x → mark v ≡ x
unfolding mark least width
mark_is v x =
    three (λ y. least y ≤ v → v < 256 ^ width y → mark v ≡ y)
    (λ l h. rw (lt-ltb v 65536 h)) (λ l h. rw (le-ltb v 65536 l, lt-ltb v 4294967296 h)) (λ l h. rw (le-ltb v 65536 (omega arith), le-ltb v 4294967296 l)) x

least_ge : (x : ℕ) → 253 ≤ x → x < 256 → 253 ≤ least x
unfolding least
least_ge x = three (λ y. 253 ≤ least y) (lit≤ tt) (lit≤ tt) (lit≤ tt) x

pub number_bytes_lem : (b : List ℕ) (v k : ℕ) → Bytes b → number b ≡ num v k → number_bytes v ≡ take k b
unfolding number_bytes number
number_bytes_lem [] v k h e = absurd (unreadable_num e)
number_bytes_lem (x ∷ bs) v k h e = go (shape x bs v k e)
  where
    go : Shape x bs v k → cond (ltb v 253) (v ∷ []) (mark v ∷ big_endian_bytes (width (mark v)) v) ≡ take k (x ∷ bs)
    go (one a p q) = rw (p, q, lt-ltb _ _ a)
    go (many a p q r t) =
        let lx : length (take (width x) bs) ≡ width x = length-take-le (width x) bs p in
        let bt : Bytes (take (width x) bs) = bytes_take (width x) bs (λ i. h (suc i)) in
        let hi : v < 256 ^ width x = rw q (rw lx at (big_lt (take (width x) bs) bt)) in
        let m : mark v ≡ x = mark_is v x a (h 0) r hi in
        let ge : 253 ≤ v = omega (arith, least_ge x a (h 0)) in
        let bb : big_endian_bytes (width x) v ≡ take (width x) bs = rw q (rw lx at (spelled_big (take (width x) bs) bt)) in
        rw (le-ltb _ _ ge, m, t, one-add (width x), bb)

-- a number that was read fits eight bytes
number_fits : (b : List ℕ) (v k : ℕ) → Bytes b → number b ≡ num v k → v < 2 ^ 64
unfolding number width
number_fits [] v k h e = absurd (unreadable_num e)
number_fits (x ∷ bs) v k h e = go (shape x bs v k e)
  where
    go : Shape x bs v k → v < 2 ^ 64
    go (one a p q) = omega arith
    go (many a p q r t) =
        let lx : length (take (width x) bs) ≡ width x = length-take-le (width x) bs p in
        let hi : v < 256 ^ width x = rw q (rw lx at (big_lt (take (width x) bs) (bytes_take (width x) bs (λ i. h (suc i))))) in
        three (λ y. v < 256 ^ width y → v < 2 ^ 64) (λ u. omega arith) (λ u. omega arith) (λ u. u) x a (h 0) hi

-- ---- an element

element_typed : (b : List ℕ) (t k : ℕ) → number b ≡ num t k → element b ≡ typed b (num t k)
unfolding element number
element_typed [] t k e = absurd (unreadable_num e)
element_typed (x ∷ xs) t k e = rw e

type_fits : (t : ℕ) → type_in_range t ≡ true → t < 2 ^ 64
unfolding type_in_range
type_fits t e = go (leb 1 t) (leb t 4294967295) refl e
  where
    go : (a b : Bool) → leb t 4294967295 ≡ b → (a && b) ≡ true → t < 2 ^ 64
    go a true p q = let h : t ≤ 4294967295 = leb-true _ _ p in omega arith
    go true false p q = let z : ◌≡◌ {A = ℕ} 0 1 = cc in omega arith
    go false false p q = let z : ◌≡◌ {A = ℕ} 0 1 = cc in omega arith

pub element_back : (e : Element) (r : List ℕ) → InRange e → (h : ℕ) × (element (element_bytes e ++ r) ≡ first h e r)
unfolding element_bytes typed sized
element_back e r ok =
    let T = number_bytes e.type in
    let L = number_bytes (length e.inside) in
    let I = e.inside in
    let b = T ++ (L ++ (I ++ r)) in
    let eb : element_bytes e ++ r ≡ b = simp append_assoc in
    let nt : number b ≡ num e.type (length T) = number_back e.type (L ++ (I ++ r)) (type_fits e.type ok.type_ok) in
    let dt : drop (length T) b ≡ L ++ (I ++ r) = drop-append_seam T (L ++ (I ++ r)) in
    let nl : number (L ++ (I ++ r)) ≡ num (length I) (length L) = number_back (length I) (I ++ r) ok.length_ok in
    let di : drop (length T + length L) b ≡ I ++ r = drop-append-add T (L ++ (I ++ r)) (length L) ∙ drop-append_seam L (I ++ r) in
    let dr : drop (length T + length L + length I) b ≡ r = sym (drop-drop (length I) (length T + length L) b) ∙ rw di (drop-append_seam I r) in
    let lb : length b ≡ length T + (length L + (length I + length r)) = simp length-append in
    let le : length I ≤ length b - (length T + length L) = omega arith in (
      length T + length L,
      rw (
        eb,
        element_typed b e.type (length T) nt,
        ok.type_ok,
        dt,
        nl,
        le-leb (length I)
            (length b - (length T + length L)) le,
        di,
        take-append_seam I r,
        dr,
      ),
    )

whole_bytes : (b : List ℕ) {h : ℕ} {e : Element} {r : List ℕ} → Bytes b → Whole b h e r → element_bytes e ++ r ≡ b
unfolding element_bytes
whole_bytes b {h} {e} {r} by w =
    let k = w.type_size in
    let j = w.length-size in
    let n = w.size in
    let nt : number_bytes e.type ≡ take k b = number_bytes_lem b e.type k by w.typed_is in
    let nl : number_bytes (length e.inside) ≡ take j (drop k b) = rw w.inside_length (number_bytes_lem (drop k b) n j (bytes_drop k b by) w.sized_is) in
    let di : drop h b ≡ drop j (drop k b) = ap (λ (x : ℕ). drop x b) w.head ∙ sym (drop-drop j k b) in
    let ei : e.inside ≡ take n (drop j (drop k b)) = w.inside_is ∙ ap (take n) di in
    let dr : r ≡ drop n (drop j (drop k b)) = w.rest_is ∙ sym (drop-drop n h b) ∙ ap (drop n) di in
    simp append_assoc
    ((λ i. nt i ++ (nl i ++ (ei i ++ dr i))) ∙ rw (take-append-drop n (drop j (drop k b)), take-append-drop j (drop k b), take-append-drop k b))

module _ (b : List ℕ) {h : ℕ} {e : Element} {r : List ℕ} (by : Bytes b) (p : element b ≡ first h e r) where
  -- an element that was read has an encoding, and it is the bytes that it was read from
  pub element_bytes_lem : element_bytes e ++ r ≡ b
  element_bytes_lem = whole_bytes b by (element_whole b h e r p)

  pub element_fits : InRange e
  element_fits =
      let w = element_whole b h e r p in
      record {
        type_ok = w.ok;
        length_ok = rw w.inside_length
            (number_fits (drop w.type_size b) w.size w.length-size (bytes_drop w.type_size b by) w.sized_is);
      }

-- an element that was read takes as many bytes as its encoding
pub element_size : (b : List ℕ) {h : ℕ} {e : Element} {r : List ℕ} → Bytes b → element b ≡ first h e r
    → length (element_bytes e) + length r ≡ length b
element_size b {h} {e} {r} by p = sym (length-append (element_bytes e) r) ∙ ap length (element_bytes_lem b by p)

pub step_size : {s : List ℕ} {at kind start stop : ℕ} {n : Place} → Bytes s → (f : Step s at kind start stop n)
    → length (element_bytes (record { type = kind; inside = take (stop - start) (drop start s) })) ≡ stop - at
step_size {s} {at} {kind} {start} {stop} by f =
    omega (arith, element_size (drop at s) (bytes_drop at s by) f.first_is, length-drop at s, length-drop stop s, f.before, f.order, f.within)

-- ---- the whole list

pub cuts_encode : (es : List Element) (r : List ℕ) → Each InRange es → cuts (encode es ++ r) ≡ nexts es (cuts r)
unfolding encode
cuts_encode [] r h = refl
cuts_encode (e ∷ es) r h =
    rw append_assoc (cuts_next _ _ _ _ (element_back e (encode es ++ r) h.0).1 ∙ ap (λ (c : Cuts). next e c) (cuts_encode es r h.1))

cuts_nil : cuts [] ≡ done
cuts_nil = cuts_end [] element_nil

whole_nexts : (es : List Element) → whole (nexts es done) ≡ some es
whole_nexts [] = refl
whole_nexts (e ∷ es) = rw (whole_nexts es)

whole_some : (c : Cuts) (es : List Element) → whole c ≡ some es → c ≡ nexts es done
whole_some done es p = let e : es ≡ [] = cc in rw e
whole_some broken es p = absurd (none_some p)
whole_some (next e c) es p =
    let t = also_some e (whole c) es p in
    rw t.2 (ap (λ (x : Cuts). next e x) (whole_some c t.0 t.1))

pub split_nexts : (b : List ℕ) (es : List Element) → cuts b ≡ nexts es done → split b ≡ some es
unfolding split
split_nexts b es p = rw p (whole_nexts es)

pub cuts_encoded : (es : List Element) → Each InRange es → cuts (encode es) ≡ nexts es done
cuts_encoded es h = rw append-nil at (rw cuts_nil at (cuts_encode es [] h))

pub split_encode : (es : List Element) → Each InRange es → split (encode es) ≡ some es
split_encode es h = split_nexts (encode es) es (cuts_encoded es h)

pub nexts_split : (b : List ℕ) (es : List Element) → split b ≡ some es → cuts b ≡ nexts es done
unfolding split
nexts_split b es p = whole_some (cuts b) es p

-- what was cut off the front, and the bytes after it, from which the rest was cut
pub record CutOff (b : List ℕ) (es : List Element) (c : Cuts) : Type 0 where
  pub left : List ℕ
  pub front_is : b ≡ encode es ++ left
  pub rest_is : cuts left ≡ c

-- bytes are the encoding of what is cut off them, and then what comes after it
pub encode_cuts : (es : List Element) (c : Cuts) (b : List ℕ) → Bytes b → cuts b ≡ nexts es c → CutOff b es c
unfolding encode
encode_cuts [] c b by p = record { left = b; front_is = refl; rest_is = p }
encode_cuts (e ∷ es) c b by p = go (element b) refl (encode_cuts es c)
  where
    go : (f : First) → element b ≡ f → ((r : List ℕ) → Bytes r → cuts r ≡ nexts es c → CutOff r es c) → CutOff b (e ∷ es) c
    go end q rec = let z : ◌≡◌ {A = ℕ} 0 1 = cc (cuts_end b q) in absurd (omega arith)
    go malformed q rec = let z : ◌≡◌ {A = ℕ} 0 1 = cc (cuts_malformed b q) in absurd (omega arith)
    go (first h e' r) q rec =
        let w = element_whole b h e' r q in
        let n = cuts_next b h e' r q in
        let same : e' ≡ e = cc in
        let goes : cuts r ≡ nexts es c = cc in
        let o = rec r (rw w.rest_is (bytes_drop (h + w.size) b by)) goes in
        record {
          left = o.left;
          front_is = rw append_assoc (sym (whole_bytes b by w) ∙ (λ i. element_bytes (same i) ++ o.front_is i));
          rest_is = o.rest_is;
        }

-- bytes that can be cut whole are the encoding of what was cut
pub encode_split : (b : List ℕ) → Bytes b → (es : List Element) → split b ≡ some es → encode es ≡ b
encode_split b by es p =
    let o = encode_cuts es done b by (nexts_split b es p) in
    let nothing : o.left ≡ [] = done_nil o.left o.rest_is in
    sym (o.front_is ∙ rw (nothing, append-nil))

pub encode_bytes : (es : List Element) → Each InRange es → Each (λ e. Bytes e.inside) es → Bytes (encode es)
unfolding encode element_bytes
encode_bytes [] h g = λ i. lit< tt
encode_bytes (e ∷ es) h g =
    let T = number_bytes e.type in
    let L = number_bytes (length e.inside) in
    bytes_append (T ++ (L ++ e.inside)) (encode es)
    (bytes_append T (L ++ e.inside) (number_bytes_bytes e.type (type_fits e.type h.0.type_ok))
    (bytes_append L e.inside (number_bytes_bytes (length e.inside) h.0.length_ok) g.0))
    (encode_bytes es h.1 g.1)

-- and so are their insides
pub insides_bytes : (es : List Element) → Bytes (encode es) → Each (λ e. Bytes e.inside) es
unfolding encode element_bytes
insides_bytes [] h = tt
insides_bytes (e ∷ es) h =
    let T = number_bytes e.type in
    let L = number_bytes (length e.inside) in (
      bytes_right L e.inside (bytes_right T (L ++ e.inside) (bytes_left (T ++ (L ++ e.inside)) (encode es) h)),
      insides_bytes es (bytes_right (T ++ (L ++ e.inside)) (encode es) h),
    )

-- ---- integers

-- an integer reads back at each of the four widths
pub integer_back : (w n : ℕ) → integer_size w ≡ true → n < 256 ^ w → integer (big_endian_bytes w n) ≡ some n
unfolding integer
integer_back w n ok h = rw (length-spelled w n, ok, big_spelled w n h)

-- and is spelled by the bytes that it was read from
pub integer_bytes : (b : List ℕ) (n : ℕ) → Bytes b → integer b ≡ some n → big_endian_bytes (length b) n ≡ b
unfolding integer
integer_bytes b n by p = go (integer_size (length b)) p
  where
    go : (c : Bool) → cond c (some (big_endian b)) none ≡ some n → big_endian_bytes (length b) n ≡ b
    go true q = let e : big_endian b ≡ n = cc in rw (← e) (spelled_big b by)
    go false q = let z : ◌≡◌ {A = ℕ} 0 1 = cc in absurd (omega arith)
