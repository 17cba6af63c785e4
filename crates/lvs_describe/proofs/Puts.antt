-- Parts that are put one behind the other. Assumes nothing.
use mathlib.Core.Path.{◌≡◌, refl, sym, ap, subst, ◌∙◌}
use mathlib.Core.List.{List, [], ◌∷◌, ◌++◌, append_assoc, append-nil}
use Prim.Native.Nat.{ℕ, ◌+◌, ◌-◌, ◌≤◌}
use native.Mathlib.Omega.{arith}
use borrow.Rule.Slice.PartMut.{put_mid, same_len_mid}
use lib.ListN.{length, take, drop, length-append, length-drop}
use lib.Seq.{drop-drop, take_at, drop_at, length-take-le}
use Rattle.std.specs.Prelude.{Option, None, Some, MatchOption}
use Rattle.lvs_description.specs.Format.{Lists, put_text}
use Rattle.lvs_describe.specs.Parts.{nothing, joined, number, bytes}
use Rattle.lvs_describe.specs.Lent.{Fits, Put, Lent, Wrote, Describes}
use Rattle.lvs_describe.specs.declared.output.Output.{Output}

-- ---- one list

put_none : (at : ℕ) (xs : List ℕ) → Put at [] xs xs
put_none at xs =
    let e : at + 0 ≡ at = omega arith in
    record { front = rw (e, append-nil); back = refl }

put_then : {at : ℕ} {xs ys a b c : List ℕ} → Put at xs a b → Put (at + length xs) ys b c → Put at (xs ++ ys) a c
put_then {at} {xs} {ys} {a} {b} {c} p q =
    let n : at + length (xs ++ ys) ≡ at + length xs + length ys = rw length-append (omega arith) in
    record {
      front = rw n (q.front ∙ rw p.front (append_assoc (take at a) xs ys));
      back = rw n (q.back ∙ sym (drop-drop (length ys) (at + length xs) b) ∙ rw p.back (drop-drop (length ys) (at + length xs) a));
    }

lent_none : (left : ℕ) (xs : List ℕ) → Lent left [] xs xs
lent_none left xs = record { kept = refl; put = λ h. put_none _ xs }

lent_then : {left left' : ℕ} {xs ys a b c : List ℕ} → left' + length xs ≡ left → Lent left xs a b → Lent left' ys b c → Lent left (xs ++ ys) a c
lent_then {left} {left'} {xs} {ys} {a} {b} {c} n p q = record { kept = q.kept ∙ p.kept; put = both }
  where
    both : left ≤ length a → Put (length a - left) (xs ++ ys) a c
    both h =
        let k = p.kept in
        let at : length b - left' ≡ length a - left + length xs = omega arith in
        put_then (p.put h) (subst (λ (i : ℕ). Put i ys b c) at (q.put (omega arith)))

-- ---- a part, and then another

pub describes_nothing : {s : Output} → Describes nothing s s (Some tt)
describes_nothing {s} =
    record {
      same_numbers = refl;
      same_texts = refl;
      by_room =
          record { numbers_taken = omega arith; texts_taken = omega arith; numbers_are = lent_none _ s.numbers.now; texts_are = lent_none _ s.texts.now };
    }

module _ {a b : Lists} {s s' s'' : Output} where
  wrote_then : Wrote a s s' → Wrote b s' s'' → Wrote (joined a b) s s''
  wrote_then p q =
      record {
        numbers_taken = omega (arith, length-append a.numbers b.numbers, p.numbers_taken, q.numbers_taken);
        texts_taken = omega (arith, length-append a.texts b.texts, p.texts_taken, q.texts_taken);
        numbers_are = lent_then p.numbers_taken p.numbers_are q.numbers_are;
        texts_are = lent_then p.texts_taken p.texts_are q.texts_are;
      }

second_fits : {a : Lists} (b : Lists) {s s' : Output} → Wrote a s s' → Fits (joined a b) s → Fits b s'
second_fits {a} b p f =
    record {
      numbers_fit = omega (arith, length-append a.numbers b.numbers, p.numbers_taken, f.numbers_fit);
      texts_fit = omega (arith, length-append a.texts b.texts, p.texts_taken, f.texts_fit);
    }

module _ {a b : Lists} {s s' s'' : Output} where
  pub describes_then : {r : Option (Unit {0})} → Describes a s s' (Some tt) → Describes b s' s'' r → Describes (joined a b) s s'' r
  describes_then {r} p q =
      record { same_numbers = q.same_numbers ∙ p.same_numbers; same_texts = q.same_texts ∙ p.same_texts; by_room = go r q.by_room }
    where
      go : (o : Option (Unit {0})) → MatchOption o (Fits b s' → ⊥) (λ _. Wrote b s' s'')
          → MatchOption o (Fits (joined a b) s → ⊥) (λ _. Wrote (joined a b) s s'')
      go None no' = λ f. no' (second_fits b p.by_room f)
      go (Some x) w = wrote_then p.by_room w

-- the first does not fit
pub describes_stop : {a : Lists} (b : Lists) {s s' : Output} → Describes a s s' None → Describes (joined a b) s s' None
describes_stop {a} b {s} p =
    record {
      same_numbers = p.same_numbers;
      same_texts = p.same_texts;
      by_room =
          λ f.
          p.by_room
          (record {
            numbers_fit = omega (arith, length-append a.numbers b.numbers, f.numbers_fit);
            texts_fit = omega (arith, length-append a.texts b.texts, f.texts_fit);
          });
    }

pub describes_as : {l l' : Lists} {s s' : Output} {r : Option (Unit {0})} → l ≡ l' → Describes l s s' r → Describes l' s s' r
describes_as {s = s} {s' = s'} {r = r} e d = subst (λ (x : Lists). Describes x s s' r) e d

-- ---- bytes over a part of a list

pub bytes_put : (l : List ℕ) (at n : ℕ) {y xs : List ℕ} → y ≡ xs → n ≡ length xs → at + length xs ≤ length l → Put at xs l (put_mid at n l y)
bytes_put l at n {y} {xs} e k fits =
    let size : length (take at l) ≡ at = length-take-le at l (omega arith) in
    let long : length (take at l ++ xs) ≡ at + length xs = length-append (take at l) xs ∙ ap (λ (j : ℕ). j + length xs) size in
    let is : put_mid at n l y ≡ (take at l ++ xs) ++ drop n (drop at l) =
    ap (λ (z : List ℕ). take at l ++ (z ++ drop n (drop at l))) e ∙ sym (append_assoc (take at l) xs (drop n (drop at l))) in
    record {
      front = ap (take (at + length xs)) is ∙ take_at (take at l ++ xs) (drop n (drop at l)) (at + length xs) long;
      back =
          ap (drop (at + length xs)) is ∙ drop_at (take at l ++ xs) (drop n (drop at l)) (at + length xs) long ∙ drop-drop n at l ∙
          ap (λ (j : ℕ). drop (at + j) l) k;
    }

pub bytes_wrote : {s s' : Output} (xs : List ℕ) {n : ℕ} {y : List ℕ} → s'.numbers_left ≡ s.numbers_left → s'.numbers.now ≡ s.numbers.now
    → s'.texts_left + length xs ≡ s.texts_left → s.texts_left ≤ length s.texts.now → y ≡ xs → n ≡ length xs
    → s'.texts.now ≡ put_mid (length s.texts.now - s.texts_left) n s.texts.now y → Wrote (bytes xs) s s'
bytes_wrote {s} {s'} xs {n} {y} numbers same left room e k is =
    let l : List ℕ = s.texts.now in
    let at : ℕ = length l - s.texts_left in
    let stands : Put at xs l s'.texts.now = subst (Put at xs l) (sym is) (bytes_put l at n e k (omega arith)) in
    record {
      numbers_taken = omega (arith, numbers);
      texts_taken = left;
      numbers_are = subst (Lent s.numbers_left [] s.numbers.now) (sym same) (lent_none _ _);
      texts_are =
          record {
            kept = ap length is ∙ same_len_mid at n l y (ap length e ∙ sym k ∙ sym (length-take-le n (drop at l) (simp length-drop (omega arith))));
            put = λ h. stands;
          };
    }

-- ---- a text: its length and its bytes

text_joined : (b : List ℕ) → joined (number (length b)) (bytes b) ≡ put_text b nothing
text_joined b = λ i. record { numbers = length b ∷ []; texts = sym (append-nil b) i }

pub text_put : {b : List ℕ} {s s' s'' : Output} {r : Option (Unit {0})} → Describes (number (length b)) s s' (Some tt) → Describes (bytes b) s' s'' r
    → Describes (put_text b nothing) s s'' r
text_put {b} p q = describes_as (text_joined b) (describes_then p q)

pub text_stop : (b : List ℕ) {s s' : Output} → Describes (number (length b)) s s' None → Describes (put_text b nothing) s s' None
text_stop b p = describes_as (text_joined b) (describes_stop (bytes b) p)
