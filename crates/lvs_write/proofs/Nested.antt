-- An element that holds others, written into its place behind its header. Assumes nothing.
use mathlib.Core.Path.{◌≡◌, refl, sym, ap, subst, ◌∙◌}
use mathlib.Core.Bool.{true, false}
use mathlib.Core.List.{List, ◌++◌}
use mathlib.Core.Option.{some}
use Prim.Native.Nat.{ℕ, ◌+◌, ◌-◌, ◌≤◌, ◌<◌, min}
use native.Mathlib.Omega.{arith}
use borrow.Author.Tests.{leb-true, leb-false}
use borrow.Rule.Slice.PartMut.{put_mid, same_len_mid, mid_len}
use lib.Dec.{leb}
use lib.ListN.{length, take, drop}
use Rattle.std.specs.Prelude.{Option, None, Some}
use Rattle.tlv_writer.specs.Stored.{Stored}
use Rattle.tlv.specs.Number.{number_bytes}
use Rattle.tlv_writer.proofs.Numbers.{short_size, long_size}
use Rattle.tlv_writer.proofs.Stores.{stored_front, stored_length, stored_inside, stored_over}
use Rattle.lvs_description.specs.Format.{Lists}
use Rattle.lvs_write.specs.declared.cursor.Cursor.{Cursor}
use Rattle.lvs_write.specs.Spelled.{Bytes, wrapped}
use Rattle.lvs_write.specs.Steps.{el, capped, element_size, header_bytes, left, front_of, Wrote, Writes, Early, WritesEarly}
use Rattle.lvs_write.proofs.Sizes.{capped_is, capped_capped, capped_element}
use Rattle.lvs_write.proofs.Sizes.{header_then, header_length, element_length, element_room}
use Rattle.lvs_write.proofs.Places.{puts_lent}
use Rattle.lvs_write.proofs.Moves.{apart, outcome, none_wrote}

pub early_places : (at len : ℕ) {a early until : ℕ} → a ≡ capped (at + 2) → early ≡ min a len → until ≡ min (early + 252) len
    → Early at len early until
unfolding capped
early_places at len o p q =
    record { order = omega arith; within = omega arith; short = omega arith; place = λ h g. omega arith; room = λ k h g. omega arith }

pub wrote_early : {g : Lists → Bytes} {b y : List ℕ} {early until : ℕ} {s : Cursor} {r : Option Cursor} → Early s.at (length b) early until
    → length y ≡ length (take (until - early) (drop early b)) → Writes g (take (until - early) (drop early b)) y (front_of s) r
    → WritesEarly g b (put_mid early (until - early) b y) s r
wrote_early {g} {b} {y} {early} {until} E same W =
    record {
      early = early;
      until = until;
      places = E;
      part = y;
      part_long = same ∙ mid_len early until b E.within;
      now_is = refl;
      wrote = W;
    }

-- no inside, no element
pub nested_stopped : (t : ℕ) {g : Lists → Bytes} {b lent now : List ℕ} {s : Cursor} → WritesEarly g b lent s None → Writes (λ l. wrapped t (g l)) b now s None
unfolding wrapped
nested_stopped t W = none_wrote (record { is = rw W.wrote.by_end.is })

module _ {g : Lists → Bytes} {b lent : List ℕ} {s m : Cursor} (W : WritesEarly g b lent s (Some m)) (t : ℕ) {n size k : ℕ} (n-is : n ≡ capped m.at)
    (size_is : size ≡ element_size t n) (k-is : k ≡ capped (s.at + size)) where
  abbrev M : Wrote g (take (W.until - W.early) (drop W.early b)) W.part (front_of s) m
  M = W.wrote.by_end

  abbrev bs : List ℕ
  bs = W.wrote.by_end.bytes

  -- the place behind the element
  abbrev r : Cursor
  r = record { numbers = m.numbers; texts = m.texts; at = k }

  inside_size : capped m.at ≡ capped (length bs)
  inside_size = M.place ∙ ap capped (omega arith)

  -- the element's size, up to the cap
  sizes : capped (s.at + size) ≡ capped (s.at + length (el t bs))
  sizes =
      ap (λ (j : ℕ). capped (s.at + j)) size_is ∙
      capped_element s.at t n (length bs) (ap capped n-is ∙ capped_capped m.at ∙ inside_size) ∙
      ap (λ (j : ℕ). capped (s.at + j)) (sym (element_length t bs))

  written : {now : List ℕ} → (s.at + length (el t bs) ≤ 32768 → s.at + length (el t bs) ≤ length b → Stored b now s.at (el t bs))
      → Writes (λ l. wrapped t (g l)) b now s (Some r)
  unfolding wrapped
  written {now} st =
      record {
        by_end =
            record {
              bytes = el t bs;
              is = inside;
              place = ap capped k-is ∙ capped_capped (s.at + size) ∙ sizes;
              put = st;
            };
      }
    where
      inside : wrapped t (g (left s)) ≡ some (el t bs, left m)
      inside = rw M.is

  -- the inside was put where it was lent room for all of it
  filled : {c c' : List ℕ} {w : Cursor} → Wrote g c c' (front_of s) w → length bs ≤ 32768 → length bs ≤ length c → Stored c c' 0 bs
  filled {c} {c'} V h room =
      let same : V.bytes ≡ bs = (λ i. (outcome (sym V.is ∙ M.is) i).0) in
      subst (Stored c c' 0) same (V.put (omega (arith, ap length same)) (omega (arith, ap length same)))

  -- gone through again, it ends where it did
  filled_to : {c c' : List ℕ} (w : Option Cursor) → Writes g c c' (front_of s) w → length bs ≤ 32768 → length bs ≤ length c → Stored c c' 0 bs
  filled_to None A h room = absurd (apart (sym A.by_end.is ∙ M.is))
  filled_to (Some w) A h room = filled A.by_end h room

  -- an element that is no longer than a model may be has an inside of n bytes
  exact : s.at + length (el t bs) ≤ 32768 → (n ≡ length bs) × (size ≡ length (el t bs))
  exact h =
      let long : length (el t bs) ≡ element_size t (length bs) = element_length t bs in
      let room : element_size t (length bs) ≡ length (header_bytes t (length bs)) + length bs = element_room t (length bs) in
      let n-exact : n ≡ length bs = n-is ∙ inside_size ∙ capped_is (length bs) (omega arith) in
      (n-exact, size_is ∙ ap (element_size t) n-exact ∙ sym long)

  -- what was lent at first
  lent_is : lent ≡ put_mid W.early (W.until - W.early) b W.part
  lent_is = W.now_is

  part : length (take (W.until - W.early) (drop W.early b)) ≡ W.until - W.early
  part = mid_len W.early W.until b W.places.within

  lent_long : length lent ≡ length b
  lent_long = ap length lent_is ∙ same_len_mid W.early (W.until - W.early) b W.part (W.part_long ∙ sym part)

  -- if there is no room, nothing has to be written;
  pub nested_no_room : leb (s.at + size) (length lent) ≡ false → Writes (λ l. wrapped t (g l)) b lent s (Some r)
  nested_no_room far =
      let beyond : length lent < s.at + size = leb-false _ _ far in
      written (λ h room. absurd (omega (arith, (exact h).1, lent_long)))

  -- if it has no more bytes than a header of two bytes can say, that is its place, and the header is put before it;
  pub nested_early : {b₂ : List ℕ} {start : ℕ} → leb (s.at + size) (length lent) ≡ true → length (number_bytes t) ≡ 1 → n ≤ 252
      → (start ≡ s.at + length (header_bytes t n)) × Stored lent b₂ s.at (header_bytes t n) → Writes (λ l. wrapped t (g l)) b b₂ s (Some r)
  nested_early {b₂} fits type_short short H =
      written
      (λ h room.
      let x = exact h in
      let there : s.at + size ≤ length b = omega (arith, leb-true (s.at + size) (length lent) fits, lent_long) in
      let two : length (header_bytes t n) ≡ 2 = header_length t n ∙ (λ i. type_short i + short_size n (omega arith) i) in
      let long : element_size t n ≡ length (header_bytes t n) + n = element_room t n in
      let place : W.early ≡ s.at + 2 = W.places.place (omega (arith, x.1)) (omega arith) in
      let enough : W.early + n ≤ W.until = W.places.room n short (omega arith) in
      let back = filled M (omega (arith, x.0)) (omega (arith, x.0, part)) in
      let inside : Stored b lent W.early bs =
      subst (λ (z : List ℕ). Stored b z W.early bs) (sym lent_is)
      (stored_inside b W.early (W.until - W.early) (omega (arith, W.places.order, W.places.within)) (omega (arith, x.0)) back) in
      let head : header_bytes t n ++ bs ≡ el t bs = ap (λ (j : ℕ). header_bytes t j ++ bs) x.0 ∙ header_then t bs in
      subst (Stored b b₂ s.at) head (stored_front inside H.1 (omega arith)))

  -- if it has more, it is written again behind the longer header, over all that was put too early
  pub nested_again : {b₂ y : List ℕ} {start end : ℕ} {w : Option Cursor} → leb (s.at + size) (length lent) ≡ true → 252 < n
      → (start ≡ s.at + length (header_bytes t n)) × Stored lent b₂ s.at (header_bytes t n) → end ≡ start + n
      → Writes g (take (end - start) (drop start b₂)) y (front_of s) w
      → Writes (λ l. wrapped t (g l)) b (put_mid start (end - start) b₂ y) s (Some r)
  nested_again {b₂} {y} {start} {end} {w} fits long H end_is A =
      written
      (λ h room.
      let x = exact h in
      let there : s.at + size ≤ length b = omega (arith, leb-true (s.at + size) (length lent) fits, lent_long) in
      let header : element_size t n ≡ length (header_bytes t n) + n = element_room t n in
      let one : length (header_bytes t n) ≡ length (number_bytes t) + length (number_bytes n) = header_length t n in
      let b-long : length b₂ ≡ length lent = stored_length H.1 in
      let ends : end ≤ length b₂ = omega (arith, H.0, there, lent_long) in
      let back : Stored (take (end - start) (drop start b₂)) y 0 bs = filled_to w A (omega (arith, x.0)) (omega (arith, x.0, mid_len start end b₂ ends)) in
      let over = (puts_lent t s.at n size_is x.0 H end_is ends back).put (omega (arith, there, lent_long)) in
      let place : W.early ≡ s.at + 2 = W.places.place (omega (arith, x.1)) (omega arith) in
      stored_over b W.part W.early W.until (omega arith) W.places.order (omega (arith, x.1, long_size n long, W.places.short))
      (omega (arith, x.1))
      W.part_long
      (subst (λ (z : List ℕ). Stored z (put_mid start (end - start) b₂ y) s.at (el t bs)) lent_is over))
