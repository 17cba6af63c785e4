-- Stores into a list, one run behind another, and into a part of it that was lent. Assumes nothing.
use mathlib.Core.Path.{◌≡◌, refl, sym, ap, ◌∙◌}
use mathlib.Core.List.{List, [], ◌∷◌, ◌++◌, append_assoc}
use Prim.Native.Nat.{ℕ, suc, ◌+◌, ◌-◌, ◌≤◌, ◌<◌}
use native.Mathlib.Nat.{add-suc, suc-add, add-zero, zero-add}
use native.Mathlib.Omega.{arith}
use borrow.Rule.Slice.PartMut.{put_mid, same_len_mid, mid_len, take_put, drop_put}
use lib.ListN.{length, take, drop, set, length-drop, take-append-drop}
use lib.Seq.{sets, sets-eq, set_comm, length-sets, take_at, take-take, drop-append-le, drop-drop, length-take-le}
use Rattle.tlv_writer.specs.Stored.{Stored}

pub sets_append : (l : List ℕ) (i : ℕ) (xs ys : List ℕ) → sets (sets l i xs) (i + length xs) ys ≡ sets l i (xs ++ ys)
sets_append l i [] ys = ap (λ (k : ℕ). sets l k ys) (add-zero i)
sets_append l i (x ∷ xs) ys =
    ap (λ (k : ℕ). sets (sets (set l i x) (suc i) xs) k ys) (add-suc i (length xs) ∙ sym (suc-add i (length xs))) ∙
    sets_append (set l i x) (suc i) xs ys

-- one run of bytes and another behind it
pub stored_both : {b₀ b₁ b₂ xs ys : List ℕ} {at behind : ℕ} → Stored b₀ b₁ at xs → Stored b₁ b₂ behind ys → at + length xs ≡ behind
    → Stored b₀ b₂ at (xs ++ ys)
stored_both {b₀} {b₁} {b₂} {xs} {ys} {at} P Q e =
    record { is = Q.is ∙ (λ i. sets (P.is i) (sym e i) ys) ∙ sets_append b₀ at xs ys }

-- a store in front of others can be made before them
set_sets : (l : List ℕ) (i k : ℕ) (x : ℕ) (ys : List ℕ) → i < k → set (sets l k ys) i x ≡ sets (set l i x) k ys
set_sets l i k x [] h = refl
set_sets l i k x (y ∷ ys) h =
    set_sets (set l k y) i (suc k) x ys (omega arith) ∙
    ap (λ (a : List ℕ). sets a (suc k) ys) (set_comm l k i y x (λ e. absurd (omega arith)))

sets_front : (l : List ℕ) (i : ℕ) (xs ys : List ℕ) → sets (sets l (i + length xs) ys) i xs ≡ sets l i (xs ++ ys)
sets_front l i [] ys = ap (λ (k : ℕ). sets l k ys) (add-zero i)
sets_front l i (x ∷ xs) ys =
    ap (λ (a : List ℕ). sets a (suc i) xs) (set_sets l i (i + suc (length xs)) x ys (omega arith)) ∙
    ap (λ (k : ℕ). sets (sets (set l i x) k ys) (suc i) xs) (add-suc i (length xs) ∙ sym (suc-add i (length xs))) ∙
    sets_front (set l i x) (suc i) xs ys

-- one run of bytes, and another before it
pub stored_front : {b₀ b₁ b₂ xs ys : List ℕ} {at behind : ℕ} → Stored b₀ b₁ behind ys → Stored b₁ b₂ at xs → at + length xs ≡ behind
    → Stored b₀ b₂ at (xs ++ ys)
stored_front {b₀} {b₁} {b₂} {xs} {ys} {at} P Q e =
    record { is = Q.is ∙ (λ i. sets ((P.is ∙ ap (λ (k : ℕ). sets b₀ k ys) (sym e)) i) at xs) ∙ sets_front b₀ at xs ys }

pub stored_length : {b₀ b₁ bs : List ℕ} {at : ℕ} → Stored b₀ b₁ at bs → length b₁ ≡ length b₀
stored_length {b₀} {b₁} {bs} {at} P = ap length P.is ∙ length-sets b₀ at bs

-- ---- a part that was lent

-- bytes over a whole part of as many are stored there
pub stored_part : (l : List ℕ) (at n : ℕ) {y bs : List ℕ} → y ≡ bs → n ≡ length bs → at + length bs ≤ length l → Stored l (put_mid at n l y) at bs
stored_part l at n {y} {bs} e k fits =
    let back : drop n (drop at l) ≡ drop (at + length bs) l = drop-drop n at l ∙ ap (λ (m : ℕ). drop (at + m) l) k in
    record { is = (λ i. take at l ++ (e i ++ back i)) ∙ sym (append_assoc (take at l) bs (drop (at + length bs) l)) ∙ sym (sets-eq bs l at fits) }

-- bytes at the front of the part from h on, of n bytes, are stored from h on
pub stored_inside : (l : List ℕ) (h n : ℕ) {y bs : List ℕ} → h + n ≤ length l → length bs ≤ n → Stored (take n (drop h l)) y 0 bs
    → Stored l (put_mid h n l y) h bs
stored_inside l h n {y} {bs} fits long P =
    let part : List ℕ = take n (drop h l) in
    let size : length part ≡ n = length-take-le n (drop h l) (simp length-drop (omega arith)) in
    let y-is : y ≡ bs ++ drop (length bs) part =
    P.is ∙ sets-eq bs part 0 (omega arith) ∙ (λ i. (take_at [] part 0 refl i ++ bs) ++ drop (zero-add (length bs) i) part) in
    let rest : drop (length bs) part ++ drop n (drop h l) ≡ drop (h + length bs) l =
    sym (drop-append-le (length bs) part (drop n (drop h l)) (omega arith)) ∙
    ap (λ (r : List ℕ). drop (length bs) r) (take-append-drop n (drop h l)) ∙
    drop-drop (length bs) h l in
    let back : y ++ drop n (drop h l) ≡ bs ++ drop (h + length bs) l =
    ap (λ (r : List ℕ). r ++ drop n (drop h l)) y-is ∙
    append_assoc bs (drop (length bs) part) (drop n (drop h l)) ∙
    ap (λ (r : List ℕ). bs ++ r) rest in
    record {
      is =
          ap (λ (r : List ℕ). take h l ++ r) back ∙ sym (append_assoc (take h l) bs (drop (h + length bs) l)) ∙ sym (sets-eq bs l h (omega arith));
    }

-- whatever a part was made to hold, bytes over all of it are stored as if it had not been lent
pub stored_over : (l y : List ℕ) (h e : ℕ) {b bs : List ℕ} {at : ℕ} → at ≤ h → h ≤ e → e ≤ at + length bs → at + length bs ≤ length l
    → length y ≡ e - h → Stored (put_mid h (e - h) l y) b at bs → Stored l b at bs
stored_over l y h e {b} {bs} {at} before order behind fits long P =
    let l₁ : List ℕ = put_mid h (e - h) l y in
    let end : ℕ = at + length bs in
    let same : length l₁ ≡ length l = same_len_mid h (e - h) l y (long ∙ sym (mid_len h e l (omega arith))) in
    let front : take at l₁ ≡ take at l =
    sym (take-take at h l₁ before) ∙ ap (take at) (take_put h (e - h) l y (omega arith)) ∙ take-take at h l before in
    let further : e + (end - e) ≡ end = omega arith in
    let back : drop end l₁ ≡ drop end l =
    ap (λ (k : ℕ). drop k l₁) (sym further) ∙
    sym (drop-drop (end - e) e l₁) ∙
    ap (λ (r : List ℕ). drop (end - e) r) (drop_put h e l y order (omega arith) long) ∙
    drop-drop (end - e) e l ∙
    ap (λ (k : ℕ). drop k l) further in
    record { is = P.is ∙ sets-eq bs l₁ at (omega arith) ∙ (λ i. (front i ++ bs) ++ back i) ∙ sym (sets-eq bs l at fits) }
