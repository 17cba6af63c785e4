-- The describing call's answer and the lists after it, from what putting the model did. Assumes nothing.
use mathlib.Core.Path.{◌≡◌, refl, sym, ap, ◌∙◌}
use mathlib.Core.Bool.{Bool, true, false, ◌&&◌}
use mathlib.Core.List.{List, ◌++◌}
use Prim.Native.Nat.{ℕ, ◌+◌, ◌-◌, ◌≤◌}
use native.Mathlib.Omega.{arith}
use borrow.Author.Tests.{leb-true, le-leb}
use lib.Dec.{leb}
use lib.ListN.{length, take, drop, take-append-drop}
use Rattle.std.specs.Prelude.{Option, None, Some}
use Rattle.lvs_spec.specs.Model.{Model}
use Rattle.lvs_description.specs.Format.{Lists}
use Rattle.lvs_description.specs.Description.{lists_of, numbers_of, texts_of}
use Rattle.lvs_description.specs.Answers.{on_front}
use Rattle.lvs_describe.specs.Lent.{Fits, Put, Lent, Describes}
use Rattle.lvs_describe.specs.Answers.{described}
use Rattle.lvs_describe.specs.declared.Lengths.{Lengths}
use Rattle.lvs_describe.specs.declared.output.Output.{Output}

-- what was put from the front on
on_front_lem : {at : ℕ} {xs before now : List ℕ} → at ≡ 0 → Put at xs before now → now ≡ on_front xs before
on_front_lem {at} {xs} {before} {now} e p =
    let n : at + length xs ≡ length xs = omega arith in
    let f : take (length xs) now ≡ xs = sym (ap (λ (i : ℕ). take i now) n) ∙ p.front ∙ rw e in
    let g : drop (length xs) now ≡ drop (length xs) before = sym (ap (λ (i : ℕ). drop i now) n) ∙ p.back ∙ ap (λ (i : ℕ). drop i before) n in
    sym (take-append-drop (length xs) now) ∙ (λ i. f i ++ g i)

lent_front : {left : ℕ} {xs before now : List ℕ} → left ≡ length before → Lent left xs before now → now ≡ on_front xs before
lent_front e p = on_front_lem (omega arith) (p.put (omega arith))

and-true : (a b : Bool) → (a && b) ≡ true → (a ≡ true) × (b ≡ true)
and-true true b e = (refl, e)
and-true false b e = let z : ◌≡◌ {A = Bool} false true = e in absurd (let q : ◌≡◌ {A = ℕ} 0 1 = cc in omega arith)

-- the state before: as much may be put as the lists that are described have
pub record Begins (ns ts : List ℕ) (s : Output) : Type 0 where
  pub numbers_all : s.numbers_left ≡ length ns
  pub texts_all : s.texts_left ≡ length ts

module _ (m : Model) (ns ts : List ℕ) where
  abbrev fit : Bool
  fit = leb (length (numbers_of m)) (length ns) && leb (length (texts_of m)) (length ts)

  abbrev l : Lists
  l = lists_of m

  fitting : {s : Output} → Begins ns ts s → fit ≡ true → Fits (lists_of m) s
  unfolding numbers_of texts_of
  fitting B e =
      let both = and-true (leb (length (numbers_of m)) (length ns)) _ e in
      let n : length (numbers_of m) ≤ length ns = leb-true _ _ both.0 in
      let t : length (texts_of m) ≤ length ts = leb-true _ _ both.1 in
      record { numbers_fit = omega (arith, n, B.numbers_all); texts_fit = omega (arith, t, B.texts_all) }

  pub too_short : {s s' : Output} → Begins ns ts s → Describes (lists_of m) s s' None → record { answer = None; numbers = ns; texts = ts } ≡ described m ns ts
  unfolding described
  too_short {s} B d = go fit refl
    where
      go : (t : Bool) → fit ≡ t → record { answer = None; numbers = ns; texts = ts } ≡ described m ns ts
      go true e = absurd (d.by_room (fitting B e))
      go false e = rw e

  -- counted from s to s', and put from a to b
  module _ {s s' a : Output} (S : Begins ns ts s) (d : Describes (lists_of m) s s' (Some tt)) (A : Begins ns ts a) (p : a.numbers.now ≡ ns)
      (q : a.texts.now ≡ ts) where
    numbers_size : length ns - s'.numbers_left ≡ length l.numbers
    numbers_size = omega (arith, d.by_room.numbers_taken, S.numbers_all)

    texts_size : length ts - s'.texts_left ≡ length l.texts
    texts_size = omega (arith, d.by_room.texts_taken, S.texts_all)

    fits : fit ≡ true
    unfolding numbers_of texts_of
    fits =
        let n : length l.numbers ≤ length ns = omega (arith, d.by_room.numbers_taken, S.numbers_all) in
        let t : length l.texts ≤ length ts = omega (arith, d.by_room.texts_taken, S.texts_all) in
        rw (le-leb _ _ n, le-leb _ _ t)

    -- the answer
    abbrev sizes : Lengths
    sizes = record { numbers = length ns - s'.numbers_left; texts = length ts - s'.texts_left }

    pub all_put : {b : Output} {r : Option (Unit {0})} {x y : List ℕ} → Describes l a b r → x ≡ b.numbers.now → y ≡ b.texts.now
        → record { answer = Some sizes; numbers = x; texts = y } ≡ described m ns ts
    unfolding described numbers_of texts_of
    all_put {b} {r} {x} {y} f g h = (λ i. record { answer = Some sizes; numbers = g i; texts = h i }) ∙ go r f
      where
        go : (o : Option (Unit {0})) → Describes l a b o → record { answer = Some sizes; numbers = b.numbers.now; texts = b.texts.now } ≡ described m ns ts
        go None f = absurd (f.by_room (fitting A fits))
        go (Some x) f =
            let n : b.numbers.now ≡ on_front l.numbers ns = lent_front (A.numbers_all ∙ ap length (sym p)) f.by_room.numbers_are ∙ ap (on_front l.numbers) p in
            let t : b.texts.now ≡ on_front l.texts ts = lent_front (A.texts_all ∙ ap length (sym q)) f.by_room.texts_are ∙ ap (on_front l.texts) q in
            rw fits (λ i. record { answer = Some (record { numbers = numbers_size i; texts = texts_size i }); numbers = n i; texts = t i })
