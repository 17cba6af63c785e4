-- A run of parts of one sort, written one after the other. Assumes nothing.
use mathlib.Core.Path.{◌≡◌, refl, sym, ap, ◌∙◌}
use mathlib.Core.List.{List, []}
use mathlib.Core.Option.{none, some}
use Prim.Native.Nat.{ℕ, zero, suc, ◌+◌, ◌-◌, ◌≤◌, ◌<◌}
use native.Mathlib.Numerals.{add-one}
use native.Mathlib.Omega.{arith}
use lib.ListN.{length}
use Rattle.std.specs.Prelude.{Option, None, Some}
use Rattle.lvs_description.specs.Format.{Lists, take_number}
use Rattle.lvs_write.specs.declared.cursor.Cursor.{Cursor}
use Rattle.lvs_write.specs.Spelled.{Bytes, after, run, counted}
use Rattle.lvs_write.specs.Steps.{left, Took, Missing, Writes}
use Rattle.lvs_write.proofs.Moves.{nothing_wrote, none_wrote, wrote_as, then_wrote, chosen_wrote}
use Rattle.lvs_write.proofs.Fronts.{after_same, after_assoc, after_nothing}

module _ (f : Lists → Bytes) where
  run_last : (n : ℕ) (l : Lists) → after (run f n l) f ≡ run f (suc n) l
  unfolding run after
  run_last zero l = after_first (f l) ∙ sym (after_nothing (f l))
    where
      after_first : (o : Bytes) → after (some ([], l)) f ≡ f l
      after_first o = go (f l) refl
        where
          go : (x : Bytes) → f l ≡ x → after (some ([], l)) f ≡ f l
          go none e = rw e
          go (some x) e = rw e
  run_last (suc n) l = after_assoc (f l) (run f n) f ∙ after_same {f = f} {f' = f} (λ k. refl) (run_last n) l

  run_more : (n m : ℕ) (l : Lists) → run f n l ≡ none → n ≤ m → run f m l ≡ none
  unfolding after
  run_more n m l e h = go (m - n) m (omega arith)
    where
      go : (d k : ℕ) → k ≡ n + d → run f k l ≡ none
      go zero k q = ap (λ (x : ℕ). run f x l) (omega arith) ∙ e
      go (suc d) k q =
          let back : run f (k - 1) l ≡ none = go d (k - 1) (omega arith) in
          let up : suc (k - 1) ≡ k = omega arith in
          ap (λ (x : ℕ). run f x l) (sym up) ∙ sym (run_last (k - 1) l) ∙ after_none back
        where
          after_none : {o : Bytes} → o ≡ none → after o f ≡ none
          after_none p = rw p

  -- after so many turns
  pub record Running (before : List ℕ) (s : Cursor) (turns : ℕ) (now : List ℕ) (c : Cursor) : Type 0 where
    pub wrote : Writes (run f turns) before now s (Some c)
    pub long : length now ≡ length before

  pub running_first : (b : List ℕ) (s : Cursor) → Running b s 0 b s
  unfolding run
  running_first b s = record { wrote = nothing_wrote b s; long = refl }

  module _ {before : List ℕ} {s : Cursor} {turns : ℕ} {now : List ℕ} {c : Cursor} (R : Running before s turns now c) where
    turn_wrote : {after-it : List ℕ} {r : Option Cursor} → Writes f now after-it c r → Writes (run f (turns + 1)) before after-it s r
    turn_wrote W = wrote_as (λ l. run_last turns l ∙ ap (λ (n : ℕ). run f n l) (sym (add-one turns))) (then_wrote R.wrote W R.long)

    pub running_next : {after-it : List ℕ} {r : Cursor} → Writes f now after-it c (Some r) → length after-it ≡ length now
        → Running before s (turns + 1) after-it r
    running_next W e = record { wrote = turn_wrote W; long = e ∙ R.long }

    -- there is nothing for this turn, and so for the whole run
    pub running_stopped : (count : ℕ) {after-it : List ℕ} → turns < count → Writes f now after-it c None → Writes (run f count) before after-it s None
    running_stopped count h W = none_wrote (record { is = run_more (turns + 1) count (left s) (turn_wrote W).by_end.is (omega arith) })

  pub running_last : {before : List ℕ} {s : Cursor} {turns : ℕ} {now : List ℕ} {c : Cursor} (count : ℕ) → Running before s turns now c
      → turns ≡ count → Writes (run f count) before now s (Some c)
  running_last {before} {s} {turns} {now} {c} count R e = wrote_as (λ l. ap (λ (n : ℕ). run f n l) e) R.wrote

  -- the count, and so many
  pub counted_wrote : {before now : List ℕ} {s m : Cursor} {r : Option Cursor} {n : ℕ} → Took take_number s n m → Writes (run f n) before now m r
      → Writes (counted f) before now s r
  unfolding counted
  counted_wrote T W = chosen_wrote T (run f) (λ l. refl) W

  pub count_missed : {before now : List ℕ} {s : Cursor} → Missing take_number s → Writes (counted f) before now s None
  unfolding counted
  count_missed e = none_wrote (record { is = rw e.is })
