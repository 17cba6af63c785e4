-- What putting a part of a description does to the two lent lists, and to what may still be put into them. Definitions only.
use Rattle.std.specs.Prelude.{ℕ, ◌+◌, ◌-◌, ◌≤◌, ◌≡◌, List, ◌++◌, length, take, drop, Option, MatchOption}
use Rattle.lvs_description.specs.Format.{Lists}
use Rattle.lvs_describe.specs.declared.output.Output.{Output}

-- a part fits what may still be put
pub record Fits (l : Lists) (s : Output) : Type 0 where
  pub numbers_fit : length l.numbers ≤ s.numbers_left
  pub texts_fit : length l.texts ≤ s.texts_left

-- xs stand in `now` from `at` on, behind what stood in front of them; what is behind them stays
pub record Put (at : ℕ) (xs before now : List ℕ) : Type 0 where
  pub front : take (at + length xs) now ≡ take at before ++ xs
  pub back : drop (at + length xs) now ≡ drop (at + length xs) before

-- xs were put where the last `left` entries of a list begin. Where it has fewer, what it holds is left open.
pub record Lent (left : ℕ) (xs before now : List ℕ) : Type 0 where
  pub kept : length now ≡ length before
  pub put : left ≤ length before → Put (length before - left) xs before now

-- l was put, between two states
pub record Wrote (l : Lists) (before now : Output) : Type 0 where
  pub numbers_taken : now.numbers_left + length l.numbers ≡ before.numbers_left
  pub texts_taken : now.texts_left + length l.texts ≡ before.texts_left
  pub numbers_are : Lent before.numbers_left l.numbers before.numbers.now now.numbers.now
  pub texts_are : Lent before.texts_left l.texts before.texts.now now.texts.now

-- THE CONTRACT OF EVERY FUNCTION HERE: l was put, between two states of the same lists; or it does not fit
pub record Describes (l : Lists) (before now : Output) (r : Option (Unit {0})) : Type 0 where
  pub same_numbers : now.numbers.ghost_name ≡ before.numbers.ghost_name
  pub same_texts : now.texts.ghost_name ≡ before.texts.ghost_name
  pub by_room : MatchOption r (Fits l before → ⊥) (λ _. Wrote l before now)
