-- A state of the code: how many items of a container's order are done with. Definitions only.
use Rattle.std.specs.Prelude.{ℕ, ◌≡◌, cond, ◌&&◌, List, leb, drop, Option as Answer, Some, None}
use Rattle.std.proofs.Math.Option.{Option, none, some}
use Rattle.lvs_spec.specs.Grammar.{Kind, Item, order}

-- the items left in a container of kind k
abbrev pub left_behind : Kind → Answer ℕ → Option (List Item)
left_behind k None = none
left_behind k (Some q) = some (drop q (order k))

-- an element that may stand in the states from lo to hi, and the state after it
unfoldable pub slotted : ℕ → ℕ → ℕ → ℕ → Answer ℕ
slotted q lo hi next = cond (leb lo q && leb q hi) (Some next) None

pub record Slotted (q lo hi next : ℕ) (r : Answer ℕ) : Type 0 where
  pub is : r ≡ slotted q lo hi next
