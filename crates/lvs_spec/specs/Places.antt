-- Where bytes are malformed (docs/format.md, 5.3): the place of the first fault in the order of the file, an element's header before its inside and
-- that before the next element. It is where the innermost element at fault starts, or the end of the container in which an element is missing.
use Rattle.std.specs.Prelude.{ℕ, zero, suc, ◌+◌, Bool, true, false, cond, List, eqb, length}
use Rattle.std.proofs.Math.Option.{Option, none, some}
use Rattle.tlv.specs.Lists.{or_else}
use Rattle.tlv.specs.Element.{Element, First, end, malformed, first, element}
use Rattle.lvs_spec.specs.Grammar.{Kind, Leaf, Known, Item, meaning, order, step, final, model, leaf, container, optional, critical, known}
use Rattle.lvs_spec.specs.Grammar.{version, integer, value, text, functionId}
use Rattle.lvs_spec.specs.Leaves.{is_component, leaf_in}
use Rattle.lvs_spec.specs.WellFormed.{depth}

-- where a test that must pass fails
abbrev pub must : Bool → ℕ → Option ℕ
must true place = none
must false place = some place

-- a place that was counted from `start`
abbrev pub from : ℕ → Option ℕ → Option ℕ
from start none = none
from start (some p) = some (start + p)

-- ---- elements and their places

-- bytes cut into elements, as by `cuts`, with their places: they end at a place, or break off there, or an element is there, whose inside has a
-- start of its own, and they go on
pub data Placed : Type 0 where
  ends : (at : ℕ) → Placed
  breaks : (at : ℕ) → Placed
  item : (at start : ℕ) (e : Element) (rest : Placed) → Placed

-- `go` cuts what comes after the first element, from its place on
abbrev pub placed_from : ℕ → First → (ℕ → List ℕ → Placed) → Placed
placed_from at end go = ends at
placed_from at malformed go = breaks at
placed_from at (first h e rest) go = item at (at + h) e (go (at + h + length e.inside) rest)

-- an element takes a byte or more, so one more than the length is enough to count down from
unfoldable pub placed_by : ℕ → ℕ → List ℕ → Placed
placed_by zero at b = breaks at
placed_by (suc k) at b = placed_from at (element b) (λ p rest. placed_by k p rest)

-- the first byte has the place `at`
unfoldable pub placed : ℕ → List ℕ → Placed
placed at b = placed_by (suc (length b)) at b

-- ---- the place of the first fault

-- in the inside of a Value, counted from there: its component is missing or none, or something comes after it
unfoldable pub value_fault : First → Option ℕ
value_fault end = some 0
value_fault malformed = some 0
value_fault (first h e rest) = cond (is_component e) (must (eqb (length rest) 0) (h + length e.inside)) (some 0)

-- in an element of plain bytes b that is at a place, and its inside has this start, in a container of kind k
unfoldable pub leaf_fault : Kind → Leaf → (at start : ℕ) → List ℕ → Option ℕ
leaf_fault k version at start b = must (leaf_in k version b) at
leaf_fault k integer at start b = must (leaf_in k integer b) at
leaf_fault k value at start b = from start (value_fault (element b))
leaf_fault k text at start b = must (leaf_in k text b) at
leaf_fault k functionId at start b = must (leaf_in k functionId b) at

module _ (inner : Kind → List ℕ → Option ℕ) (k : Kind) where
  -- in an element that holds what w says; `inner` counts from the inside of a container
  unfoldable pub inside_fault : Known → (at start : ℕ) → List ℕ → Option ℕ
  inside_fault (leaf l) at start b = leaf_fault k l at start b
  inside_fault (container j) at start b = from start (inner j b)

  -- in the rest of a container of kind k, of whose order these items are left
  unfoldable pub fault_from : List Item → Placed → Option ℕ
  fault_from items (ends at) = must (final items) at
  fault_from items (breaks at) = some at
  fault_from items (item at start e rest) =
      elim (meaning e.type) [
        | optional ↦ fault_from items rest
        | critical ↦ some at
        | known w ↦ elim (step items e.type) [ none ↦ some at | some left ↦ or_else (inside_fault w at start e.inside) (fault_from left rest) ]
      ]

-- in the inside of a container of kind k, counted from there; n bounds the depth
unfoldable pub fault_by : ℕ → Kind → List ℕ → Option ℕ
fault_by zero k b = some 0
fault_by (suc n) k b = fault_from (fault_by n) k (order k) (placed 0 b)

-- the place of a model's first fault. There is one exactly where it is not well formed (proofs/Places.antt)
unfoldable pub fault_place : List ℕ → Option ℕ
fault_place b = fault_by depth model b
