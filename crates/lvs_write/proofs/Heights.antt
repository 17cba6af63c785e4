-- How deep a container is, for the calls of the cycle to end: each call is of something less high. Assumes nothing.
use Prim.Native.Nat.{ℕ, ◌+◌, ◌*◌}
use Rattle.lvs_write.specs.declared.parts.Container.{Container}
use Rattle.lvs_write.specs.declared.parts.Part.{Part}

abbrev pub height : Container → ℕ
height Container.Node = 5
height Container.PatternEdge = 4
height Container.Constraint = 3
height Container.ConstraintOption = 2
height Container.Call = 1
height Container.Symbol = 0
height Container.Argument = 0

-- a term may be a call
abbrev pub weight : Part → ℕ
weight Part.RuleName = 0
weight Part.Signer = 0
weight Part.Term = 14
weight Part.ValueEdge = 0
weight (Part.Nested c) = 8 * height c + 5
