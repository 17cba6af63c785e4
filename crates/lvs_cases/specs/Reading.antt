-- The bytes that a reader of cases has still to give.
use Rattle.std.specs.Prelude.{ℕ, List, length, ◌++◌, slice_range}
use Rattle.std.specs.declared.option.Option.{Option}
use Rattle.std.specs.Int.{to_be_bytes, w32}
use Rattle.std.specs.Io.KnownBytes.{prepend_known}
use Rattle.lvs_cases.specs.declared.input.CaseReader.{CaseReader}

-- the bytes that are read and not taken yet
abbrev pub ahead_bytes : {R : Type 0} → CaseReader R → List ℕ
ahead_bytes r = slice_range r.ahead r.at r.end

-- these, and then the source's bytes, where those are known
abbrev pub left : {R : Type 0} → (R → Option (List ℕ)) → CaseReader R → Option (List ℕ)
left remaining r = prepend_known (ahead_bytes r) (remaining r.source)

-- a field of these bytes
abbrev pub field_of : List ℕ → List ℕ
field_of bytes = to_be_bytes w32 (length bytes) ++ bytes
