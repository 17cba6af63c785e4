-- The code's faults as those of lvs_spec. Definitions only.
use Rattle.std.specs.Prelude.{ℕ, Result, Ok, Err}
use Rattle.std.proofs.Math.Option.{Option, none, some}
use Rattle.lvs_grammar.specs.declared.faults.Fault.{Fault}

abbrev pub fault_of : Result (Unit {0}) Fault → Option ℕ
fault_of (Ok u) = none
fault_of (Err fault) = some fault.place
