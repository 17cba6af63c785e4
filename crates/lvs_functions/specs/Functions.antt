-- What the code answers for a function's name: the enum, read from the definition.
use Rattle.std.specs.Prelude.{Option as Answer, Some, None}
use Rattle.std.proofs.Math.Option.{Option, none, some}
use Rattle.lvs_spec.specs.Verdict.{Function as Known, eq, eqType, isValidId, isValidYear}
use Rattle.lvs_functions.specs.declared.Function.{Function}
use Rattle.lvs_functions.specs.declared.Function.TheVariants.{Eq, EqType, IsValidId, IsValidYear}

abbrev pub function_read : Option Known → Answer Function
function_read none = None
function_read (some eq) = Some Eq
function_read (some eqType) = Some EqType
function_read (some isValidId) = Some IsValidId
function_read (some isValidYear) = Some IsValidYear

abbrev pub known_of : Function → Known
known_of Eq = eq
known_of EqType = eqType
known_of IsValidId = isValidId
known_of IsValidYear = isValidYear
