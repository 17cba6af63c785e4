-- What has been taken behind the length is the bytes of the numbers so far.
use Rattle.std.proofs.Common.{take, flat_map}
use Rattle.std.specs.Io.KnownBytes.{Consumes}
use Rattle.lvs_cases.specs.Reading.{left}
use Rattle.lvs_cases.proofs.input.CaseReader.numbers.Given as goal

abbrev pub invariant-loop-x : goal.invariant-loop-x
invariant-loop-x g l =
    Consumes (left g.R.Read.remaining l.initial.self) (left g.R.Read.remaining l.self) (flat_map g.T.Number.bytes (take l.x-index l.part))
