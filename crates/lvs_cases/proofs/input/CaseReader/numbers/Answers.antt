-- Each turn takes the bytes of one more number, and all of them are as many as the length says.
use Rattle.std.proofs.Common.{◌≡◌, ◌<◌, ◌*◌, ◌/◌, ◌%◌, ◌++◌, length, take, flat_map, take_all, sym, ap, ◌∙◌, subst, arith, rules}
use Rattle.std.specs.Int.{to_be_bytes, w32}
use Rattle.std.specs.Io.KnownBytes.{Consumes}
use Rattle.std.proofs.lemmas.Nat.{div-add-mod'}
use Rattle.std.proofs.KnownBytes.{Consumes-trans}
use Rattle.lvs_cases.specs.Reading.{left}
use Rattle.lvs_cases.proofs.Numbers.{more, total}
use Rattle.lvs_cases.proofs.input.CaseReader.numbers.Goals as goal

pub loop-x-preserved : goal.loop-x-preserved
loop-x-preserved g c =
    let rest = left g.R.Read.remaining in
    let below : c.loop-x.x-index < length c.loop-x.part = omega arith in
    subst (Consumes (rest c.size.new.self) (rest c.take.new.input)) (sym (more g.T.Number.bytes c.loop-x.part c.loop-x.x-index c.in_ok-x.field-0 below))
    (Consumes-trans _ _ _ _ _ c.loop-x.invariant c.in_ok-x.ensures)

pub returns-clause-bytes : goal.returns-clause-bytes
returns-clause-bytes g c =
    let rest = left g.R.Read.remaining in
    let bytes = g.T.Number.bytes in
    let part = c.loop-x.part in
    let each = g.T.Number.SIZE in
    let count : length part ≡ c.in_ok-size.size / each = search rules in
    let none : c.in_ok-size.size % each ≡ 0 = search rules in
    let quotient : c.in_ok-size.size / each * each ≡ c.in_ok-size.size = omega (arith, div-add-mod' c.in_ok-size.size each) in
    let size : length (flat_map bytes part) ≡ c.in_ok-size.size =
    total bytes each g.met.T.Number.sized part ∙ ap (λ n. n * each) count ∙ quotient in
    let all : take c.loop-x.x-index part ≡ part = take_all c.loop-x.x-index part (omega arith) in
    let taken = subst (λ l. Consumes (rest c.size.new.self) (rest c.loop-x.self) (flat_map bytes l)) all c.loop-x.invariant in
    subst (λ n. Consumes (rest c.args.self.now) (rest c.loop-x.self) (to_be_bytes w32 n ++ flat_map bytes part)) (sym size)
    (Consumes-trans _ _ _ _ _ c.in_ok-size.ensures taken)
