-- Eight bytes are those of the number that they stand for.
use Rattle.std.proofs.Common.{◌≡◌, ℕ, ◌<◌, length, get_or, subst, sym, rules}
use Rattle.std.specs.Int.{to_be_bytes, w64}
use Rattle.std.specs.Io.KnownBytes.{Consumes}
use Rattle.std.proofs.lemmas.List.{places}
use Rattle.std.proofs.lemmas.Nat.{be_bytes_8}
use Rattle.lvs_cases.specs.Reading.{left}
use Rattle.lvs_cases.proofs.fields.U64Number.take.Goals as goal

pub returns : goal.returns
returns g c =
    let bs = c.in_ok-array.field-0 in
    let long : length bs ≡ 8 = search rules in
    let fits : (i : ℕ) → get_or bs i 0 < 256 = search (rules, places) in
    let same : to_be_bytes w64 c.from_be_bytes.result ≡ bs = be_bytes_8 bs _ long fits c.from_be_bytes.ensures in
    subst (Consumes (left g.R.Read.remaining c.args.input.now) (left g.R.Read.remaining c.array.new.self)) (sym same) c.in_ok-array.ensures
