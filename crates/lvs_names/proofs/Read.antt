-- What was read of a name, for callers. Assumes nothing.
use Prim.Native.Nat.{ℕ, ◌≤◌}
use mathlib.Core.Path.{◌≡◌, sym, ap, ◌∙◌, subst}
use mathlib.Core.List.{List}
use native.Mathlib.Omega.{arith}
use lib.ListN.{length}
use Rattle.std.specs.Prelude.{Result, Ok, Err}
use Rattle.lvs_spec.specs.Limits.{max_components}
use Rattle.lvs_spec.specs.Names.{bad_name, good_name, name_reading}
use Rattle.lvs_spec.proofs.Names.{good_few}
use Rattle.lvs_names.specs.Rows.{row_from}
use Rattle.lvs_spec.specs.Answers.{plain}
use Rattle.lvs_spec.specs.Refusals.{first_refusal, refusal_of}
use Rattle.lvs_spec.specs.declared.refusal.Side.{Side}
use Rattle.lvs_spec.specs.declared.refusal.Refusal.{Refusal}
use Rattle.lvs_names.specs.Answers.{name_read, Counts, NameOf}
use Rattle.lvs_names.specs.declared.Row.{Row}

module _ {side : Side} {name : List ℕ} {r : Result Row Refusal} (of : NameOf side name r) where
  module _ {x : Refusal} (e : r ≡ Err x) where
    pub read_bad : bad_name (refusal_of x).number ≡ name_reading (first_refusal side) name
    read_bad = sym (ap (name_read name) e) ∙ of.is

    pub read_plain : refusal_of x ≡ plain (refusal_of x).number
    read_plain = let none : (refusal_of x).at ≡ 0 = subst (Counts name) e of.counts in λ i. record { number = (refusal_of x).number; at = none i }

  module _ {row : Row} (e : r ≡ Ok row) where
    pub read_good : good_name (row_from name row.start) ≡ name_reading (first_refusal side) name
    read_good = sym (ap (name_read name) e) ∙ of.is

    pub read_count : length (row_from name row.start) ≡ row.count
    read_count = subst (Counts name) e of.counts

    pub read_few : row.count ≤ max_components
    read_few = omega (arith, read_count, good_few (first_refusal side) name (sym read_good))
