-- `lvs_names::read_name` meets its contract: the tests that led to each return say what `name_reading` is. Assumes nothing.
use Rattle.std.proofs.Common.{◌∙◌, refl, sym}
use Rattle.lvs_names.proofs.Names.{too_long_lem, no_name, many_components, good_components_lem}
use Rattle.lvs_names.proofs.read_name.Goals as goal

pub returns-then-name-gt-MAX_NAME_BYTES : goal.returns-then-name-gt-MAX_NAME_BYTES
returns-then-name-gt-MAX_NAME_BYTES c = record { is = sym (too_long_lem _ _ c.if-name-gt-MAX_NAME_BYTES.true); counts = refl }

pub returns-in_default : goal.returns-in_default
returns-in_default c = record { is = sym (no_name _ _ c.if-name-gt-MAX_NAME_BYTES.false (sym c.components.ensures ∙ c.in_default.is)); counts = refl }

pub returns-then-row-gt-MAX_COMPONENTS : goal.returns-then-row-gt-MAX_COMPONENTS
returns-then-row-gt-MAX_COMPONENTS c =
    record {
      is = sym (many_components _ _ c.if-name-gt-MAX_NAME_BYTES.false (sym c.components.ensures ∙ c.in-Some.is) c.if-row-gt-MAX_COMPONENTS.true);
      counts = refl;
    }

pub returns : goal.returns
returns c =
    let read = good_components_lem _ _ c.if-name-gt-MAX_NAME_BYTES.false (sym c.components.ensures ∙ c.in-Some.is) c.if-row-gt-MAX_COMPONENTS.false in
    record { is = read.0; counts = read.1 }
