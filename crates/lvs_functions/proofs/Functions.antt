-- What `function_of` answers, from the comparisons that led to it. Assumes nothing.
use mathlib.Core.Path.{◌≡◌, refl, sym, ap, ◌∙◌}
use mathlib.Core.List.{List, [], ◌∷◌}
use mathlib.Core.Option.{none, some}
use mathlib.Core.Bool.{Bool, true, false}
use Prim.Native.Nat.{ℕ}
use Rattle.std.specs.Prelude.{Some, None}
use Rattle.std.proofs.Common.{nat_eq}
use Rattle.std.specs.Cmp.Lexicographic.{pointwise}
use Rattle.tlv.specs.Bytes.{same_bytes}
use Rattle.tlv.proofs.Bytes.{same_pointwise}
use Rattle.lvs_spec.specs.Verdict.{Function as Known, function_in, function_names, function_of}
use Rattle.lvs_functions.specs.Functions.{function_read}
use Rattle.lvs_functions.specs.declared.Function.TheVariants.{Eq, EqType, IsValidId, IsValidYear}

-- as `==` compares a slice with a text
pub compared : (s x text : List ℕ) {r t : Bool} → r ≡ pointwise nat_eq s x → x ≡ text → r ≡ t → same_bytes s text ≡ t
compared s x text e q f = rw (← q) (same_pointwise s x ∙ sym e ∙ f)

module _ (x : List ℕ × Known) (xs : List (List ℕ × Known)) (b : List ℕ) where
  named : same_bytes b x.0 ≡ true → function_in (x ∷ xs) b ≡ some x.1
  unfolding function_in
  named e = rw (e, function_in)

  not_named : same_bytes b x.0 ≡ false → function_in (x ∷ xs) b ≡ function_in xs b
  unfolding function_in
  not_named e = rw (e, function_in)

none_left : (b : List ℕ) → function_in [] b ≡ none
unfolding function_in
none_left b = refl

-- the four names: $eq, $eq_type, $isValidID, $isValidYear
abbrev pub eq_name : List ℕ
eq_name = 36 ∷ 101 ∷ 113 ∷ []

abbrev pub eq_type_name : List ℕ
eq_type_name = 36 ∷ 101 ∷ 113 ∷ 95 ∷ 116 ∷ 121 ∷ 112 ∷ 101 ∷ []

abbrev pub id_name : List ℕ
id_name = 36 ∷ 105 ∷ 115 ∷ 86 ∷ 97 ∷ 108 ∷ 105 ∷ 100 ∷ 73 ∷ 68 ∷ []

abbrev year_name : List ℕ
year_name = 36 ∷ 105 ∷ 115 ∷ 86 ∷ 97 ∷ 108 ∷ 105 ∷ 100 ∷ 89 ∷ 101 ∷ 97 ∷ 114 ∷ []

-- each answer from the comparisons that led to it
module _ (b : List ℕ) where
  pub is_eq : same_bytes b eq_name ≡ true → Some Eq ≡ function_read (function_of b)
  unfolding function_of function_names
  is_eq p = sym (ap function_read (named _ _ b p))

  module _ (p : same_bytes b eq_name ≡ false) where
    pub is_eq_type : same_bytes b eq_type_name ≡ true → Some EqType ≡ function_read (function_of b)
    unfolding function_of function_names
    is_eq_type q = sym (ap function_read (not_named _ _ b p ∙ named _ _ b q))

    module _ (q : same_bytes b eq_type_name ≡ false) where
      pub is_id : same_bytes b id_name ≡ true → Some IsValidId ≡ function_read (function_of b)
      unfolding function_of function_names
      is_id r = sym (ap function_read (not_named _ _ b p ∙ not_named _ _ b q ∙ named _ _ b r))

      module _ (r : same_bytes b id_name ≡ false) where
        pub is_year : same_bytes b year_name ≡ true → Some IsValidYear ≡ function_read (function_of b)
        unfolding function_of function_names
        is_year s = sym (ap function_read (not_named _ _ b p ∙ not_named _ _ b q ∙ not_named _ _ b r ∙ named _ _ b s))

        pub is_none_of_them : same_bytes b year_name ≡ false → None ≡ function_read (function_of b)
        unfolding function_of function_names
        is_none_of_them s =
            sym (ap function_read (not_named _ _ b p ∙ not_named _ _ b q ∙ not_named _ _ b r ∙ not_named _ _ b s ∙ none_left b))
