-- What a turn of `count_of_type` keeps, and what its answers are. Assumes nothing.
use mathlib.Core.Path.{◌≡◌, refl, sym, ap, ◌∙◌}
use mathlib.Core.Logic.{inl}
use mathlib.Core.Bool.{true, false}
use mathlib.Core.List.{List}
use mathlib.Core.Option.{Option, none, some}
use Prim.Native.Nat.{ℕ, ◌+◌, ◌<◌}
use native.Mathlib.Omega.{arith}
use lib.ListN.{length, drop}
use Rattle.tlv.specs.Element.{Element, done, broken, cuts, also, split}
use Rattle.tlv.specs.Lists.{is_some}
use Rattle.tlv.specs.Fields.{insides}
use Rattle.tlv.specs.declared.Place.{Place}
use Rattle.tlv.proofs.Cuts.{Step, split_end, split_broken, split_next}
use Rattle.tlv.proofs.Gathered.{Stop, insides_found, insides_other, insides_stop, insides_most, Gathered, counted, started, took, passed, ended, one_left}
use Rattle.std.specs.declared.option.Option.TheVariants.{Some, None}
use Rattle.tlv_reader.specs.Count.{count_of}

-- n elements of type t stand before `at`, and the rest is elements and nothing else where the whole is
pub record Counted (s : List ℕ) (t at n : ℕ) : Type 0 where
  pub before : Gathered counted (insides t) s at n
  pub rest : is_some (split (drop at s)) ≡ is_some (split s)

pub none_counted : {s : List ℕ} {t : ℕ} → Counted s t 0 0
none_counted = record { before = started; rest = refl }

also_some : (e : Element) (o : Option (List Element)) → is_some (also e o) ≡ is_some o
also_some e none = refl
also_some e (some es) = refl

module _ {s : List ℕ} {t at n : ℕ} (c : Counted s t at n) where
  module _ {kind start stop : ℕ} {p : Place} (st : Step s at kind start stop p) where
    rest_later : is_some (split (drop p.at s)) ≡ is_some (split s)
    rest_later = sym (ap is_some (split_next (drop at s) (drop p.at s) _ st.cut_is) ∙ also_some _ (split (drop p.at s))) ∙ c.rest

    pub room : kind ≡ t → n < length s
    room e = omega (arith, one_left c.before (insides_found t st e), insides_most t s)

    pub one_more : kind ≡ t → Counted s t p.at (n + 1)
    one_more e = record { before = took c.before (insides_found t st e) refl; rest = rest_later }

    pub no_more : (kind ≡ t → ⊥) → Counted s t p.at n
    no_more e = record { before = passed c.before (insides_other t st e); rest = rest_later }

  pub counted_end : cuts (drop at s) ≡ done → Some n ≡ count_of t s
  unfolding count_of
  counted_end e =
      let w : is_some (split s) ≡ true = sym c.rest ∙ ap is_some (split_end (drop at s) e) in
      let stop : Stop s at = record { cut_is = inl e } in
      rw w (ap Some (ended c.before (insides_stop t stop)))

  pub counted_broken : cuts (drop at s) ≡ broken → None ≡ count_of t s
  unfolding count_of
  counted_broken e = let w : is_some (split s) ≡ false = sym c.rest ∙ ap is_some (split_broken (drop at s) e) in rw w
