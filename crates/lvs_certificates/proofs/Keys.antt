-- Entries as key names: whether they are fit, and whether they may sign. Assumes nothing.
use Prim.Native.Nat.{ℕ, ◌≤◌}
use mathlib.Core.Path.{◌≡◌, refl, sym, ap, ◌∙◌}
use mathlib.Core.Bool.{true, false}
use mathlib.Core.List.{List, append-nil}
use mathlib.Core.Option.{Option, none, some}
use lib.ListN.{length}
use Rattle.std.specs.Prelude.{Option as Answer, Some, None, is_some, Result, Ok, Err, is_err}
use Rattle.tlv.specs.Bytes.{Bytes}
use Rattle.tlv.specs.Lists.{first}
use Rattle.tlv.specs.Element.{element_bytes}
use Rattle.tlv.proofs.RoundTrip.{element_bytes_lem}
use Rattle.lvs_spec.specs.Limits.{max_name_bytes}
use Rattle.lvs_spec.specs.Model.{Model, component_of}
use Rattle.lvs_spec.specs.Names.{Component, NameReading, bad_name, good_name, name_reading, packet_name, key_name}
use Rattle.lvs_spec.specs.Walk.{Pair, pairs}
use Rattle.lvs_spec.specs.Answers.{SignOutcome, pair_found}
use Rattle.lvs_spec.specs.Certificates.{is_bad, unfit, is_allowed, roomy, allows}
use Rattle.lvs_spec.specs.declared.refusal.Refusal.{Refusal}
use Rattle.lvs_spec.specs.declared.refusal.Side.TheVariants.{Key}
use Rattle.lvs_spec.proofs.Lists.{clash}
use Rattle.lvs_spec.proofs.Names.{good_short}
use Rattle.lvs_spec.proofs.Inputs.{roomy_enough}
use Rattle.lvs_spec.proofs.Signing.{signs_first}
use Rattle.lvs_names.specs.Rows.{row_from}
use Rattle.lvs_names.specs.Answers.{name_read, NameOf}
use Rattle.lvs_names.specs.declared.Row.{Row}
use Rattle.lvs_bindings.specs.declared.Span.{Span}
use Rattle.lvs_names.specs.Alone.{Alone}
use Rattle.lvs_names.proofs.Names.{good_row}
use Rattle.lvs_walk.specs.Calls.{FirstPair}
use Rattle.lvs_walk.specs.declared.goal.Pair.{Pair as Nodes}
use Rattle.lvs_walk.proofs.Answers.{no_pair, some_pair}

pub unfit_broken : unfit none ≡ true
unfolding unfit
unfit_broken = refl

pub packet_short : (packet : List ℕ) {ps : List Component} → good_name ps ≡ packet_name packet → length packet ≤ max_name_bytes
unfolding packet_name
packet_short packet good = good_short 21 packet (sym good)

-- a rest that cannot be cut may not sign
pub broken_not_allowed : (m : Model) (packet : List ℕ) → allows m packet none ≡ false
unfolding allows
broken_not_allowed m packet = refl

-- the key's components start behind its header
pub record GoodKey (b : List ℕ) (h : ℕ) : Type 0 where
  pub row : key_name b ≡ good_name (row_from b h)
  pub short : length b ≤ max_name_bytes

module _ {b : List ℕ} {h : ℕ} (bytes : Bytes b) (one : Alone b h) where
  pub whole_is : element_bytes (component_of b) ≡ b
  whole_is = sym (append-nil (element_bytes (component_of b))) ∙ element_bytes_lem b bytes one.is

  refused_is : (r : Result Row Refusal) → is_bad (name_read b r) ≡ is_err r
  refused_is (Ok row) = refl
  refused_is (Err x) = refl

  -- unfit is what is refused
  pub unfit_is : {r : Result Row Refusal} → NameOf Key b r → is_err r ≡ unfit (some (component_of b))
  unfolding unfit key_name
  unfit_is {r} of = sym (rw (whole_is, ← of.is) (refused_is r))

  -- what is not is a good key name
  pub good_key : unfit (some (component_of b)) ≡ false → GoodKey b h
  unfolding unfit key_name
  good_key fit = go (name_reading 24 b) refl (rw whole_is at fit)
    where
      go : (r : NameReading) → name_reading 24 b ≡ r → is_bad r ≡ false → GoodKey b h
      go (bad_name x) e f = clash (cc)
      go (good_name cs) e f = record { row = sym (good_row b 24 e one.is); short = good_short 24 b e }

  -- it may sign where the search found a pair
  module _ (packet : List ℕ) {m : Model} {ps : List Component} {r : Answer Nodes} {path after : List ℕ} {slots : List (Answer Span)}
      (good : good_name ps ≡ packet_name packet) (k : GoodKey b h) (found : FirstPair m ps (row_from b h) packet b path r slots after) where
    allows_is : {o : Option Pair} → first (pairs m ps (row_from b h)) ≡ o
        → allows m packet (some (component_of b)) ≡ is_allowed (pair_found o roomy).answer
    unfolding allows
    allows_is e =
        let room = (roomy_enough packet b).enough ps (row_from b h) (sym good) k.row in
        let signs = signs_first m packet b roomy (sym good) k.row room ∙ ap (λ o. pair_found o roomy) e in
        rw whole_is (ap (λ (o : SignOutcome). is_allowed o.answer) signs)

    pub allows_found : allows m packet (some (component_of b)) ≡ is_some r
    unfolding pair_found
    allows_found = go r refl
      where
        go : (a : Answer Nodes) → r ≡ a → allows m packet (some (component_of b)) ≡ is_some a
        go (Some x) e = let (z, p, _) = some_pair found e in allows_is p
        go None e = allows_is (no_pair found e)
