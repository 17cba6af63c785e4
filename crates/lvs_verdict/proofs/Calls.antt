-- What the definitions come to, by what the callees answered. Assumes nothing.
use Prim.Native.Nat.{ℕ}
use mathlib.Core.Path.{◌≡◌, sym, ap, subst, ◌∙◌}
use Rattle.std.specs.Prelude.{Result, Ok, Err}
use mathlib.Core.List.{List}
use Rattle.lvs_spec.specs.Model.{Model, model_of}
use Rattle.lvs_spec.specs.Verdict.{Verdict, unreadable, describes, reading, judge, verdict}
use Rattle.lvs_spec.specs.Names.{bad_name, good_name, name_reading, packet_name, key_name}
use Rattle.lvs_spec.specs.Answers as answers
use Rattle.lvs_spec.specs.Answers.{plain, bad, good, input_names, inputs_in, inputs}
use Rattle.lvs_spec.proofs.Names.{good_short}
use Rattle.lvs_spec.proofs.Usable.{accepted_usable, refused_unusable}
use Rattle.lvs_names.specs.Rows.{row_from}
use Rattle.lvs_spec.specs.Refusals.{first_refusal, refusal_of}
use Rattle.lvs_spec.specs.declared.refusal.Side.{Side}
use Rattle.lvs_spec.specs.declared.refusal.Side.TheVariants.{Packet, Key}
use Rattle.lvs_spec.specs.declared.refusal.Refusal.{Refusal}
use Rattle.lvs_names.specs.Answers.{NameOf}
use Rattle.lvs_names.specs.declared.Row.{Row}
use Rattle.lvs_names.proofs.Read.{read_plain, read_good, read_count, read_few}
use Rattle.lvs_verdict.specs.Answers.{RowOf, GoodInputs, InputsOf}
use Rattle.lvs_verdict.specs.declared.Inputs.{Inputs}

-- ---- the verdict

pub verdict_unreadable : (b : List ℕ) {r i : ℕ} → reading b ≡ unreadable r i → verdict b ≡ Verdict.refused r i
unfolding verdict
verdict_unreadable b e = rw (e, verdict)

pub verdict_judged : (b : List ℕ) {m : Model} {v : Verdict} → reading b ≡ describes m → v ≡ judge m → v ≡ verdict b
unfolding verdict
verdict_judged b e f = f ∙ sym (rw (e, verdict))

-- ---- a model and two names

module _ (b packet key : List ℕ) where
  pub inputs_refused : {r i : ℕ} → verdict b ≡ Verdict.refused r i → inputs b packet key ≡ bad (record { number = r; at = i })
  unfolding inputs inputs_in
  inputs_refused {r} {i} h = rw (refused_unusable b r i h)

  module _ {n : ℕ} (accepted : verdict b ≡ Verdict.accepted n) where
    named : inputs b packet key ≡ input_names (model_of b) (name_reading 21 packet) (name_reading 24 key)
    unfolding inputs inputs_in packet_name key_name
    named = rw (accepted_usable b n accepted)

    pub inputs_bad_packet : {r : ℕ} → bad_name r ≡ name_reading 21 packet → inputs b packet key ≡ bad (plain r)
    unfolding input_names
    inputs_bad_packet h = named ∙ rw (← h)

    module _ (p : ℕ) (good-packet : good_name (row_from packet p) ≡ name_reading 21 packet) where
      pub inputs_bad_key : {r : ℕ} → bad_name r ≡ name_reading 24 key → inputs b packet key ≡ bad (plain r)
      unfolding input_names
      inputs_bad_key h = named ∙ rw (← good-packet, ← h)

      pub inputs_both : (k : ℕ) → good_name (row_from key k) ≡ name_reading 24 key
          → inputs b packet key ≡ good (model_of b) (row_from packet p) (row_from key k)
      unfolding input_names
      inputs_both k h = named ∙ rw (← good-packet, ← h)

-- a name that was read as this row
pub row_of : {side : Side} {name : List ℕ} {r : Result Row Refusal} {row : Row} → NameOf side name r → r ≡ Ok row → RowOf name row
row_of {side} {name} of e =
    record { short = good_short (first_refusal side) name (sym (read_good of e)); count = read_count of e; few = read_few of e }

pub inputs_good : (b packet key : List ℕ) {n : ℕ} → verdict b ≡ Verdict.accepted n → {r q : Result Row Refusal} {p k : Row} → NameOf Packet packet r → r ≡ Ok p
    → NameOf Key key q → q ≡ Ok k → GoodInputs b packet key p k
inputs_good b packet key {n} accepted {p = p} {k = k} of_packet e of-key f =
    record {
      is = inputs_both b packet key accepted p.start (read_good of_packet e) k.start (read_good of-key f);
      nodes = n;
      accepted = accepted;
      packet_row = row_of of_packet e;
      key_row = row_of of-key f;
    }

-- a name that was refused
pub refused_of : {side : Side} {name : List ℕ} {r : Result Row Refusal} {x : Refusal} {i : answers.Inputs} → NameOf side name r → r ≡ Err x
    → i ≡ bad (plain (refusal_of x).number) → i ≡ bad (refusal_of x)
refused_of of e h = h ∙ ap bad (sym (read_plain of e))

-- ---- what `judge_inputs` answered, in the arm where its case is known

pub judged_good : {b packet key : List ℕ} {i : Result Inputs Refusal} {x : Inputs} → InputsOf b packet key i → i ≡ Ok x
    → GoodInputs b packet key x.packet x.key
judged_good {b} {packet} {key} of e = subst (InputsOf b packet key) e of

pub judged_bad : (b packet key : List ℕ) {i : Result Inputs Refusal} {r : Refusal} → InputsOf b packet key i → i ≡ Err r
    → inputs b packet key ≡ bad (refusal_of r)
judged_bad b packet key of e = subst (InputsOf b packet key) e of
