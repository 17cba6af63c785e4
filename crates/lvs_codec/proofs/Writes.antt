-- The writing call's outcome, from what its callees answered and wrote. Assumes nothing.
use Prim.Native.Nat.{ℕ, ◌≤◌, ◌<◌}
use native.Mathlib.Nat.{zero-add}
use native.Mathlib.Omega.{arith}
use mathlib.Core.Path.{◌≡◌, refl, sym, ap, ◌∙◌}
use mathlib.Core.List.{List, ◌++◌, append-nil}
use mathlib.Core.Option.{Option, none, some}
use borrow.Author.Tests.{lt-ltb}
use lib.ListN.{length, take, drop, take-append-drop, drop_of_length-le}
use lib.Seq.{sets-eq, length-take-le}
use Rattle.tlv_writer.specs.Stored.{Stored}
use Rattle.lvs_spec.specs.Limits.{max_model_bytes}
use Rattle.lvs_spec.specs.WellFormed.{too_long}
use Rattle.lvs_spec.specs.Model.{Model}
use Rattle.lvs_spec.specs.Verdict.{Verdict as Judged, accepted, refused, reading, verdict}
use Rattle.lvs_spec.specs.Answers.{plain}
use Rattle.lvs_spec.proofs.Lists.{clash}
use Rattle.lvs_verdict.specs.Answers.{verdict_of}
use Rattle.lvs_spec.specs.Refusals.{refusal_of}
use Rattle.lvs_spec.specs.declared.refusal.Refusal.{Refusal}
use Rattle.lvs_description.specs.Description.{model_bytes, description_of}
use Rattle.lvs_description.specs.Answers.{WriteOutcome, write_refused, written, write_outcome, no_description, short_output}
use Rattle.lvs_description.proofs.Calls.{no_description_lem, refused_bytes, short_output_lem, on_output, writing_is}
use Rattle.lvs_write.specs.Steps.{capped, size_of, Written}
use Rattle.std.specs.Prelude.{None, Some, Result, Ok, Err}
use Rattle.lvs_codec.specs.Answers.{Sized}

-- ---- the size

-- n is the size of a description, up to the cap
pub record Measured (ns ts : List ℕ) (n : ℕ) : Type 0 where
  pub model : Model
  pub is : description_of ns ts ≡ some model
  pub size_is : n ≡ capped (length (model_bytes model))

module _ (ns ts : List ℕ) where
  -- the lists describe nothing
  pub nothing_described : (before : List ℕ) → None ≡ size_of (description_of ns ts) → write_refused (plain no_description) before ≡ write_outcome ns ts before
  nothing_described before e = go (description_of ns ts) refl
    where
      go : (o : Option Model) → description_of ns ts ≡ o → write_refused (plain no_description) before ≡ write_outcome ns ts before
      go none d = writing_is (no_description_lem d)
      go (some m) d = clash (cc (ap size_of d))

  -- or something
  pub measured : {n : ℕ} → Some n ≡ size_of (description_of ns ts) → Measured ns ts n
  measured {n} e = go (description_of ns ts) refl
    where
      go : (o : Option Model) → description_of ns ts ≡ o → Measured ns ts n
      go none d = clash (cc (ap size_of d))
      go (some m) d = record { model = m; is = d; size_is = cc (ap size_of d) }

-- which is too long for a model,
long_refused : (b : List ℕ) → max_model_bytes < length b → verdict b ≡ refused 1 0
unfolding verdict reading too_long
long_refused b h = let e : too_long b ≡ _ = lt-ltb max_model_bytes (length b) h in rw (e, verdict, reading)

module _ {ns ts : List ℕ} {n : ℕ} (M : Measured ns ts n) where
  pub too_long_lem : (before : List ℕ) → max_model_bytes < n → write_refused (plain 1) before ≡ write_outcome ns ts before
  unfolding capped
  too_long_lem before h = writing_is (refused_bytes M.is (long_refused (model_bytes M.model) (omega (arith, M.size_is))))

  -- or not
  pub sized : n ≤ max_model_bytes → Sized ns ts n
  unfolding capped
  sized h = record { model = M.model; is = M.is; size_is = omega (arith, M.size_is); small = h }

-- and a part of that length has just room for it
pub sized_front : {ns ts : List ℕ} {n : ℕ} → Sized ns ts n → (l : List ℕ) → n ≤ length l → Sized ns ts (length (take n l))
sized_front S l h = rw (length-take-le _ l h) S

-- ---- bytes over all of a place

covered : (bs place : List ℕ) → length bs ≡ length place → bs ++ drop (length bs) place ≡ bs
covered bs place e = ap (λ (rest : List ℕ). bs ++ rest) (drop_of_length-le place {i = length bs} (omega arith)) ∙ append-nil bs

filled : {place y bs : List ℕ} → Stored place y 0 bs → length bs ≡ length place → y ≡ bs
filled {place} {y} {bs} P e = P.is ∙ sets-eq bs place 0 (omega arith) ∙ rw (zero-add (length bs)) (covered bs place e)

-- the description's, where there is just room for them
module _ {ns ts place y : List ℕ} (S : Sized ns ts (length place)) (W : Written ns ts place y) where
  bytes_are : y ≡ model_bytes S.model
  bytes_are = filled (W.put S.model S.is (omega (arith, S.size_is, S.small)) (omega (arith, S.size_is))) (sym S.size_is)

  -- the verdict on them
  module _ {v : Result ℕ Refusal} (e : verdict_of v ≡ verdict y) where
    judged : {w : Result ℕ Refusal} → v ≡ w → verdict (model_bytes S.model) ≡ verdict_of w
    judged f = ap verdict (sym bytes_are) ∙ sym e ∙ ap verdict_of f

    -- refuses, whatever the output is;
    module _ {x : Refusal} (f : v ≡ Err x) where
      pub bytes_refused : (before : List ℕ) → write_refused (refusal_of x) before ≡ write_outcome ns ts before
      bytes_refused before = writing_is (refused_bytes S.is (judged f))

      -- what stood there was kept, and is put back
      pub put_back : {kept z : List ℕ} → kept ≡ place → z ≡ kept → write_refused (refusal_of x) z ≡ write_outcome ns ts place
      put_back p q = ap (write_refused (refusal_of x)) (q ∙ p) ∙ bytes_refused place

    -- or accepts,
    module _ {k : ℕ} (f : v ≡ Ok k) where
      -- and an output is too short,
      pub no_room : (before : List ℕ) → length before < length place → write_refused (plain short_output) before ≡ write_outcome ns ts before
      no_room before h = writing_is (short_output_lem S.is (judged f) (omega (arith, S.size_is)))

      -- or the bytes stay
      pub bytes_written : record { answer = written (length y); output = y } ≡ write_outcome ns ts place
      bytes_written =
          let bs = model_bytes S.model in
          ap (λ (b : List ℕ). record { answer = written (length b); output = b }) bytes_are ∙
          ap (λ (o : List ℕ). record { answer = written (length bs); output = o }) (sym (covered bs place (sym S.size_is))) ∙
          writing_is (on_output S.is (judged f) (omega (arith, S.size_is)))

-- ---- the place is the front of an output

module _ {ns ts : List ℕ} {n : ℕ} (S : Sized ns ts n) (before : List ℕ) (h : n ≤ length before) where
  abbrev widened : WriteOutcome → WriteOutcome
  widened o = record { answer = o.answer; output = o.output ++ drop n before }

  -- and what is behind it stays
  pub on_the_front : {o : WriteOutcome} → o ≡ write_outcome ns ts (take n before) → widened o ≡ write_outcome ns ts before
  on_the_front e = ap widened e ∙ go (verdict (model_bytes S.model)) refl
    where
      go : (v : Judged) → verdict (model_bytes S.model) ≡ v → widened (write_outcome ns ts (take n before)) ≡ write_outcome ns ts before
      go (refused r i) v =
          ap widened (sym (writing_is (refused_bytes S.is v))) ∙
          ap (write_refused (record { number = r; at = i })) (take-append-drop n before) ∙
          writing_is (refused_bytes S.is v)
      go (accepted k) v =
          let bs = model_bytes S.model in
          let long : length bs ≡ length (take n before) = sym S.size_is ∙ sym (length-take-le n before h) in
          ap widened (sym (writing_is (on_output S.is v (omega arith)))) ∙
          (λ j. record { answer = written (length bs); output = covered bs (take n before) long j ++ drop (S.size_is j) before }) ∙
          writing_is (on_output S.is v (omega (arith, S.size_is)))
