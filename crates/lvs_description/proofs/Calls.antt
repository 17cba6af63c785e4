-- The writing and the describing call, over the definitions of what they answer and leave (specs/Answers.antt): by cases, and one after the
-- other. lvs_codec/proofs/Codec.antt states these laws of the calls. Assumes nothing.
use Prim.Native.Nat.{ℕ, ◌≤◌, ◌<◌}
use native.Mathlib.Omega.{arith}
use mathlib.Core.Path.{◌≡◌, refl, sym, ap, ◌∙◌, subst}
use mathlib.Core.Logic.{◌⊎◌, inl, inr}
use mathlib.Core.Bool.{Bool, true, false, ◌&&◌}
use mathlib.Core.List.Memᴰ
use mathlib.Core.List.{List, Memᴰ}
use mathlib.Core.Option.{Option, none, some}
use borrow.Author.Tests.{leb-true, leb-false, le-leb, lt-leb}
use lib.Dec.{leb}
use lib.ListN.{length, take, drop}
use lib.Seq.{take_at, drop_at}
use Rattle.tlv.specs.Bytes.{Bytes}
use Rattle.lvs_spec.specs.Model.{Model, model_of}
use Rattle.lvs_spec.specs.Verdict.{Verdict, accepted, describes, reading, verdict}
use Rattle.lvs_spec.specs.Answers.{Refusal, plain}
use Rattle.lvs_spec.specs.Demands.{model_refusals, Alike}
use Rattle.lvs_spec.proofs.Refusals.{verdict_number}
use Rattle.lvs_spec.proofs.Lists.{clash}
use Rattle.lvs_description.specs.Description.{model_bytes, description_of, numbers_of, texts_of}
use Rattle.lvs_description.specs.Answers.{no_description, short_output, on_front}
use Rattle.lvs_description.specs.Answers.{WriteAnswer, WriteOutcome, written, write_refused, written_to, written_as, written_from, write_outcome}
use Rattle.lvs_description.specs.Answers.{DescribeAnswer, DescribeOutcome, described, describe_refused, described_to, described_as, describe_outcome}
use Rattle.lvs_description.proofs.Written.{accepted_reading}
use Rattle.lvs_description.proofs.Refusals.{bytes_refusals, write_refusals, describe_refusals, bytes_number}
use Rattle.lvs_description.proofs.Theorem as theorem

-- ---- writing

-- What the writing call answers and leaves, by cases, in the order in which they are tested: 30, the two numbers of the verdict on the
-- bytes, 31, and written. What a case needs excludes those before it.
pub data Writing (ns ts before : List ℕ) : WriteOutcome → Type 0 where
  no_description_lem : description_of ns ts ≡ none → Writing ns ts before (write_refused (plain no_description) before)
  refused_bytes : {m : Model} {r i : ℕ} → description_of ns ts ≡ some m → verdict (model_bytes m) ≡ Verdict.refused r i
      → Writing ns ts before (write_refused (record { number = r; at = i }) before)
  short_output_lem : {m : Model} {count : ℕ} → description_of ns ts ≡ some m → verdict (model_bytes m) ≡ accepted count
      → length before < length (model_bytes m) → Writing ns ts before (write_refused (plain short_output) before)
  on_output : {m : Model} {count : ℕ} → description_of ns ts ≡ some m → verdict (model_bytes m) ≡ accepted count
      → length (model_bytes m) ≤ length before
      → Writing ns ts before (record { answer = written (length (model_bytes m)); output = on_front (model_bytes m) before })

module _ {ns ts before : List ℕ} where
  -- what a case says is the outcome,
  pub writing_is : {o : WriteOutcome} → Writing ns ts before o → o ≡ write_outcome ns ts before
  unfolding write_outcome written_from written_as written_to
  writing_is (no_description_lem e) = rw e
  writing_is (refused_bytes e v) = rw (e, v)
  writing_is (short_output_lem {m} e v h) = rw (e, v, lt-leb (length (model_bytes m)) (length before) h, written_to)
  writing_is (on_output {m} e v h) = rw (e, v, le-leb (length (model_bytes m)) (length before) h, written_to)

-- and there is a case for any lists and any output
pub writing : (ns ts before : List ℕ) → Writing ns ts before (write_outcome ns ts before)
writing ns ts before = from (description_of ns ts) refl
  where
    room : (m : Model) {count : ℕ} (t : Bool) → description_of ns ts ≡ some m → verdict (model_bytes m) ≡ accepted count
        → leb (length (model_bytes m)) (length before) ≡ t → (o : WriteOutcome) × Writing ns ts before o
    room m true e v h = (_, on_output e v (leb-true _ _ h))
    room m false e v h = (_, short_output_lem e v (leb-false _ _ h))

    judged : (m : Model) (v : Verdict) → description_of ns ts ≡ some m → verdict (model_bytes m) ≡ v → (o : WriteOutcome) × Writing ns ts before o
    judged m (Verdict.refused r i) e v = (_, refused_bytes e v)
    judged m (accepted n) e v = room m (leb (length (model_bytes m)) (length before)) e v refl

    some_case : (d : Option Model) → description_of ns ts ≡ d → (o : WriteOutcome) × Writing ns ts before o
    some_case none e = (_, no_description_lem e)
    some_case (some m) e = judged m (verdict (model_bytes m)) e refl

    from : (d : Option Model) → description_of ns ts ≡ d → Writing ns ts before (write_outcome ns ts before)
    from d e = let (o, w) = some_case d e in subst (Writing ns ts before) (writing_is w) w

-- `written n` was answered, and the output then holds `after`
pub record WrittenBy (ns ts before : List ℕ) (n : ℕ) (after : List ℕ) : Type 0 where
  pub model : Model
  -- the lists describe a model, whose bytes are accepted,
  pub is : description_of ns ts ≡ some model
  pub count : ℕ
  pub accepted_is : verdict (model_bytes model) ≡ accepted count
  -- and these n bytes are the first of the output; those behind are as they were
  pub size_is : length (model_bytes model) ≡ n
  pub room : n ≤ length before
  pub front : take n after ≡ model_bytes model
  pub behind : drop n after ≡ drop n before

module _ {ns ts before : List ℕ} where
  written_in : {o : WriteOutcome} {n : ℕ} → Writing ns ts before o → o.answer ≡ written n → WrittenBy ns ts before n o.output
  written_in (no_description_lem e) h = clash (cc)
  written_in (refused_bytes e v) h = clash (cc)
  written_in (short_output_lem e v l) h = clash (cc)
  written_in {n = n} (on_output {m} {count} e v l) h =
      let s : length (model_bytes m) ≡ n = cc in
      record {
        model = m;
        is = e;
        count = count;
        accepted_is = v;
        size_is = s;
        room = omega arith;
        front = take_at (model_bytes m) _ n s;
        behind = drop_at (model_bytes m) _ n s ∙ ap (λ (k : ℕ). drop k before) s;
      }

  kept_in : {o : WriteOutcome} {x : Refusal} → Writing ns ts before o → o.answer ≡ WriteAnswer.refused x → o.output ≡ before
  kept_in (no_description_lem e) h = refl
  kept_in (refused_bytes e v) h = refl
  kept_in (short_output_lem e v l) h = refl
  kept_in (on_output e v l) h = clash (cc)

  -- why a description was refused
  why_in : {o : WriteOutcome} {x : Refusal} {m : Model} → Writing ns ts before o → o.answer ≡ WriteAnswer.refused x → description_of ns ts ≡ some m
      → (verdict (model_bytes m) ≡ Verdict.refused x.number x.at) ⊎ ((x ≡ plain short_output) × (count : ℕ) × (verdict (model_bytes m) ≡ accepted count))
  why_in (no_description_lem e) h d = clash (cc)
  why_in {x = x} {m} (refused_bytes {m = m'} {r} {i} e v) h d =
      let same : m' ≡ m = cc in
      let y : record { number = r; at = i } ≡ x = cc in
      inl (sym (ap (λ (a : Model). verdict (model_bytes a)) same) ∙ v ∙ ap (λ (a : Refusal). Verdict.refused a.number a.at) y)
  why_in {m = m} (short_output_lem {m = m'} {count} e v l) h d =
      let same : m' ≡ m = cc in
      inr ((cc), count, sym (ap (λ (a : Model). verdict (model_bytes a)) same) ∙ v)
  why_in (on_output e v l) h d = clash (cc)

  number_in : {o : WriteOutcome} {x : Refusal} → Writing ns ts before o → o.answer ≡ WriteAnswer.refused x → Memᴰ x.number write_refusals
  number_in {x = x} (no_description_lem e) h = let q : x.number ≡ no_description = cc in Memᴰ.head q
  number_in {x = x} (refused_bytes {m} {r} e v) h =
      let q : r ≡ x.number = cc in
      Memᴰ.tail (Memᴰ.append_left _ (subst (λ (k : ℕ). Memᴰ k bytes_refusals) q (bytes_number m v)))
  number_in {x = x} (short_output_lem e v l) h =
      let q : x.number ≡ short_output = cc in
      Memᴰ.tail (Memᴰ.append_right bytes_refusals (Memᴰ.head q))
  number_in (on_output e v l) h = clash (cc)

module _ (ns ts before : List ℕ) where
  pub written_by : {n : ℕ} → (write_outcome ns ts before).answer ≡ written n → WrittenBy ns ts before n (write_outcome ns ts before).output
  written_by h = written_in (writing ns ts before) h

  -- a refusal keeps every byte
  pub write_keeps : {x : Refusal} → (write_outcome ns ts before).answer ≡ WriteAnswer.refused x → (write_outcome ns ts before).output ≡ before
  write_keeps h = kept_in (writing ns ts before) h

  -- a description is refused with the two numbers of the verdict on its bytes, or, where these are accepted, with 31
  pub write_why : {x : Refusal} {m : Model} → (write_outcome ns ts before).answer ≡ WriteAnswer.refused x → description_of ns ts ≡ some m
      → (verdict (model_bytes m) ≡ Verdict.refused x.number x.at) ⊎ ((x ≡ plain short_output) × (count : ℕ) × (verdict (model_bytes m) ≡ accepted count))
  write_why h d = why_in (writing ns ts before) h d

  -- the numbers of the refusals
  pub write_number : {x : Refusal} → (write_outcome ns ts before).answer ≡ WriteAnswer.refused x → Memᴰ x.number write_refusals
  write_number h = number_in (writing ns ts before) h

-- ---- describing

-- room for both lists of a description
pub record Room (m : Model) (ns ts : List ℕ) : Type 0 where
  pub numbers : length (numbers_of m) ≤ length ns
  pub texts : length (texts_of m) ≤ length ts

-- What the describing call answers and leaves, by cases, in the order in which they are tested: the model's own refusals, 30, and described.
pub data Describing (b ns ts : List ℕ) : DescribeOutcome → Type 0 where
  refused_model : {r i : ℕ} → verdict b ≡ Verdict.refused r i → Describing b ns ts (describe_refused (record { number = r; at = i }) ns ts)
  short_lists : {count : ℕ} → verdict b ≡ accepted count → ¬ Room (model_of b) ns ts → Describing b ns ts (describe_refused (plain no_description) ns ts)
  on_lists : {count : ℕ} → verdict b ≡ accepted count → Room (model_of b) ns ts
      → Describing b ns ts (record {
        answer = described (length (numbers_of (model_of b))) (length (texts_of (model_of b)));
        numbers = on_front (numbers_of (model_of b)) ns;
        texts = on_front (texts_of (model_of b)) ts;
      })

module _ (m : Model) (ns ts : List ℕ) where
  enough : Bool
  enough = leb (length (numbers_of m)) (length ns) && leb (length (texts_of m)) (length ts)

  room_test : Room m ns ts → enough ≡ true
  unfolding enough
  room_test h = rw (le-leb (length (numbers_of m)) (length ns) h.numbers, le-leb (length (texts_of m)) (length ts) h.texts)

  test_room : enough ≡ true → Room m ns ts
  unfolding enough
  test_room h = go (leb (length (numbers_of m)) (length ns)) (leb (length (texts_of m)) (length ts)) refl refl
    where
      go : (x y : Bool) → leb (length (numbers_of m)) (length ns) ≡ x → leb (length (texts_of m)) (length ts) ≡ y → Room m ns ts
      go true true p q = record { numbers = leb-true _ _ p; texts = leb-true _ _ q }
      go true false p q = clash (cc (rw (p, q) at h))
      go false y p q = clash (cc (rw p at h))

  no_room_test : ¬ Room m ns ts → enough ≡ false
  no_room_test n = go enough refl
    where
      go : (t : Bool) → enough ≡ t → t ≡ false
      go true e = absurd (n (test_room e))
      go false e = refl

module _ {b ns ts : List ℕ} where
  -- what a case says is the outcome,
  pub describing_is : {o : DescribeOutcome} → Describing b ns ts o → o ≡ describe_outcome b ns ts
  unfolding describe_outcome described_as described_to enough
  describing_is (refused_model v) = rw v
  describing_is (short_lists v h) = rw (v, no_room_test (model_of b) ns ts h, described_to)
  describing_is (on_lists v h) = rw (v, room_test (model_of b) ns ts h, described_to)

-- and there is a case for any bytes and any lists
pub describing : (b ns ts : List ℕ) → Describing b ns ts (describe_outcome b ns ts)
describing b ns ts = let (o, d) = judged (verdict b) refl in subst (Describing b ns ts) (describing_is d) d
  where
    room : {count : ℕ} (t : Bool) → verdict b ≡ accepted count → enough (model_of b) ns ts ≡ t → (o : DescribeOutcome) × Describing b ns ts o
    room true v h = (_, on_lists v (test_room (model_of b) ns ts h))
    room false v h = (_, short_lists v (λ r. clash (cc (room_test (model_of b) ns ts r))))

    judged : (v : Verdict) → verdict b ≡ v → (o : DescribeOutcome) × Describing b ns ts o
    judged (Verdict.refused r i) v = (_, refused_model v)
    judged (accepted n) v = room (enough (model_of b) ns ts) v refl

-- `described n t` was answered, and the lists then hold `numbers` and `texts`
pub record DescribedBy (b ns ts : List ℕ) (n t : ℕ) (numbers texts : List ℕ) : Type 0 where
  pub count : ℕ
  pub accepted_is : verdict b ≡ accepted count
  -- the lists begin with those of the model; what is behind is as it was
  pub numbers_size : length (numbers_of (model_of b)) ≡ n
  pub numbers_room : n ≤ length ns
  pub numbers_front : take n numbers ≡ numbers_of (model_of b)
  pub numbers_behind : drop n numbers ≡ drop n ns
  pub texts_size : length (texts_of (model_of b)) ≡ t
  pub texts_room : t ≤ length ts
  pub texts_front : take t texts ≡ texts_of (model_of b)
  pub texts_behind : drop t texts ≡ drop t ts

module _ {b ns ts : List ℕ} where
  described_in : {o : DescribeOutcome} {n t : ℕ} → Describing b ns ts o → o.answer ≡ described n t → DescribedBy b ns ts n t o.numbers o.texts
  described_in (refused_model v) h = clash (cc)
  described_in (short_lists v r) h = clash (cc)
  described_in {n = n} {t} (on_lists {count} v r) h =
      let m = model_of b in
      let e : length (numbers_of (model_of b)) ≡ n = cc in
      let f : length (texts_of (model_of b)) ≡ t = cc in
      record {
        count = count;
        accepted_is = v;
        numbers_size = e;
        numbers_room = omega (arith, r.numbers);
        numbers_front = take_at (numbers_of m) _ n e;
        numbers_behind = drop_at (numbers_of m) _ n e ∙ ap (λ (k : ℕ). drop k ns) e;
        texts_size = f;
        texts_room = omega (arith, r.texts);
        texts_front = take_at (texts_of m) _ t f;
        texts_behind = drop_at (texts_of m) _ t f ∙ ap (λ (k : ℕ). drop k ts) f;
      }

  lists_kept_in : {o : DescribeOutcome} {x : Refusal} → Describing b ns ts o → o.answer ≡ DescribeAnswer.refused x
      → (o.numbers ≡ ns) × (o.texts ≡ ts)
  lists_kept_in (refused_model v) h = (refl, refl)
  lists_kept_in (short_lists v r) h = (refl, refl)
  lists_kept_in (on_lists v r) h = clash (cc)

  list_number_in : {o : DescribeOutcome} {x : Refusal} → Describing b ns ts o → o.answer ≡ DescribeAnswer.refused x
      → Memᴰ x.number describe_refusals
  list_number_in {x = x} (refused_model {r} v) h =
      let q : r ≡ x.number = cc in
      Memᴰ.append_left _ (subst (λ (k : ℕ). Memᴰ k model_refusals) q (verdict_number b v))
  list_number_in {x = x} (short_lists v r) h =
      let q : x.number ≡ no_description = cc in
      Memᴰ.append_right model_refusals (Memᴰ.head q)
  list_number_in (on_lists v r) h = clash (cc)

module _ (b ns ts : List ℕ) where
  pub described_by : {n t : ℕ} → (describe_outcome b ns ts).answer ≡ described n t
      → DescribedBy b ns ts n t (describe_outcome b ns ts).numbers (describe_outcome b ns ts).texts
  described_by h = described_in (describing b ns ts) h

  -- a refusal keeps both lists
  pub describe_keeps : {x : Refusal} → (describe_outcome b ns ts).answer ≡ DescribeAnswer.refused x
      → ((describe_outcome b ns ts).numbers ≡ ns) × ((describe_outcome b ns ts).texts ≡ ts)
  describe_keeps h = lists_kept_in (describing b ns ts) h

  -- the numbers of the refusals
  pub describe_number : {x : Refusal} → (describe_outcome b ns ts).answer ≡ DescribeAnswer.refused x → Memᴰ x.number describe_refusals
  describe_number h = list_number_in (describing b ns ts) h

-- ---- what was written is read

module _ {ns ts before after : List ℕ} {n : ℕ} (w : WrittenBy ns ts before n after) where
  -- the bytes are accepted,
  pub written_accepts : verdict (take n after) ≡ accepted w.count
  written_accepts = ap verdict w.front ∙ w.accepted_is

  -- and they are read as the model that the lists describe,
  pub written_reads : reading (take n after) ≡ describes w.model
  written_reads = ap reading w.front ∙ theorem.written_accepted w.model w.count w.accepted_is

  written_model : model_of (take n after) ≡ w.model
  written_model = cc (written_reads, accepted_reading (take n after) w.count written_accepts)

  -- whose lists are these
  pub written_lists : (numbers_of (model_of (take n after)) ≡ ns) × (texts_of (model_of (take n after)) ≡ ts)
  written_lists = rw written_model (theorem.description_forth ns ts w.model w.is)

  -- So describing the bytes, with room enough, gives the very lists back: so many numbers and so many bytes, at the front
  pub written_described : (ns' ts' : List ℕ) → length ns ≤ length ns' → length ts ≤ length ts'
      → describe_outcome (take n after) ns' ts' ≡
      record { answer = described (length ns) (length ts); numbers = on_front ns ns'; texts = on_front ts ts' }
  written_described ns' ts' p q =
      let (e, f) = written_lists in
      let r : Room (model_of (take n after)) ns' ts' = record { numbers = rw e p; texts = rw f q } in
      sym (describing_is (on_lists written_accepts r)) ∙
      (λ i. record { answer = described (length (e i)) (length (f i)); numbers = on_front (e i) ns'; texts = on_front (f i) ts' })

-- Lists that were written as the same bytes are the same.
pub written_one : {ns ts before after ns' ts' before' after' : List ℕ} {n n' : ℕ} → WrittenBy ns ts before n after → WrittenBy ns' ts' before' n' after'
    → take n after ≡ take n' after' → (ns ≡ ns') × (ts ≡ ts')
written_one v w same =
    let (e, f) = written_lists v in
    let (g, h) = written_lists w in
    (sym e ∙ ap (λ (b : List ℕ). numbers_of (model_of b)) same ∙ g, sym f ∙ ap (λ (b : List ℕ). texts_of (model_of b)) same ∙ h)

-- ---- what was described is written

module _ {b ns ts numbers texts : List ℕ} {n t : ℕ} (d : DescribedBy b ns ts n t numbers texts) where
  -- the lists describe the model,
  pub described_is : description_of (take n numbers) (take t texts) ≡ some (model_of b)
  described_is = rw (d.numbers_front, d.texts_front) (theorem.description_back (model_of b))

  -- and, written with as much room as the model has, are accepted
  module _ (by : Bytes b) (before : List ℕ) (room : length b ≤ length before) where
    again : verdict (model_bytes (model_of b)) ≡ accepted d.count
    again = (theorem.accepted_alike b by d.count d.accepted_is).verdicts ∙ d.accepted_is

    no_longer : length (model_bytes (model_of b)) ≤ length b
    no_longer = theorem.written_no_longer b by (model_of b) (accepted_reading b d.count d.accepted_is)

    pub described_written : write_outcome (take n numbers) (take t texts) before ≡
        record { answer = written (length (model_bytes (model_of b))); output = on_front (model_bytes (model_of b)) before }
    described_written = sym (writing_is (on_output described_is again (omega (arith, no_longer))))

-- What is written of an accepted model's description is no longer than the model, has its reading, and is alike: it has the same verdict, the
-- same matches with the same words left, and the same signing answers.
module _ {b ns ts numbers texts before after : List ℕ} {n t k : ℕ} (by : Bytes b) (d : DescribedBy b ns ts n t numbers texts)
    (w : WrittenBy (take n numbers) (take t texts) before k after) where
  same_model : w.model ≡ model_of b
  same_model = cc (w.is, described_is d)

  front_is : take k after ≡ model_bytes (model_of b)
  front_is = w.front ∙ ap model_bytes same_model

  pub rewritten_no_longer : k ≤ length b
  rewritten_no_longer =
      let e = sym w.size_is ∙ ap (λ (m : Model). length (model_bytes m)) same_model in
      omega (arith, e, theorem.written_no_longer b by (model_of b) (accepted_reading b d.count d.accepted_is))

  pub rewritten_reads : reading (take k after) ≡ reading b
  rewritten_reads = ap reading front_is ∙ theorem.accepted_reading b by d.count d.accepted_is

  pub rewritten_alike : Alike (take k after) b
  rewritten_alike = theorem.reading_alike (take k after) b rewritten_reads

  -- and is described alike
  pub rewritten_described : (ns' ts' : List ℕ) → describe_outcome (take k after) ns' ts' ≡ describe_outcome b ns' ts'
  unfolding describe_outcome
  rewritten_described ns' ts' =
      let v : verdict (take k after) ≡ accepted d.count = rewritten_alike.verdicts ∙ d.accepted_is in
      let r = accepted_reading (take k after) d.count v in
      let q = accepted_reading b d.count d.accepted_is in
      let x : describes (model_of (take k after)) ≡ describes (model_of b) = sym r ∙ rewritten_reads ∙ q in
      let y : model_of (take k after) ≡ model_of b = cc in
      λ i. described_as (rewritten_alike.verdicts i) (y i) ns' ts'

-- Models with the same lists have the same reading, and are alike.
pub described_one : {a b ns ts ns' ts' numbers texts numbers' texts' : List ℕ} {n t n' t' : ℕ} → DescribedBy a ns ts n t numbers texts
    → DescribedBy b ns' ts' n' t' numbers' texts' → take n numbers ≡ take n' numbers' → take t texts ≡ take t' texts' → reading a ≡ reading b
described_one {a} {b} c d e f =
    let x : some (model_of a) ≡ some (model_of b) = sym (described_is c) ∙ (λ i. description_of (e i) (f i)) ∙ described_is d in
    let y : model_of a ≡ model_of b = cc in
    accepted_reading a c.count c.accepted_is ∙ ap describes y ∙ sym (accepted_reading b d.count d.accepted_is)
