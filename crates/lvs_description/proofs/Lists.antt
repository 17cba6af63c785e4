-- A model and its two lists are one to one: the lists that a model is laid out in describe it and nothing else, and a model is laid out in the
-- lists that describe it. Said of each format, and so of the model's. Assumes nothing.
use mathlib.Core.Path.{◌≡◌, refl, sym, ap, ◌∙◌}
use mathlib.Core.Bool.{Bool}
use mathlib.Core.List.{List, [], ◌∷◌, ◌++◌}
use mathlib.Core.Option.{Option, none, some}
use Prim.Native.Nat.{ℕ, zero, suc, ◌≤◌}
use native.Mathlib.Omega.{arith}
use borrow.Author.Tests.{le-leb, leb-true}
use lib.Dec.{leb}
use lib.ListN.{length, take, drop, length-append, take-append-drop}
use lib.Seq.{take-append_seam, drop-append_seam, length-take-le}
use Rattle.tlv.specs.Element.{Element}
use Rattle.tlv.specs.Lists.{bind}
use Rattle.lvs_spec.specs.Types as type
use Rattle.lvs_spec.specs.Leaves.{identifier, marked}
use Rattle.lvs_spec.specs.WellFormed.{this_version}
use Rattle.lvs_spec.specs.Model.{Argument, Term, Model}
use Rattle.lvs_spec.proofs.Lists.{clash, bind_from, guard_from}
use Rattle.lvs_description.specs.Format.{Lists, Taken, head_of, take_number, bytes_of, take_text, put, put_text, Format, holds, integer, text, component}
use Rattle.lvs_description.specs.Format.{◌then◌, under, times, onto_all, many, maybe_from, maybe, within, behind}
use Rattle.lvs_description.specs.Description.{argument_from, argument, call, term_from, term, constraint, value_edge, pattern_edge, node, symbol, model}
use Rattle.lvs_description.specs.Description.{nothing_left, description_of, lists_of, numbers_of, texts_of}

-- what was put on is taken off again, and what was taken off had been put on
pub record Lawful {A : Type 0} (f : Format A) : Type 0 where
  pub back : (a : A) (l : Lists) → f.from (f.onto a l) ≡ some (a, l)
  pub forth : (l : Lists) {a : A} {l' : Lists} → f.from l ≡ some (a, l') → l ≡ f.onto a l'

-- ---- the steps of taking off

-- the two parts of what was taken
pub parts : {A : Type 0} {x y : A × Lists} → some x ≡ some y → (x.0 ≡ y.0) × (x.1 ≡ y.1)
parts {A} {x} {y} p = let q : x ≡ y = cc in ((λ i. (q i).0), (λ i. (q i).1))

-- a number that was taken had been put on; and a text
number_forth : (l : Lists) {n : ℕ} {l' : Lists} → take_number l ≡ some (n, l') → l ≡ put n l'
number_forth l {n} {l'} p = go l.numbers l.texts p
  where
    go : (ns ts : List ℕ) → head_of ns ts ≡ some (n, l') → record { numbers = ns; texts = ts } ≡ put n l'
    go [] ts q = clash (cc)
    go (x ∷ ns) ts q = let (e, r) = parts q in λ i. put (e i) (r i)

-- a number, and then what it says
counted : {A : Type 0} (f : ℕ → Lists → Taken A) (onto : A → Lists → Lists)
    → ((n : ℕ) (l : Lists) (a : A) (l' : Lists) → f n l ≡ some (a, l') → put n l ≡ onto a l')
    → (l : Lists) {a : A} {l' : Lists} → bind (take_number l) (λ r. f r.0 r.1) ≡ some (a, l') → l ≡ onto a l'
counted f onto go l {a} {l'} p =
    let (r, first, then_is) = bind_from (take_number l) _ p in
    number_forth l first ∙ go r.0 r.1 a l' then_is

-- a value that is made of another
made : {A B : Type 0} {f : Format A} → Lawful f → (to : A → B) (l : Lists) {b : B} {l' : Lists}
    → bind {B = B × Lists} (f.from l) (λ r. some (to r.0, r.1)) ≡ some (b, l') → (a : A) × (l ≡ f.onto a l') × (to a ≡ b)
made {f = f} F to l p =
    let (r, first, then_is) = bind_from (f.from l) _ p in
    let (x, y) = parts then_is in
    (r.0, F.forth l first ∙ ap (f.onto r.0) y, x)

-- a value that is made of another, behind the number of its kind
of_kind : (n : ℕ) {A B : Type 0} {f : Format A} → Lawful f → (to : A → B) (onto : B → Lists → Lists)
    → ((a : A) (l : Lists) → put n (f.onto a l) ≡ onto (to a) l) → (l : Lists) {b : B} {l' : Lists}
    → bind {B = B × Lists} (f.from l) (λ r. some (to r.0, r.1)) ≡ some (b, l') → put n l ≡ onto b l'
of_kind n F to onto same l {b} {l'} p = let (a, q, e) = made F to l p in ap (put n) q ∙ same a l' ∙ (λ i. onto (e i) l')

text_back : (s : List ℕ) (l : Lists) → take_text (put_text s l) ≡ some (s, l)
unfolding take_text bytes_of
text_back s l =
    let h : length s ≤ length (s ++ l.texts) = omega (arith, length-append s l.texts) in
    rw (le-leb _ _ h, take-append_seam s l.texts, drop-append_seam s l.texts)

text_forth : (l : Lists) {s : List ℕ} {l' : Lists} → take_text l ≡ some (s, l') → l ≡ put_text s l'
unfolding take_text bytes_of
text_forth = counted bytes_of put_text go
  where
    go : (n : ℕ) (l : Lists) (s : List ℕ) (l' : Lists) → bytes_of n l ≡ some (s, l') → put n l ≡ put_text s l'
    go n l s l' p =
        let (fits, same) = guard_from (leb n (length l.texts)) _ p in
        let front : take n l.texts ≡ s = λ i. (same i).0 in
        let left : record { numbers = l.numbers; texts = drop n l.texts } ≡ l' = λ i. (same i).1 in
        let size : n ≡ length s = sym (length-take-le n l.texts (leb-true _ _ fits)) ∙ ap length front in
        let bytes : l.texts ≡ s ++ l'.texts = sym (take-append-drop n l.texts) ∙ (λ i. front i ++ (left i).texts) in
        λ i. record { numbers = size i ∷ (left i).numbers; texts = bytes i }

-- ---- the formats

integer_lawful : {t : ℕ} → Lawful (integer t)
integer_lawful = record { back = λ a l. refl; forth = λ l p. number_forth l p }

text_lawful : {t : ℕ} (ok : List ℕ → Bool) → Lawful (text t ok)
text_lawful ok = record { back = text_back; forth = λ l p. text_forth l p }

component_lawful : {t : ℕ} → Lawful (component t)
component_lawful = record { back = λ e l. rw (text_back e.inside l); forth = λ l p. counted _ _ go l p }
  where
    go : (n : ℕ) (l : Lists) (e : Element) (l' : Lists)
        → bind {B = Element × Lists} (take_text l) (λ s. some (record { type = n; inside = s.0 }, s.1)) ≡ some (e, l')
        → put n l ≡ put e.type (put_text e.inside l')
    go n l e l' p =
        let (s, first, then_is) = bind_from (take_text l) _ p in
        let (x, y) = parts then_is in
        ap (put n) (text_forth l first) ∙ (λ i. put (x i).type (put_text (x i).inside (y i)))

module _ {A B : Type 0} where
  then_lawful : {f : Format A} {g : Format B} → Lawful f → Lawful g → Lawful (f then g)
  then_lawful {f} {g} F G =
      record {
        back = λ p l. rw (F.back p.0 (g.onto p.1 l), G.back p.1 l);
        forth = λ l e.
            let (r, first, then_is) = bind_from (f.from l) _ e in
            let (s, second, last) = bind_from (g.from r.1) _ then_is in
            let (x, y) = parts last in
            F.forth l first ∙ ap (f.onto r.0) (G.forth r.1 second) ∙ (λ i. f.onto (x i).0 (g.onto (x i).1 (y i)));
      }

  under_lawful : (to : A → B) (of : B → A) → ((b : B) → to (of b) ≡ b) → ((a : A) → of (to a) ≡ a) → {f : Format A} → Lawful f → Lawful (under to of f)
  under_lawful to of there same {f} F =
      record {
        back = λ b l. rw (F.back (of b) l, there b);
        forth = λ l {l' = m} e. let (a, q, p) = made F to l e in q ∙ (λ i. f.onto ((sym (same a) ∙ ap of p) i) m);
      }

module _ {A : Type 0} {f : Format A} (F : Lawful f) where
  times_back : (xs : List A) (l : Lists) → times f.from (length xs) (onto_all f.onto xs l) ≡ some (xs, l)
  times_back [] l = refl
  times_back (x ∷ xs) l = rw (F.back x (onto_all f.onto xs l), times_back xs l)

  times_forth : (n : ℕ) (l : Lists) (xs : List A) (l' : Lists) → times f.from n l ≡ some (xs, l') → (n ≡ length xs) × (l ≡ onto_all f.onto xs l')
  times_forth zero l xs l' e = let (x, y) = parts e in (ap length x, (λ i. onto_all f.onto (x i) (y i)))
  times_forth (suc n) l xs l' e =
      let (r, first, then_is) = bind_from (f.from l) _ e in
      let (s, second, last) = bind_from (times f.from n r.1) _ then_is in
      let (x, y) = parts last in
      let (size, rest) = times_forth n r.1 s.0 s.1 second in
      (ap suc size ∙ ap length x, F.forth l first ∙ ap (f.onto r.0) rest ∙ (λ i. onto_all f.onto (x i) (y i)))

  many_lawful : Lawful (many f)
  many_lawful = record { back = times_back; forth = λ l e. counted _ _ go l e }
    where
      go : (n : ℕ) (l : Lists) (xs : List A) (l' : Lists) → times f.from n l ≡ some (xs, l') → put n l ≡ (many f).onto xs l'
      go n l xs l' p = let (size, rest) = times_forth n l xs l' p in λ i. put (size i) (rest i)

  maybe_lawful : Lawful (maybe f)
  maybe_lawful = record { back = back; forth = λ l e. counted _ _ go l e }
    where
      back : (o : Option A) (l : Lists) → (maybe f).from ((maybe f).onto o l) ≡ some (o, l)
      back none l = refl
      back (some a) l = rw (F.back a l)

      go : (n : ℕ) (l : Lists) (o : Option A) (l' : Lists) → maybe_from f.from n l ≡ some (o, l') → put n l ≡ (maybe f).onto o l'
      go zero l o l' e = let (x, y) = parts e in λ i. (maybe f).onto (x i) (y i)
      go (suc zero) l o l' e = of_kind 1 F some (maybe f).onto (λ a m. refl) l e
      go (suc (suc n)) l o l' e = clash (cc)

  within_lawful : {t : ℕ} → Lawful (within t f)
  within_lawful = record { back = F.back; forth = F.forth }

  behind_lawful : (es : List Element) → Lawful (behind es f)
  behind_lawful es = record { back = F.back; forth = F.forth }

-- ---- the containers

argument_lawful : Lawful argument
argument_lawful = record { back = back; forth = λ l e. counted argument_from _ go l e }
  where
    back : (a : Argument) (l : Lists) → argument.from (argument.onto a l) ≡ some (a, l)
    back (Argument.value e) l = rw (text_back e.inside l)
    back (Argument.tag t) l = refl

    go : (n : ℕ) (l : Lists) (a : Argument) (l' : Lists) → argument_from n l ≡ some (a, l') → put n l ≡ argument.onto a l'
    go zero l a l' e = of_kind 0 (component_lawful {t = type.Value}) Argument.value argument.onto (λ b m. refl) l e
    go (suc zero) l a l' e = of_kind 1 (integer_lawful {t = type.Tag}) Argument.tag argument.onto (λ b m. refl) l e
    go (suc (suc n)) l a l' e = clash (cc)

call_lawful : Lawful call
call_lawful = under_lawful _ _ (λ b. refl) (λ a. refl) (then_lawful (text_lawful (marked 36)) (many_lawful (within_lawful argument_lawful)))

term_lawful : Lawful term
term_lawful = record { back = back; forth = λ l e. counted term_from _ go l e }
  where
    back : (a : Term) (l : Lists) → term.from (term.onto a l) ≡ some (a, l)
    back (Term.value e) l = rw (text_back e.inside l)
    back (Term.tag t) l = refl
    back (Term.call c) l = rw (call_lawful.back c l)

    go : (n : ℕ) (l : Lists) (a : Term) (l' : Lists) → term_from n l ≡ some (a, l') → put n l ≡ term.onto a l'
    go zero l a l' e = of_kind 0 (component_lawful {t = type.Value}) Term.value term.onto (λ b m. refl) l e
    go (suc zero) l a l' e = of_kind 1 (integer_lawful {t = type.Tag}) Term.tag term.onto (λ b m. refl) l e
    go (suc (suc zero)) l a l' e = of_kind 2 call_lawful Term.call term.onto (λ b m. refl) l e
    go (suc (suc (suc n))) l a l' e = clash (cc)

constraint_lawful : Lawful constraint
constraint_lawful = many_lawful (within_lawful (many_lawful term_lawful))

value_edge_lawful : Lawful value_edge
value_edge_lawful = under_lawful _ _ (λ b. refl) (λ a. refl) (then_lawful integer_lawful component_lawful)

pattern_edge_lawful : Lawful pattern_edge
pattern_edge_lawful =
    under_lawful _ _ (λ b. refl) (λ a. refl) (then_lawful integer_lawful (then_lawful integer_lawful (many_lawful (within_lawful constraint_lawful))))

node_lawful : Lawful node
node_lawful =
    under_lawful _ _ (λ b. refl) (λ a. refl)
    (then_lawful integer_lawful
    (then_lawful (maybe_lawful integer_lawful)
    (then_lawful (many_lawful (text_lawful (marked 35)))
    (then_lawful (many_lawful (within_lawful value_edge_lawful))
    (then_lawful (many_lawful (within_lawful pattern_edge_lawful)) (many_lawful integer_lawful))))))

symbol_lawful : Lawful symbol
symbol_lawful = under_lawful _ _ (λ b. refl) (λ a. refl) (then_lawful integer_lawful (text_lawful identifier))

pub model_lawful : Lawful model
model_lawful =
    under_lawful _ _ (λ b. refl) (λ a. refl)
    (behind_lawful
    (then_lawful integer_lawful
    (then_lawful integer_lawful (then_lawful (many_lawful (within_lawful node_lawful)) (many_lawful (within_lawful symbol_lawful)))))
    (holds type.Version this_version))

-- ---- the whole

abbrev nothing : Lists
nothing = record { numbers = []; texts = [] }

-- lists that are used up hold one value
whole_forth : {f : Format Model} → Lawful f → (l : Lists) {m : Model}
    → bind (f.from l) (λ r. nothing_left r.0 r.1.numbers r.1.texts) ≡ some m → l ≡ f.onto m nothing
whole_forth {f} F l {m} p =
    let (r, first, then_is) = bind_from (f.from l) _ p in
    F.forth l first ∙ go r.0 r.1.numbers r.1.texts then_is
  where
    go : (x : Model) (ns ts : List ℕ) → nothing_left x ns ts ≡ some m → f.onto x (record { numbers = ns; texts = ts }) ≡ f.onto m nothing
    go x [] [] q = let same : x ≡ m = cc in rw same
    go x [] (t ∷ ts) q = clash (cc)
    go x (n ∷ ns) [] q = clash (cc)
    go x (n ∷ ns) (t ∷ ts) q = clash (cc)

-- the lists of a model describe it
pub description_back : (m : Model) → description_of (numbers_of m) (texts_of m) ≡ some m
unfolding description_of numbers_of texts_of lists_of
description_back m = rw (model_lawful.back m nothing)

-- lists that describe a model are its lists
pub description_forth : (ns ts : List ℕ) (m : Model) → description_of ns ts ≡ some m → (numbers_of m ≡ ns) × (texts_of m ≡ ts)
unfolding description_of numbers_of texts_of lists_of
description_forth ns ts m p =
    let same : lists_of m ≡ record { numbers = ns; texts = ts } = sym (whole_forth model_lawful (record { numbers = ns; texts = ts }) p) in
    ((λ i. (same i).numbers), (λ i. (same i).texts))
