-- A table of rules: whatever its rows, the lowest rule that a Node breaks is the lowest that its parts break. By induction over the table.
-- Assumes nothing.
use mathlib.Core.Path.{◌≡◌, refl, sym, ap, ◌∙◌}
use mathlib.Core.Bool.{Bool, true, false, cond, ◌||◌, ◌&&◌, not}
use mathlib.Core.List.{List, [], ◌∷◌}
use Prim.Native.Nat.{ℕ, suc, ◌≤◌, ◌<◌, min}
use native.Mathlib.Nat.{le_refl}
use native.Mathlib.Omega.{arith}
use borrow.Author.Tests.{leb-true}
use lib.Dec.{leb, eqb}
use Rattle.lvs_spec.proofs.Grammar.{both}
use Rattle.tlv.specs.Lists.{any}
use Rattle.lvs_spec.specs.Model.{Model, Node, Symbol, ConstraintOption, Call}
use Rattle.lvs_spec.specs.Verdict.{Test, whole, some_tag, some_node, some_destination, some_signer, some_option, some_call, node_tags, destinations, options}
use Rattle.lvs_spec.specs.Verdict.{calls}
use Rattle.lvs_rules.specs.Lowest.{no_rule, least_of}

-- ---- what a test asks of each kind of part, and whether a fault in a Node names it

pub record Asks : Type 0 where
  pub names : Bool
  pub whole : Bool
  pub tag : ℕ → Bool
  pub node : ℕ → Node → Bool
  pub destination : ℕ → ℕ → Bool
  pub signer : ℕ → Bool
  pub option : ConstraintOption → Bool
  pub call : Call → Bool

abbrev never : {A : Type 0} → A → Bool
never x = false

abbrev never_at : {A : Type 0} → ℕ → A → Bool
never_at i x = false

abbrev pub asks : Test → Asks
asks (whole b) =
    record { names = true; whole = b; tag = never; node = never_at; destination = never_at; signer = never; option = never; call = never }
asks (some_tag f) =
    record { names = false; whole = false; tag = f; node = never_at; destination = never_at; signer = never; option = never; call = never }
asks (some_node f) =
    record { names = true; whole = false; tag = never; node = f; destination = never_at; signer = never; option = never; call = never }
asks (some_destination f) =
    record { names = true; whole = false; tag = never; node = never_at; destination = f; signer = never; option = never; call = never }
asks (some_signer f) =
    record { names = true; whole = false; tag = never; node = never_at; destination = never_at; signer = f; option = never; call = never }
asks (some_option f) =
    record { names = true; whole = false; tag = never; node = never_at; destination = never_at; signer = never; option = f; call = never }
asks (some_call f) =
    record { names = true; whole = false; tag = never; node = never_at; destination = never_at; signer = never; option = never; call = f }

-- ---- a table whose numbers ascend

abbrev pub Row : Type 0
Row = ℕ × Test

-- the numbers are k or more, ascend and stay below no_rule; and rule 5 is the one whose faults in a Node do not name it
pub data Fits : ℕ → List Row → Type 0 where
  no_row : {k : ℕ} → k ≤ no_rule → Fits k []
  row : {k r : ℕ} {t : Test} {rs : List Row} → k ≤ r → (asks t).names ≡ not (eqb r 5) → Fits (suc r) rs → Fits k ((r, t) ∷ rs)

-- and whether they do
abbrev fits : ℕ → List Row → Bool
fits k [] = leb k no_rule
fits k (r ∷ rs) = leb k r.0 && (cond (eqb r.0 5) (not (asks r.1).names) (asks r.1).names && fits (suc r.0) rs)

pub fitting : (k : ℕ) (rs : List Row) → fits k rs ≡ true → Fits k rs
fitting k [] h = no_row (leb-true k no_rule h)
fitting k (r ∷ rs) h =
    let (l, h') = both _ _ h in
    let (e, hs) = both _ _ h' in
    row (leb-true k r.0 l) (turned (eqb r.0 5) (asks r.1).names e) (fitting (suc r.0) rs hs)
  where
    turned : (a b : Bool) → cond a (not b) b ≡ true → b ≡ not a
    turned true true h = sym h
    turned true false h = refl
    turned false b h = h

-- the first rule of which p says that it is broken
abbrev pub first_row : (Asks → Bool) → List Row → ℕ
first_row p [] = no_rule
first_row p (r ∷ rs) = cond (p (asks r.1)) r.0 (first_row p rs)

row_never : {k : ℕ} {rs : List Row} → Fits k rs → first_row never rs ≡ no_rule
row_never (no_row h) = refl
row_never (row h e hs) = row_never hs

pub row_least : (p : Asks → Bool) {k : ℕ} {rs : List Row} → Fits k rs → k ≤ first_row p rs
row_least p (no_row h) = h
row_least p (row {k} {r} {t} {rs} h e hs) = go (p (asks t)) (row_least p hs)
  where
    go : (b : Bool) → r < first_row p rs → k ≤ cond b r (first_row p rs)
    go true l = h
    go false l = omega arith

pub row_most : (p : Asks → Bool) {k : ℕ} {rs : List Row} → Fits k rs → first_row p rs ≤ no_rule
row_most p (no_row h) = le_refl no_rule
row_most p (row {k} {r} {t} {rs} h e hs) = go (p (asks t)) (row_most p hs) (row_least p hs)
  where
    go : (b : Bool) → first_row p rs ≤ no_rule → r < first_row p rs → cond b r (first_row p rs) ≤ no_rule
    go true l l' = omega arith
    go false l l' = l

pub fits_most : {k : ℕ} {rs : List Row} → Fits k rs → k ≤ no_rule
fits_most hs =
    let l = row_least never hs in
    let e = row_never hs in
    omega arith

module _ (p q : Asks → Bool) where
  row_either : {k : ℕ} {rs : List Row} → Fits k rs → first_row (λ a. p a || q a) rs ≡ min (first_row p rs) (first_row q rs)
  row_either (no_row h) = refl
  row_either (row {k} {r} {t} {rs} h e hs) = go (p (asks t)) (q (asks t)) (row_least p hs) (row_least q hs) (row_either hs)
    where
      go : (a b : Bool) → r < first_row p rs → r < first_row q rs → first_row (λ a. p a || q a) rs ≡ min (first_row p rs) (first_row q rs)
          → cond (a || b) r (first_row (λ a. p a || q a) rs) ≡ min (cond a r (first_row p rs)) (cond b r (first_row q rs))
      go true true l l' ih = omega arith
      go true false l l' ih = omega arith
      go false true l l' ih = omega arith
      go false false l l' ih = ih

row_any : {A : Type 0} (p : A → Asks → Bool) {k : ℕ} {rs : List Row} → Fits k rs → (xs : List A)
    → first_row (λ a. any (λ x. p x a) xs) rs ≡ least_of (λ x. first_row (p x) rs) xs
unfolding least_of
row_any p h [] = row_never h
row_any p h (x ∷ xs) = row_either (p x) (λ a. any (λ x. p x a) xs) h ∙ ap (min _) (row_any p h xs)

-- ---- a Node and its parts

abbrev pub fails_at : Asks → ℕ → Node → Bool
fails_at a i n =
    a.node i n ||
    (any a.tag (node_tags n) ||
    (any (a.destination i) (destinations n) || (any a.signer n.signers || (any a.option (options n) || any a.call (calls n)))))

-- in TagSymbols, or of the model as a whole
abbrev pub fails_outside : Model → Asks → Bool
fails_outside m a = a.whole || any (λ (s : Symbol). a.tag s.tag) m.symbols

module _ {k : ℕ} {rs : List Row} (fits : Fits k rs) where
  pub row_outside : (m : Model)
      → first_row (fails_outside m) rs ≡ min (first_row (λ a. a.whole) rs) (least_of (λ (s : Symbol). first_row (λ a. a.tag s.tag) rs) m.symbols)
  row_outside m =
      row_either (λ a. a.whole) (λ a. any (λ (s : Symbol). a.tag s.tag) m.symbols) fits ∙ ap (min _) (row_any (λ (s : Symbol) a. a.tag s.tag) fits m.symbols)

  pub row_node : (i : ℕ) (n : Node)
      → first_row (λ a. fails_at a i n) rs ≡
      min (first_row (λ a. a.node i n) rs)
      (min (least_of (λ t. first_row (λ a. a.tag t) rs) (node_tags n))
      (min (least_of (λ d. first_row (λ a. a.destination i d) rs) (destinations n))
      (min (least_of (λ s. first_row (λ a. a.signer s) rs) n.signers)
      (min (least_of (λ o. first_row (λ a. a.option o) rs) (options n)) (least_of (λ c. first_row (λ a. a.call c) rs) (calls n))))))
  row_node i n =
      rw (
        ← row_any (λ t a. a.tag t) fits (node_tags n),
        ← row_any (λ d a. a.destination i d) fits (destinations n),
        ← row_any (λ s a. a.signer s) fits n.signers,
        ← row_any (λ o a. a.option o) fits (options n),
        ← row_any (λ c a. a.call c) fits (calls n),
        ← row_either (λ a. any a.option (options n)) (λ a. any a.call (calls n)) fits,
        ← row_either (λ a. any a.signer n.signers) _ fits,
        ← row_either (λ a. any (a.destination i) (destinations n)) _ fits,
        ← row_either (λ a. any a.tag (node_tags n)) _ fits,
        ← row_either (λ a. a.node i n) _ fits,
      )
