-- The loop over a row: what was put of it, one element after the other. Assumes nothing.
use mathlib.Core.Path.{◌≡◌, refl, sym, ap, subst, ◌∙◌}
use mathlib.Core.Bool.{true, false}
use mathlib.Core.List.{List, [], ◌∷◌, ◌++◌, append_assoc, append-nil}
use Prim.Native.Nat.{ℕ, ◌<◌}
use native.Mathlib.Omega.{arith}
use lib.ListN.{length}
use Rattle.std.specs.Prelude.{None, Some}
use Rattle.tlv.specs.Element.{Element, Each}
use Rattle.tlv.specs.Fields.{elements}
use Rattle.lvs_description.specs.Format.{Lists}
use Rattle.lvs_describe.specs.Parts.{nothing, number, joined, joined_all, row}
use Rattle.lvs_describe.specs.Lent.{Describes}
use Rattle.lvs_describe.specs.Sorts.{is_of, item_of, items_of, row_of}
use Rattle.lvs_describe.specs.declared.output.Output.{Output}
use Rattle.lvs_describe.specs.declared.rows.Sort.{Sort}
use Rattle.lvs_describe.proofs.Appended.{joined_assoc}
use Rattle.lvs_describe.proofs.Puts.{describes_nothing, describes_then, describes_stop, describes_as}
use Rattle.lvs_describe.proofs.Loops.{insides_short, items_in, items_listed, item_here, item_passed}

joined_nothing : (l : Lists) → joined l nothing ≡ l
joined_nothing l = λ i. record { numbers = append-nil l.numbers i; texts = append-nil l.texts i }

joined_append : (ls ms : List Lists) → joined (joined_all ls) (joined_all ms) ≡ joined_all (ls ++ ms)
joined_append [] ms = refl
joined_append (x ∷ xs) ms = joined_assoc x (joined_all xs) (joined_all ms) ∙ ap (joined x) (joined_append xs ms)

one_more : (ls : List Lists) (l : Lists) → joined (joined_all ls) l ≡ joined_all (ls ++ (l ∷ []))
one_more ls l = ap (joined (joined_all ls)) (sym (joined_nothing l)) ∙ joined_append ls (l ∷ [])

-- of the elements of sort k in b those before the ones that are left were put, between two states
pub record Walked (k : Sort) (b : List ℕ) (left : List Element) (before now : Output) : Type 0 where
  pub items : List Lists
  pub whole : items ++ items_in k left ≡ items_of k b
  pub described : Describes (joined_all items) before now (Some tt)
  pub short : Each (λ e. length e.inside < length b) left

pub walk_first : {k : Sort} {b : List ℕ} {left : List Element} {s : Output} → left ≡ elements b → Walked k b left s s
walk_first {k} {b} e =
    record {
      items = [];
      whole = ap (items_in k) e ∙ sym (items_listed k b);
      described = describes_nothing;
      short = rw e (insides_short b (length b) (omega arith));
    }

module _ {k : Sort} {b : List ℕ} {left : List Element} {s now : Output} (w : Walked k b left s now) where
  module _ {e : Element} {es : List Element} (q : left ≡ e ∷ es) where
    behind : Each (λ x. length x.inside < length b) (e ∷ es)
    behind = subst (Each (λ x. length x.inside < length b)) q w.short

    pub walk_shorter : length e.inside < length b
    walk_shorter = behind.0

    pub walk_past : is_of k e.type ≡ false → Walked k b es s now
    walk_past h =
        record {
          items = w.items;
          whole = ap (λ xs. w.items ++ xs) (sym (ap (items_in k) q ∙ item_passed k e es h)) ∙ w.whole;
          described = w.described;
          short = behind.1;
        }

    rest : is_of k e.type ≡ true → w.items ++ (item_of k e.type e.inside ∷ items_in k es) ≡ items_of k b
    rest h = ap (λ xs. w.items ++ xs) (sym (ap (items_in k) q ∙ item_here k e es h)) ∙ w.whole

    pub walk_item : {next : Output} → is_of k e.type ≡ true → Describes (item_of k e.type e.inside) now next (Some tt) → Walked k b es s next
    walk_item h d =
        record {
          items = w.items ++ (item_of k e.type e.inside ∷ []);
          whole = append_assoc w.items _ _ ∙ rest h;
          described = describes_as (one_more w.items _) (describes_then w.described d);
          short = behind.1;
        }

    -- an item does not fit, and so neither do they all
    stopped : {next : Output} → is_of k e.type ≡ true → Describes (item_of k e.type e.inside) now next None
        → Describes (joined_all (items_of k b)) s next None
    stopped h d =
        describes_as (joined_append w.items _ ∙ ap joined_all (rest h))
        (describes_then w.described (describes_stop (joined_all (items_in k es)) d))

    pub walk_stopped : {m : ℕ} {first next : Output} → m ≡ length (items_of k b) → Describes (number m) first s (Some tt) → is_of k e.type ≡ true
        → Describes (item_of k e.type e.inside) now next None → Describes (row_of k b) first next None
    unfolding row_of row
    walk_stopped n c h d = rw (← n) (describes_then c (stopped h d))

  pub walk_end : {m : ℕ} {first : Output} → m ≡ length (items_of k b) → Describes (number m) first s (Some tt) → left ≡ []
      → Describes (row_of k b) first now (Some tt)
  unfolding row_of row
  walk_end n c q =
      let all : w.items ≡ items_of k b = sym (append-nil w.items) ∙ ap (λ es. w.items ++ items_in k es) (sym q) ∙ w.whole in
      rw (← n) (describes_then c (describes_as (ap joined_all all) w.described))

-- there are none
pub walk_none : (k : Sort) (b : List ℕ) {m : ℕ} {first now : Output} → m ≡ length (items_of k b) → m < 1 → Describes (number m) first now (Some tt)
    → Describes (row_of k b) first now (Some tt)
unfolding row_of row
walk_none k b {m} {first} {now} e h d = go (items_of k b) e
  where
    go : (ls : List Lists) → m ≡ length ls → Describes (row ls) first now (Some tt)
    go [] f = rw (← f) d
    go (x ∷ xs) f = absurd (omega arith)

-- their number does not fit
pub walk_unnumbered : (k : Sort) (b : List ℕ) {m : ℕ} {first now : Output} → m ≡ length (items_of k b) → Describes (number m) first now None
    → Describes (row_of k b) first now None
unfolding row_of row
walk_unnumbered k b e d = rw (← e) (describes_stop (joined_all (items_of k b)) d)
