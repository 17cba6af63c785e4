-- Formats: how a part of a model is laid out in the two lists of a description, the numbers and the texts' bytes (docs/format.md, 12), and as
-- which elements it is written (docs/format.md, 3). A few formats, and the ways to make one of others. Definitions only.
use Rattle.std.specs.Prelude.{ℕ, zero, suc, Bool, true, cond, ◌&&◌, List, [], ◌∷◌, ◌++◌, leb, ltb, length, take, drop}
use Rattle.std.proofs.Math.Option.{Option, none, some}
use Rattle.tlv.specs.Bytes.{big_endian_bytes}
use Rattle.tlv.specs.Element.{Element, element_bytes, encode}
use Rattle.tlv.specs.Lists.{bind, guard, each, all}
use Rattle.lvs_spec.specs.Limits.{max_component_type}

-- ---- integers

-- the shortest of the four widths; 8 bytes for what does not fit, too

unfoldable pub integer_width : ℕ → ℕ
integer_width n = cond (ltb n 256) 1 (cond (ltb n 65536) 2 (cond (ltb n 4294967296) 4 8))

-- big-endian, in that width
unfoldable pub integer_bytes : ℕ → List ℕ
integer_bytes n = big_endian_bytes (integer_width n) n

-- ---- the two lists

-- the numbers, and the bytes of all texts one after the other
pub record Lists : Type 0 where
  pub numbers : List ℕ
  pub texts : List ℕ

-- what is read off the front, and the lists that are left; none where a list runs out or a number may not stand there
abbrev pub Taken : Type 0 → Type 0
Taken A = Option (A × Lists)

-- the first number
abbrev pub head_of : List ℕ → List ℕ → Taken ℕ
head_of [] ts = none
head_of (n ∷ ns) ts = some (n, record { numbers = ns; texts = ts })

abbrev pub take_number : Lists → Taken ℕ
take_number l = head_of l.numbers l.texts

-- the next n bytes of the texts
unfoldable pub bytes_of : ℕ → Lists → Taken (List ℕ)
bytes_of n l = guard (leb n (length l.texts)) (take n l.texts, record { numbers = l.numbers; texts = drop n l.texts })

-- a text: its length stands among the numbers, its bytes among the texts
unfoldable pub take_text : Lists → Taken (List ℕ)
take_text l = bind (take_number l) (λ r. bytes_of r.0 r.1)

-- a number in front
abbrev pub put : ℕ → Lists → Lists
put n l = record { numbers = n ∷ l.numbers; texts = l.texts }

-- a text in front
abbrev pub put_text : List ℕ → Lists → Lists
put_text s l = record { numbers = length s ∷ l.numbers; texts = s ++ l.texts }

-- ---- formats

-- how an A is read off the lists and put onto them, as which elements it is written, and when these are well formed (docs/format.md, 3.3)
pub record Format (A : Type 0) : Type 0 where
  pub from : Lists → Taken A
  pub onto : A → Lists → Lists
  pub elements : A → List Element
  pub formed : A → Bool

-- one element, of type t
abbrev pub holds : ℕ → List ℕ → List Element
holds t b = record { type = t; inside = b } ∷ []

-- a number; as an element, an integer of type t
abbrev pub integer : ℕ → Format ℕ
integer t =
    record {
      from = take_number;
      onto = put;
      elements = λ n. holds t (integer_bytes n);
      formed = λ n. true;
    }

-- a text; as an element, its bytes in one of type t, well formed where a test passes
abbrev pub text : ℕ → (List ℕ → Bool) → Format (List ℕ)
text t ok = record { from = take_text; onto = put_text; elements = λ s. holds t s; formed = ok }

-- a component's type, which is any number, and its bytes, a text
abbrev pub take_component : Lists → Taken Element
take_component l = bind (take_number l) (λ r. bind (take_text r.1) (λ s. some (record { type = r.0; inside = s.0 }, s.1)))

-- a type that a name component may have
unfoldable pub component_type : ℕ → Bool
component_type n = leb 1 n && leb n max_component_type

-- a component; as an element, its own bytes in one of type t
abbrev pub component : ℕ → Format Element
component t =
    record {
      from = take_component;
      onto = λ e l. put e.type (put_text e.inside l);
      elements = λ e. holds t (element_bytes e);
      formed = λ e. component_type e.type;
    }

module _ {A B : Type 0} where
  infixr 40 ◌then◌
  -- one, and then another
  abbrev pub ◌then◌ : Format A → Format B → Format (A × B)
  f then g =
      record {
        from = λ l. bind (f.from l) (λ r. bind (g.from r.1) (λ s. some ((r.0, s.0), s.1)));
        onto = λ p l. f.onto p.0 (g.onto p.1 l);
        elements = λ p. f.elements p.0 ++ g.elements p.1;
        formed = λ p. f.formed p.0 && g.formed p.1;
      }

  -- the same, as values of another type
  abbrev pub under : (A → B) → (B → A) → Format A → Format B
  under there back f =
      record {
        from = λ l. bind (f.from l) (λ r. some (there r.0, r.1));
        onto = λ b l. f.onto (back b) l;
        elements = λ b. f.elements (back b);
        formed = λ b. f.formed (back b);
      }

module _ {A : Type 0} where
  -- n values, one after the other
  abbrev pub times : (Lists → Taken A) → ℕ → Lists → Taken (List A)
  times f zero l = some ([], l)
  times f (suc n) l = bind (f l) (λ r. bind (times f n r.1) (λ s. some (r.0 ∷ s.0, s.1)))

  abbrev pub onto_all : (A → Lists → Lists) → List A → Lists → Lists
  onto_all f [] l = l
  onto_all f (x ∷ xs) l = f x (onto_all f xs l)

  -- any number of them: how many, and then each
  abbrev pub many : Format A → Format (List A)
  many f =
      record {
        from = λ l. bind (take_number l) (λ r. times f.from r.0 r.1);
        onto = λ xs l. put (length xs) (onto_all f.onto xs l);
        elements = λ xs. each f.elements xs;
        formed = λ xs. all f.formed xs;
      }

  -- at most one: 0, or 1 and then the value
  abbrev pub maybe_from : (Lists → Taken A) → ℕ → Lists → Taken (Option A)
  maybe_from f zero l = some (none, l)
  maybe_from f (suc zero) l = bind (f l) (λ r. some (some r.0, r.1))
  maybe_from f (suc (suc n)) l = none

  abbrev pub onto_maybe : (A → Lists → Lists) → Option A → Lists → Lists
  onto_maybe f none l = put 0 l
  onto_maybe f (some a) l = put 1 (f a l)

  abbrev pub each_maybe : (A → List Element) → Option A → List Element
  each_maybe f none = []
  each_maybe f (some a) = f a

  abbrev pub all_maybe : (A → Bool) → Option A → Bool
  all_maybe f none = true
  all_maybe f (some a) = f a

  abbrev pub maybe : Format A → Format (Option A)
  maybe f =
      record {
        from = λ l. bind (take_number l) (λ r. maybe_from f.from r.0 r.1);
        onto = onto_maybe f.onto;
        elements = each_maybe f.elements;
        formed = all_maybe f.formed;
      }

  -- the same in the lists; its elements stand inside one of type t
  abbrev pub within : ℕ → Format A → Format A
  within t f =
      record {
        from = f.from;
        onto = f.onto;
        elements = λ a. holds t (encode (f.elements a));
        formed = f.formed;
      }

  -- the same in the lists; its elements stand behind es, which are always the same
  abbrev pub behind : List Element → Format A → Format A
  behind es f =
      record {
        from = f.from;
        onto = f.onto;
        elements = λ a. es ++ f.elements a;
        formed = f.formed;
      }
