-- Elements (docs/format.md, 2.2): a type, a length and that many bytes. Definitions only.
use Rattle.std.specs.Prelude.{ℕ, zero, suc, ◌+◌, ◌-◌, ◌<◌, ◌^◌, ◌≡◌, List, [], ◌∷◌, ◌++◌, Bool, true, cond, ◌&&◌, leb, length, take, drop}
use Rattle.std.proofs.Math.Option.{Option, none, some}
use Rattle.tlv.specs.Number.{Num, unreadable, num, number, number_bytes}

-- `inside` is NDN's TLV-VALUE; Value is an element of LVS
pub record Element : Type 0 where
  pub type : ℕ
  pub inside : List ℕ

-- types run from 1 to 4,294,967,295
unfoldable pub type_in_range : ℕ → Bool
type_in_range t = leb 1 t && leb t 4294967295

-- ---- reading

-- what stands first in a list of bytes: nothing, no element, or an element, with the size of its header (type and length) and what comes after it
pub data First : Type 0 where
  end : First
  malformed : First
  first : (header : ℕ) (e : Element) (rest : List ℕ) → First

-- b begins with a type t of k bytes; then a length n of j bytes
unfoldable pub sized : List ℕ → ℕ → ℕ → Num → First
sized b t k unreadable = malformed
sized b t k (num n j) =
    cond (leb n (length b - (k + j)))
    (first (k + j) (record { type = t; inside = take n (drop (k + j) b) }) (drop (k + j + n) b))
    malformed

unfoldable pub typed : List ℕ → Num → First
unfolding sized type_in_range
typed b unreadable = malformed
typed b (num t k) = cond (type_in_range t) (sized b t k (number (drop k b))) malformed

-- the first element of a list of bytes
unfoldable pub element : List ℕ → First
unfolding typed
element [] = end
element (x ∷ xs) = typed (x ∷ xs) (number (x ∷ xs))

-- a list of bytes cut into elements from the front: it ends, or breaks off where no element stands, or goes on
pub data Cuts : Type 0 where
  done : Cuts
  broken : Cuts
  next : (e : Element) (rest : Cuts) → Cuts

-- `go` cuts what comes after the first element
abbrev pub after : First → (List ℕ → Cuts) → Cuts
after end go = done
after malformed go = broken
after (first h e rest) go = next e (go rest)

-- an element takes a byte or more, so one more than the length is enough to count down from
unfoldable pub cuts_by : ℕ → List ℕ → Cuts
cuts_by zero b = broken
cuts_by (suc k) b = after (element b) (λ rest. cuts_by k rest)

unfoldable pub cuts : List ℕ → Cuts
cuts b = cuts_by (suc (length b)) b

-- the elements, and `none` for a rest that no element begins
unfoldable pub pieces : Cuts → List (Option Element)
pieces done = []
pieces broken = none ∷ []
pieces (next e rest) = some e ∷ pieces rest

-- one element more in front
abbrev pub also : Element → Option (List Element) → Option (List Element)
also e none = none
also e (some es) = some (e ∷ es)

abbrev pub whole : Cuts → Option (List Element)
whole done = some []
whole broken = none
whole (next e rest) = also e (whole rest)

-- the elements that a list of bytes is made of, with nothing left over
unfoldable pub split : List ℕ → Option (List Element)
split b = whole (cuts b)

-- ---- writing

-- type and length in their shortest form, then the inside
unfoldable pub element_bytes : Element → List ℕ
element_bytes e = number_bytes e.type ++ (number_bytes (length e.inside) ++ e.inside)

unfoldable pub encode : List Element → List ℕ
encode [] = []
encode (e ∷ es) = element_bytes e ++ encode es

-- ---- what the laws of the two ask

-- an element that has an encoding
pub record InRange (e : Element) : Type 0 where
  pub type_ok : type_in_range e.type ≡ true
  pub length_ok : length e.inside < 2 ^ 64

-- P holds of each
abbrev pub Each : (Element → Type 0) → List Element → Type 0
Each P [] = Unit {0}
Each P (e ∷ es) = P e × Each P es

-- the elements es, and then c
abbrev pub nexts : List Element → Cuts → Cuts
nexts [] c = c
nexts (e ∷ es) c = next e (nexts es c)
