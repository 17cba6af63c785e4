-- What the functions promise each other: where they are in the two lists, and what they have put into the output.
use Rattle.std.specs.Prelude.{ℕ, suc, ◌+◌, ◌-◌, ◌≤◌, min, ◌≡◌, List, ◌++◌, length, take, drop, Option, None, Some, MatchOption}
use Rattle.std.specs.Borrow.{Bor}
use Rattle.std.proofs.Math.Option.{none, some}
use Rattle.std.proofs.Math.Option as maybe
use Rattle.tlv.specs.Number.{number_bytes}
use Rattle.tlv.specs.Element.{element_bytes, encode}
use Rattle.tlv_writer.specs.Stored.{Stored}
use Rattle.lvs_spec.specs.Limits.{max_model_bytes}
use Rattle.lvs_spec.specs.Types as type
use Rattle.lvs_spec.specs.WellFormed.{this_version}
use Rattle.lvs_spec.specs.Model.{Model}
use Rattle.lvs_description.specs.Format.{Lists, Taken, take_number, take_text, integer_bytes, holds}
use Rattle.lvs_description.specs.Description.{model_bytes, description_of}
use Rattle.lvs_write.specs.declared.cursor.Cursor.{Cursor}
use Rattle.lvs_write.specs.Spelled.{Bytes}

-- bytes are counted up to one more than a model may have
unfoldable pub capped : ℕ → ℕ
capped n = min n (suc max_model_bytes)

-- how many bytes an element takes whose inside has n
unfoldable pub element_size : ℕ → ℕ → ℕ
element_size t n = length (number_bytes t) + (length (number_bytes n) + n)

-- what is left of the lists at a place
abbrev pub left : Cursor → Lists
left s = record { numbers = s.numbers.now; texts = s.texts.now }

-- `a` was taken off the lists at s, and r is behind it
pub record Took {A : Type 0} (f : Lists → Taken A) (s : Cursor) (a : A) (r : Cursor) : Type 0 where
  pub is : f (left s) ≡ some (a, left r)
  pub place : r.at ≡ s.at

-- f finds nothing at s
pub record Missing {A : Type 0} (f : Lists → Taken A) (s : Cursor) : Type 0 where
  pub is : f (left s) ≡ none

-- a number, where there is one
abbrev pub TakesNumber : Cursor → Option (ℕ × Cursor) → Type 0
TakesNumber s r = MatchOption r (Missing take_number s) (λ p. Took take_number s p.0 p.1)

-- a text, where there is one
abbrev pub TakesText : Cursor → Option (Bor (List ℕ) × Cursor) → Type 0
TakesText s r = MatchOption r (Missing take_text s) (λ p. Took take_text s p.0.now p.1)

-- From s to r what f reads was gone through, and it was put where the output has room for all of it.
pub record Wrote (f : Lists → Bytes) (before now : List ℕ) (s r : Cursor) : Type 0 where
  pub bytes : List ℕ
  pub is : f (left s) ≡ some (bytes, left r)
  pub place : capped r.at ≡ capped (s.at + length bytes)
  pub put : s.at + length bytes ≤ max_model_bytes → s.at + length bytes ≤ length before → Stored before now s.at bytes

-- The same where there is anything for f to read.
pub record Writes (f : Lists → Bytes) (before now : List ℕ) (s : Cursor) (r : Option Cursor) : Type 0 where
  pub by_end : MatchOption r (Missing f s) (λ m. Wrote f before now s m)

-- the same place, in a part where nothing has been written yet
abbrev pub front_of : Cursor → Cursor
front_of s = record { numbers = s.numbers; texts = s.texts; at = 0 }

-- from where to where an inside is lent a part of `len` bytes at first: behind a header of two bytes at `at`, if there is room, and only as many
-- bytes as such a header can say
pub record Early (at len early until : ℕ) : Type 0 where
  pub order : early ≤ until
  pub within : until ≤ len
  pub short : until ≤ early + 252
  pub place : at + 2 ≤ max_model_bytes → at + 2 ≤ len → early ≡ at + 2
  pub room : (k : ℕ) → k ≤ 252 → early + k ≤ len → early + k ≤ until

-- f was gone through from s to r, and what was put stands in that part
pub record WritesEarly (f : Lists → Bytes) (before now : List ℕ) (s : Cursor) (r : Option Cursor) : Type 0 where
  pub early : ℕ
  pub until : ℕ
  pub places : Early s.at (length before) early until
  pub part : List ℕ
  pub part_long : length part ≡ until - early
  pub now_is : now ≡ take early before ++ (part ++ drop (until - early) (drop early before))
  pub wrote : Writes f (take (until - early) (drop early before)) part (front_of s) r

-- type and length
unfoldable pub header_bytes : ℕ → ℕ → List ℕ
header_bytes t n = number_bytes t ++ number_bytes n

-- the bytes of an element of type t, with the inside i
abbrev pub el : ℕ → List ℕ → List ℕ
el t i = element_bytes (record { type = t; inside = i })

-- the inside of a ValueEdge to a Node, with a component of type c
abbrev pub edge_bytes : ℕ → ℕ → List ℕ → List ℕ
edge_bytes to c i = el type.NodeId (integer_bytes to) ++ el type.Value (el c i)

-- bs was put at a place, if there is room for all of it; it has `size` bytes
pub record Puts (before now : List ℕ) (at : ℕ) (bs : List ℕ) (size : ℕ) : Type 0 where
  pub size_is : size ≡ length bs
  pub put : at + size ≤ length before → Stored before now at bs

-- ---- the whole

-- the Version, which takes nothing off the lists
unfoldable pub version_from : Lists → Bytes
version_from l = some (encode (holds type.Version this_version), l)

-- the size of a description, up to the cap, where there is one
abbrev pub size_of : maybe.Option Model → Option ℕ
size_of none = None
size_of (some m) = Some (capped (length (model_bytes m)))

-- the bytes of the description were put at the front, where there is room for them
pub record Written (ns ts before now : List ℕ) : Type 0 where
  pub put : (m : Model) → description_of ns ts ≡ some m → length (model_bytes m) ≤ max_model_bytes → length (model_bytes m) ≤ length before
      → Stored before now 0 (model_bytes m)
