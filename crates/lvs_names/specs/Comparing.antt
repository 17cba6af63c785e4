-- Two components compared: what is answered, and what the bytes that they stand in have to do with it.
use Rattle.std.specs.Prelude.{ℕ, ◌-◌, ◌≤◌, ◌<◌, ◌≡◌, List, length, take, drop, get_or}
use Rattle.tlv.specs.Element.{Element}
use Rattle.lvs_spec.specs.Names.{same, looked}
use Rattle.lvs_names.specs.declared.Compared.{Compared}

-- whether two components are equal, and how many value bytes were looked at
pub record ComparedOf (a b : Element) (r : Compared) : Type 0 where
  pub equal : r.equal ≡ same a b
  pub looked : r.looked ≡ looked a b

-- a header of two bytes or more ends within c, and s is as long as c
pub record Headed (s c : List ℕ) (header : ℕ) : Type 0 where
  pub some : 2 ≤ header
  pub within : header ≤ length c
  pub long : length c ≤ length s

-- from `left` on s has the bytes of c
pub record AlikeFrom (s c : List ℕ) (header left : ℕ) : Type 0 where
  pub low : header ≤ left
  pub high : left ≤ length c
  pub alike : drop left (take (length c) s) ≡ drop left c

-- and not the byte before that, unless the header ends there
pub record LastDifference (s c : List ℕ) (header left : ℕ) : Type 0 where
  pub behind : AlikeFrom s c header left
  pub unequal : header < left → get_or s (left - 1) 0 ≡ get_or c (left - 1) 0 → ⊥
