-- A request in bytes.
use Rattle.std.specs.Prelude.{ℕ, List, ◌++◌, length}
use Rattle.lvs_check.specs.declared.TheConstants.{MARK}
use Rattle.std.specs.Int.{to_be_bytes, w16}

-- a name behind its length
abbrev pub name_of : List ℕ → List ℕ
name_of bytes = to_be_bytes w16 (length bytes) ++ bytes

-- the mark and the two names
abbrev pub request_of : List ℕ → List ℕ → List ℕ
request_of packet key = MARK ++ name_of packet ++ name_of key
