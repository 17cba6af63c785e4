-- Parts of a description, each with lists of its own, and one behind the other. Definitions only.
use Rattle.std.specs.Prelude.{ℕ, List, [], ◌∷◌, ◌++◌, length}
use Rattle.lvs_description.specs.Format.{Lists, Format, put}

abbrev pub nothing : Lists
nothing = record { numbers = []; texts = [] }

abbrev pub joined : Lists → Lists → Lists
joined a b = record { numbers = a.numbers ++ b.numbers; texts = a.texts ++ b.texts }

abbrev pub joined_all : List Lists → Lists
joined_all [] = nothing
joined_all (l ∷ ls) = joined l (joined_all ls)

-- a format's part by itself
unfoldable pub shown : {A : Type 0} → Format A → A → Lists
shown f a = f.onto a nothing

-- a number alone, and bytes alone
abbrev pub number : ℕ → Lists
number n = put n nothing

abbrev pub bytes : List ℕ → Lists
bytes s = record { numbers = []; texts = s }

-- how many parts there are, and each
unfoldable pub row : List Lists → Lists
row ls = put (length ls) (joined_all ls)
