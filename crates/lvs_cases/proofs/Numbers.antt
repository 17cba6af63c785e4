-- The bytes of numbers, one after the other.
use Rattle.std.proofs.Common.{◌≡◌, ℕ, ◌+◌, ◌*◌, ◌<◌, List, [], ◌∷◌, ◌++◌, length, take, set, flat_map, sym, ap, ◌∙◌, zero-mul, arith}
use Rattle.std.proofs.lemmas.List.{take_more_set, append-nil, length-append}
use Rattle.std.proofs.lemmas.List.Concat.{flat_map-append}

-- one more
pub more : {T : Type 0} (bytes : T → List ℕ) (xs : List T) (i : ℕ) (x : T) → i < length xs
    → flat_map bytes (take (i + 1) (set xs i x)) ≡ flat_map bytes (take i xs) ++ bytes x
more bytes xs i x below =
    ap (flat_map bytes) (take_more_set xs i x below)
    ∙ flat_map-append bytes (take i xs) (x ∷ [])
    ∙ ap (λ last. flat_map bytes (take i xs) ++ last) (append-nil (bytes x))

-- where each has as many
pub total : {T : Type 0} (bytes : T → List ℕ) (size : ℕ) → ((x : T) → length (bytes x) ≡ size)
    → (xs : List T) → length (flat_map bytes xs) ≡ length xs * size
total bytes size each [] = sym (zero-mul size)
total bytes size each (x ∷ xs) = omega (arith, length-append (bytes x) (flat_map bytes xs), each x, total bytes size each xs)
