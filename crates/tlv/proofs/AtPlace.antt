-- What `read_at` is at a place, by the tests that the reader makes. Assumes nothing.
use mathlib.Core.Path.{◌≡◌}
use mathlib.Core.List.{List}
use mathlib.Core.Bool.{true, false}
use Prim.Native.Nat.{ℕ, ◌+◌, ◌-◌, ◌≤◌, ◌<◌}
use native.Mathlib.Omega.{arith}
use borrow.Author.Tests.{le-leb, lt-leb}
use lib.ListN.{length, take, drop, length-drop, drop_of_length-le}
use lib.Seq.{drop-drop, length-take-le}
use Rattle.tlv.specs.Number.{unreadable, number}
use Rattle.tlv.specs.Element.{element, typed, sized, type_in_range}
use Rattle.tlv.specs.Answers.{read_at}
use Rattle.tlv.specs.declared.Read.TheVariants.{Found, End, Malformed}
use Rattle.tlv.proofs.Numbers.{Numbered, drop-next}

module _ (s : List ℕ) (at : ℕ) where
  pub at_end : length s ≤ at → read_at s at ≡ End
  unfolding read_at element
  at_end h = rw (drop_of_length-le s h)

  module _ (h : at < length s) where
    element_is : element (drop at s) ≡ typed (drop at s) (number (drop at s))
    unfolding element
    element_is = rw (drop-next s at h)

    pub no_type : number (drop at s) ≡ unreadable → read_at s at ≡ Malformed
    unfolding read_at typed
    no_type e = rw (element_is, e)

    module _ {t middle : ℕ} (T : Numbered s at t middle) where
      pub malformed_type : type_in_range t ≡ false → read_at s at ≡ Malformed
      unfolding read_at typed
      malformed_type e = rw (element_is, T.is, e)

      module _ (ok : type_in_range t ≡ true) where
        sized_is : element (drop at s) ≡ sized (drop at s) t T.size (number (drop middle s))
        unfolding typed
        sized_is = rw (element_is, T.is, ok, drop-drop T.size at s, ← T.place)

        pub no_length : number (drop middle s) ≡ unreadable → read_at s at ≡ Malformed
        unfolding read_at sized
        no_length e = rw (sized_is, e)

        module _ {n start : ℕ} (L : Numbered s middle n start) where
          head : start ≡ at + (T.size + L.size)
          head = omega (arith, T.place, L.place)

          left : length (drop at s) - (T.size + L.size) ≡ length s - start
          left = simp length-drop (omega (arith, T.place, L.place))

          pub too_long_lem : length s - start < n → read_at s at ≡ Malformed
          unfolding read_at sized
          too_long_lem lt = rw (sized_is, L.is, left, lt-leb _ _ lt)

          pub found : n ≤ length s - start → read_at s at ≡ Found t start (start + n) (record { at = start + n })
          unfolding read_at sized
          found le =
              let e : length (take n (drop (T.size + L.size) (drop at s))) ≡ n = length-take-le n _
              (rw (length-drop (T.size + L.size) (drop at s), left) le) in
              rw (sized_is, L.is, left, le-leb _ _ le) (rw (e, ← head))

pub type_low : {t : ℕ} → t < 1 → type_in_range t ≡ false
unfolding type_in_range
type_low h = rw (lt-leb _ _ h)

pub type_high : {t : ℕ} → 1 ≤ t → 4294967295 < t → type_in_range t ≡ false
unfolding type_in_range
type_high g h = rw (le-leb _ _ g, lt-leb _ _ h)

pub type_ok : {t : ℕ} → 1 ≤ t → t ≤ 4294967295 → type_in_range t ≡ true
unfolding type_in_range
type_ok g h = rw (le-leb _ _ g, le-leb _ _ h)
