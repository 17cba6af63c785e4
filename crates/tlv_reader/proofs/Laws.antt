-- What the covered functions answer, by the tests that they make. Assumes nothing.
use mathlib.Core.Path.{◌≡◌, sym, ap, ◌∙◌}
use mathlib.Core.List.{List, []}
use Prim.Native.Nat.{ℕ, ◌-◌}
use lib.ListN.{take, drop}
use Rattle.tlv.specs.Answers.{read_at}
use Rattle.tlv.specs.declared.Place.{Place}
use Rattle.tlv.specs.declared.Read.{Read}
use Rattle.tlv.specs.declared.Read.TheVariants.{Found, End, Malformed}
use Rattle.tlv.proofs.Cuts.{first_seen}
use Rattle.tlv_reader.specs.declared.Reader.{Reader}
use Rattle.tlv_reader.specs.Methods.{place_after, moved, inside_from, inside_at}

-- ---- the inside

module _ (s : List ℕ) (at : ℕ) {r : Read} (e : r ≡ read_at s at) where
  pub inside_found : {typ start stop : ℕ} {n : Place} → r ≡ Found typ start stop n → take (stop - start) (drop start s) ≡ inside_at s at
  unfolding inside_at
  inside_found f = sym (ap inside_from (first_seen s at e f).first_is)

  pub inside_end : r ≡ End → [] ≡ inside_at s at
  unfolding inside_at
  inside_end f = sym (ap inside_from (first_seen s at e f))

  pub inside_malformed : r ≡ Malformed → [] ≡ inside_at s at
  unfolding inside_at
  inside_malformed f = sym (ap inside_from (first_seen s at e f))

-- the reader at the place after what was read is the one moved
pub moved_is : (d : Reader) {r : Read} {n : ℕ} → r ≡ read_at d.src.now d.at → n ≡ place_after r d.at → record { src = d.src; at = n } ≡ moved d
unfolding moved
moved_is d e f = λ i. record { src = d.src; at = (f ∙ ap (λ (r : Read). place_after r d.at) e) i }
