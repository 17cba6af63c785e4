-- Two halves of a number, stored one behind the other, spell it. Assumes nothing.
use mathlib.Core.Path.{◌≡◌, sym, ap, ◌∙◌}
use mathlib.Core.List.{List, ◌++◌}
use Prim.Native.Nat.{ℕ, ◌+◌, ◌/◌, ◌%◌, ◌^◌, ◌<◌}
use native.Mathlib.Nat.{mod-lt, div-add-mod', div-lt_iff_lt-mul}
use lib.Pow.{pow-add}
use lib.ListN.{length, length-append}
use lib.Seq.{sets}
use Rattle.tlv.specs.Bytes.{Bytes, big_endian, big_endian_bytes}
use Rattle.tlv.proofs.Bytes.{pow_pos, bytes_append, bytes_spelled, length-spelled, big_spelled, spelled_big, big_append}
use Rattle.tlv_writer.specs.Stored.{Stored}
use Rattle.tlv_writer.proofs.Stores.{stored_both}

spelled_halves : (w v n : ℕ) → n < 256 ^ (w + v) → big_endian_bytes w (n / 256 ^ v) ++ big_endian_bytes v (n % 256 ^ v) ≡ big_endian_bytes (w + v) n
spelled_halves w v n h =
    let high = big_endian_bytes w (n / 256 ^ v) in
    let low = big_endian_bytes v (n % 256 ^ v) in
    let top : n / 256 ^ v < 256 ^ w = (div-lt_iff_lt-mul (pow_pos v)).1 (rw (pow-add 256 w v) at h) in
    let end : n % 256 ^ v < 256 ^ v = mod-lt n (pow_pos v) in
    let bytes : Bytes (high ++ low) = bytes_append high low (bytes_spelled w _ top) (bytes_spelled v _ end) in
    let long : length (high ++ low) ≡ w + v =
    length-append high low ∙ (λ i. length-spelled w (n / 256 ^ v) i + length-spelled v (n % 256 ^ v) i) in
    let is : big_endian (high ++ low) ≡ n =
    big_append high low ∙ rw (big_spelled w _ top, big_spelled v _ end, length-spelled v (n % 256 ^ v)) (div-add-mod' n (256 ^ v)) in
    sym (spelled_big (high ++ low) bytes) ∙ (λ i. big_endian_bytes (long i) (is i))

pub halves_stored : {b₀ b₁ b₂ : List ℕ} (at w v n : ℕ) → n < 256 ^ (w + v) → Stored b₀ b₁ at (big_endian_bytes w (n / 256 ^ v))
    → Stored b₁ b₂ (at + w) (big_endian_bytes v (n % 256 ^ v)) → Stored b₀ b₂ at (big_endian_bytes (w + v) n)
halves_stored {b₀} {b₁} {b₂} at w v n h P Q =
    record { is = (stored_both P Q (ap (λ (k : ℕ). at + k) (length-spelled w (n / 256 ^ v)))).is ∙ ap (sets b₀ at) (spelled_halves w v n h) }
