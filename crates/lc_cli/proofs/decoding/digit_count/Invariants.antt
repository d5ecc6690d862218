-- The bytes so far are digits.
use Rattle.std.proofs.Common.{◌≡◌, ◌<◌, ℕ, slice_index, true}
use Rattle.hex.specs.Hex.{is_hex_digit}
use Rattle.lc_cli.proofs.decoding.digit_count.Given as goal

abbrev pub invariant-digits : goal.invariant-digits
invariant-digits l = (k : ℕ) → k < l.place → is_hex_digit (slice_index l.bytes k) ≡ true
