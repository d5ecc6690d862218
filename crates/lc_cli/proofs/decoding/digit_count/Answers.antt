use Rattle.std.proofs.Common.{◌≡◌, slice_index, true}
use borrow.Author.Count.{below_more}
use Rattle.hex.specs.Hex.{is_hex_digit}
use Rattle.lc_cli.proofs.Digits.{is_digit}
use Rattle.lc_cli.proofs.decoding.digit_count.Goals as goal

pub digits-preserved : goal.digits-preserved
digits-preserved c =
    below_more (λ k. is_hex_digit (slice_index c.args.bytes.now k) ≡ true) c.digits.place c.digits.invariant (is_digit (slice_index c.args.bytes.now c.digits.place) c.value.result c.value.ensures c.if-value-ge16.false)
