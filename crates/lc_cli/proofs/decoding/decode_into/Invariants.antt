-- The bytes of the pairs so far are put.
use Rattle.std.proofs.Common.{◌≡◌, ◌*◌, take, drop}
use Rattle.hex.specs.Hex.{decode_pairs}
use Rattle.hex.proofs.Pairs.{prepend}
use Rattle.lc_cli.proofs.decoding.decode_into.Given as goal

abbrev pub invariant-bytes : goal.invariant-bytes
invariant-bytes l =
    decode_pairs 0 l.text ≡ prepend (take l.place l.bytes) (decode_pairs (2 * l.place) (drop (2 * l.place) l.text))
