use Rattle.std.proofs.Common.{◌*◌, arith}
use Rattle.hex.proofs.Pairs.{decode_step, decode_done, decode_err, decode_start}
use Rattle.lc_cli.proofs.decoding.decode_into.Goals as goal

pub bytes-init : goal.bytes-init
bytes-init c = decode_start _ c.args.bytes.now

pub bytes-preserved : goal.bytes-preserved
bytes-preserved c =
    decode_step _ _ c.bytes.place _ (omega arith) (omega arith) (c.in-Some.ensures (2 * c.bytes.place)) c.bytes.invariant

pub returns-in_default : goal.returns-in_default
returns-in_default c =
    let (e, refused) = c.in_default.ensures (2 * c.bytes.place) in
    (e, decode_err _ c.bytes.bytes c.bytes.place e (omega arith) refused c.bytes.invariant)

pub returns : goal.returns
returns c = decode_done _ c.bytes.bytes c.bytes.place (omega arith) (omega arith) c.bytes.invariant
