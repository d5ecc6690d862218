use Rattle.std.proofs.Common.{arith}
use Rattle.lc_frame.proofs.Fronts.{finds}
use Rattle.lc_frame.proofs.scan.scan_front.Goals as goal

pub returns : goal.returns
returns c = finds c.args.version _ c.args.bytes.now (λ i. omega (arith, c.type_inv.bytes i)) c.scan_bytes.ensures
