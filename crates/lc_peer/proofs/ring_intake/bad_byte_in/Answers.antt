use Rattle.std.proofs.Common.{refl}
use Rattle.lc_peer.proofs.Offending.{only_bad_tag, not_bad_tag}
use Rattle.lc_peer.proofs.ring_intake.bad_byte_in.Goals as goal

pub returns-in-ZeroLength : goal.returns-in-ZeroLength
returns-in-ZeroLength c = record {
  bad = λ bad. absurd (not_bad_tag c.in_ok-fault.field-0 c.in-ZeroLength.is (only_bad_tag c.args.decoder.now c.in_ok-fault.field-0 bad c.in_ok-fault.ensures.found));
  none = λ no. refl;
}
