use Rattle.std.proofs.Common.{subst, sym}
use Rattle.lc_frame.specs.Version.{IsGreetingPart}
use Rattle.lc_frame.proofs.Openings.{nothing_is_part}
use Rattle.lc_frame.proofs.stream_decoder.StreamDecoder.new.Goals as goal

pub invariant_of-result : goal.invariant_of-result
invariant_of-result c = subst IsGreetingPart (sym c.in_ok-new.ensures) nothing_is_part
