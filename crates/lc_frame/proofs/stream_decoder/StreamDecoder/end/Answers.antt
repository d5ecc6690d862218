use Rattle.std.proofs.Common.{inr}
use Rattle.lc_frame.proofs.Openings.{whole_stands}
use Rattle.lc_frame.proofs.stream_decoder.StreamDecoder.end.Goals as goal

pub returns-in-Whole : goal.returns-in-Whole
returns-in-Whole c = inr (_, whole_stands _ _ _ _ c.self.invariant c.self.view_is _ c.in-Whole.is)
