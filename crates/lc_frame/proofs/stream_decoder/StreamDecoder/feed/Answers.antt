use Rattle.std.proofs.Common.{inl}
use Rattle.lc_frame.proofs.Openings.{whole_stands}
use Rattle.lc_frame.proofs.stream_decoder.StreamDecoder.feed.Goals as goal

pub returns-in-Whole-clause-stop : goal.returns-in-Whole-clause-stop
returns-in-Whole-clause-stop c = λ lt. inl (_, whole_stands _ _ _ _ c.self.invariant c.self.view_is _ c.in-Whole.is)
