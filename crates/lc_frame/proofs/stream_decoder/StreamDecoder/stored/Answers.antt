use Rattle.lc_frame.proofs.Openings.{is_settled}
use Rattle.lc_frame.proofs.stream_decoder.StreamDecoder.stored.Goals as goal

pub returns-clause-settled : goal.returns-clause-settled
returns-clause-settled c = is_settled _ _ _ _ c.self.invariant c.self.view_is
