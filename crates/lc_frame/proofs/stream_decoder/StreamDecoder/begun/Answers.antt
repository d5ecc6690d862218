use Rattle.lc_frame.proofs.Openings.{whole_stands, fault_stands}
use Rattle.lc_frame.proofs.stream_decoder.StreamDecoder.begun.Goals as goal

pub returns-in-Whole-clause-none : goal.returns-in-Whole-clause-none
returns-in-Whole-clause-none c = λ undecided channel len begun. undecided.no_frame _ (whole_stands _ _ _ _ c.self.invariant c.self.view_is _ c.in-Whole.is)

pub returns-in-Fault-clause-none : goal.returns-in-Fault-clause-none
returns-in-Fault-clause-none c = λ undecided channel len begun. undecided.no_fault _ (fault_stands _ _ _ _ c.self.invariant c.self.view_is _ c.in-Fault.is)
