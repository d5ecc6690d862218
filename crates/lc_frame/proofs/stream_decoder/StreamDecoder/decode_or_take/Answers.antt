use Rattle.lc_frame.proofs.Sends.{frame_within, fault_within, needs_within}
use Rattle.lc_frame.proofs.stream_decoder.StreamDecoder.decode_or_take.Goals as goal

pub returns-in-Whole-clause-within : goal.returns-in-Whole-clause-within
returns-in-Whole-clause-within c = frame_within c.args.version c.args.most c.in-Whole.used c.in-Whole.head c.args.piece.now c.in-Whole.ensures c.if-used-most.true

pub returns-in-Fault-clause-within : goal.returns-in-Fault-clause-within
returns-in-Fault-clause-within c = fault_within c.args.version c.args.most c.in-Fault.fault c.args.piece.now c.in-Fault.ensures

pub returns-in-Needs-clause-within : goal.returns-in-Needs-clause-within
returns-in-Needs-clause-within c = needs_within c.args.version c.args.most c.in-Needs.more c.args.piece.now c.in-Needs.ensures c.if-more-most.true
