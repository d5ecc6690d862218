use Rattle.std.proofs.Common.{◌≡◌, ◌+◌, ◌-◌, [], length}
use Rattle.lc_frame.specs.Stored.{stored_in}
use Rattle.lc_peer.specs.Steps.{SoFar}
use Rattle.lc_peer.proofs.delivery.deliver_up_to.Given as goal

-- the frames so far arrived, and their bytes were taken; it stands between two frames
abbrev pub invariant-frames : goal.invariant-frames
invariant-frames g l = SoFar g.S.FrameSink.arrived l.fn.sink l.fn.decoder l.piece l.sink l.decoder l.taken l.frames × (l.decoder ≡ stored_in l.version [])

abbrev pub decreases-frames : goal.decreases-frames
decreases-frames g l = (length l.piece - l.taken) + length l.decoder.bytes
