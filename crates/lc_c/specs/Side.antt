-- What contracts see of a peer with its two streams, behind a handle. These words are this project's own.
use Rattle.std.specs.Prelude.{ℕ}
use Rattle.lc_peer.specs.Peer.{PeerState}
use Rattle.lc_peer.specs.Intake.{IntakeState}
use Rattle.lc_c.specs.Pending.{PendingState}

-- the peer, what came of its stream and is no whole frame yet with why that stream was given up, if it was, how many bytes of it were taken, and what is left of the frame that was begun to go out, or of the greeting
pub record Side : Type 0 where
  pub peer : PeerState
  pub intake : IntakeState
  pub taken : ℕ
  pub pending : PendingState
