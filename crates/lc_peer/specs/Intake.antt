-- What an intake holds, and what the end of its stream means. These rules are this project's own.
use Rattle.std.specs.Prelude.{◌≡◌, ℕ, List, [], Option, Some, None}
use Rattle.lc_frame.specs.declared.frame_fault.FrameFault.TheVariants.{Truncated}
use Rattle.lc_frame.specs.Stored.{Stored, IsUndecided}
use Rattle.lc_frame.specs.StreamDecoder.{IsPart}
use Rattle.lc_peer.specs.declared.delivery.Delivery.{Delivery}
use Rattle.lc_peer.specs.declared.delivery.Stop.{Stop}
use Rattle.lc_peer.specs.declared.delivery.Stop.TheVariants.{Fault}

-- what is held after the last frame that arrived, of which so many bytes are kept in memory, why the stream was given up, if it was, and the bytes of the channels' rings, none where they are not known
pub record IntakeState : Type 0 where
  pub held : Stored
  pub kept : ℕ
  pub stop : Option Stop
  pub rings : List ℕ

-- what every intake keeps: before a stop neither a frame nor a fault stands at the front of what is held
abbrev pub IsOpenUnlessStopped : Stored → Option Stop → Type 0
IsOpenUnlessStopped held stop = stop ≡ None → IsUndecided held

-- a stream that was given up takes nothing, and answers the same for good
abbrev pub GivesUp : Stop → Delivery → Type 0
GivesUp stop d = d ≡ record { taken = 0; frames = 0; stop = Some stop }

-- the end of a stream that goes on: nothing between two frames, Truncated inside one or inside a greeting
abbrev pub EndsHere : Option Stop → Stored → Type 0
EndsHere None held = held.bytes ≡ []
EndsHere (Some (Fault Truncated)) held = IsPart held
EndsHere end held = ⊥

-- the end of a stream: why it was given up, if it was
abbrev pub EndsAfter : Option Stop → Option Stop → Stored → Type 0
EndsAfter (Some stop) end held = end ≡ Some stop
EndsAfter None end held = EndsHere end held

-- the end of the stream of an intake
abbrev pub IntakeEnds : Option Stop → IntakeState → Type 0
IntakeEnds end intake = EndsAfter intake.stop end intake.held
