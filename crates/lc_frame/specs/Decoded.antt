-- What stands at the front of a list of bytes, and what decoding it answers. These rules are this project's own.
use Rattle.std.specs.Prelude.{◌≡◌, ℕ, ◌⊎◌, List, length}
use Rattle.lc_frame.specs.declared.version.Version.{Version}
use Rattle.lc_frame.specs.declared.frame.Frame.{Frame}
use Rattle.lc_frame.specs.declared.frame_fault.FrameFault.{FrameFault}
use Rattle.lc_frame.specs.declared.decoded.Decoded.{Decoded}
use Rattle.lc_frame.specs.declared.decoded.Decoded.TheVariants.{Whole, Fault, More}
use Rattle.lc_frame.specs.FrameRef.{frame_of}
use Rattle.lc_frame.specs.Encoding.{encoding, FrameStands, FaultStands}

-- neither a frame nor a fault stands at the front
pub record IsOpen (v : Version) (bytes : List ℕ) : Type 0 where
  pub no_frame : (f : Frame) → ¬ FrameStands v f bytes
  pub no_fault : (e : FrameFault) → ¬ FaultStands v e bytes

-- a frame or a fault stands at the front
abbrev pub IsKnown : Version → List ℕ → Type 0
IsKnown v bytes = ((f : Frame) × FrameStands v f bytes) ⊎ ((e : FrameFault) × FaultStands v e bytes)

-- this frame stands at the front, no other, and no fault
pub record OnlyFrame (v : Version) (frame : Frame) (bytes : List ℕ) : Type 0 where
  pub stands : FrameStands v frame bytes
  pub same : (f : Frame) → FrameStands v f bytes → f ≡ frame
  pub no_fault : (e : FrameFault) → ¬ FaultStands v e bytes

-- this fault stands at the front, no other, and no frame
pub record OnlyFault (v : Version) (fault : FrameFault) (bytes : List ℕ) : Type 0 where
  pub stands : FaultStands v fault bytes
  pub same : (e : FrameFault) → FaultStands v e bytes → e ≡ fault
  pub no_frame : (f : Frame) → ¬ FrameStands v f bytes

-- exactly one frame or one fault stands at the front
abbrev pub StandsAlone : Version → List ℕ → Type 0
StandsAlone v bytes = ((f : Frame) × OnlyFrame v f bytes) ⊎ ((e : FrameFault) × OnlyFault v e bytes)

-- the answer is what stands at the front
abbrev pub Decodes : Version → Decoded → List ℕ → Type 0
Decodes v (Whole frame used) bytes = OnlyFrame v (frame_of frame) bytes × (used ≡ length (encoding v (frame_of frame)))
Decodes v (Fault fault) bytes = OnlyFault v fault bytes
Decodes v More bytes = IsOpen v bytes
