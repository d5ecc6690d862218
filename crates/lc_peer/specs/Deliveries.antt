-- What bytes of a stream of either version that are delivered in pieces to a peer, or to another sink, bring to it, and where a delivery stops. That a stream may be cut at any byte is this project's own to say.
use Rattle.std.specs.Prelude.{◌≡◌, ℕ, ◌<◌, ◌≤◌, List, length, take, slice_get, Option, Some, None}
use Rattle.std.specs.Option.{option_map}
use Rattle.lc_frame.specs.declared.frame.Frame.{Frame}
use Rattle.lc_frame.specs.declared.frame_fault.FrameFault.{FrameFault}
use Rattle.lc_frame.specs.Stored.{Stored, fed, before, front, encoding_in, HasFault, IsUndecided}
use Rattle.lc_frame.specs.Splits.{frames_of, rest_of}
use Rattle.lc_book.specs.declared.fault.Violation.{Violation}
use Rattle.lc_peer.specs.declared.delivery.Delivery.{Delivery}
use Rattle.lc_peer.specs.declared.delivery.Stop.{Stop}
use Rattle.lc_peer.specs.declared.delivery.Stop.TheVariants.{Fault, Violated}
use Rattle.lc_peer.specs.Peer.{PeerState}
use Rattle.lc_peer.specs.Arrivals.{Arrival, arrivals}
use Rattle.lc_peer.specs.Sinks.{ArriveUpTo}

-- nothing stopped it: the whole piece was taken, no frame violated, and what follows the frames, which may be part of one, is held
pub record TookAll (a : Arrival) (text : Stored) (piece : List ℕ) (held : Stored) (taken : ℕ) : Type 0 where
  pub lawful : a.violation ≡ None
  pub all : taken ≡ length piece
  pub rest : held ≡ rest_of text
  pub undecided : IsUndecided held

-- the frame after those that arrived violates the rules; it is held, and nothing after it was taken
pub record MetViolation (violation : Violation) (a : Arrival) (text held : Stored) : Type 0 where
  pub violates : a.violation ≡ Some violation
  pub frame : Frame
  pub next : slice_get (frames_of text) a.count ≡ Some frame
  pub whole : held.bytes ≡ encoding_in held.version frame

-- after the frames, which all arrived, stands a fault; as few bytes were taken as it takes to know it, and they are held
pub record MetFault (fault : FrameFault) (a : Arrival) (text held : Stored) (taken : ℕ) : Type 0 where
  pub lawful : a.violation ≡ None
  pub stands : HasFault fault (rest_of text)
  pub known : HasFault fault held
  pub shortest : 0 < taken → (k : ℕ) → k < length held.bytes → IsUndecided (front k held)

-- where a delivery stopped, by why it did
abbrev pub StopsBy : Option Stop → Arrival → Stored → List ℕ → Stored → ℕ → Type 0
StopsBy None a text piece held taken = TookAll a text piece held taken
StopsBy (Some (Violated violation)) a text piece held taken = MetViolation violation a text held
StopsBy (Some (Fault fault)) a text piece held taken = MetFault fault a text held taken

-- a piece is delivered to a peer after bytes that are held: the frames of both together arrive, in order, up to the first fault or violation; what was taken is the bytes of those that arrived, and what is held then; and the answer says why it stopped
pub record Delivers (p : PeerState) (held : Stored) (piece : List ℕ) (p' : PeerState) (held' : Stored) (d : Delivery) : Type 0 where
  pub peer : p' ≡ (arrivals p (frames_of (fed held piece))).peer
  pub frames : d.frames ≡ (arrivals p (frames_of (fed held piece))).count
  pub within : d.taken ≤ length piece
  pub bytes : fed held (take d.taken piece) ≡ before (take d.frames (frames_of (fed held piece))) held'
  pub stop : StopsBy d.stop (arrivals p (frames_of (fed held piece))) (fed held piece) piece held' d.taken

-- the violation at which a delivery stopped, if it did at one
abbrev pub violation_of : Option Stop → Option Violation
violation_of (Some (Violated violation)) = Some violation
violation_of stop = None

-- nothing stopped it: the whole piece was taken, and what follows the frames, which may be part of one, is held
pub record LeavesRest (text : Stored) (piece : List ℕ) (held : Stored) (taken : ℕ) : Type 0 where
  pub all : taken ≡ length piece
  pub rest : held ≡ rest_of text
  pub undecided : IsUndecided held

-- after the frames stands a fault; as few bytes were taken as it takes to know it, and they are held
pub record LeavesFault (fault : FrameFault) (text held : Stored) (taken : ℕ) : Type 0 where
  pub stands : HasFault fault (rest_of text)
  pub known : HasFault fault held
  pub shortest : 0 < taken → (k : ℕ) → k < length held.bytes → IsUndecided (front k held)

-- what is held where a delivery stops after so many frames: after a violation the bytes of the frame that violates, and no other
abbrev pub Leaves : Option Stop → Stored → List ℕ → Stored → ℕ → ℕ → Type 0
Leaves None text piece held taken frames = LeavesRest text piece held taken
Leaves (Some (Violated violation)) text piece held taken frames = option_map (encoding_in held.version) (slice_get (frames_of text) frames) ≡ Some held.bytes
Leaves (Some (Fault fault)) text piece held taken frames = LeavesFault fault text held taken

-- the same of any sink: the frames of both together arrive at it, in order, up to the first fault or violation
pub record DeliversTo {T : Type 0} (arrives : T → Frame → T → Type 0) (violates : Violation → T → Frame → T → Type 0) (p : T) (held : Stored) (piece : List ℕ) (p' : T) (held' : Stored) (d : Delivery) : Type 0 where
  pub came : ArriveUpTo arrives violates p (frames_of (fed held piece)) d.frames (violation_of d.stop) p'
  pub within : d.taken ≤ length piece
  pub bytes : fed held (take d.taken piece) ≡ before (take d.frames (frames_of (fed held piece))) held'
  pub leaves : Leaves d.stop (fed held piece) piece held' d.taken d.frames
