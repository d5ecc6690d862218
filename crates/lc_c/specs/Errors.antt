-- What broke the rules of an inbound stream, and where, as C reads it. What there is not stands as the greatest number.
use Rattle.std.specs.Prelude.{◌≡◌, ℕ, ◌-◌, Bool, true, false, nat_lt, length, Option, Some, None}
use Rattle.lc_frame.specs.declared.channel.Channel.{Channel}
use Rattle.lc_frame.specs.declared.frame_fault.FrameFault.TheVariants.{BadTag}
use Rattle.lc_frame.specs.Channel.{number_of}
use Rattle.lc_frame.specs.Kind.{code_of}
use Rattle.lc_frame.specs.Stored.{HasFault}
use Rattle.lc_peer.specs.declared.delivery.Stop.{Stop}
use Rattle.lc_peer.specs.declared.delivery.Stop.TheVariants.{Violated}
use Rattle.lc_peer.specs.declared.frame_head.FrameHead.{FrameHead}
use Rattle.lc_peer.specs.Peer.{PeerState, client, server}
use Rattle.lc_peer.specs.Intake.{IntakeState}
use Rattle.lc_peer.specs.Offending.{ShowsHead, last_byte, allowed}
use Rattle.lc_c.specs.declared.answer.LcmuxAnswer.{LcmuxAnswer}
use Rattle.lc_c.specs.declared.error.LcmuxError.{LcmuxError}
use Rattle.lc_c.specs.Side.{Side}
use Rattle.lc_c.specs.declared.mux.session.CMux.{CMux}
use Rattle.lc_c.specs.Answers.{only, no_peer, sized}
use Rattle.lc_c.specs.Balances.{or_no_limit}
use Rattle.lc_c.specs.Streams.{stop_code}

-- the bytes of a struct for an error
abbrev pub error_size : ℕ
error_size = 64

-- where the frame begins of which bytes are held: so many bytes of the stream were taken before them
abbrev pub offset_of : ℕ → IntakeState → ℕ
offset_of taken intake = taken - length intake.held.bytes

-- how much a frame of the channel might have carried, after a violation
abbrev pub allowed_by : PeerState → Channel → Option Stop → Option ℕ
allowed_by p c (Some (Violated violation)) = allowed (client p c) (server p c) violation
allowed_by p c stop = None

-- an error of no frame, in a struct whose size the caller wrote into it: where the stream stands, why it was given up, and the byte of a bad tag
abbrev pub error_at : ℕ → IntakeState → ℕ → Option ℕ → LcmuxError
error_at size intake taken byte = record { size = size; code = stop_code intake.stop; offset = offset_of taken intake; kind = or_no_limit None; channel = or_no_limit None; number = or_no_limit None; allowed = or_no_limit None; byte = or_no_limit byte }

-- the same of a frame with this head, which might have carried so much
abbrev pub with_head : LcmuxError → FrameHead → Option ℕ → LcmuxError
with_head error head allowed = record error { kind = code_of head.kind; channel = number_of head.channel; number = or_no_limit head.number; allowed = or_no_limit allowed }

-- the same, if a frame is held
abbrev pub error_of : LcmuxError → PeerState → Option Stop → Option FrameHead → LcmuxError
error_of error p stop None = error
error_of error p stop (Some head) = with_head error head (allowed_by p head.channel stop)

-- the error names where the frame begins that is held, the head of that frame if it is whole or of its number if that is out of range, what it might have carried, and after a bad tag its byte
pub record ShowsError (size : ℕ) (p : PeerState) (intake : IntakeState) (taken : ℕ) (error : LcmuxError) : Type 0 where
  pub head : Option FrameHead
  pub byte : Option ℕ
  pub shows : ShowsHead head intake.held
  pub bad : HasFault BadTag intake.held → byte ≡ last_byte intake.held
  pub no_bad : ¬ HasFault BadTag intake.held → byte ≡ None
  pub is : error ≡ error_of (error_at size intake taken byte) p intake.stop head

-- a struct that is too short stays as it was
abbrev pub FillsUnless : Bool → ℕ → PeerState → IntakeState → ℕ → LcmuxError → LcmuxError → Type 0
FillsUnless true size p intake taken old new = new ≡ old
FillsUnless false size p intake taken old new = ShowsError size p intake taken new

-- the struct that a call leaves, by the size that the caller wrote into it
abbrev pub FillsError : ℕ → PeerState → IntakeState → ℕ → LcmuxError → LcmuxError → Type 0
FillsError size p intake taken old new = FillsUnless (nat_lt size error_size) size p intake taken old new

-- the error behind a handle, in a struct whose size the caller wrote into it; an empty handle says nothing
abbrev pub ErrorBehind : Option Side → LcmuxError → LcmuxError → LcmuxAnswer → Type 0
ErrorBehind None old new answer = (new ≡ old) × (answer ≡ only no_peer)
ErrorBehind (Some side) old new answer = FillsError old.size side.peer side.intake side.taken old new × (answer ≡ sized old.size error_size)

-- the same behind the handle of a session
abbrev pub MuxErrorBehind : Option CMux → LcmuxError → LcmuxError → LcmuxAnswer → Type 0
MuxErrorBehind None old new answer = (new ≡ old) × (answer ≡ only no_peer)
MuxErrorBehind (Some session) old new answer = FillsError old.size session.mux.lines.scheduler.peer session.mux.intake session.taken old new × (answer ≡ sized old.size error_size)
