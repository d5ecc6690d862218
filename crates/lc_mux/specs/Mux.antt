-- A session as a value. Both streams, how it closes and why it is over are this project's own.
use Rattle.std.specs.Prelude.{◌≡◌, ◌≤◌, ◌+◌, ℕ, Bool, true, false, List, ◌++◌, length, Option, None}
use Rattle.std.specs.List.{flat_map}
use Rattle.lc_frame.specs.Stored.{nothing_stored}
use Rattle.lc_frame.specs.Version.{greeting}
use Rattle.lc_frame.specs.Encoding.{encoding}
use Rattle.lc_peer.specs.declared.config.Config.{Config}
use Rattle.lc_peer.specs.Intake.{IntakeState}
use Rattle.lc_lines.specs.Scheduler.{SchedulerState}
use Rattle.lc_lines.specs.Closing.{IsClosed}
use Rattle.lc_lines.specs.Lines.{LinesState, new_lines}
use Rattle.lc_owed.specs.Owed.{OwedState, new_owed}
use Rattle.lc_owed.specs.Flush.{IsFlushed}
use Rattle.lc_mux.specs.declared.end.End.{End}

-- the send scheduler, the pending control frames, the intake of the inbound stream, the unwritten rest of a frame or of the greeting, whether this side closed the session, whether the inbound stream ended in order, and why else the session is over, if it is
pub record MuxState : Type 0 where
  pub lines : LinesState
  pub owed : OwedState
  pub intake : IntakeState
  pub pending : List ℕ
  pub closing : Bool
  pub input_ended : Bool
  pub end : Option End

-- a new session: its greeting is unwritten, and nothing has happened
abbrev pub new_mux : Config → MuxState
new_mux config = record {
  lines = new_lines config;
  owed = new_owed;
  intake = record { held = nothing_stored; kept = 0; stop = None; rings = config.capacities };
  pending = greeting config.version;
  closing = false;
  input_ended = false;
  end = None;
}

-- the bytes that are to be written: the rest of a frame or of the greeting, and then those of the frames that are queued, in the version of the peer
abbrev pub text_of : LinesState → List ℕ → List ℕ
text_of l pending = pending ++ flat_map (encoding l.scheduler.peer.version) l.scheduler.peer.waiting

-- the bytes that a session is to write
abbrev pub text : MuxState → List ℕ
text m = text_of m.lines m.pending

-- the most bytes of a frame beside its message: a tag, and the longest number
abbrev pub max_head : ℕ
max_head = 9

-- of the message that is begun those bytes are unwritten that are in the rest of its frame, and beside them at most those of the frame's head are
pub record IsBegun (s : SchedulerState) (pending : List ℕ) : Type 0 where
  pub all : s.begun ≤ length pending
  pub few : length pending ≤ s.begun + max_head

-- what every session keeps: its intake knows the rings of its peer, its inbound stream was not given up unless it is over, a message that is partly written counts as unwritten, and while this side has not closed it nothing is pending but honours that permits hold up, or no slot is free; once it has, all calls and permits are given up, and each channel is finished or lacks a slot
pub record AreMuxFields (lines : LinesState) (owed : OwedState) (intake : IntakeState) (pending : List ℕ) (closing : Bool) (end : Option End) : Type 0 where
  pub rings : lines.scheduler.peer.capacities ≡ intake.rings
  pub going : end ≡ None → intake.stop ≡ None
  pub begun : IsBegun lines.scheduler pending
  pub flushed : closing ≡ false → IsFlushed owed lines.scheduler
  pub closed : closing ≡ true → IsClosed lines.scheduler
