-- What a reading side has heard, frame after frame and run after run. That a stream keeps its order is LCMUX's.
use Rattle.std.specs.Prelude.{◌≡◌, ℕ, ◌<◌, List, [], ◌++◌, All, take, Option, None, IfSome}
use Rattle.lc_frame.specs.Stored.{Stored, fed}
use Rattle.lc_frame.specs.declared.frame.Frame.{Frame}
use Rattle.lc_frame.specs.Splits.{frames_of, rest_of}
use Rattle.lc_peer.specs.declared.config.Config.{Config}
use Rattle.lc_driver.specs.declared.reading.ReadEnd.{ReadEnd}
use Rattle.lc_peer.specs.Intake.{IntakeState}
use Rattle.lc_driver.specs.Reading.{ReadsInto}
use Rattle.lc_session.specs.Reading.{ReadingSide, Reading, Arrives, Violates, IsSameReading, HasHeardAll}
use Rattle.lc_session.specs.Report.{SessionState}
use Rattle.lc_session.specs.Session.{IsNewSession}

-- these frames came after those that a reading side had heard, whatever they are
abbrev pub HearsOn : ReadingSide → List Frame → ReadingSide → Type 0
HearsOn old frames new = (arrived : List Frame) → HasHeardAll old arrived → HasHeardAll new (arrived ++ frames)

-- these are all frames of what was held and of the bytes that were read, and the rest is held now
pub record AllCame (held : Stored) (read : List ℕ) (frames : List Frame) (now : Stored) : Type 0 where
  pub bytes : All (λ b. b < 256) (held.bytes ++ read)
  pub frames_are : frames ≡ frames_of (fed held read)
  pub rest : now ≡ rest_of (fed held read)

-- nothing was read, and no frame came
pub record ReadsNothing (old new : IntakeState) (read : List ℕ) (frames : List Frame) : Type 0 where
  pub same : new ≡ old
  pub read_is : read ≡ []
  pub frames_are : frames ≡ []

-- what a reading pump did in a run, or in several, one after another: it is still that of the same credits and inboxes; it read some bytes, and the first frames of what it held and read came after those that it had heard. All of them did, unless the stream was given up; and then nothing more is read
pub record HearsMore (old new : Reading) : Type 0 where
  pub same : IsSameReading old.side new.side
  pub read : List ℕ
  pub frames : List Frame
  pub hears : HearsOn old.side frames new.side
  pub first : (others : List Frame) × (frames_of (fed old.intake.held read) ≡ frames ++ others)
  pub all : new.intake.stop ≡ None → AllCame old.intake.held read frames new.intake.held
  pub given_up : IfSome old.intake.stop (λ stop. ReadsNothing old.intake new.intake read frames)

-- a new session has heard nothing
abbrev pub NewSessionsHeardNothing : Type 0
NewSessionsHeardNothing = (config : Config) (s : SessionState) → IsNewSession config s → HasHeardAll s.reading.side []

-- the frames that arrive in a run of the reading pump are heard after those of the runs before it
abbrev pub RunsAreHeard : Type 0
RunsAreHeard = (before after : Option (List ℕ)) (held : Stored) (old : ReadingSide) (intake : IntakeState) (new : ReadingSide) (max_reads : ℕ) (end : ReadEnd)
    → (run : ReadsInto Arrives Violates before after held old intake new max_reads end) → HearsOn old (take run.frames (frames_of (fed held run.read))) new
