-- Parts that threads give back. That they can be put together again is this project's own.
use Rattle.std.specs.List.{AllZip}
use Rattle.lc_inbox.specs.Sides.{IsSameSide}
use Rattle.lc_outbox.specs.Outbox.{IsSameOutbox}
use Rattle.lc_session.specs.Reading.{IsSameReading}
use Rattle.lc_session.specs.Pumping.{IsSamePump}
use Rattle.lc_session.specs.Report.{SessionState, AreOfOneSession}

-- every part is still of the channel, lane, queue, version, credit and inbox that it was of, the ends place by place
pub record IsSameSession (old new : SessionState) : Type 0 where
  pub sending : AllZip IsSameOutbox old.sending new.sending
  pub receiving : AllZip IsSameSide old.receiving new.receiving
  pub reading : IsSameReading old.reading.side new.reading.side
  pub writing : IsSamePump old.writing new.writing

-- parts of one session stay that where every part stays what it was
abbrev pub SessionsStay : Type 0
SessionsStay = (old new : SessionState) → AreOfOneSession old → IsSameSession old new → AreOfOneSession new
