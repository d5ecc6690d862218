-- A session whose parts were at work, each in a thread of its own, from the first to the last call. It is this project's own.
use Rattle.lc_peer.specs.declared.config.Config.{Config}
use Rattle.lc_session.specs.Heard.{HearsMore}
use Rattle.lc_session.specs.Report.{SessionState}
use Rattle.lc_session.specs.Same.{IsSameSession}
use Rattle.lc_session.specs.Session.{IsNewSession}

-- all parts are back, each of them the one that went, and the reading pump read and heard on
pub record HasPlayed (old new : SessionState) : Type 0 where
  pub same : IsSameSession old new
  pub heard : HearsMore old.reading new.reading

-- a session that was new, of this configuration, and then played, once or several times
pub record WasPlayed (config : Config) (s : SessionState) : Type 0 where
  pub began : SessionState
  pub new : IsNewSession config began
  pub played : HasPlayed began s

-- a new session was played
abbrev pub NewSessionsWerePlayed : Type 0
NewSessionsWerePlayed = (config : Config) (s : SessionState) → IsNewSession config s → WasPlayed config s

-- a session that was played stays one when it is played on
abbrev pub SessionsArePlayedOn : Type 0
SessionsArePlayedOn = (config : Config) (old new : SessionState) → WasPlayed config old → HasPlayed old new → WasPlayed config new
