-- What two sessions keep together that ran in one program.
use Rattle.std.specs.Prelude.{replicate}
use Rattle.lc_frame.specs.declared.version.Version.TheVariants.{One}
use Rattle.lc_frame.specs.Channel.{channel_count}
use Rattle.lc_peer.specs.declared.config.Config.{Config}
use Rattle.lc_session.specs.declared.report.Report.{Report}
use Rattle.lc_session.specs.Played.{WasPlayed}
use Rattle.lc_session.specs.Report.{SessionState}
use Rattle.lc_interleaving.specs.Reports.{finished, KeepInOrder}

-- how each side is made
abbrev pub session_config : Config
session_config = record { version = One; capacities = replicate channel_count 64; slots = 4 }

-- these are the reports of two sessions that were new and played to their end; and wherever their steps fell into one order, they keep their promises
pub record KeepPromisesOf (r q : Report) : Type 0 where
  pub a : SessionState
  pub b : SessionState
  pub a_played : WasPlayed session_config a
  pub b_played : WasPlayed session_config b
  pub together : KeepInOrder (finished a a_played.played.heard.frames r) (finished b b_played.played.heard.frames q)
