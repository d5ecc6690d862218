-- Two reports of `finish`, and what the two sessions keep together.
use Rattle.std.specs.Prelude.{◌≡◌, ℕ, List, ◌++◌}
use Rattle.lc_frame.specs.declared.frame.Frame.{Frame}
use Rattle.lc_frame.specs.Kind.{max_amount}
use Rattle.lc_peer.specs.declared.config.Config.{Config}
use Rattle.lc_session.specs.declared.report.Report.{Report}
use Rattle.lc_session.specs.Played.{WasPlayed}
use Rattle.lc_session.specs.Reading.{HasHeardAll}
use Rattle.lc_session.specs.Report.{SessionState}
use Rattle.lc_interleaving.specs.Interleaving.{Joint, IsInterleaving}
use Rattle.lc_interleaving.specs.Finished.{Finished, IsFinished, trace}
use Rattle.lc_interleaving.specs.History.{history_of}
use Rattle.lc_interleaving.specs.State.{IsStateOfBoth}
use Rattle.lc_interleaving.specs.Lawful.{IsLawfulAfter}
use Rattle.lc_interleaving.specs.Promises.{KeepPromises}
use Rattle.lc_interleaving.specs.Sessions.{WereOne}

-- a session with the report of its end, where these frames had arrived
abbrev pub finished : SessionState → List Frame → Report → Finished
finished s arrived r = record { session = s; arrived = arrived; clients = r.clients; servers = r.servers; left = r.left; partly = r.partly }

-- what two finished sessions keep whose steps fell into this order: on each channel their promises; all that every history of two peers with rings of one capacity keeps, limits too; and at each moment of the order the next frame of each stream breaks no rule where it arrives
pub record KeepAll (capacity : ℕ) (a b : Finished) (fa : IsFinished a) (fb : IsFinished b) (order : List Joint) : Type 0 where
  pub channels : KeepPromises a b fa fb
  pub state : IsStateOfBoth capacity (trace a fa) (trace b fb) (history_of order)
  pub lawful : (earlier later : List Joint) → order ≡ earlier ++ later → IsLawfulAfter capacity (trace a fa) (trace b fb) earlier

-- both sessions are finished, and wherever their steps fell into one order they keep their promises
pub record KeepTogether (a b : Finished) : Type 0 where
  pub a_finished : IsFinished a
  pub b_finished : IsFinished b
  pub promises : (capacity : ℕ) (fa : IsFinished a) (fb : IsFinished b) (order : List Joint) → WereOne capacity a b fa fb order → KeepAll capacity a b fa fb order

-- two reports of `finish`, whatever frames had arrived at both sessions: they keep together what they promise
abbrev pub AreTwoReports : SessionState → SessionState → Report → Report → Type 0
AreTwoReports s t r q = (a_arrived b_arrived : List Frame) → HasHeardAll s.reading.side a_arrived → HasHeardAll t.reading.side b_arrived → KeepTogether (finished s a_arrived r) (finished t b_arrived q)

-- both sessions are finished, and whichever order their steps fell into, if any, they keep their promises
pub record KeepInOrder (a b : Finished) : Type 0 where
  pub a_finished : IsFinished a
  pub b_finished : IsFinished b
  pub promises : (order : List Joint) → IsInterleaving (trace a a_finished) (trace b b_finished) order → KeepAll max_amount a b a_finished b_finished order

-- two reports of sessions that were new and then played: in whatever order, they keep their promises; what had arrived is what their reading pumps heard
abbrev pub ArePlayedOut : SessionState → SessionState → Report → Report → Type 0
ArePlayedOut s t r q = (a_config b_config : Config) (a : WasPlayed a_config s) (b : WasPlayed b_config t) → KeepInOrder (finished s a.played.heard.frames r) (finished t b.played.heard.frames q)
