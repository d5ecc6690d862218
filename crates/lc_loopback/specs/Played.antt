-- What two sessions come to whose parts this program's threads had, from the first to the last. It is this project's own.
use Rattle.std.specs.Prelude.{All, ◌≡◌, ℕ, ◌+◌, List, [], ◌∷◌, ◌++◌, length, map, Option, Some, None, sum_by, replicate, take, Result, IfOk, true}
use Rattle.std.specs.List.{AllZip}
use Rattle.lc_frame.specs.declared.version.Version.{Version}
use Rattle.lc_frame.specs.Channel.{channel_count}
use Rattle.lc_frame.specs.Stream.{messages}
use Rattle.lc_credit.specs.declared.balance.Balance.{Balance}
use Rattle.lc_inbox.specs.History.{took}
use Rattle.lc_inbox.specs.Sides.{InboxSide}
use Rattle.lc_outbox.specs.Outbox.{OutboxState}
use Rattle.lc_session.specs.declared.report.Report.{Report}
use Rattle.lc_session.specs.Report.{SessionState}
use Rattle.lc_session.specs.Session.{IsNewSession}
use Rattle.lc_session.specs.Played.{HasPlayed, WasPlayed}
use Rattle.lc_interleaving.specs.Reports.{finished, KeepInOrder}
use Rattle.lc_loopback_report.specs.declared.fault.LoopFault.{LoopFault}
use Rattle.lc_loopback_report.specs.declared.report.LoopReport.{LoopReport}
use Rattle.lc_loopback.specs.declared.plan.Plan.{Plan}
use Rattle.lc_loopback.specs.declared.taken.Taken.{Taken}
use Rattle.lc_loopback.specs.Plan.{due, config_of}

-- what an end found: a message, which is taken and stands first in the buffer, or the end of the channel
abbrev pub TakesNext : Option ℕ → List ℕ → InboxSide → InboxSide → Type 0
TakesNext None buffer old new = took new.seen ≡ took old.seen
TakesNext (Some len) buffer old new = took new.seen ≡ took old.seen ++ take len buffer ∷ []

-- an end took all messages that are due, after what it had taken: so many, of so many bytes
pub record TakesAll (p : Plan) (old : InboxSide) (n : Taken) (new : InboxSide) : Type 0 where
  pub took_is : took new.seen ≡ took old.seen ++ due p old.key.channel
  pub messages_is : n.messages ≡ p.messages
  pub bytes_is : n.bytes ≡ sum_by length (due p old.key.channel)

-- an end put all messages that are due, after what it had put
pub record PutsAll (p : Plan) (old new : OutboxState) : Type 0 where
  pub put_is : messages old.channel new.lane.put ≡ messages old.channel old.lane.put ++ due p old.channel

-- of each part that came back: what it did, where its work came to something
abbrev pub EachGave : {W : Type 0} → (W → Taken → W → Type 0) → List W → List (Result Taken LoopFault) → List W → Type 0
EachGave Gives [] [] [] = Unit {0}
EachGave Gives (w ∷ olds) (o ∷ outcomes) (v ∷ news) = IfOk o (λ n. Gives w n v) × EachGave Gives olds outcomes news
EachGave Gives olds outcomes news = ⊥

-- an end put all messages that are due, whatever it counted
abbrev pub Puts : Plan → OutboxState → Taken → OutboxState → Type 0
Puts p old n new = PutsAll p old new

-- all parts of a session are back from their threads, and its ends put and took what is due, where their work came to something
pub record Exchanged (p : Plan) (old new : SessionState) (sent took : List (Result Taken LoopFault)) : Type 0 where
  pub played : HasPlayed old new
  pub sent_all : EachGave (Puts p) old.sending sent new.sending
  pub took_all : EachGave (TakesAll p) old.receiving took new.receiving

-- a session that was new when they began
pub record BeganNew (p : Plan) (version : Version) (s : SessionState) (sent took : List (Result Taken LoopFault)) : Type 0 where
  pub began : SessionState
  pub new : IsNewSession (config_of p version) began
  pub exchanged : Exchanged p began s sent took

-- an end that began new put what is due on its channel, each message once and in order
abbrev pub HasPut : Plan → OutboxState → Type 0
HasPut p o = messages o.channel o.lane.put ≡ due p o.channel

-- an end that began new took what is due on its channel, each message once and in order
abbrev pub HasTaken : Plan → InboxSide → Type 0
HasTaken p side = took side.seen ≡ due p side.key.channel

-- how many messages an end took
abbrev pub messages_taken : InboxSide → ℕ
messages_taken side = length (took side.seen)

-- how many bytes the messages have that an end took
abbrev pub bytes_taken : InboxSide → ℕ
bytes_taken side = sum_by length (took side.seen)

-- a balance adds up, and so many bytes were spent
pub record AgreesWith (b : Balance) (bytes : ℕ) : Type 0 where
  pub adds_up : b.held + b.spent + b.absolved + b.waived ≡ b.received
  pub spent_is : b.spent ≡ bytes

-- how many messages a job took
abbrev pub messages_of : Taken → ℕ
messages_of n = n.messages

-- how many bytes a job took
abbrev pub bytes_of : Taken → ℕ
bytes_of n = n.bytes

-- the report has what both sides took, and the guarantees that each side spent are what the other took
pub record IsReportOf (a_clients b_clients : List Balance) (a_took b_took : List Taken) (report : LoopReport) : Type 0 where
  pub messages_are : report.messages ≡ map messages_of b_took ∷ map messages_of a_took ∷ []
  pub bytes_are : report.bytes ≡ map bytes_of b_took ∷ map bytes_of a_took ∷ []
  pub balanced_is : report.balanced ≡ true
  pub a_balances : AllZip AgreesWith a_clients (map bytes_of b_took)
  pub b_balances : AllZip AgreesWith b_clients (map bytes_of a_took)

-- two sessions that were new and played to this end, what their ends did, and what `finish_both` says of them: wherever their steps fell into one order, they keep their promises
pub record CameTo (p : Plan) (a_version b_version : Version) (s t : SessionState) (report : LoopReport) : Type 0 where
  pub a_played : WasPlayed (config_of p a_version) s
  pub b_played : WasPlayed (config_of p b_version) t
  pub a_report : Report
  pub b_report : Report
  pub together : KeepInOrder (finished s a_played.played.heard.frames a_report) (finished t b_played.played.heard.frames b_report)
  -- each end put and took the messages that are due, each once and in order
  pub a_put : All (HasPut p) s.sending
  pub b_put : All (HasPut p) t.sending
  pub a_took : All (HasTaken p) s.receiving
  pub b_took : All (HasTaken p) t.receiving
  -- the report is of these two, by the side that sent
  pub messages_are : report.messages ≡ map messages_taken t.receiving ∷ map messages_taken s.receiving ∷ []
  pub bytes_are : report.bytes ≡ map bytes_taken t.receiving ∷ map bytes_taken s.receiving ∷ []
  pub all_came : report.messages ≡ replicate 2 (replicate channel_count p.messages)
  pub balanced_is : report.balanced ≡ true
  pub a_balances : AllZip AgreesWith a_report.clients (map bytes_taken t.receiving)
  pub b_balances : AllZip AgreesWith b_report.clients (map bytes_taken s.receiving)

-- there are two sessions, each in its version, that came to this
pub record TwoRan (p : Plan) (versions : List Version) (report : LoopReport) : Type 0 where
  pub a_version : Version
  pub b_version : Version
  pub versions_are : versions ≡ a_version ∷ b_version ∷ []
  pub a : SessionState
  pub b : SessionState
  pub came_to : CameTo p a_version b_version a b report
