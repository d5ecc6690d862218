-- What arrived at a session behind a handle and is taken, and its notices: what the session's own calls do.
use Rattle.std.specs.Prelude.{◌≡◌, ℕ, Bool, true, false, nat_lt, List, length, if◌then◌else◌, is_some, Option, Some, None, Result, IfOk, OnOk, OnErr, IfSome, IfNone}
use Rattle.std.specs.Result.{result_err}
use Rattle.std.specs.Option.{option_map_or}
use Rattle.lc_frame.specs.declared.channel.Channel.{Channel}
use Rattle.lc_frame.specs.Channel.{number_of}
use Rattle.lc_ring.specs.Ring.{front, with_front}
use Rattle.lc_peer.specs.declared.inbox.Take.{Take}
use Rattle.lc_peer.specs.Calls.{take_on}
use Rattle.lc_peer.specs.Inbox.{take_answer, take_refusal}
use Rattle.lc_peer.specs.Peer.{inbox}
use Rattle.lc_lines.specs.declared.scheduler.Notice.{Notice}
use Rattle.lc_lines.specs.declared.scheduler.Outcome.{Outcome}
use Rattle.lc_lines.specs.declared.scheduler.Outcome.TheVariants.{Completed, Notified, Hopeless}
use Rattle.lc_lines.specs.Scheduler.{IsSettled, NoneIsHopeless}
use Rattle.lc_mux.specs.declared.end.End.{End}
use Rattle.lc_mux.specs.declared.end.CallError.{CallError}
use Rattle.lc_mux.specs.Mux.{MuxState}
use Rattle.lc_mux.specs.Calls.{Answers, IsAnswer, take_over}
use Rattle.lc_mux.specs.Flushing.{Changes, NoticesAndPuts}
use Rattle.lc_c.specs.declared.answer.LcmuxAnswer.{LcmuxAnswer}
use Rattle.lc_c.specs.declared.mux.session.CMux.{CMux}
use Rattle.lc_c.specs.declared.mux.taking.LcmuxNotice.{LcmuxNotice}
use Rattle.lc_c.specs.Answers.{done, only, never, notified, no_notice, sized}
use Rattle.lc_c.specs.Takes as takes
use Rattle.lc_c.specs.MuxAnswers.{end_code, taken_shown, popped_shown}
use Rattle.lc_c.specs.MuxCalls.{Keeps}

-- the first message of a channel is taken into a buffer
pub record Takes (buffer buffer' : List ℕ) (old : CMux) (c : Channel) (new : CMux) (answer : LcmuxAnswer) : Type 0 where
  pub said : Result Take CallError
  pub is : answer ≡ taken_shown said
  pub answers : Answers (take_over old.mux) (IsAnswer (take_refusal (inbox old.mux.lines.scheduler.peer c) (length buffer))) (result_err said)
  pub value : IfOk said (λ take. take ≡ take_answer (inbox old.mux.lines.scheduler.peer c))
  pub refused : OnErr said ((new.mux ≡ old.mux) × (buffer' ≡ buffer))
  pub fills : OnOk said (buffer' ≡ with_front (front (inbox old.mux.lines.scheduler.peer c).ring) buffer)
  pub takes : OnOk said (Changes (record old.mux.lines.scheduler { peer = take_on old.mux.lines.scheduler.peer c }) old.mux new.mux)
  pub rest : Keeps old new

-- the first message of a channel is taken and dropped
pub record Pops (old : CMux) (c : Channel) (new : CMux) (answer : LcmuxAnswer) : Type 0 where
  pub said : Result Take End
  pub is : answer ≡ popped_shown said
  pub over : result_err said ≡ take_over old.mux
  pub value : IfOk said (λ take. take ≡ take_answer (inbox old.mux.lines.scheduler.peer c))
  pub refused : OnErr said (new.mux ≡ old.mux)
  pub takes : OnOk said (Changes (record old.mux.lines.scheduler { peer = take_on old.mux.lines.scheduler.peer c }) old.mux new.mux)
  pub rest : Keeps old new

-- what a take would answer that has room: why nothing can be taken, or what it does of the peer
abbrev pub front_unless : Option End → LcmuxAnswer → LcmuxAnswer
front_unless None answer = answer
front_unless (Some end) answer = only (end_code end)

-- the same of a session
abbrev pub front_answer : MuxState → Channel → LcmuxAnswer
front_answer m c = front_unless (take_over m) (takes.front_answer m.lines.scheduler.peer c)

-- the code of an outcome
abbrev pub outcome_code : Outcome → ℕ
outcome_code Completed = done
outcome_code Notified = notified
outcome_code Hopeless = never

-- the bytes of a struct for a notice
abbrev pub notice_size : ℕ
notice_size = 32

-- a notice in a struct whose size the caller wrote into it
abbrev pub notice_shown : ℕ → Notice → LcmuxNotice
notice_shown size notice = record { size = size; ticket = notice.ticket; channel = number_of notice.channel; outcome = outcome_code notice.outcome }

-- the next notice of a session, if there is one
pub record NoticesSome (shown shown' : LcmuxNotice) (old new : CMux) (answer : LcmuxAnswer) : Type 0 where
  pub said : Option Notice
  pub is : answer ≡ (if is_some said then only done else only no_notice)
  pub shows : shown' ≡ option_map_or (notice_shown shown.size) said shown
  pub some : IfSome said (λ notice. NoticesAndPuts notice old.mux new.mux)
  pub none : IfNone said ((new.mux ≡ old.mux) × (IsSettled new.mux.lines.scheduler × NoneIsHopeless new.mux.lines.scheduler))
  pub rest : Keeps old new

-- where the struct is too short nothing is noticed, and nothing changes
abbrev pub NoticesUnless : Bool → LcmuxNotice → LcmuxNotice → CMux → CMux → LcmuxAnswer → Type 0
NoticesUnless true shown shown' old new answer = (answer ≡ sized shown.size notice_size) × ((shown' ≡ shown) × (new ≡ old))
NoticesUnless false shown shown' old new answer = NoticesSome shown shown' old new answer

-- the next notice, in a struct whose size the caller wrote into it
abbrev pub NoticesNext : LcmuxNotice → LcmuxNotice → CMux → CMux → LcmuxAnswer → Type 0
NoticesNext shown shown' old new answer = NoticesUnless (nat_lt shown.size notice_size) shown shown' old new answer
