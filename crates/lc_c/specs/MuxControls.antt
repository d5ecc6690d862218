-- Control calls behind the handle of a session, and its policies: what the session's own calls do. That a mark names a policy is this project's own.
use Rattle.std.specs.Prelude.{◌≡◌, ◌==◌, ◌-◌, ◌^◌, ℕ, if◌then◌else◌, Result, OnOk, OnErr}
use Rattle.std.specs.Result.{result_err}
use Rattle.lc_frame.specs.declared.channel.Channel.{Channel}
use Rattle.lc_book.specs.Server.{room, issue_refusal, plead_refusal, limit_receiving_refusal}
use Rattle.lc_book.specs.Client.{absolve_refusal, honour_refusal}
use Rattle.lc_peer.specs.Peer.{client, server}
use Rattle.lc_lines.specs.Scheduler.{aside}
use Rattle.lc_owed.specs.declared.policy.IssuePolicy.{IssuePolicy}
use Rattle.lc_owed.specs.declared.policy.IssuePolicy.TheVariants as issues
use Rattle.lc_owed.specs.declared.policy.PleadPolicy.{PleadPolicy}
use Rattle.lc_owed.specs.declared.policy.PleadPolicy.TheVariants as pleads
use Rattle.lc_owed.specs.Pending.{beside, spared, with_issue, with_limit, with_absolve, with_honour}
use Rattle.lc_owed.specs.Owed.{OwedState, pending_on, with_pending, plead}
use Rattle.lc_mux.specs.declared.end.CallError.{CallError}
use Rattle.lc_mux.specs.Mux.{MuxState}
use Rattle.lc_mux.specs.Ends.{call_over}
use Rattle.lc_mux.specs.Calls.{Answers, IsAnswer}
use Rattle.lc_mux.specs.Flushing.{Owes}
use Rattle.lc_c.specs.declared.answer.LcmuxAnswer.{LcmuxAnswer}
use Rattle.lc_c.specs.declared.mux.session.CMux.{CMux}
use Rattle.lc_c.specs.declared.mux.controls.LcmuxOwed.{LcmuxOwed}
use Rattle.lc_c.specs.Balances.{flag, or_no_limit}
use Rattle.lc_c.specs.MuxAnswers.{call_shown}
use Rattle.lc_c.specs.MuxCalls.{Keeps}

-- the pending control frames of a session behind a handle become these
abbrev pub with_owed : CMux → OwedState → CMux
with_owed session owed = record session { mux = record session.mux { owed = owed } }

-- guarantees are issued, once a slot is free for the frame
pub record Issues (amount : ℕ) (old : CMux) (c : Channel) (new : CMux) (answer : LcmuxAnswer) : Type 0 where
  pub said : Result (Unit {0}) CallError
  pub is : answer ≡ call_shown (result_err said)
  pub answers : Answers (call_over old.mux) (IsAnswer (issue_refusal (beside (server old.mux.lines.scheduler.peer c) (pending_on old.mux.owed c)) amount)) (result_err said)
  pub refused : OnErr said (new.mux ≡ old.mux)
  pub issues : OnOk said (Owes (with_pending old.mux.owed c (with_issue (pending_on old.mux.owed c) amount)) old.mux new.mux)
  pub rest : Keeps old new

-- what a channel is issued is bounded, once a slot is free for the frame
pub record LimitsReceiving (bound : ℕ) (old : CMux) (c : Channel) (new : CMux) (answer : LcmuxAnswer) : Type 0 where
  pub said : Result (Unit {0}) CallError
  pub is : answer ≡ call_shown (result_err said)
  pub answers : Answers (call_over old.mux) (IsAnswer (limit_receiving_refusal (beside (server old.mux.lines.scheduler.peer c) (pending_on old.mux.owed c)) bound)) (result_err said)
  pub refused : OnErr said (new.mux ≡ old.mux)
  pub limits : OnOk said (Owes (with_pending old.mux.owed c (with_limit (pending_on old.mux.owed c) bound)) old.mux new.mux)
  pub rest : Keeps old new

-- the sender of a channel is asked to absolve, once a slot is free for the frame
pub record Pleads (target : ℕ) (old : CMux) (c : Channel) (new : CMux) (answer : LcmuxAnswer) : Type 0 where
  pub said : Result (Unit {0}) CallError
  pub is : answer ≡ call_shown (result_err said)
  pub answers : Answers (call_over old.mux) (IsAnswer (plead_refusal (beside (server old.mux.lines.scheduler.peer c) (pending_on old.mux.owed c)) target)) (result_err said)
  pub refused : OnErr said (new.mux ≡ old.mux)
  pub pleads : OnOk said (Owes (plead old.mux.owed c target) old.mux new.mux)
  pub rest : Keeps old new

-- guarantees are absolved, once a slot is free for the frame
pub record Absolves (amount : ℕ) (old : CMux) (c : Channel) (new : CMux) (answer : LcmuxAnswer) : Type 0 where
  pub said : Result (Unit {0}) CallError
  pub is : answer ≡ call_shown (result_err said)
  pub answers : Answers (call_over old.mux) (IsAnswer (absolve_refusal (spared (client old.mux.lines.scheduler.peer c) (aside old.mux.lines.scheduler c) (pending_on old.mux.owed c)) amount)) (result_err said)
  pub refused : OnErr said (new.mux ≡ old.mux)
  pub absolves : OnOk said (Owes (with_pending old.mux.owed c (with_absolve (pending_on old.mux.owed c) amount)) old.mux new.mux)
  pub rest : Keeps old new

-- a plead is honoured, once a slot is free for the frame
pub record Honours (old : CMux) (c : Channel) (new : CMux) (answer : LcmuxAnswer) : Type 0 where
  pub said : Result (Unit {0}) CallError
  pub is : answer ≡ call_shown (result_err said)
  pub answers : Answers (call_over old.mux) (IsAnswer (honour_refusal (client old.mux.lines.scheduler.peer c))) (result_err said)
  pub refused : OnErr said (new.mux ≡ old.mux)
  pub honours : OnOk said (Owes (with_pending old.mux.owed c (with_honour (pending_on old.mux.owed c))) old.mux new.mux)
  pub rest : Keeps old new

-- the policy of a mark: below so many guarantees outstanding, by calls alone for 0, and at once for the greatest
abbrev pub issue_policy : ℕ → IssuePolicy
issue_policy mark = if mark == 0 then issues.ByCaller else if mark == 2 ^ 32 - 1 then issues.AtOnce else issues.LowWater mark

-- the policy of a flag: by calls alone for 0, and else at once
abbrev pub plead_policy : ℕ → PleadPolicy
plead_policy at_once = if at_once == 0 then pleads.ByCaller else pleads.AtOnce

-- the bytes of a struct for what is pending
abbrev pub owed_size : ℕ
owed_size = 56

-- what is pending on a channel of a session, in a struct whose size the caller wrote into it; a limit, or a plead, that is not pending stands as the greatest number
abbrev pub owed_shown : ℕ → MuxState → Channel → LcmuxOwed
owed_shown size m c = record {
  size = size;
  issue = (pending_on m.owed c).issue;
  limit_receiving = or_no_limit (pending_on m.owed c).limit;
  plead = or_no_limit (pending_on m.owed c).plead;
  absolve = (pending_on m.owed c).absolve;
  honour = flag (pending_on m.owed c).honour;
  room = room (beside (server m.lines.scheduler.peer c) (pending_on m.owed c));
}
