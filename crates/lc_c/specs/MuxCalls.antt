-- What the calls of senders answer and leave behind a handle: what the session's own calls answer and leave.
use Rattle.std.specs.Prelude.{◌≡◌, ℕ, Bool, true, false, None, List, length, Result, IfOk, OnOk, OnErr}
use Rattle.std.specs.Result.{result_err}
use Rattle.lc_frame.specs.declared.channel.Channel.{Channel}
use Rattle.lc_book.specs.Client.{spend_refusal}
use Rattle.lc_peer.specs.Peer.{client}
use Rattle.lc_lines.specs.declared.scheduler.Progress.{Progress}
use Rattle.lc_lines.specs.declared.scheduler.Attempt.{Attempt}
use Rattle.lc_lines.specs.declared.queue.Ask.TheVariants.{Offer}
use Rattle.lc_lines.specs.declared.queue.Bound.{Bound}
use Rattle.lc_lines.specs.Queue.{waits}
use Rattle.lc_lines.specs.Permits.{is_permit}
use Rattle.lc_lines.specs.Scheduler.{start, join, complete, complete_progress, IsCompleteAnswer, progress_of, IsCallAnswer, IsAttemptAnswer, attempt, try_send, for_good, IsReserveAnswer, reserve, try_reserve, IsReservedAnswer, IsHonoured, send_reserved, IsBoundAnswer, bound_progress, start_bound, queue, cancel, aside, give_back}
use Rattle.lc_mux.specs.declared.end.CallError.{CallError}
use Rattle.lc_mux.specs.Ends.{call_over}
use Rattle.lc_mux.specs.Calls.{Answers, send_over, IsAnswer, refusal_of}
use Rattle.lc_mux.specs.Flushing.{Changes}
use Rattle.lc_c.specs.declared.answer.LcmuxAnswer.{LcmuxAnswer}
use Rattle.lc_c.specs.declared.mux.session.CMux.{CMux}
use Rattle.lc_c.specs.Asking.{told}
use Rattle.lc_c.specs.Balances.{flag}
use Rattle.lc_c.specs.MuxAnswers.{call_shown, progress_shown, attempt_shown}

-- of a session only what its calls work on changed
abbrev pub Keeps : CMux → CMux → Type 0
Keeps old new = (new.mux ≡ record old.mux { lines = new.mux.lines; owed = new.mux.owed }) × (new.taken ≡ old.taken)

-- a call to send a message
pub record Sends (ticket : ℕ) (body : List ℕ) (old : CMux) (c : Channel) (new : CMux) (answer : LcmuxAnswer) : Type 0 where
  pub said : Result Progress CallError
  pub is : answer ≡ progress_shown said
  pub answers : Answers (send_over old.mux c (length body)) (IsCallAnswer old.mux.lines.scheduler.peer c (length body)) (result_err said)
  pub progress : IfOk said (λ progress. progress ≡ progress_of old.mux.lines.scheduler c (length body))
  pub refused : OnErr said (new.mux ≡ old.mux)
  pub starts : OnOk said (Changes (start old.mux.lines.scheduler c ticket body) old.mux new.mux)
  pub rest : Keeps old new

-- an attempt to send a message at once
pub record TriesSend (body : List ℕ) (old : CMux) (c : Channel) (new : CMux) (answer : LcmuxAnswer) : Type 0 where
  pub said : Result Attempt CallError
  pub is : answer ≡ attempt_shown said
  pub answers : Answers (send_over old.mux c (length body)) (IsAttemptAnswer old.mux.lines.scheduler c (length body)) (result_err said)
  pub attempt : IfOk said (λ answer. answer ≡ attempt old.mux.lines.scheduler c (length body))
  pub refused : OnErr said (new.mux ≡ old.mux)
  pub sends : OnOk said (Changes (try_send old.mux.lines.scheduler c body) old.mux new.mux)
  pub rest : Keeps old new

-- an offer of a message of so many bytes
pub record Offers (ticket : ℕ) (len : ℕ) (old : CMux) (c : Channel) (new : CMux) (answer : LcmuxAnswer) : Type 0 where
  pub said : Result (Unit {0}) CallError
  pub is : answer ≡ call_shown (result_err said)
  pub answers : Answers (send_over old.mux c len) (IsCallAnswer old.mux.lines.scheduler.peer c len) (result_err said)
  pub refused : OnErr said (new.mux ≡ old.mux)
  pub joins : OnOk said (Changes (join old.mux.lines.scheduler c (record { ticket = ticket; ask = Offer len })) old.mux new.mux)
  pub rest : Keeps old new

-- the message of an offer is handed over
pub record Completes (ticket : ℕ) (body : List ℕ) (old : CMux) (c : Channel) (new : CMux) (answer : LcmuxAnswer) : Type 0 where
  pub said : Result Progress CallError
  pub is : answer ≡ progress_shown said
  pub answers : Answers (send_over old.mux c (length body)) (IsCompleteAnswer old.mux.lines.scheduler c ticket (length body)) (result_err said)
  pub progress : IfOk said (λ progress. progress ≡ complete_progress old.mux.lines.scheduler c ticket (length body))
  pub refused : OnErr said (new.mux ≡ old.mux)
  pub completes : OnOk said (Changes (complete old.mux.lines.scheduler c ticket body) old.mux new.mux)
  pub rest : Keeps old new

-- a call to reserve a permit for a message of so many bytes
pub record Reserves (ticket : ℕ) (len : ℕ) (old : CMux) (c : Channel) (new : CMux) (answer : LcmuxAnswer) : Type 0 where
  pub said : Result Progress CallError
  pub is : answer ≡ progress_shown said
  pub answers : Answers (send_over old.mux c len) (IsReserveAnswer old.mux.lines.scheduler c len) (result_err said)
  pub progress : IfOk said (λ progress. progress ≡ progress_of old.mux.lines.scheduler c len)
  pub refused : OnErr said (new.mux ≡ old.mux)
  pub reserves : OnOk said (Changes (reserve old.mux.lines.scheduler c ticket len) old.mux new.mux)
  pub rest : Keeps old new

-- an attempt to reserve a permit at once
pub record TriesReserve (len : ℕ) (old : CMux) (c : Channel) (new : CMux) (answer : LcmuxAnswer) : Type 0 where
  pub said : Result Attempt CallError
  pub is : answer ≡ attempt_shown said
  pub answers : Answers (send_over old.mux c len) (IsAnswer (for_good (spend_refusal (client old.mux.lines.scheduler.peer c) len))) (result_err said)
  pub attempt : IfOk said (λ answer. answer ≡ attempt old.mux.lines.scheduler c len)
  pub refused : OnErr said (new.mux ≡ old.mux)
  pub reserves : OnOk said (Changes (try_reserve old.mux.lines.scheduler c len) old.mux new.mux)
  pub rest : Keeps old new

-- a message is sent by a permit of so many bytes
pub record SendsReserved (len : ℕ) (body : List ℕ) (old : CMux) (c : Channel) (new : CMux) (answer : LcmuxAnswer) : Type 0 where
  pub said : Result (Unit {0}) CallError
  pub is : answer ≡ call_shown (result_err said)
  pub answers : Answers (call_over old.mux) (IsReservedAnswer old.mux.lines.scheduler c len (length body)) (result_err said)
  pub honoured : call_over old.mux ≡ None → IsHonoured old.mux.lines.scheduler c len (length body) (refusal_of (result_err said))
  pub refused : OnErr said (new.mux ≡ old.mux)
  pub sends : OnOk said (Changes (send_reserved old.mux.lines.scheduler c len body) old.mux new.mux)
  pub rest : Keeps old new

-- a call to bound what a channel sends from here on
pub record Bounds (ticket : ℕ) (bound : Bound) (old : CMux) (c : Channel) (new : CMux) (answer : LcmuxAnswer) : Type 0 where
  pub said : Result Progress CallError
  pub is : answer ≡ progress_shown said
  pub answers : Answers (call_over old.mux) (IsBoundAnswer old.mux.lines.scheduler c bound) (result_err said)
  pub progress : IfOk said (λ progress. progress ≡ bound_progress old.mux.lines.scheduler c bound)
  pub refused : OnErr said (new.mux ≡ old.mux)
  pub bounds : OnOk said (Changes (start_bound old.mux.lines.scheduler c ticket bound) old.mux new.mux)
  pub rest : Keeps old new

-- the first waiting call of a ticket is given up; once this side closed the session none waits
pub record Cancels (ticket : ℕ) (old : CMux) (c : Channel) (new : CMux) (answer : LcmuxAnswer) : Type 0 where
  pub waited : Bool
  pub is : answer ≡ told (flag waited)
  pub closing : old.mux.closing ≡ true → (waited ≡ false) × (new.mux ≡ old.mux)
  pub answers : old.mux.closing ≡ false → waited ≡ waits ticket (queue old.mux.lines.scheduler c).calls
  pub cancels : old.mux.closing ≡ false → Changes (cancel old.mux.lines.scheduler c ticket) old.mux new.mux
  pub rest : Keeps old new

-- a permit of so many bytes is given back; once this side closed the session none is out
pub record GivesBack (len : ℕ) (old : CMux) (c : Channel) (new : CMux) (answer : LcmuxAnswer) : Type 0 where
  pub was_out : Bool
  pub is : answer ≡ told (flag was_out)
  pub closing : old.mux.closing ≡ true → (was_out ≡ false) × (new.mux ≡ old.mux)
  pub answers : old.mux.closing ≡ false → was_out ≡ is_permit (aside old.mux.lines.scheduler c) len
  pub gives : old.mux.closing ≡ false → Changes (give_back old.mux.lines.scheduler c len) old.mux new.mux
  pub rest : Keeps old new
