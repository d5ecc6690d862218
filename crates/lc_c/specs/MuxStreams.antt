-- What the streams of a session behind a handle take and give: what the session's own calls do.
use Rattle.std.specs.Prelude.{◌≡◌, ◌<◌, ◌≤◌, ℕ, List, [], length, take, drop, is_some, true, false, Result, IfOk, OnErr}
use Rattle.std.specs.Result.{result_err}
use Rattle.lc_peer.specs.declared.delivery.Delivery.{Delivery}
use Rattle.lc_mux.specs.declared.end.End.{End}
use Rattle.lc_mux.specs.Mux.{text}
use Rattle.lc_mux.specs.Ends.{over, input_over, end_of_stop}
use Rattle.lc_mux.specs.Flushing.{DeliversAndFlushes}
use Rattle.lc_mux.specs.Writing.{Gives}
use Rattle.lc_c.specs.declared.answer.LcmuxAnswer.{LcmuxAnswer}
use Rattle.lc_c.specs.declared.wire.LcmuxDelivery.{LcmuxDelivery}
use Rattle.lc_c.specs.declared.mux.session.CMux.{CMux}
use Rattle.lc_c.specs.Answers.{no_peer}
use Rattle.lc_c.specs.Asking.{told}
use Rattle.lc_c.specs.Streams.{count_on}
use Rattle.lc_c.specs.MuxAnswers.{delivery_shown}

-- what a delivery answers on an empty handle
abbrev pub nowhere : LcmuxDelivery
nowhere = record { code = no_peer; taken = 0; frames = 0 }

-- a piece is delivered to a session, unless it takes none any more, and its bytes are counted
pub record DeliversTo (piece : List ℕ) (old new : CMux) (answer : LcmuxDelivery) : Type 0 where
  pub said : Result Delivery End
  pub is : answer ≡ delivery_shown said
  pub over : result_err said ≡ input_over old.mux
  pub refused : OnErr said (new ≡ old)
  pub delivers : IfOk said (λ d. DeliversAndFlushes piece d old.mux new.mux)
  pub stop : IfOk said (λ d. new.mux.intake.stop ≡ d.stop)
  pub end : IfOk said (λ d. new.mux.end ≡ end_of_stop d.stop)
  pub taken : IfOk said (λ d. new.taken ≡ count_on d.taken old.taken)
  pub rest : new.mux ≡ record old.mux { lines = new.mux.lines; owed = new.mux.owed; intake = new.mux.intake; end = new.mux.end }

-- a session writes to the front of a buffer, unless it is over: the number is how many bytes
pub record Writes (buffer buffer' : List ℕ) (old new : CMux) (answer : LcmuxAnswer) : Type 0 where
  pub is : answer ≡ told answer.number
  pub ended : is_some (over old.mux) ≡ true → (answer.number ≡ 0) × (new ≡ old)
  pub count : answer.number ≤ length buffer
  pub behind : drop answer.number buffer' ≡ drop answer.number buffer
  pub gives : Gives old.mux.closing (take answer.number buffer') old.mux.owed old.mux.lines old.mux.pending new.mux.owed new.mux.lines new.mux.pending
  pub all : is_some (over old.mux) ≡ false → answer.number < length buffer → text new.mux ≡ []
  pub rest : new ≡ record old { mux = record old.mux { lines = new.mux.lines; owed = new.mux.owed; pending = new.mux.pending } }
