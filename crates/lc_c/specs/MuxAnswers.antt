-- What the calls of a session answer, as C reads it: a refusal by its number, and the end of the session by its code. These codes are this project's own.
use Rattle.std.specs.Prelude.{ℕ, ◌+◌, Option, Some, None, Result, Ok, Err}
use Rattle.lc_frame.specs.FrameFault.{fault_number}
use Rattle.lc_book.specs.Fault.{violation_number}
use Rattle.lc_peer.specs.declared.inbox.Take.{Take}
use Rattle.lc_peer.specs.declared.delivery.Delivery.{Delivery}
use Rattle.lc_lines.specs.declared.scheduler.Progress.{Progress}
use Rattle.lc_lines.specs.declared.scheduler.Progress.TheVariants.{Proceeded, Waits}
use Rattle.lc_lines.specs.declared.scheduler.Attempt.{Attempt}
use Rattle.lc_lines.specs.declared.scheduler.Attempt.TheVariants.{Succeeded, Lacks}
use Rattle.lc_mux.specs.declared.end.End.{End}
use Rattle.lc_mux.specs.declared.end.End.TheVariants.{Local, Remote, Cut, Aborted, Transport, Violated, Fault}
use Rattle.lc_mux.specs.declared.end.CallError.{CallError}
use Rattle.lc_mux.specs.declared.end.CallError.TheVariants.{Refused, Over}
use Rattle.lc_c.specs.declared.answer.LcmuxAnswer.{LcmuxAnswer}
use Rattle.lc_c.specs.declared.wire.LcmuxDelivery.{LcmuxDelivery}
use Rattle.lc_c.specs.Answers.{done, only, refusal_answer, waits, closed_here, closed_there, cut, aborted, transport_failed}
use Rattle.lc_c.specs.Asking.{needs_shown}
use Rattle.lc_c.specs.Streams.{shown}
use Rattle.lc_c.specs.Takes.{take_shown}

-- the code of an end: a violation's is its number and 100 more, a fault's 200 more
abbrev pub end_code : End → ℕ
end_code Local = closed_here
end_code Remote = closed_there
end_code Cut = cut
end_code Aborted = aborted
end_code Transport = transport_failed
end_code (Violated violation) = 100 + violation_number violation
end_code (Fault fault) = 200 + fault_number fault

-- why a session is over, if it is
abbrev pub over_code : Option End → ℕ
over_code None = done
over_code (Some end) = end_code end

-- why a call is not made
abbrev pub error_shown : CallError → LcmuxAnswer
error_shown (Refused refusal) = refusal_answer refusal
error_shown (Over end) = only (end_code end)

-- what a call answers that is made or not
abbrev pub call_shown : Option CallError → LcmuxAnswer
call_shown None = only done
call_shown (Some error) = error_shown error

-- what a call answers that proceeds or waits
abbrev pub progress_shown : Result Progress CallError → LcmuxAnswer
progress_shown (Ok Proceeded) = only done
progress_shown (Ok Waits) = only waits
progress_shown (Err error) = error_shown error

-- what an attempt answers: that it succeeded, or what it lacks, as a question answers what a message needs
abbrev pub attempt_shown : Result Attempt CallError → LcmuxAnswer
attempt_shown (Ok Succeeded) = only done
attempt_shown (Ok (Lacks lacks)) = needs_shown lacks
attempt_shown (Err error) = error_shown error

-- what a take answers
abbrev pub taken_shown : Result Take CallError → LcmuxAnswer
taken_shown (Ok take) = take_shown take
taken_shown (Err error) = error_shown error

-- what a pop answers
abbrev pub popped_shown : Result Take End → LcmuxAnswer
popped_shown (Ok take) = take_shown take
popped_shown (Err end) = only (end_code end)

-- what a delivery answers: where no byte is taken any more, the end
abbrev pub delivery_shown : Result Delivery End → LcmuxDelivery
delivery_shown (Ok delivery) = shown delivery
delivery_shown (Err end) = record { code = end_code end; taken = 0; frames = 0 }
