-- What comes first on a channel that its client finished. Finishing a channel is this project's own.
use Rattle.std.specs.Prelude.{Bool, if◌then◌else◌, Option, Some}
use Rattle.lc_book.specs.declared.fault.Refusal.{Refusal}
use Rattle.lc_book.specs.declared.fault.Refusal.TheVariants.{ChannelFinished}
use Rattle.lc_book.specs.declared.fault.Violation.{Violation}
use Rattle.lc_book.specs.declared.fault.Violation.TheVariants.{AfterFinish}

-- why an own call of either side is refused on a channel: 15 where its client finished it; else `otherwise` says why
abbrev pub finished_refusal_or : Bool → Option Refusal → Option Refusal
finished_refusal_or finished otherwise = if finished then Some ChannelFinished else otherwise

-- what is wrong with a frame of the client that arrives: V9 where its Finish has arrived; else `otherwise` says what
abbrev pub finished_violation_or : Bool → Option Violation → Option Violation
finished_violation_or finished otherwise = if finished then Some AfterFinish else otherwise
