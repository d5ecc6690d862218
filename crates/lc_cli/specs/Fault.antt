-- How a run of the program that meets a fault ends, and its exit status. These numbers are this project's own.
use Rattle.std.specs.Prelude.{◌≡◌, ℕ, ◌⊎◌, ⊤}
use Rattle.lc_cli.specs.declared.fault.Status.{Status}
use Rattle.lc_cli.specs.declared.fault.Status.TheVariants.{Done, Failed, Bad, Unread}
use Rattle.lc_cli.specs.declared.fault.Fault.{Fault}
use Rattle.lc_cli.specs.declared.fault.Fault.TheVariants.{Usage, BadLine, CarriageReturn, BadFrame, InputTooLong, OutOfMemory, ReadFailed, WriteFailed, BrokenPipe, LoopbackFailed}

-- how a run that meets a fault ends: memory and devices fail; arguments and input are bad; behind a broken pipe the output is unread
abbrev pub status_of : Fault → Status
status_of Usage = Bad
status_of (BadLine line) = Bad
status_of (CarriageReturn line) = Bad
status_of (BadFrame number offset culprit) = Bad
status_of InputTooLong = Bad
status_of OutOfMemory = Failed
status_of ReadFailed = Failed
status_of WriteFailed = Failed
status_of BrokenPipe = Unread
status_of LoopbackFailed = Failed

-- the number that a call answers: 0 done, 1 failed, 2 bad, 3 unread
abbrev pub code_of : Status → ℕ
code_of Done = 0
code_of Failed = 1
code_of Bad = 2
code_of Unread = 3

-- what may go wrong while an input of limited length is read
abbrev pub IsOfReading : Fault → Type 0
IsOfReading Usage = ⊥
IsOfReading (BadLine line) = ⊥
IsOfReading (CarriageReturn line) = ⊥
IsOfReading (BadFrame number offset culprit) = ⊥
IsOfReading InputTooLong = ⊤
IsOfReading OutOfMemory = ⊤
IsOfReading ReadFailed = ⊤
IsOfReading WriteFailed = ⊥
IsOfReading BrokenPipe = ⊥
IsOfReading LoopbackFailed = ⊥

-- a write failed, or its reader went away
abbrev pub IsOfWriting : Fault → Type 0
IsOfWriting fault = (fault ≡ WriteFailed) ⊎ (fault ≡ BrokenPipe)

-- how a run ends whose arguments and input are good, and whose output is not all written
abbrev pub IsCutShort : Status → Type 0
IsCutShort Done = ⊥
IsCutShort Failed = ⊤
IsCutShort Bad = ⊥
IsCutShort Unread = ⊤
