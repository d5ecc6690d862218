-- What the calls of a session answer: those of its lines, unless the session takes them no more. These rules are this project's own.
use Rattle.std.specs.Prelude.{◌≡◌, ◌&&◌, nat_lt, ℕ, if◌then◌else◌, Option, Some, None}
use Rattle.std.specs.Option.{option_or}
use Rattle.lc_frame.specs.declared.channel.Channel.{Channel}
use Rattle.lc_book.specs.declared.fault.Refusal.{Refusal}
use Rattle.lc_lines.specs.Scheduler.{free}
use Rattle.lc_mux.specs.declared.end.End.{End}
use Rattle.lc_mux.specs.declared.end.End.TheVariants.{Remote, Aborted}
use Rattle.lc_mux.specs.declared.end.CallError.{CallError}
use Rattle.lc_mux.specs.declared.end.CallError.TheVariants.{Refused, Over}
use Rattle.lc_mux.specs.Mux.{MuxState}
use Rattle.lc_mux.specs.Ends.{call_over}

-- what a call answers: why the session takes it no more, if it does not, and else what its lines answer
abbrev pub Answers : Option End → (Option Refusal → Type 0) → Option CallError → Type 0
Answers (Some end) by answer = answer ≡ Some (Over end)
Answers None by None = by None
Answers None by (Some (Refused refusal)) = by (Some refusal)
Answers None by (Some (Over end)) = ⊥

-- by what a call is refused, if its lines refused it
abbrev pub refusal_of : Option CallError → Option Refusal
refusal_of (Some (Refused refusal)) = Some refusal
refusal_of answer = None

-- a call is refused by this, if by anything
abbrev pub IsAnswer : Option Refusal → Option Refusal → Type 0
IsAnswer refusal answer = answer ≡ refusal

-- why a session takes no message of so many bytes any more: it is over or closed, or guarantees are missing that a peer which ended its stream never issues
abbrev pub send_over : MuxState → Channel → ℕ → Option End
send_over m c len = option_or (call_over m) (if m.input_ended && nat_lt (free m.lines.scheduler c) len then Some Remote else None)

-- why no message can be taken: this side aborted the session
abbrev pub hidden_by : Option End → Option End
hidden_by (Some Aborted) = Some Aborted
hidden_by end = None

-- the same of a session
abbrev pub take_over : MuxState → Option End
take_over m = hidden_by m.end
