use Rattle.std.proofs.Common.{◌≡◌, ℕ, ◌<◌, false, get_or}
use Rattle.std.specs.Prelude.{◌==◌}
use Rattle.lc_lines.specs.declared.queue.Call.{Call}
use Rattle.lc_lines.proofs.queue.place_of.Given as goal

-- no call before this place is of the ticket
abbrev pub invariant-loop-at : goal.invariant-loop-at
invariant-loop-at l = (d : Call) (k : ℕ) → k < l.at → ((get_or l.calls.items k d).ticket == l.ticket) ≡ false
