use Rattle.std.proofs.Common.{◌≡◌, ◌-◌, ◌≤◌, true, false, length, take, drop}
use Rattle.lc_lines.specs.Closing.{IsClosed}
use Rattle.lc_owed.specs.Flush.{IsFlushed}
use Rattle.lc_mux.specs.Mux.{IsBegun}
use Rattle.lc_mux.specs.Writing.{Gives}
use Rattle.lc_mux.proofs.mux.writing.give.Given as goal

abbrev pub invariant-frames : goal.invariant-frames
invariant-frames l = record {
  within : l.done ≤ length l.initial.out;
  behind : drop l.done l.out ≡ drop l.done l.initial.out;
  gives : Gives l.closing (take l.done l.out) l.initial.owed l.initial.lines l.initial.pending l.owed l.lines l.pending;
  begun : IsBegun l.initial.lines.scheduler l.initial.pending → IsBegun l.lines.scheduler l.pending;
  flushed : l.closing ≡ false → IsFlushed l.initial.owed l.initial.lines.scheduler → IsFlushed l.owed l.lines.scheduler;
  closed : l.closing ≡ true → IsClosed l.initial.lines.scheduler → IsClosed l.lines.scheduler;
}

abbrev pub decreases-frames : goal.decreases-frames
decreases-frames l = length l.initial.out - l.done
