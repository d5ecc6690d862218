use Rattle.std.proofs.Common.{◌≡◌, ◌≤◌, []}
use Rattle.lc_frame.specs.Kind.{max_frame}
use Rattle.lc_session.specs.Pumping.{Pops, pumping_of}
use Rattle.lc_session.proofs.write_pump.join_popped.Given as goal

abbrev pub invariant-frames : goal.invariant-frames
invariant-frames g l = record {
  pops : Pops (pumping_of l.fn.drain l.fn.batch) (pumping_of l.drain l.batch);
  version : l.batch.version ≡ l.drain.version;
  room : l.batch.begun ≡ [] → l.batch.waiting ≡ [] → max_frame l.batch.version ≤ l.batch.free;
}

abbrev pub decreases-frames : goal.decreases-frames
decreases-frames g l = l.batch.free
