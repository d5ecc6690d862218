use Rattle.std.proofs.Common.{◌≡◌, take, ◌++◌}
use Rattle.std.specs.List.{flat_map}
use Rattle.lc_frame.specs.Encoding.{encoding}
use Rattle.lc_driver.proofs.writing.join_waiting.Given as goal

abbrev pub invariant-frames : goal.invariant-frames
invariant-frames l = record {
  version : l.outgo.version ≡ l.initial.outgo.version;
  joined : l.outgo.pending ≡ l.initial.outgo.pending ++ flat_map (encoding l.initial.outgo.version) (take l.place l.peer.waiting);
}
