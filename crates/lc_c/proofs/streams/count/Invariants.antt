use Rattle.std.proofs.Common.{◌≡◌, ◌+◌, ◌*◌, ◌≤◌, length, take}
use Rattle.std.specs.List.{flat_map}
use Rattle.lc_frame.specs.declared.version.Version.TheVariants.{Two}
use Rattle.lc_frame.specs.Kind.{max_frame}
use Rattle.lc_frame.specs.Encoding.{encoding}
use Rattle.lc_c.proofs.streams.count.Given as goal

abbrev pub invariant-frames : goal.invariant-frames
invariant-frames l = record {
  count : l.count ≡ length l.side-inside.pending.bytes + length (flat_map (encoding l.side-inside.peer.version) (take l.place l.side-inside.peer.waiting));
  small : l.count ≤ max_frame Two * (l.place + 1);
}
