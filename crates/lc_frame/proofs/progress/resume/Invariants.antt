use Rattle.std.proofs.Common.{◌≡◌, ℕ, ◌<◌, ◌≤◌, ◌++◌, length, take, drop}
use Rattle.lc_frame.specs.Decoded.{IsOpen}
use Rattle.lc_frame.specs.Scan.{NeedsMore}
use Rattle.lc_frame.proofs.progress.resume.Given as goal

abbrev pub invariant-steps : goal.invariant-steps
invariant-steps l = record {
  wanted : NeedsMore l.version l.buffer l.need;
  within : l.taken ≤ length l.piece;
  left : l.rest ≡ drop l.taken l.piece;
  held : l.buffer ≡ l.initial.buffer ++ take l.taken l.piece;
  shortest : (k : ℕ) → k < l.taken → IsOpen l.version (l.initial.buffer ++ take k l.piece);
}

abbrev pub decreases-steps : goal.decreases-steps
decreases-steps l = length l.rest
