-- A queue that is being made. It serves `src/opening.rt`.
use Rattle.std.specs.Prelude.{ℕ}
use Rattle.lc_frame.specs.declared.version.Version.{Version}
use Rattle.lc_queue.specs.Parts.{QueueId}

-- the queue, the version, and the queue's first lane that has no end yet
pub record Opened : Type 0 where
  pub queue : QueueId
  pub version : Version
  pub next : ℕ
