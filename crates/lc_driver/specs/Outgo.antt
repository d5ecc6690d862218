-- What is on its way out. That a stream of version Two begins with a greeting, and all else here, is this project's own.
use Rattle.std.specs.Prelude.{ℕ, List}
use Rattle.lc_frame.specs.declared.version.Version.{Version}
use Rattle.lc_frame.specs.Version.{greeting}

-- the version of the stream, and the bytes that are left of the frame that was begun, or of the greeting
pub record OutgoState : Type 0 where
  pub version : Version
  pub pending : List ℕ

-- at the start of a stream its greeting is pending
abbrev pub new_outgo : Version → OutgoState
new_outgo version = record { version = version; pending = greeting version }
