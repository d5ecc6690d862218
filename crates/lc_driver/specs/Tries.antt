-- A call that is made again where a signal interrupted it. That rule is this project's own.
use Rattle.std.specs.Prelude.{◌≡◌, ◌-◌, ◌^◌, List, length, All, Result, Ok, Err}
use Rattle.std.specs.List.{FoldsTo}
use Rattle.std.specs.IoError.{error_kind}
use Rattle.std.specs.declared.io.Error.{Error}
use Rattle.std.specs.declared.io.ErrorKind.TheVariants.{Interrupted}

-- a signal interrupted the call
abbrev pub WasInterrupted : {A : Type 0} → Result A Error → Type 0
WasInterrupted (Ok x) = ⊥
WasInterrupted (Err e) = error_kind e ≡ Interrupted

-- a call that was made until no signal interrupted it, where `once` says what one such call does: the answer is the last one's
pub record MadeAgain {S A : Type 0} (once : S → Result A Error → S → Type 0) (old : S) (answer : Result A Error) (new : S) : Type 0 where
  -- what all calls before the last answered, and where they left the device
  pub errors : List Error
  pub interrupted : All (λ e. error_kind e ≡ Interrupted) errors
  pub last : S
  pub before : FoldsTo (λ s e t. once s (Err e) t) old errors last
  pub answered : once last answer new
  -- an interruption is the answer of the 2^64th call alone
  pub spent : WasInterrupted answer → length errors ≡ 2 ^ 64 - 1
