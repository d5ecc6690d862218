-- What more bytes do to a Send whose message is not kept, for src/skip.rt and src/ring_intake.rt. A device of the proofs: what a delivery does is in Deliveries.antt, without it.
use Rattle.std.specs.Prelude.{◌≡◌, ℕ, ◌<◌, ◌≤◌, List, length, Option, Some, None, IfSome}
use Rattle.lc_frame.specs.declared.frame.Frame.{Frame}
use Rattle.lc_frame.specs.Stored.{Stored}
use Rattle.lc_book.specs.declared.fault.Violation.{Violation}
use Rattle.lc_peer.specs.declared.delivery.Delivery.{Delivery}
use Rattle.lc_peer.specs.declared.delivery.Stop.{Stop}
use Rattle.lc_peer.specs.declared.delivery.Stop.TheVariants.{Violated}
use Rattle.lc_peer.specs.declared.delivery.Step.{Step}
use Rattle.lc_peer.specs.declared.delivery.Step.TheVariants.{Open, Stopped}
use Rattle.lc_peer.specs.declared.skip.Skip.{Skip}
use Rattle.lc_peer.specs.Steps.{Steps}
use Rattle.lc_peer.specs.Deliveries.{DeliversTo}
use Rattle.lc_peer.specs.RingIntake.{IsSkip, held_of, held_with}

-- the step of a delivery that took so many bytes, and met this violation, if any
abbrev pub step_of : ℕ → Option Violation → Step
step_of count None = Open count
step_of count (Some violation) = Stopped (Violated violation) count

-- why it stopped, if it did
abbrev pub stop_by : Option Violation → Option Stop
stop_by None = None
stop_by (Some violation) = Some (Violated violation)

-- it is what a step of any delivery is; where nothing stopped, bytes are still missing
pub record Skips {T : Type 0} (arrives : T → Frame → T → Type 0) (violates : Violation → T → Frame → T → Type 0) (rings : List ℕ) (count : ℕ) (violation : Option Violation) (p : T) (old : Skip) (rest : List ℕ) (p' : T) (new : Skip) : Type 0 where
  pub steps : Steps arrives violates (step_of count violation) p (held_of old) rest p' (held_of new)
  pub within : count ≤ length rest
  pub version : new.version ≡ old.version
  pub skip : IsSkip rings new
  pub missing : violation ≡ None → 0 < new.missing

-- a delivery that leaves this in the decoder, and this Send whose message is not kept
pub record Goes {T : Type 0} (arrives : T → Frame → T → Type 0) (violates : Violation → T → Frame → T → Type 0) (rings : List ℕ) (p : T) (held : Stored) (piece : List ℕ) (p' : T) (decoder : Stored) (skip : Option Skip) (d : Delivery) : Type 0 where
  pub delivers : DeliversTo arrives violates p held piece p' (held_with decoder skip) d
  pub skips : IfSome skip (IsSkip rings)
  pub missing : d.stop ≡ None → IfSome skip (λ s. 0 < s.missing)
