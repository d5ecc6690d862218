-- What one step of a delivery does, for src/delivery.rt. A device of the proofs: what a delivery does is in Deliveries.antt, without it.
use Rattle.std.specs.Prelude.{◌≡◌, ℕ, ◌+◌, ◌<◌, ◌≤◌, List, [], ◌∷◌, length, take}
use Rattle.std.specs.List.{AllByRecursion}
use Rattle.lc_frame.specs.declared.frame.Frame.{Frame}
use Rattle.lc_frame.specs.declared.frame_fault.FrameFault.{FrameFault}
use Rattle.lc_frame.specs.Stored.{Stored, fed, before, front, IsSettled, IsValidIn, encoding_in, HasFault, IsUndecided}
use Rattle.lc_book.specs.declared.fault.Violation.{Violation}
use Rattle.lc_peer.specs.Sinks.{AllArrive}
use Rattle.lc_peer.specs.declared.delivery.Stop.TheVariants.{Fault, Violated}
use Rattle.lc_peer.specs.declared.delivery.Step.{Step}
use Rattle.lc_peer.specs.declared.delivery.Step.TheVariants.{Arrived, Open, Stopped}

-- a frame became whole and arrived
pub record FrameArrives {T : Type 0} (arrives : T → Frame → T → Type 0) (p : T) (held : Stored) (piece : List ℕ) (p' : T) (held' : Stored) (taken : ℕ) : Type 0 where
  pub frame : Frame
  pub valid : IsValidIn held'.version frame
  pub arrived : arrives p frame p'
  pub within : taken ≤ length piece
  pub whole : fed held (take taken piece) ≡ before (frame ∷ []) held'
  pub cleared : held'.bytes ≡ []

-- no frame became whole
pub record StaysOpen {T : Type 0} (p : T) (held : Stored) (piece : List ℕ) (p' : T) (held' : Stored) (taken : ℕ) : Type 0 where
  pub same : p' ≡ p
  pub all : taken ≡ length piece
  pub grown : held' ≡ fed held piece
  pub undecided : IsUndecided held'

-- a frame became whole that violates the rules
pub record FrameViolates {T : Type 0} (violates : Violation → T → Frame → T → Type 0) (violation : Violation) (p : T) (held : Stored) (piece : List ℕ) (p' : T) (held' : Stored) (taken : ℕ) : Type 0 where
  pub frame : Frame
  pub valid : IsValidIn held'.version frame
  pub violated : violates violation p frame p'
  pub within : taken ≤ length piece
  pub grown : held' ≡ fed held (take taken piece)
  pub whole : held'.bytes ≡ encoding_in held'.version frame

-- a fault came to stand
pub record FaultComes {T : Type 0} (fault : FrameFault) (p : T) (held : Stored) (piece : List ℕ) (p' : T) (held' : Stored) (taken : ℕ) : Type 0 where
  pub same : p' ≡ p
  pub within : taken ≤ length piece
  pub grown : held' ≡ fed held (take taken piece)
  pub known : HasFault fault held'
  pub shortest : 0 < taken → (k : ℕ) → k < length held'.bytes → IsUndecided (front k held')

-- how many bytes a step took
abbrev pub taken_by : Step → ℕ
taken_by (Arrived taken) = taken
taken_by (Open taken) = taken
taken_by (Stopped stop taken) = taken

-- what a step of a delivery does, by its answer
abbrev pub Steps : {T : Type 0} → (T → Frame → T → Type 0) → (Violation → T → Frame → T → Type 0) → Step → T → Stored → List ℕ → T → Stored → Type 0
Steps arrives violates (Arrived taken) p held piece p' held' = FrameArrives arrives p held piece p' held' taken
Steps arrives violates (Open taken) p held piece p' held' = StaysOpen p held piece p' held' taken
Steps arrives violates (Stopped (Violated violation) taken) p held piece p' held' = FrameViolates violates violation p held piece p' held' taken
Steps arrives violates (Stopped (Fault fault) taken) p held piece p' held' = FaultComes fault p held piece p' held' taken

-- what a delivery has done so far: these frames arrived, and what is held then has no whole frame and no fault in a front of it
pub record SoFar {T : Type 0} (arrives : T → Frame → T → Type 0) (p : T) (held : Stored) (piece : List ℕ) (p' : T) (held' : Stored) (taken frames : ℕ) : Type 0 where
  pub fs : List Frame
  pub each : AllByRecursion (IsValidIn held'.version) fs
  pub arrived : AllArrive arrives p fs p'
  pub count : frames ≡ length fs
  pub bytes : fed held (take taken piece) ≡ before fs held'
  pub within : taken ≤ length piece
  pub few : frames ≤ taken + 1
  pub settled : IsSettled held'
  pub emptied : 0 < frames → held'.bytes ≡ []
  pub shortest : 0 < taken → (k : ℕ) → k < length held'.bytes → IsUndecided (front k held')
