-- What reading a stream of either version does: which frames arrive, what is held, and how it ends. One relation says it for all outcomes, so that two calls one after the other compose: whatever the cuts and the faults, the frames that arrive are the first of those that were put. These rules are this project's own.
use Rattle.std.specs.Prelude.{◌≡◌, ℕ, ◌*◌, ◌<◌, ◌≤◌, List, [], ◌++◌, length, All, Option, Some, None, Ok, Err, IsSome, ⊤}
use Rattle.std.specs.Io.KnownBytes.{Consumes, Keeps, ReadConsumes, IsAtEnd}
use Rattle.std.specs.declared.io.Error.{Error}
use Rattle.lc_frame.specs.declared.frame.Frame.{Frame}
use Rattle.lc_frame.specs.Stored.{Stored, fed, HasFault, IsUndecided}
use Rattle.lc_frame.specs.StreamDecoder.{IsPart}
use Rattle.lc_frame.specs.Splits.{frames_of, rest_of}
use Rattle.lc_book.specs.declared.fault.Violation.{Violation}
use Rattle.lc_peer.specs.declared.delivery.Stop.{Stop}
use Rattle.lc_peer.specs.declared.delivery.Stop.TheVariants as stops
use Rattle.lc_peer.specs.Peer.{PeerState}
use Rattle.lc_peer.specs.Arrivals.{Arrival, arrivals}
use Rattle.lc_peer.specs.Sinks.{ArriveUpTo}
use Rattle.lc_peer.specs.Deliveries.{violation_of}
use Rattle.lc_driver.specs.declared.reading.ReadEnd.{ReadEnd}
use Rattle.lc_driver.specs.declared.reading.ReadEnd.TheVariants.{Clean, Truncated, Fault, Violated, ReadFailed, TurnsSpent}
use Rattle.lc_driver.specs.declared.counts.Counts.{Counts}
use Rattle.lc_driver.specs.Counts.{count_up, count_on, CountsCall}
use Rattle.lc_peer.specs.Intake.{IntakeState}

-- the most bytes asked for per read
abbrev pub max_read : ℕ
max_read = 4096

-- what a counted read into memory gave, and what it left of the reader
abbrev pub ReadGives : Option ℕ → List ℕ → Option (List ℕ) → Option (List ℕ) → Counts → Counts → Type 0
ReadGives (Some n) memory before after old new = ReadConsumes {E = Error} before after (Ok n) memory × CountsCall (Ok n) (length memory) old new
ReadGives None memory before after old new = Keeps before after × ((e : Error) × CountsCall (Err e) (length memory) old new)

-- the answer where the stream was given up
abbrev pub end_of : Stop → ReadEnd
end_of (stops.Fault fault) = Fault fault
end_of (stops.Violated violation) = Violated violation

-- an answer that is kept for good
abbrev pub stop_of : ReadEnd → Option Stop
stop_of (Fault fault) = Some (stops.Fault fault)
stop_of (Violated violation) = Some (stops.Violated violation)
stop_of end = None

-- what it means that the input ends where this is held and the stream was not given up
abbrev pub EndsHere : ReadEnd → Stored → Type 0
EndsHere Clean held = held.bytes ≡ []
EndsHere Truncated held = IsPart held
EndsHere end held = ⊥

-- every frame arrived, and the rest, which may be part of one, is held
pub record GoesOn (came : Arrival) (rest held : Stored) : Type 0 where
  pub lawful : came.violation ≡ None
  pub all : held ≡ rest
  pub undecided : IsUndecided held

-- why a call of so many reads at most ended, which read so many bytes: what came of the frames, and what follows them
abbrev pub EndsBy : ReadEnd → Arrival → Stored → Stored → ℕ → ℕ → Type 0
EndsBy Clean came rest held read max_reads = GoesOn came rest held × (rest.bytes ≡ [])
EndsBy Truncated came rest held read max_reads = GoesOn came rest held × IsPart rest
EndsBy (Fault fault) came rest held read max_reads = (came.violation ≡ None) × HasFault fault rest
EndsBy (Violated violation) came rest held read max_reads = came.violation ≡ Some violation
EndsBy ReadFailed came rest held read max_reads = GoesOn came rest held
EndsBy TurnsSpent came rest held read max_reads = GoesOn came rest held × (max_reads ≤ read)

-- the frames of what was held and of what was read arrive, in order, up to the first fault or violation, however the reads were cut
pub record Reads (before after : Option (List ℕ)) (held : Stored) (old : PeerState) (intake : IntakeState) (new : PeerState) (max_reads : ℕ) (end : ReadEnd) : Type 0 where
  pub read : List ℕ
  pub consumed : Consumes before after read
  pub few : length read ≤ max_read * max_reads
  -- all of them are bytes, also where the reader tells nothing of what it gives
  pub bytes : All (λ b. b < 256) (held.bytes ++ read)
  pub peer : new ≡ (arrivals old (frames_of (fed held read))).peer
  pub ends : EndsBy end (arrivals old (frames_of (fed held read))) (rest_of (fed held read)) intake.held (length read) max_reads
  pub kept : intake.stop ≡ stop_of end

-- the rest, which may be part of a frame, is held
pub record HoldsRest (rest held : Stored) : Type 0 where
  pub all : held ≡ rest
  pub undecided : IsUndecided held

-- why a call of so many reads at most ended, which read so many bytes, by what follows the frames. After a violation what came of the frames says it
abbrev pub EndsAt : ReadEnd → Stored → Stored → ℕ → ℕ → Type 0
EndsAt Clean rest held read max_reads = HoldsRest rest held × (rest.bytes ≡ [])
EndsAt Truncated rest held read max_reads = HoldsRest rest held × IsPart rest
EndsAt (Fault fault) rest held read max_reads = HasFault fault rest
EndsAt (Violated violation) rest held read max_reads = ⊤
EndsAt ReadFailed rest held read max_reads = HoldsRest rest held
EndsAt TurnsSpent rest held read max_reads = HoldsRest rest held × (max_reads ≤ read)

-- the same of any sink: the frames of what was held and of what was read arrive at it, in order, up to the first fault or violation
pub record ReadsInto {T : Type 0} (arrives : T → Frame → T → Type 0) (violates : Violation → T → Frame → T → Type 0) (before after : Option (List ℕ)) (held : Stored) (old : T) (intake : IntakeState) (new : T) (max_reads : ℕ) (end : ReadEnd) : Type 0 where
  pub read : List ℕ
  pub consumed : Consumes before after read
  pub few : length read ≤ max_read * max_reads
  pub bytes : All (λ b. b < 256) (held.bytes ++ read)
  -- so many frames arrived
  pub frames : ℕ
  pub came : ArriveUpTo arrives violates old (frames_of (fed held read)) frames (violation_of (stop_of end)) new
  pub ends : EndsAt end (rest_of (fed held read)) intake.held (length read) max_reads
  pub kept : intake.stop ≡ stop_of end

-- where the answer says that the input ended, it did
abbrev pub EndsInput : ReadEnd → Option (List ℕ) → Type 0
EndsInput Clean remaining = IsAtEnd remaining
EndsInput Truncated remaining = IsAtEnd remaining
EndsInput end remaining = ⊤

-- the reader's own counts name what it did: one read failed, or one gave nothing; else no read did
abbrev pub CountsReads : ReadEnd → Counts → Counts → Type 0
CountsReads Clean old new = new ≡ record old { calls = new.calls; ends = count_up old.ends }
CountsReads Truncated old new = new ≡ record old { calls = new.calls; ends = count_up old.ends }
CountsReads ReadFailed old new = (new ≡ record old { calls = new.calls; failures = count_up old.failures; last_failure = new.last_failure }) × IsSome new.last_failure
CountsReads end old new = new ≡ record old { calls = new.calls }

-- where the answer says that all reads were made that were allowed, the reader counted each
abbrev pub CountsAll : ReadEnd → ℕ → Counts → Counts → Type 0
CountsAll TurnsSpent max_reads old new = new.calls ≡ count_on max_reads old.calls
CountsAll end max_reads old new = ⊤
