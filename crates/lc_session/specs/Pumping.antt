-- What contracts see of the pump that writes, and what a run of it does. These rules are this project's own.
use Rattle.std.specs.Prelude.{◌≡◌, ◌⊎◌, ℕ, List, [], ◌++◌, Option, Some, IsSome}
use Rattle.std.specs.Io.KnownBytes.{Appends}
use Rattle.lc_frame.specs.declared.version.Version.{Version}
use Rattle.lc_frame.specs.declared.frame.Frame.{Frame}
use Rattle.lc_frame.specs.Version.{greeting}
use Rattle.lc_queue.specs.Parts.{Outlet, IsSame, AllPopped}
use Rattle.lc_driver.specs.Writing.{text}
use Rattle.lc_driver.specs.Counts.{count_up}
use Rattle.lc_driver.specs.declared.counts.Counts.{Counts}
use Rattle.lc_session.specs.Batch.{BatchState, HasBegun, LetsGo}
use Rattle.lc_session.specs.declared.write_pump.WriteEnd.{WriteEnd}
use Rattle.lc_session.specs.declared.write_pump.WriteEnd.TheVariants.{Stopped, Failed, Zero}

-- the drain, what is left of the frame that was begun, or of the greeting, and the frames that were popped and not begun
pub record Pumping : Type 0 where
  pub drain : Outlet
  pub begun : List ℕ
  pub waiting : List Frame

-- no frame was begun, and these bytes are what is left of the greeting
pub record HasGreeted (version : Version) (frames : List Frame) (rest : List ℕ) : Type 0 where
  pub none : frames ≡ []
  pub written : List ℕ
  pub whole : greeting version ≡ written ++ rest

-- nothing is left of these frames, or a rest of the last of them, or of the greeting before them
abbrev pub IsRest : Version → List Frame → List ℕ → Type 0
IsRest version frames rest = (rest ≡ []) ⊎ (HasBegun version frames rest ⊎ HasGreeted version frames rest)

-- what every pump keeps: of what was popped the last frames wait, and what is left of the one before them, or of the greeting, is pending
pub record IsPumping (p : Pumping) : Type 0 where
  pub begun_frames : List Frame
  pub popped : p.drain.popped ≡ begun_frames ++ p.waiting
  pub rest : IsRest p.drain.version begun_frames p.begun

-- a pump that popped and wrote nothing: the greeting is pending
abbrev pub new_pumping : Outlet → Pumping
new_pumping drain = record { drain = drain; begun = greeting drain.version; waiting = [] }

-- it is still the pump of the same queue, in the same version
abbrev pub IsSamePump : Pumping → Pumping → Type 0
IsSamePump old new = IsSame new.drain.queue old.drain.queue × (new.drain.version ≡ old.drain.version)

-- frames were popped; the writer's bytes grew by some, and these, then what is pending now, are what was pending, then the frames that were popped
pub record Pumps (before after : Option (List ℕ)) (old new : Pumping) : Type 0 where
  pub taken : List ℕ
  pub popped : List Frame
  pub grown : Appends before after taken
  pub drain : new.drain ≡ record old.drain { popped = old.drain.popped ++ popped }
  pub text_is : text old.drain.version old.begun (old.waiting ++ popped) ≡ taken ++ text old.drain.version new.begun new.waiting

-- where the pump stopped, nothing is pending, and of the lanes that have ended all was popped
abbrev pub IsEnd : WriteEnd → Pumping → Type 0
IsEnd Stopped p = (p.begun ≡ []) × (p.waiting ≡ []) × AllPopped p.drain
IsEnd end p = Unit {0}

-- the writer's own counts name the fault: one call failed, or one took nothing; else no call did
abbrev pub CountsEnd : Option WriteEnd → Counts → Counts → Type 0
CountsEnd (Some Failed) old new = (new ≡ record old { calls = new.calls; failures = count_up old.failures; last_failure = new.last_failure }) × IsSome new.last_failure
CountsEnd (Some Zero) old new = new ≡ record old { calls = new.calls; ends = count_up old.ends }
CountsEnd end old new = new ≡ record old { calls = new.calls }

-- frames were popped, and wait behind those that did
pub record Pops (old new : Pumping) : Type 0 where
  pub popped : List Frame
  pub drain : new.drain ≡ record old.drain { popped = old.drain.popped ++ popped }
  pub begun : new.begun ≡ old.begun
  pub waiting : new.waiting ≡ old.waiting ++ popped

-- a drain and the batch of what it popped
abbrev pub pumping_of : Outlet → BatchState → Pumping
pumping_of drain batch = record { drain = drain; begun = batch.begun; waiting = batch.waiting }

-- what was pending was written, as far as the writer took it
pub record Writes (before after : Option (List ℕ)) (old new : BatchState) : Type 0 where
  pub count : ℕ
  pub goes : LetsGo count old new
  pub grown : Appends before after goes.written

-- a write that did not take all failed, or took nothing
abbrev pub IsFault : WriteEnd → Type 0
IsFault Stopped = ⊥
IsFault end = Unit {0}
