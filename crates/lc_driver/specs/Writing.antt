-- What writing does: which bytes the writer takes, and which frames leave the peer. One relation says it for all outcomes, so that two calls one after the other compose: whatever the cuts and the faults, the text goes out once, in order. These rules are this project's own.
use Rattle.std.specs.Prelude.{◌≡◌, ℕ, ◌+◌, ◌<◌, ◌≤◌, List, ◌++◌, length, take, drop, Option, Result, Ok, Err, IsSome}
use Rattle.std.specs.List.{flat_map}
use Rattle.std.specs.Io.KnownBytes.{Appends}
use Rattle.lc_frame.specs.declared.version.Version.{Version}
use Rattle.lc_frame.specs.declared.frame.Frame.{Frame}
use Rattle.lc_frame.specs.Encoding.{encoding}
use Rattle.lc_peer.specs.Peer.{PeerState}
use Rattle.lc_driver.specs.declared.writing.WriteFault.{WriteFault}
use Rattle.lc_driver.specs.declared.writing.WriteFault.TheVariants.{Failed, Zero}
use Rattle.lc_driver.specs.declared.counts.Counts.{Counts}
use Rattle.lc_driver.specs.Counts.{count_up}

-- the bytes that are pending, then those of the frames that wait, in the version of the stream
abbrev pub text : Version → List ℕ → List Frame → List ℕ
text version pending waiting = pending ++ flat_map (encoding version) waiting

-- the peer when so many of the frames that waited left
abbrev pub without : ℕ → PeerState → PeerState
without n p = record p { waiting = drop n p.waiting }

-- the writer's bytes grew by the first so many of the text, and the rest of it is what is pending and what waits now
pub record Writes (version : Version) (before after : Option (List ℕ)) (old_pending : List ℕ) (old : PeerState) (new_pending : List ℕ) (new : PeerState) (written : ℕ) : Type 0 where
  pub taken : List ℕ
  pub count : written ≡ length taken
  pub grown : Appends before after taken
  pub rest : text version old_pending old.waiting ≡ taken ++ text version new_pending new.waiting
  -- so many frames left the peer, which is else as it was
  pub gone : ℕ
  pub peer : new ≡ without gone old
  -- of each of them the first byte was taken
  pub begun : (k : ℕ) → k < gone → length (text version old_pending (take k old.waiting)) < written

-- how many bytes a call wrote before its fault
abbrev pub fault_written : WriteFault → ℕ
fault_written (Failed n) = n
fault_written (Zero n) = n

-- how many bytes a call wrote, whether it ended well or not
abbrev pub written_in : Result ℕ WriteFault → ℕ
written_in (Ok n) = n
written_in (Err fault) = fault_written fault

-- the fault of a call that wrote so many bytes before
abbrev pub fault_after : WriteFault → ℕ → WriteFault
fault_after (Failed n) before = Failed (before + n)
fault_after (Zero n) before = Zero (before + n)

-- the writer's own counts name the fault: one call failed, or one took nothing; else no call did
abbrev pub CountsWrites : Result ℕ WriteFault → Counts → Counts → Type 0
CountsWrites (Ok n) old new = new ≡ record old { calls = new.calls }
CountsWrites (Err (Failed n)) old new = (new ≡ record old { calls = new.calls; failures = count_up old.failures; last_failure = new.last_failure }) × IsSome new.last_failure
CountsWrites (Err (Zero n)) old new = new ≡ record old { calls = new.calls; ends = count_up old.ends }

-- after the first so many bytes stand those of the first frames that wait
pub record IsAhead (version : Version) (begun : ℕ) (bytes : List ℕ) (waiting : List Frame) : Type 0 where
  pub within : begun ≤ length bytes
  pub joined : ℕ
  pub is : drop begun bytes ≡ flat_map (encoding version) (take joined waiting)

-- the writer took some of these bytes: the frames whose first byte is among them left the peer, the last of which ends where it is said
pub record LetsGo (version : Version) (bytes : List ℕ) (begun taken end : ℕ) (old new : PeerState) : Type 0 where
  pub rest : take begun bytes ++ flat_map (encoding version) old.waiting ≡ take end bytes ++ flat_map (encoding version) new.waiting
  pub gone : ℕ
  pub peer : new ≡ without gone old
  pub first : (k : ℕ) → k < gone → begun + length (flat_map (encoding version) (take k old.waiting)) < taken
