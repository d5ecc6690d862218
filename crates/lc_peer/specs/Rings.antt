-- How a delivery comes to a Send that is longer than its channel's ring, for src/delivery.rt. A device of the proofs: what a delivery does is in Deliveries.antt, without it.
use Rattle.std.specs.Prelude.{◌≡◌, ℕ, ◌+◌, ◌<◌, ◌≤◌, ◌⊎◌, List, [], length, take, drop, Option, Some, None}
use Rattle.lc_frame.specs.declared.kind.Kind.TheVariants.{Send}
use Rattle.lc_frame.specs.declared.frame.Frame.{Frame}
use Rattle.lc_frame.specs.declared.version.Version.{Version}
use Rattle.lc_frame.specs.Kind.{IsInRange, header_len}
use Rattle.lc_frame.specs.Encoding.{header}
use Rattle.lc_frame.specs.Stored.{Stored, stored_in, fed, front, IsUndecided, IsDecided}
use Rattle.lc_book.specs.declared.fault.Violation.{Violation}
use Rattle.lc_peer.specs.declared.outgrown.Outgrown.{Outgrown}
use Rattle.lc_peer.specs.declared.delivery.Delivery.{Delivery}
use Rattle.lc_peer.specs.declared.delivery.Step.{Step}
use Rattle.lc_peer.specs.declared.delivery.Step.TheVariants.{Arrived, Open, Stopped}
use Rattle.lc_peer.specs.declared.delivery.Start.{Start}
use Rattle.lc_peer.specs.declared.delivery.Start.TheVariants.{GoesOn, Ended}
use Rattle.lc_peer.specs.Steps.{SoFar}
use Rattle.lc_peer.specs.Deliveries.{DeliversTo}
use Rattle.lc_peer.specs.Longer.{IsLonger, FitsRings, FitsAny, FitsGreatest, KeepsFew}

-- with so many bytes of the rest, the tag and the length of a Send are held, and nothing else; before it no more bytes are
pub record StartsSend (held : Stored) (rest : List ℕ) (o : Outgrown) : Type 0 where
  pub few : length held.bytes ≤ header_len o.version Send
  pub in_range : IsInRange o.version Send o.len
  pub within : o.behind ≤ length rest
  pub is : fed held (take o.behind rest) ≡ stored_in o.version (header o.version Send o.channel o.len)

-- a delivery came to a Send that is longer than its ring
pub record ComesTo {T : Type 0} (arrives : T → Frame → T → Type 0) (rings : List ℕ) (p : T) (held : Stored) (piece : List ℕ) (p' : T) (held' : Stored) (taken frames : ℕ) (o : Outgrown) : Type 0 where
  pub so_far : SoFar arrives p held piece p' held' taken frames
  pub starts : StartsSend held' (drop taken piece) o
  pub longer : IsLonger rings o.channel o.len

-- what a delivery did that goes up to the first Send that is longer than its ring, where it came to one, and else to the end of the piece
abbrev pub ReachesBy : {T : Type 0} → Option Outgrown → (T → Frame → T → Type 0) → (Violation → T → Frame → T → Type 0) → List ℕ → T → Stored → List ℕ → T → Stored → Delivery → Type 0
ReachesBy None arrives violates rings p held piece p' held' d = DeliversTo arrives violates p held piece p' held' d
ReachesBy (Some o) arrives violates rings p held piece p' held' d = ComesTo arrives rings p held piece p' held' d.taken d.frames o

-- bytes of a header or of a greeting were taken, as few as it takes that a frame or a fault stands
pub record Leads (old new : Stored) (piece : List ℕ) (taken : ℕ) : Type 0 where
  pub within : taken ≤ length piece
  pub grown : new ≡ fed old (take taken piece)
  pub shortest : 0 < taken → (k : ℕ) → k < length new.bytes → IsUndecided (front k new)

-- the version is known, and nothing is held or else the tag and the length of any Send
pub record IsHeaded (h : Stored) : Type 0 where
  pub version : Version
  pub known : h.version ≡ Some version
  pub whole : 0 < length h.bytes → header_len version Send ≤ length h.bytes

-- if a Send longer than its ring is begun in what is held, then no byte of its message is, and all of it is few
pub record KeepsHead (rings : List ℕ) (h : Stored) : Type 0 where
  pub fits : (v : Version) → h.version ≡ Some v → header_len v Send < length h.bytes → FitsRings rings h
  pub few : FitsGreatest rings (length h.bytes)

-- where a delivery goes on: before more is looked at, the header that is held is whole
pub record GoesFrom (rings : List ℕ) (h : Stored) (rest : List ℕ) : Type 0 where
  pub kept : KeepsHead rings h
  pub headed : 0 < length rings → 0 < length rest → IsDecided h ⊎ IsHeaded h

-- where a delivery goes on with the rest: what is held is few, and either it is nothing, or no Send longer than its ring is begun in it and the rest
pub record IsReady (rings : List ℕ) (h : Stored) (rest : List ℕ) : Type 0 where
  pub few : FitsGreatest rings (length h.bytes)
  pub fits : ((v : Version) × (h ≡ stored_in v [])) ⊎ FitsRings rings (fed h rest)

-- a Send longer than its ring starts where a delivery goes on with the rest
abbrev pub StartsLonger : List ℕ → Stored → List ℕ → Outgrown → Type 0
StartsLonger rings held rest o = StartsSend held rest o × IsLonger rings o.channel o.len

-- what is kept where a delivery ends, or of a Send longer than its ring where it comes to one
abbrev pub KeepsBy : Option Outgrown → List ℕ → Stored → Type 0
KeepsBy None rings h = KeepsFew rings h
KeepsBy (Some o) rings h = length h.bytes ≤ header_len o.version Send

-- what the first step makes of a piece of so many bytes, of which so many were taken before it
abbrev pub StartsBy : Step → ℕ → ℕ → Start → Type 0
StartsBy (Arrived count) before len (GoesOn taken frames) = (taken ≡ before + count) × (frames ≡ 1)
StartsBy (Arrived count) before len (Ended reached) = (reached ≡ record { delivery = record { taken = before + count; frames = 1; stop = None }; outgrown = None }) × (len ≤ before + count)
StartsBy (Open count) before len start = start ≡ Ended (record { delivery = record { taken = before + count; frames = 0; stop = None }; outgrown = None })
StartsBy (Stopped stop count) before len start = start ≡ Ended (record { delivery = record { taken = before + count; frames = 0; stop = Some stop }; outgrown = None })

-- how a delivery begins: it goes on between two frames, or it has ended, and where any Send of at most so many bytes fits its ring, little is kept then
abbrev pub BeginsBy : {T : Type 0} → Start → (T → Frame → T → Type 0) → (Violation → T → Frame → T → Type 0) → List ℕ → ℕ → T → Stored → List ℕ → T → Stored → Type 0
BeginsBy (GoesOn taken frames) arrives violates rings most p held piece p' held' = SoFar arrives p held piece p' held' taken frames × ((v : Version) × (held' ≡ stored_in v []))
BeginsBy (Ended reached) arrives violates rings most p held piece p' held' = ReachesBy reached.outgrown arrives violates rings p held piece p' held' reached.delivery × (FitsAny most rings → KeepsFew rings held → KeepsBy reached.outgrown rings held')

-- how many bytes are missing of a greeting, or of the tag and the length of a Send, where so many are held
abbrev pub IsMissing : Option Version → ℕ → ℕ → Type 0
IsMissing None stored n = (stored ≡ 0 → n ≡ 3) × (0 < stored → (0 < n) × (n ≤ 4) × (stored < 4 → n + stored ≡ 4))
IsMissing (Some v) stored n = (n ≤ 5) × (0 < n → n + stored ≡ header_len v Send) × (n ≡ 0 → 0 < stored → header_len v Send ≤ stored)
