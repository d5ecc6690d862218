-- What frames do at a sink, which is anything that they arrive at, and what a peer does as one. A sink has a relation for the frames that arrive at it and one for those that violate the rules. These words are this project's own.
use Rattle.std.specs.Prelude.{◌≡◌, ℕ, List, [], ◌∷◌, length, take, slice_get, Option, Some, None}
use Rattle.lc_frame.specs.declared.frame.Frame.{Frame}
use Rattle.lc_book.specs.declared.fault.Violation.{Violation}
use Rattle.lc_peer.specs.Peer.{PeerState}
use Rattle.lc_peer.specs.Arrivals.{violation_at, arrive}

-- a frame that is lawful arrives at a peer, and leaves what `arrive` says
abbrev pub Arrives : PeerState → Frame → PeerState → Type 0
Arrives p f q = (violation_at p f ≡ None) × (q ≡ arrive p f)

-- a frame violates the rules, and leaves the peer as it was
abbrev pub Violates : Violation → PeerState → Frame → PeerState → Type 0
Violates v p f q = (violation_at p f ≡ Some v) × (q ≡ p)

-- all of these frames arrive, each at what the one before it left
abbrev pub AllArrive : {T : Type 0} → (T → Frame → T → Type 0) → T → List Frame → T → Type 0
AllArrive {T} arrives p [] q = q ≡ p
AllArrive {T} arrives p (f ∷ frames) q = (between : T) × arrives p f between × AllArrive arrives between frames q

-- what follows so many frames: nothing, or the frame that violates
abbrev pub IsNext : {T : Type 0} → (Violation → T → Frame → T → Type 0) → Option Violation → T → List Frame → ℕ → T → Type 0
IsNext {T} violates None p frames count q = (count ≡ length frames) × (q ≡ p)
IsNext {T} violates (Some v) p frames count q = (f : Frame) × (slice_get frames count ≡ Some f) × violates v p f q

-- the frames arrive in order, up to the first that violates: so many of them did, and this is the violation of the one after them, if it stopped there
pub record ArriveUpTo {T : Type 0} (arrives : T → Frame → T → Type 0) (violates : Violation → T → Frame → T → Type 0) (p : T) (frames : List Frame) (count : ℕ) (violation : Option Violation) (q : T) : Type 0 where
  -- what those that arrived left
  pub at : T
  pub arrived : AllArrive arrives p (take count frames) at
  pub next : IsNext violates violation at frames count q
