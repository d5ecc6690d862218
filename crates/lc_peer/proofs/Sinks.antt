-- Frames that arrive at a sink one after the other, and those that arrive at a peer.
use Rattle.std.proofs.Common.{◌≡◌, ℕ, ◌+◌, List, [], ◌∷◌, ◌++◌, length, take, Option, Some, None, zero, suc, refl, sym, ap, subst, ◌∙◌, arith}
use Rattle.std.specs.Prelude.{slice_get}
use Rattle.std.proofs.lemmas.List.{take_all, length-append}
use Rattle.std.proofs.Math.Seq.{take-append-add}
use Rattle.lc_frame.specs.declared.frame.Frame.{Frame}
use Rattle.lc_book.specs.declared.fault.Violation.{Violation}
use Rattle.lc_peer.specs.Peer.{PeerState}
use Rattle.lc_peer.specs.Arrivals.{violation_at, arrive, arrive_unless, arrivals}
use Rattle.lc_peer.specs.Sinks.{Arrives, Violates, AllArrive, IsNext, ArriveUpTo}

-- some frames, and then others
pub all_then : {T : Type 0} (arrives : T → Frame → T → Type 0) (p q r : T) (fs gs : List Frame) → AllArrive arrives p fs q → AllArrive arrives q gs r → AllArrive arrives p (fs ++ gs) r
all_then {T} arrives p q r [] gs first later = subst (λ (x : T). AllArrive arrives x gs r) first later
all_then {T} arrives p q r (f ∷ fs) gs first later = (first.0, first.1, all_then arrives first.0 q r fs gs first.2 later)

-- one frame more
pub all_push : {T : Type 0} (arrives : T → Frame → T → Type 0) (p q r : T) (fs : List Frame) (f : Frame) → AllArrive arrives p fs q → arrives q f r → AllArrive arrives p (fs ++ f ∷ []) r
all_push arrives p q r fs f first one = all_then arrives p q r fs (f ∷ []) first (r, one, refl)

-- all frames of a list arrived
pub up_to_all : {T : Type 0} (arrives : T → Frame → T → Type 0) (violates : Violation → T → Frame → T → Type 0) (p q : T) (fs : List Frame) (n : ℕ) → n ≡ length fs → AllArrive arrives p fs q → ArriveUpTo arrives violates p fs n None q
up_to_all arrives violates p q fs n e all = record {
  at = q;
  arrived = subst (λ (xs : List Frame). AllArrive arrives p xs q) (sym (take_all n fs (omega (arith, e)))) all;
  next = (e, refl);
}

pub all_up_to : {T : Type 0} (arrives : T → Frame → T → Type 0) (violates : Violation → T → Frame → T → Type 0) (p q : T) (fs : List Frame) (n : ℕ) → ArriveUpTo arrives violates p fs n None q → AllArrive arrives p fs q
all_up_to {T} arrives violates p q fs n h =
    let whole : AllArrive arrives p fs h.at = subst (λ (xs : List Frame). AllArrive arrives p xs h.at) (take_all n fs (omega (arith, h.next.0))) h.arrived in
    subst (λ (x : T). AllArrive arrives p fs x) (sym h.next.1) whole

pub get_behind : (fs : List Frame) (gs : List Frame) (n : ℕ) → slice_get (fs ++ gs) (length fs + n) ≡ slice_get gs n
get_behind [] gs n = let e : 0 + n ≡ n = omega arith in ap (slice_get gs) e
get_behind (f ∷ fs) gs n = let e : length (f ∷ fs) + n ≡ suc (length fs + n) = omega arith in ap (slice_get (f ∷ (fs ++ gs))) e ∙ get_behind fs gs n

next_behind : {T : Type 0} (violates : Violation → T → Frame → T → Type 0) (v : Option Violation) (p : T) (fs gs : List Frame) (n : ℕ) (q : T) → IsNext violates v p gs n q → IsNext violates v p (fs ++ gs) (length fs + n) q
next_behind violates None p fs gs n q h = (omega (arith, h.0, length-append fs gs), h.1)
next_behind violates (Some v) p fs gs n q h = (h.0, get_behind fs gs n ∙ h.1, h.2)

-- frames that all arrived, and then others up to the first that violates
pub up_to_then : {T : Type 0} (arrives : T → Frame → T → Type 0) (violates : Violation → T → Frame → T → Type 0) (p q r : T) (fs gs : List Frame) (n : ℕ) (v : Option Violation) → AllArrive arrives p fs q → ArriveUpTo arrives violates q gs n v r → ArriveUpTo arrives violates p (fs ++ gs) (length fs + n) v r
up_to_then arrives violates p q r fs gs n v all later = record {
  at = later.at;
  arrived = subst (λ (xs : List Frame). AllArrive arrives p xs later.at) (sym (take-append-add fs gs n)) (all_then arrives p q later.at fs (take n gs) all later.arrived);
  next = next_behind violates v later.at fs gs n r later.next;
}

-- a frame that violates, after frames that all arrived
pub up_to_violated : {T : Type 0} (arrives : T → Frame → T → Type 0) (violates : Violation → T → Frame → T → Type 0) (p q r : T) (fs : List Frame) (f : Frame) (gs : List Frame) (n : ℕ) (v : Violation) → n ≡ length fs → AllArrive arrives p fs q → violates v q f r → ArriveUpTo arrives violates p (fs ++ f ∷ gs) n (Some v) r
up_to_violated {T} arrives violates p q r fs f gs n v e all one =
    let here : ArriveUpTo arrives violates q (f ∷ gs) 0 (Some v) r = record { at = q; arrived = refl; next = (f, refl, one) } in
    let count : length fs + 0 ≡ n = omega (arith, e) in
    subst (λ (k : ℕ). ArriveUpTo arrives violates p (fs ++ f ∷ gs) k (Some v) r) count (up_to_then arrives violates p q r fs (f ∷ gs) 0 (Some v) all here)

-- a lawful frame before others at a peer
after_one : (p q : PeerState) (f : Frame) (fs : List Frame) (n : ℕ) (r : PeerState) (v : Option Violation) → Arrives p f q → arrivals q fs ≡ record { count = n; peer = r; violation = v } → arrivals p (f ∷ fs) ≡ record { count = suc n; peer = r; violation = v }
after_one p q f fs n r v one later =
    let next : n + 1 ≡ suc n = omega arith in
    ap (λ (o : Option Violation). arrive_unless p o (arrivals (arrive p f) fs)) one.0
    ∙ ap (λ (x : PeerState). arrive_unless p None (arrivals x fs)) (sym one.1)
    ∙ ap (arrive_unless p None) later
    ∙ ap (λ (k : ℕ). record { count = k; peer = r; violation = v }) next

all_came : (p q : PeerState) (fs : List Frame) → AllArrive Arrives p fs q → arrivals p fs ≡ record { count = length fs; peer = q; violation = None }
all_came p q [] e = ap (λ (x : PeerState). record { count = 0; peer = x; violation = None }) (sym e)
all_came p q (f ∷ fs) h = after_one p h.0 f fs (length fs) q None h.1 (all_came h.0 q fs h.2)

came_to : (p at q : PeerState) (fs : List Frame) (n : ℕ) (f : Frame) (v : Violation) → AllArrive Arrives p (take n fs) at → slice_get fs n ≡ Some f → Violates v at f q → arrivals p fs ≡ record { count = n; peer = q; violation = Some v }
came_to p at q [] n f v all there one = absurd (cc)
came_to p at q (g ∷ fs) zero f v all there one =
    let same : g ≡ f = cc in
    let here : violation_at p g ≡ Some v = ap (λ (x : PeerState). violation_at x g) (sym all) ∙ ap (violation_at at) same ∙ one.0 in
    ap (λ (o : Option Violation). arrive_unless p o (arrivals (arrive p g) fs)) here
    ∙ ap (λ (x : PeerState). record { count = 0; peer = x; violation = Some v }) (sym (one.1 ∙ all))
came_to p at q (g ∷ fs) (suc n) f v all there one = after_one p all.0 g fs n q (Some v) all.1 (came_to all.0 at q fs n f v all.2 there one)

-- what comes of frames that arrive at a peer up to the first that violates
pub came : (p q : PeerState) (fs : List Frame) (n : ℕ) (v : Option Violation) → ArriveUpTo Arrives Violates p fs n v q → arrivals p fs ≡ record { count = n; peer = q; violation = v }
came p q fs n None h = all_came p q fs (all_up_to Arrives Violates p q fs n h) ∙ ap (λ (k : ℕ). record { count = k; peer = q; violation = None }) (sym h.next.0)
came p q fs n (Some v) h = came_to p h.at q fs n h.next.0 v h.arrived h.next.1 h.next.2
