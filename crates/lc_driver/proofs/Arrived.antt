-- What came of the bytes that were read, one read and another.
use Rattle.std.proofs.Common.{◌≡◌, ℕ, ◌+◌, ◌*◌, ◌<◌, ◌≤◌, List, [], ◌∷◌, ◌++◌, length, take, Option, Some, None, refl, sym, ap, subst, ◌∙◌, append_assoc, arith, length-append}
use Rattle.std.specs.Prelude.{All, IfSome}
use Rattle.std.proofs.lemmas.List.{append-nil, length-take-le}
use Rattle.std.proofs.lemmas.List.Elements.{All-append, All-take}
use Rattle.std.specs.Io.KnownBytes.{Consumes, Keeps}
use Rattle.lc_frame.specs.declared.frame.Frame.{Frame}
use Rattle.lc_frame.specs.Stored.{Stored, fed, before, HasFault, IsUndecided, IsSettled}
use Rattle.lc_frame.specs.StreamDecoder.{IsPart}
use Rattle.lc_frame.specs.Splits.{frames_of, rest_of}
use Rattle.lc_frame.proofs.Bytes.{IsBytes}
use Rattle.lc_frame.proofs.Fronts.{bytes_from}
use Rattle.lc_frame.proofs.SplitLaws.{split_law}
use Rattle.lc_frame.proofs.Stored.{fed_fed, fed_nothing, fed_fits, each_fed, before_fed}
use Rattle.lc_frame.proofs.Frames.{computed_split, joined_law}
use Rattle.lc_book.specs.declared.fault.Violation.{Violation}
use Rattle.lc_peer.specs.declared.delivery.Delivery.{Delivery}
use Rattle.lc_peer.specs.declared.delivery.Stop.{Stop}
use Rattle.lc_peer.specs.declared.delivery.Stop.TheVariants as stops
use Rattle.lc_peer.specs.Peer.{PeerState}
use Rattle.lc_peer.specs.Arrivals.{Arrival, arrive, arrive_unless, arrivals, violation_at}
use Rattle.lc_peer.specs.Sinks.{Arrives, Violates, AllArrive, ArriveUpTo}
use Rattle.lc_peer.specs.Deliveries.{violation_of, LeavesRest, Leaves, DeliversTo}
use Rattle.lc_peer.proofs.Sinks.{up_to_all, all_up_to, up_to_then, came}
use Rattle.lc_driver.specs.declared.reading.ReadEnd.{ReadEnd}
use Rattle.lc_driver.specs.declared.reading.ReadEnd.TheVariants.{Clean, Truncated, Fault, Violated, ReadFailed, TurnsSpent}
use Rattle.lc_peer.specs.Intake.{IntakeState}
use Rattle.lc_driver.specs.Reading.{EndsHere}
use Rattle.lc_driver.specs.Reading.{Reads, GoesOn, EndsBy, HoldsRest, EndsAt, ReadsInto, end_of, stop_of}

consumes_then : (a b c : Option (List ℕ)) (x y : List ℕ) → Consumes a b x → Consumes b c y → Consumes a c (x ++ y)
consumes_then None b c x y p q = tt
consumes_then (Some a) None c x y p q = absurd p
consumes_then (Some a) (Some b) None x y p q = absurd q
consumes_then (Some a) (Some b) (Some c) x y p q = p ∙ ap (λ (z : List ℕ). x ++ z) q ∙ sym (append_assoc x y c)

pub consumes_nothing : (a : Option (List ℕ)) → Consumes a a []
consumes_nothing None = tt
consumes_nothing (Some a) = refl

consumes_kept : (a b : Option (List ℕ)) → Keeps a b → Consumes a b []
consumes_kept None b k = tt
consumes_kept (Some a) None k = absurd k
consumes_kept (Some a) (Some b) k = sym k

-- what was read so far, all of which arrived or is held
pub record SoFar {T : Type 0} (arrives : T → Frame → T → Type 0) (before after : Option (List ℕ)) (held : Stored) (old : T) (intake : IntakeState) (new : T) (turns : ℕ) : Type 0 where
  pub read : List ℕ
  pub consumed : Consumes before after read
  pub few : length read ≤ 4096 * turns
  pub some : turns ≤ length read
  pub bytes : All (λ b. b < 256) (held.bytes ++ read)
  pub arrived : AllArrive arrives old (frames_of (fed held read)) new
  pub rest : intake.held ≡ rest_of (fed held read)
  pub undecided : IsUndecided intake.held
  pub going : intake.stop ≡ None

-- where nothing stands at the front there is no frame, and all is the rest
open_split : (h : Stored) → All (λ b. b < 256) h.bytes → IsUndecided h → (frames_of h ≡ []) × (rest_of h ≡ h)
open_split h fits o =
    let split = split_law h.version (frames_of h) [] h.bytes (rest_of h).bytes h.bytes (computed_split h (bytes_from h.bytes fits)) (record { whole = refl; each = tt; partial = o.no_frame }) in
    (split.0, ap (λ (bytes : List ℕ). record { version = h.version; bytes = bytes }) split.1)

pub nothing_read : {T : Type 0} (arrives : T → Frame → T → Type 0) (a : Option (List ℕ)) (i : IntakeState) (p : T) → All (λ b. b < 256) i.held.bytes → IsSettled i.held → IsUndecided i.held → i.stop ≡ None → SoFar arrives a a i.held p i p 0
nothing_read arrives a i p fits settled o going =
    let same = fed_nothing i.held settled in
    let split = open_split i.held fits o in
    let none : frames_of (fed i.held []) ≡ [] = ap frames_of same ∙ split.0 in
    record {
      read = [];
      consumed = consumes_nothing a;
      few = omega arith;
      some = omega arith;
      bytes = subst (λ (bytes : List ℕ). All (λ b. b < 256) bytes) (sym (append-nil i.held.bytes)) fits;
      arrived = subst (λ (fs : List Frame). AllArrive arrives p fs p) (sym none) refl;
      rest = sym (ap rest_of same ∙ split.1);
      undecided = o;
      going = going;
    }

-- what comes of more bytes after those of a list of frames and a rest
further_frames : (h rest : Stored) (y : List ℕ) → IsBytes h.bytes → rest ≡ rest_of h → (frames_of (fed h y) ≡ frames_of h ++ frames_of (fed rest y)) × (rest_of (fed h y) ≡ rest_of (fed rest y))
further_frames h rest y fits e =
    let split = computed_split h fits in
    let left = rest_of h in
    let whole : h ≡ before (frames_of h) left = ap (λ (bytes : List ℕ). record { version = h.version; bytes = bytes }) split.whole in
    let parts : fed h y ≡ before (frames_of h) (fed left y) = ap (λ (x : Stored). fed x y) whole ∙ before_fed (frames_of h) left y split.each in
    let law = joined_law (frames_of h) (fed left y) (each_fed (frames_of h) left y split.each) in
    (ap frames_of parts ∙ law.0 ∙ ap (λ (x : Stored). frames_of h ++ frames_of (fed x y)) (sym e), ap rest_of parts ∙ law.1 ∙ ap (λ (x : Stored). rest_of (fed x y)) (sym e))

-- what comes of all, where more bytes come after those read so far
pub record Further {T : Type 0} (arrives : T → Frame → T → Type 0) (violates : Violation → T → Frame → T → Type 0) (old new : T) (whole more : Stored) : Type 0 where
  pub count : ℕ
  pub came : (q : T) (n : ℕ) (v : Option Violation) → ArriveUpTo arrives violates new (frames_of more) n v q → ArriveUpTo arrives violates old (frames_of whole) (count + n) v q
  pub left : rest_of whole ≡ rest_of more

pub further : {T : Type 0} (arrives : T → Frame → T → Type 0) (violates : Violation → T → Frame → T → Type 0) {a b : Option (List ℕ)} {held : Stored} {old new : T} {i : IntakeState} {turns : ℕ} (s : SoFar arrives a b held old i new turns) (y : List ℕ) → Further arrives violates old new (fed held (s.read ++ y)) (fed i.held y)
further {T} arrives violates {held = held} {old = old} {new = new} {i = i} s y =
    let text = fed held s.read in
    let joined : fed held (s.read ++ y) ≡ fed text y = sym (fed_fed held s.read y) in
    let more = further_frames text i.held y (fed_fits held s.read (bytes_from (held.bytes ++ s.read) s.bytes)) s.rest in
    let all : frames_of (fed held (s.read ++ y)) ≡ frames_of text ++ frames_of (fed i.held y) = ap frames_of joined ∙ more.0 in
    record {
      count = length (frames_of text);
      came = λ q n v later. subst (λ (fs : List Frame). ArriveUpTo arrives violates old fs (length (frames_of text) + n) v q) (sym all) (up_to_then arrives violates old new q (frames_of text) (frames_of (fed i.held y)) n v s.arrived later);
      left = ap rest_of joined ∙ more.1;
    }

more_bytes : (held read y : List ℕ) → All (λ b. b < 256) (held ++ read) → All (λ b. b < 256) y → All (λ b. b < 256) (held ++ (read ++ y))
more_bytes held read y fits more = subst (λ (xs : List ℕ). All (λ b. b < 256) xs) (append_assoc held read y) (All-append (λ (b : ℕ). b < 256) (held ++ read) y fits more)

-- one read more, all of which was taken
pub reads_on : {T : Type 0} (arrives : T → Frame → T → Type 0) (violates : Violation → T → Frame → T → Type 0) {a b c : Option (List ℕ)} {held : Stored} {old p q : T} {i : IntakeState} {turns : ℕ} (j : IntakeState) (y piece : List ℕ) (d : Delivery) → SoFar arrives a b held old i p turns → Consumes b c y → piece ≡ y → 0 < length y → length y ≤ 4096 → All (λ b. b < 256) piece → DeliversTo arrives violates p i.held piece q j.held d → d.stop ≡ None → j.stop ≡ d.stop → SoFar arrives a c held old j q (turns + 1)
reads_on {T} arrives violates {a} {b} {c} {held} {old} {p} {q} {i} {turns} j y piece d s consumed same more less fits delivers none stop =
    let came = subst (λ (o : Option Stop). ArriveUpTo arrives violates p (frames_of (fed i.held piece)) d.frames (violation_of o) q) none delivers.came in
    let leaves : LeavesRest (fed i.held piece) piece j.held d.taken = subst (λ (o : Option Stop). Leaves o (fed i.held piece) piece j.held d.taken d.frames) none delivers.leaves in
    let f = further arrives violates s y in
    let here = subst (λ (xs : List ℕ). ArriveUpTo arrives violates p (frames_of (fed i.held xs)) d.frames None q) same came in
    record {
      read = s.read ++ y;
      consumed = consumes_then a b c s.read y s.consumed consumed;
      few = omega (arith, s.few, less, length-append s.read y);
      some = omega (arith, s.some, more, length-append s.read y);
      bytes = more_bytes held.bytes s.read y s.bytes (subst (λ (xs : List ℕ). All (λ b. b < 256) xs) same fits);
      arrived = all_up_to arrives violates old q (frames_of (fed held (s.read ++ y))) (f.count + d.frames) (f.came q d.frames None here);
      rest = leaves.rest ∙ ap (λ (xs : List ℕ). rest_of (fed i.held xs)) same ∙ sym f.left;
      undecided = leaves.undecided;
      going = stop ∙ none;
    }

-- one read more, whose bytes are the first of memory that was filled, and by which no frame became whole. It counts where it gave any
pub reads_filled : {T : Type 0} (arrives : T → Frame → T → Type 0) (violates : Violation → T → Frame → T → Type 0) {a b c : Option (List ℕ)} {held : Stored} {old p : T} {i : IntakeState} {turns : ℕ} (k : ℕ) (j : IntakeState) (n : ℕ) (memory : List ℕ) → SoFar arrives a b held old i p turns → Consumes b c (take n memory) → k ≤ n → n ≤ 4096 * k → n ≤ length memory → All (λ b. b < 256) memory → All (λ b. b < 256) j.held.bytes → j.held ≡ fed i.held (take n memory) → IsUndecided j.held → j.stop ≡ i.stop → SoFar arrives a c held old j p (turns + k)
reads_filled {T} arrives violates {a} {b} {c} {held} {old} {p} {i} {turns} k j n memory s consumed more less within fits held_fits grown undecided stop =
    let y = take n memory in
    let len = length-take-le n memory within in
    let split = open_split j.held held_fits undecided in
    let none : frames_of (fed i.held y) ≡ [] = ap frames_of (sym grown) ∙ split.0 in
    let f = further arrives violates s y in
    let here : ArriveUpTo arrives violates p (frames_of (fed i.held y)) 0 None p = subst (λ (fs : List Frame). ArriveUpTo arrives violates p fs 0 None p) (sym none) (up_to_all arrives violates p p [] 0 refl refl) in
    record {
      read = s.read ++ y;
      consumed = consumes_then a b c s.read y s.consumed consumed;
      few = omega (arith, s.few, less, len, length-append s.read y);
      some = omega (arith, s.some, more, len, length-append s.read y);
      bytes = more_bytes held.bytes s.read y s.bytes (All-take (λ (b : ℕ). b < 256) n memory fits);
      arrived = all_up_to arrives violates old p (frames_of (fed held (s.read ++ y))) (f.count + 0) (f.came p 0 None here);
      rest = sym split.1 ∙ ap rest_of grown ∙ sym f.left;
      undecided = undecided;
      going = stop ∙ s.going;
    }

-- what nothing changed
pub same_so_far : {T : Type 0} (arrives : T → Frame → T → Type 0) {a b : Option (List ℕ)} {held : Stored} {old p : T} {i : IntakeState} {turns : ℕ} (c : Option (List ℕ)) (j : IntakeState) → SoFar arrives a b held old i p turns → c ≡ b → j.held ≡ i.held → j.stop ≡ i.stop → SoFar arrives a c held old j p turns
same_so_far arrives {a = a} c j s still held stop = record {
  read = s.read;
  consumed = subst (λ (o : Option (List ℕ)). Consumes a o s.read) (sym still) s.consumed;
  few = s.few;
  some = s.some;
  bytes = s.bytes;
  arrived = s.arrived;
  rest = held ∙ s.rest;
  undecided = subst IsUndecided (sym held) s.undecided;
  going = stop ∙ s.going;
}

stop_of_end : (stop : Stop) → Some stop ≡ stop_of (end_of stop)
stop_of_end (stops.Fault fault) = refl
stop_of_end (stops.Violated violation) = refl

ends_stopped : (stop : Stop) (text : Stored) (piece : List ℕ) (rest held : Stored) (taken frames read max_reads : ℕ) → rest ≡ rest_of text → Leaves (Some stop) text piece held taken frames → EndsAt (end_of stop) rest held read max_reads
ends_stopped (stops.Fault fault) text piece rest held taken frames read max_reads e h = subst (λ (x : Stored). HasFault fault x) (sym e) h.stands
ends_stopped (stops.Violated violation) text piece rest held taken frames read max_reads e h = tt

-- one read more, in which the stream was given up
pub reads_stop : {T : Type 0} (arrives : T → Frame → T → Type 0) (violates : Violation → T → Frame → T → Type 0) {a b c : Option (List ℕ)} {held : Stored} {old p q : T} {i : IntakeState} {turns : ℕ} (max_reads : ℕ) (j : IntakeState) (y piece : List ℕ) (d : Delivery) (stop : Stop) → SoFar arrives a b held old i p turns → turns < max_reads → Consumes b c y → piece ≡ y → length y ≤ 4096 → All (λ b. b < 256) piece → DeliversTo arrives violates p i.held piece q j.held d → d.stop ≡ Some stop → j.stop ≡ d.stop → ReadsInto arrives violates a c held old j q max_reads (end_of stop)
reads_stop {T} arrives violates {a} {b} {c} {held} {old} {p} {q} {i} {turns} max_reads j y piece d stop s left consumed same less fits delivers is kept =
    let stopped = subst (λ (o : Option Stop). ArriveUpTo arrives violates p (frames_of (fed i.held piece)) d.frames (violation_of o) q) (is ∙ stop_of_end stop) delivers.came in
    let here = subst (λ (xs : List ℕ). ArriveUpTo arrives violates p (frames_of (fed i.held xs)) d.frames (violation_of (stop_of (end_of stop))) q) same stopped in
    let leaves = subst (λ (o : Option Stop). Leaves o (fed i.held piece) piece j.held d.taken d.frames) is delivers.leaves in
    let f = further arrives violates s y in
    record {
      read = s.read ++ y;
      consumed = consumes_then a b c s.read y s.consumed consumed;
      few = omega (arith, s.few, less, left, length-append s.read y);
      bytes = more_bytes held.bytes s.read y s.bytes (subst (λ (xs : List ℕ). All (λ b. b < 256) xs) same fits);
      frames = f.count + d.frames;
      came = f.came q d.frames (violation_of (stop_of (end_of stop))) here;
      ends = ends_stopped stop (fed i.held piece) piece _ j.held d.taken d.frames _ max_reads (f.left ∙ ap (λ (xs : List ℕ). rest_of (fed i.held xs)) (sym same)) leaves;
      kept = kept ∙ is ∙ stop_of_end stop;
    }

ends_here : (end : ReadEnd) (rest held : Stored) (read max_reads : ℕ) → HoldsRest rest held → EndsHere end held → EndsAt end rest held read max_reads
ends_here Clean rest held read max_reads h e = (h, ap (λ (x : Stored). x.bytes) (sym h.all) ∙ e)
ends_here Truncated rest held read max_reads h e = (h, subst IsPart h.all e)
ends_here (Fault fault) rest held read max_reads h e = absurd e
ends_here (Violated violation) rest held read max_reads h e = absurd e
ends_here ReadFailed rest held read max_reads h e = absurd e
ends_here TurnsSpent rest held read max_reads h e = absurd e

none_kept : (end : ReadEnd) (held : Stored) → EndsHere end held → None ≡ stop_of end
none_kept Clean held e = refl
none_kept Truncated held e = refl
none_kept (Fault fault) held e = absurd e
none_kept (Violated violation) held e = absurd e
none_kept ReadFailed held e = absurd e
none_kept TurnsSpent held e = absurd e

-- all that was read so far, and no stop
reads_so_far : {T : Type 0} (arrives : T → Frame → T → Type 0) (violates : Violation → T → Frame → T → Type 0) {a b c : Option (List ℕ)} {held : Stored} {old new : T} {i : IntakeState} {turns : ℕ} (max_reads : ℕ) (end : ReadEnd) (s : SoFar arrives a b held old i new turns) → turns ≤ max_reads → Consumes b c [] → None ≡ stop_of end → EndsAt end (rest_of (fed held s.read)) i.held (length s.read) max_reads → ReadsInto arrives violates a c held old i new max_reads end
reads_so_far {T} arrives violates {a} {b} {c} {held} {old} {new} {i} max_reads end s left consumed going ends = record {
  read = s.read;
  consumed = subst (λ (xs : List ℕ). Consumes a c xs) (append-nil s.read) (consumes_then a b c s.read [] s.consumed consumed);
  few = omega (arith, s.few, left);
  bytes = s.bytes;
  frames = length (frames_of (fed held s.read));
  came = subst (λ (o : Option Stop). ArriveUpTo arrives violates old (frames_of (fed held s.read)) (length (frames_of (fed held s.read))) (violation_of o) new) going (up_to_all arrives violates old new (frames_of (fed held s.read)) _ refl s.arrived);
  ends = ends;
  kept = s.going ∙ going;
}

holds_rest : {T : Type 0} (arrives : T → Frame → T → Type 0) {a b : Option (List ℕ)} {held : Stored} {old new : T} {i : IntakeState} {turns : ℕ} (s : SoFar arrives a b held old i new turns) → HoldsRest (rest_of (fed held s.read)) i.held
holds_rest arrives s = record { all = s.rest; undecided = s.undecided }

-- a read that gave nothing: the input ended
pub reads_end : {T : Type 0} (arrives : T → Frame → T → Type 0) (violates : Violation → T → Frame → T → Type 0) {a b c : Option (List ℕ)} {held : Stored} {old new : T} {i : IntakeState} {turns : ℕ} (max_reads : ℕ) (end : ReadEnd) → SoFar arrives a b held old i new turns → turns < max_reads → Consumes b c [] → EndsHere end i.held → ReadsInto arrives violates a c held old i new max_reads end
reads_end arrives violates {i = i} max_reads end s left consumed e = reads_so_far arrives violates max_reads end s (omega (arith, left)) consumed (none_kept end i.held e) (ends_here end _ _ _ max_reads (holds_rest arrives s) e)

-- a read that failed
pub reads_failed : {T : Type 0} (arrives : T → Frame → T → Type 0) (violates : Violation → T → Frame → T → Type 0) {a b c : Option (List ℕ)} {held : Stored} {old new : T} {i : IntakeState} {turns : ℕ} (max_reads : ℕ) → SoFar arrives a b held old i new turns → turns < max_reads → Keeps b c → ReadsInto arrives violates a c held old i new max_reads ReadFailed
reads_failed arrives violates {b = b} {c = c} max_reads s left keeps = reads_so_far arrives violates max_reads ReadFailed s (omega (arith, left)) (consumes_kept b c keeps) refl (holds_rest arrives s)

-- as many reads as were allowed
pub reads_spent : {T : Type 0} (arrives : T → Frame → T → Type 0) (violates : Violation → T → Frame → T → Type 0) {a b : Option (List ℕ)} {held : Stored} {old new : T} {i : IntakeState} {turns : ℕ} (max_reads : ℕ) → SoFar arrives a b held old i new turns → turns ≡ max_reads → ReadsInto arrives violates a b held old i new max_reads TurnsSpent
reads_spent arrives violates {b = b} max_reads s all = reads_so_far arrives violates max_reads TurnsSpent s (omega (arith, all)) (consumes_nothing b) refl (holds_rest arrives s, omega (arith, s.some, all))

-- what came to a peer
goes_on : (came : Arrival) (rest held : Stored) → came.violation ≡ None → HoldsRest rest held → GoesOn came rest held
goes_on came rest held lawful h = record { lawful = lawful; all = h.all; undecided = h.undecided }

ends_by : (end : ReadEnd) (came : Arrival) (rest held : Stored) (read max_reads : ℕ) → came.violation ≡ violation_of (stop_of end) → EndsAt end rest held read max_reads → EndsBy end came rest held read max_reads
ends_by Clean came rest held read max_reads v e = (goes_on came rest held v e.0, e.1)
ends_by Truncated came rest held read max_reads v e = (goes_on came rest held v e.0, e.1)
ends_by (Fault fault) came rest held read max_reads v e = (v, e)
ends_by (Violated violation) came rest held read max_reads v e = v
ends_by ReadFailed came rest held read max_reads v e = goes_on came rest held v e
ends_by TurnsSpent came rest held read max_reads v e = (goes_on came rest held v e.0, e.1)

pub reads : (a b : Option (List ℕ)) (held : Stored) (p q : PeerState) (i : IntakeState) (max_reads : ℕ) (end : ReadEnd) → ReadsInto Arrives Violates a b held p i q max_reads end → Reads a b held p i q max_reads end
reads a b held p q i max_reads end h =
    let e = came p q (frames_of (fed held h.read)) h.frames (violation_of (stop_of end)) h.came in
    record {
      read = h.read;
      consumed = h.consumed;
      few = h.few;
      bytes = h.bytes;
      peer = sym (ap (λ (r : Arrival). r.peer) e);
      ends = ends_by end (arrivals p (frames_of (fed held h.read))) (rest_of (fed held h.read)) i.held (length h.read) max_reads (ap (λ (r : Arrival). r.violation) e) h.ends;
      kept = h.kept;
    }

unless_keeps : (p : PeerState) (v : Option Violation) (later : Arrival) → later.peer.version ≡ p.version → (arrive_unless p v later).peer.version ≡ p.version
unless_keeps p None later e = e
unless_keeps p (Some v) later e = refl

-- no frame that arrives changes the version that a peer writes
arrivals_keep : (p : PeerState) (frames : List Frame) → (arrivals p frames).peer.version ≡ p.version
arrivals_keep p [] = refl
arrivals_keep p (f ∷ frames) = unless_keeps p (violation_at p f) (arrivals (arrive p f) frames) (arrivals_keep (arrive p f) frames)

-- nor does a call, whether the stream was given up before it or not
module _ (before after : Option (List ℕ)) (held : Stored) (old : PeerState) (intake : IntakeState) (new : PeerState) (max_reads : ℕ) (end : ReadEnd) where
  pub version_kept : (stop : Option Stop) (GivenUp : Stop → Type 0) → IfSome stop GivenUp → ((s : Stop) → GivenUp s → new ≡ old) → (stop ≡ None → Reads before after held old intake new max_reads end) → new.version ≡ old.version
  version_kept None P given same reads = ap (λ (p : PeerState). p.version) (reads refl).peer ∙ arrivals_keep old (frames_of (fed held (reads refl).read))
  version_kept (Some s) P given same reads = ap (λ (p : PeerState). p.version) (same s given)
