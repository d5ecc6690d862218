-- A delivery, step by step.
use Rattle.std.proofs.Common.{◌≡◌, ℕ, ◌+◌, ◌-◌, ◌<◌, ◌≤◌, List, [], ◌∷◌, ◌++◌, length, take, drop, Option, Some, None, zero, suc, refl, sym, ap, subst, ◌∙◌, arith}
use Rattle.std.specs.Prelude.{All, slice_get}
use Rattle.std.specs.Option.{option_map}
use Rattle.std.specs.List.{flat_map, AllByRecursion}
use Rattle.std.proofs.lemmas.List.{append-nil, length-append, length-drop, length-take-le, take_all, drop_all, take-append-drop, get_or_default}
use Rattle.std.proofs.lemmas.List.Concat.{flat_map-cons}
use Rattle.std.proofs.lemmas.List.Elements.{All-append}
use Rattle.std.proofs.Math.Seq.{take-add, take-append_seam}
use Rattle.lc_frame.specs.declared.frame.Frame.{Frame}
use Rattle.lc_frame.specs.declared.frame_fault.FrameFault.{FrameFault}
use Rattle.lc_frame.specs.declared.version.Version.{Version}
use Rattle.lc_frame.specs.Encoding.{encoding, FrameStands}
use Rattle.lc_frame.specs.Stored.{Stored, stored_in, fed, before, front, IsValidIn, encoding_in, HasFrame, HasFault, IsUndecided, IsSettled}
use Rattle.lc_frame.specs.Splits.{frames_of, rest_of}
use Rattle.lc_frame.proofs.Bytes.{IsBytes}
use Rattle.lc_frame.proofs.Fronts.{bytes_from}
use Rattle.lc_frame.proofs.Stored.{fed_fed, fed_nothing, fed_settled, fed_short, fed_fits, each_fed, nothing_in, before_fed, before_append, has_fault_goes_on, has_never_both}
use Rattle.lc_frame.proofs.SplitLaws.{split_law}
use Rattle.lc_frame.proofs.Frames.{computed_split, joined_law}
use Rattle.lc_book.specs.declared.fault.Violation.{Violation}
use Rattle.lc_peer.specs.Peer.{PeerState}
use Rattle.lc_peer.specs.Arrivals.{Arrival}
use Rattle.lc_peer.specs.Sinks.{Arrives, Violates, AllArrive, ArriveUpTo}
use Rattle.lc_peer.specs.declared.delivery.Delivery.{Delivery}
use Rattle.lc_peer.specs.declared.delivery.Step.TheVariants.{Stopped}
use Rattle.lc_peer.specs.declared.delivery.Stop.{Stop}
use Rattle.lc_peer.specs.declared.delivery.Stop.TheVariants.{Fault, Violated}
use Rattle.lc_peer.specs.Steps.{Steps, FrameArrives, StaysOpen, FrameViolates, FaultComes, SoFar}
use Rattle.lc_peer.specs.Rings.{Leads}
use Rattle.lc_peer.specs.Deliveries.{StopsBy, Delivers, violation_of, Leaves, DeliversTo}
use Rattle.lc_peer.proofs.Sinks.{all_push, up_to_all, get_behind, up_to_violated, came}

-- what a frame's bytes begin with is taken from the front of a piece
pub front_of : (v : Version) (piece : List ℕ) (f : Frame) (used : ℕ) → FrameStands v f piece → used ≡ length (encoding v f) → take used piece ≡ encoding v f
front_of v piece f used s e = ap (λ (n : ℕ). take n piece) e ∙ (ap (take (length (encoding v f))) s.is ∙ take-append_seam (encoding v f) s.rest)

pub front_fits : (v : Version) (piece : List ℕ) (f : Frame) (used : ℕ) → FrameStands v f piece → used ≡ length (encoding v f) → used ≤ length piece
front_fits v piece f used s e = omega (arith, e, ap length s.is, length-append (encoding v f) s.rest)

one_in : (version : Option Version) (f : Frame) → flat_map (encoding_in version) (f ∷ []) ≡ encoding_in version f
one_in version f = flat_map-cons (encoding_in version) f [] ∙ append-nil (encoding_in version f)

pub one_whole : (v : Version) (piece : List ℕ) (f : Frame) (used : ℕ) (h : Stored) → h ≡ stored_in v [] → FrameStands v f piece → used ≡ length (encoding v f) → fed h (take used piece) ≡ before (f ∷ []) h
one_whole v piece f used h e s len =
    let here : stored_in v (take used piece) ≡ before (f ∷ []) (stored_in v []) =
    ap (λ (x : List ℕ). stored_in v x) (front_of v piece f used s len ∙ sym (one_in (Some v) f) ∙ sym (append-nil (flat_map (encoding v) (f ∷ [])))) in
    subst (λ (x : Stored). fed x (take used piece) ≡ before (f ∷ []) x) (sym e) here

-- a frame that is all that is held
pub one_held : (f : Frame) (h h' : Stored) → h.bytes ≡ encoding_in h.version f → h' ≡ record { version = h.version; bytes = [] } → h ≡ before (f ∷ []) h'
one_held f h h' whole cleared =
    let bytes : h.bytes ≡ flat_map (encoding_in h.version) (f ∷ []) ++ [] = whole ∙ sym (one_in h.version f) ∙ sym (append-nil (flat_map (encoding_in h.version) (f ∷ []))) in
    ap (λ (x : List ℕ). record { version = h.version; bytes = x }) bytes ∙ ap (before (f ∷ [])) (sym cleared)

-- where it begins, with bytes that led up to a frame
pub begins_so : {T : Type 0} (arrives : T → Frame → T → Type 0) (p : T) (held : Stored) (piece : List ℕ) (held' : Stored) (taken : ℕ) → Leads held held' piece taken → SoFar arrives p held piece p held' taken 0
begins_so arrives p held piece held' taken led = record {
  fs = [];
  each = tt;
  arrived = refl;
  count = refl;
  bytes = sym led.grown;
  within = led.within;
  few = omega arith;
  settled = subst IsSettled (sym led.grown) (fed_settled held (take taken piece));
  emptied = λ some. absurd (omega (arith, some));
  shortest = led.shortest;
}

pub nothing_led : (held : Stored) (piece : List ℕ) → IsSettled held → Leads held held piece 0
nothing_led held piece settled = record { within = omega arith; grown = sym (fed_nothing held settled); shortest = λ some. absurd (omega (arith, some)) }

valid_push : (version : Option Version) (fs : List Frame) (f : Frame) → AllByRecursion (IsValidIn version) fs → IsValidIn version f → AllByRecursion (IsValidIn version) (fs ++ f ∷ [])
valid_push version [] f h v = (v, tt)
valid_push version (g ∷ fs) f h v = (h.0, valid_push version fs f h.1 v)

-- what is taken, one step further
pub then_taken : (held : Stored) (piece : List ℕ) (held' : Stored) (fs : List Frame) (taken count : ℕ) → AllByRecursion (IsValidIn held'.version) fs → fed held (take taken piece) ≡ before fs held'
    → fed held (take (taken + count) piece) ≡ before fs (fed held' (take count (drop taken piece)))
then_taken held piece held' fs taken count each e =
    ap (fed held) (take-add taken count piece)
    ∙ sym (fed_fed held (take taken piece) (take count (drop taken piece)))
    ∙ ap (λ (h : Stored). fed h (take count (drop taken piece))) e
    ∙ before_fed fs held' (take count (drop taken piece)) each

valid_long : (version : Option Version) (f : Frame) → IsValidIn version f → 0 < length (encoding_in version f)
valid_long None f valid = absurd valid
valid_long (Some v) f valid = omega arith

-- a frame that came took a byte, or was held
pub took_some : {T : Type 0} (arrives : T → Frame → T → Type 0) (p : T) (held : Stored) (piece : List ℕ) (p' : T) (held' : Stored) (count : ℕ) → FrameArrives arrives p held piece p' held' count → 0 < length held.bytes + count
took_some arrives p held piece p' held' count a =
    let size : length (fed held (take count piece)).bytes ≡ length (flat_map (encoding_in held'.version) (a.frame ∷ []) ++ held'.bytes) = ap (λ (h : Stored). length h.bytes) a.whole in
    omega (arith, size, length-append (flat_map (encoding_in held'.version) (a.frame ∷ [])) held'.bytes, ap length (one_in held'.version a.frame), valid_long held'.version a.frame a.valid, fed_short held (take count piece), length-take-le count piece a.within)

settled_in : (version : Option Version) (bytes : List ℕ) (f : Frame) → IsValidIn version f → IsSettled (record { version = version; bytes = bytes })
settled_in None bytes f valid = absurd valid
settled_in (Some v) bytes f valid = refl

pub one_more : {T : Type 0} (arrives : T → Frame → T → Type 0) (p : T) (held : Stored) (piece : List ℕ) (p1 : T) (h1 : Stored) (taken frames : ℕ) (p2 : T) (h2 : Stored) (count : ℕ) → SoFar arrives p held piece p1 h1 taken frames → FrameArrives arrives p1 h1 (drop taken piece) p2 h2 count → count ≤ length piece - taken → SoFar arrives p held piece p2 h2 (taken + count) (frames + 1)
one_more arrives p held piece p1 h1 taken frames p2 h2 count s a fits =
    let version : (fed h1 (take count (drop taken piece))).version ≡ h2.version = ap (λ (h : Stored). h.version) a.whole in
    let each : AllByRecursion (IsValidIn h2.version) s.fs = subst (λ (o : Option Version). AllByRecursion (IsValidIn o) s.fs) version (each_fed s.fs h1 (take count (drop taken piece)) s.each) in
    record {
      fs = s.fs ++ a.frame ∷ [];
      each = valid_push h2.version s.fs a.frame each a.valid;
      arrived = all_push arrives p p1 p2 s.fs a.frame s.arrived a.arrived;
      count = omega (arith, s.count, length-append s.fs (a.frame ∷ []));
      bytes = then_taken held piece h1 s.fs taken count s.each s.bytes ∙ ap (before s.fs) a.whole ∙ sym (before_append s.fs (a.frame ∷ []) h2);
      within = omega (arith, s.within, fits);
      few = few_more frames taken count (length h1.bytes) s.few (λ some. ap length (s.emptied some)) (took_some arrives p1 h1 (drop taken piece) p2 h2 count a);
      settled = settled_in h2.version h2.bytes a.frame a.valid;
      emptied = λ some. a.cleared;
      shortest = λ some k less. absurd (omega (arith, less, ap length a.cleared));
    }
  where
    few_more : (frames taken count held : ℕ) → frames ≤ taken + 1 → (0 < frames → held ≡ 0) → 0 < held + count → frames + 1 ≤ taken + count + 1
    few_more zero taken count held le none some = omega arith
    few_more (suc n) taken count held le none some = let none : held ≡ 0 = none (omega arith) in omega arith

-- where it ends
module _ {T : Type 0} (arrives : T → Frame → T → Type 0) (violates : Violation → T → Frame → T → Type 0) (p : T) (held : Stored) (piece : List ℕ) (p1 : T) (h1 : Stored) (taken frames : ℕ) (s : SoFar arrives p held piece p1 h1 taken frames) where
  -- the text is the frames that arrived, what is held and what is left of the piece
  text : (h2 : Stored) (count : ℕ) → h2 ≡ fed h1 (take count (drop taken piece)) → fed held piece ≡ before s.fs (fed h2 (drop count (drop taken piece)))
  text h2 count e =
      ap (fed held) (sym (take-append-drop taken piece))
      ∙ sym (fed_fed held (take taken piece) (drop taken piece))
      ∙ ap (λ (h : Stored). fed h (drop taken piece)) s.bytes
      ∙ before_fed s.fs h1 (drop taken piece) s.each
      ∙ ap (before s.fs)
      (ap (fed h1) (sym (take-append-drop count (drop taken piece)))
      ∙ sym (fed_fed h1 (take count (drop taken piece)) (drop count (drop taken piece)))
      ∙ ap (λ (h : Stored). fed h (drop count (drop taken piece))) (sym e))

  held_is : (h2 : Stored) (count : ℕ) → h2 ≡ fed h1 (take count (drop taken piece)) → fed held (take (taken + count) piece) ≡ before s.fs h2
  held_is h2 count e = then_taken held piece h1 s.fs taken count s.each s.bytes ∙ ap (before s.fs) (sym e)

  each_later : (more : List ℕ) (h2 : Stored) → h2 ≡ fed h1 more → AllByRecursion (IsValidIn h2.version) s.fs
  each_later more h2 e = subst (λ (h : Stored). AllByRecursion (IsValidIn h.version) s.fs) (sym e) (each_fed s.fs h1 more s.each)

  first_frames : (gs : List Frame) → frames_of (fed held piece) ≡ s.fs ++ gs → take frames (frames_of (fed held piece)) ≡ s.fs
  first_frames gs e = ap (λ (n : ℕ). take n (frames_of (fed held piece))) s.count ∙ (ap (take (length s.fs)) e ∙ take-append_seam s.fs gs)

  -- no frame stands at the front of the rest: all frames arrived
  module _ (p2 : T) (rest : Stored) (fits : IsBytes (fed held piece).bytes) (e : fed held piece ≡ before s.fs rest) (each : AllByRecursion (IsValidIn rest.version) s.fs) (none : (f : Frame) → ¬ HasFrame f rest) (same : p2 ≡ p1) where
    splits : (s.fs ≡ frames_of (fed held piece)) × (rest ≡ rest_of (fed held piece))
    splits = subst (λ (h : Stored). (s.fs ≡ frames_of h) × (rest ≡ rest_of h)) (sym e) at
      where
        both : (s.fs ≡ frames_of (before s.fs rest)) × (rest.bytes ≡ (rest_of (before s.fs rest)).bytes)
        both = split_law rest.version s.fs (frames_of (before s.fs rest)) (before s.fs rest).bytes rest.bytes (rest_of (before s.fs rest)).bytes (record { whole = refl; each = each; partial = none }) (computed_split (before s.fs rest) (subst (λ (h : Stored). IsBytes h.bytes) e fits))

        at : (s.fs ≡ frames_of (before s.fs rest)) × (rest ≡ rest_of (before s.fs rest))
        at = (both.0, ap (λ (x : List ℕ). record { version = rest.version; bytes = x }) both.1)

    rest_is : rest ≡ rest_of (fed held piece)
    rest_is = splits.1

    all_came : ArriveUpTo arrives violates p (frames_of (fed held piece)) frames None p2
    all_came =
        let here : AllArrive arrives p s.fs p2 = subst (λ (x : T). AllArrive arrives p s.fs x) (sym same) s.arrived in
        subst (λ (fs : List Frame). ArriveUpTo arrives violates p fs frames None p2) splits.0 (up_to_all arrives violates p p2 s.fs frames s.count here)

    all_first : take frames (frames_of (fed held piece)) ≡ s.fs
    all_first = first_frames [] (sym splits.0 ∙ sym (append-nil s.fs))

  pub ends_open : (p2 : T) (h2 : Stored) (count : ℕ) → IsBytes (fed held piece).bytes → StaysOpen p1 h1 (drop taken piece) p2 h2 count → DeliversTo arrives violates p held piece p2 h2 (record { taken = taken + count; frames = frames; stop = None })
  ends_open p2 h2 count fits o =
      let left : count + taken ≡ length piece = omega (arith, o.all, length-drop taken piece, s.within) in
      let same : h2 ≡ fed h1 (take count (drop taken piece)) = o.grown ∙ ap (fed h1) (sym (take_all count (drop taken piece) (omega (arith, o.all)))) in
      let nothing : drop count (drop taken piece) ≡ [] = drop_all count (drop taken piece) (omega (arith, o.all)) in
      let settled : IsSettled h2 = subst IsSettled (sym o.grown) (fed_settled h1 (drop taken piece)) in
      let e : fed held piece ≡ before s.fs h2 = text h2 count same ∙ ap (before s.fs) (ap (fed h2) nothing ∙ fed_nothing h2 settled) in
      let each = each_later (drop taken piece) h2 o.grown in
      let none = o.undecided.no_frame in
      record {
        came = all_came p2 h2 fits e each none o.same;
        within = omega (arith, left);
        bytes = held_is h2 count same ∙ ap (λ (fs : List Frame). before fs h2) (sym (all_first p2 h2 fits e each none o.same));
        leaves = record { all = omega (arith, left); rest = rest_is p2 h2 fits e each none o.same; undecided = o.undecided };
      }

  -- the last frame ends with the piece
  pub ends_whole : (f : Frame) → IsValidIn h1.version f → h1.bytes ≡ [] → taken ≡ length piece → IsBytes (fed held piece).bytes → DeliversTo arrives violates p held piece p1 h1 (record { taken = taken; frames = frames; stop = None })
  ends_whole f valid cleared all fits =
      let none : drop taken piece ≡ [] = drop_all taken piece (omega (arith, all)) in
      let still : StaysOpen p1 h1 (drop taken piece) p1 h1 0 = record {
        same = refl;
        all = omega (arith, ap length none);
        grown = sym (ap (fed h1) none ∙ fed_nothing h1 (settled_in h1.version h1.bytes f valid));
        undecided = subst (λ (x : List ℕ). IsUndecided (record { version = h1.version; bytes = x })) (sym cleared) (nothing_in h1.version);
      } in
      subst (λ (n : ℕ). DeliversTo arrives violates p held piece p1 h1 (record { taken = n; frames = frames; stop = None })) (omega arith) (ends_open p1 h1 0 fits still)

  ends_in_fault : (fault : FrameFault) (p2 : T) (h2 : Stored) (count : ℕ) → IsBytes (fed held piece).bytes → FaultComes fault p1 h1 (drop taken piece) p2 h2 count → DeliversTo arrives violates p held piece p2 h2 (record { taken = taken + count; frames = frames; stop = Some (Fault fault) })
  ends_in_fault fault p2 h2 count fits o =
      let still : count ≡ 0 → h2 ≡ h1 = λ none. o.grown ∙ ap (λ (n : ℕ). fed h1 (take n (drop taken piece))) none ∙ fed_nothing h1 s.settled in
      let more = drop count (drop taken piece) in
      let rest = fed h2 more in
      let stands : HasFault fault rest = has_fault_goes_on fault h2 more o.known in
      let none : (f : Frame) → ¬ HasFrame f rest = λ f there. has_never_both f fault rest there stands in
      let e = text h2 count o.grown in
      let each : AllByRecursion (IsValidIn rest.version) s.fs = each_fed s.fs h2 more (each_later (take count (drop taken piece)) h2 o.grown) in
      let left : count ≤ length piece - taken = omega (arith, o.within, length-drop taken piece) in
      let some : 0 < taken + count → (k : ℕ) → k < length h2.bytes → IsUndecided (front k h2) = shortest_of taken count h1 h2 still s.shortest o.shortest in
      record {
        came = all_came p2 rest fits e each none o.same;
        within = omega (arith, left, s.within);
        bytes = held_is h2 count o.grown ∙ ap (λ (fs : List Frame). before fs h2) (sym (all_first p2 rest fits e each none o.same));
        leaves = record { stands = subst (HasFault fault) (rest_is p2 rest fits e each none o.same) stands; known = o.known; shortest = some };
      }
    where
      shortest_of : (taken count : ℕ) (h1 h2 : Stored) → (count ≡ 0 → h2 ≡ h1) → (0 < taken → (k : ℕ) → k < length h1.bytes → IsUndecided (front k h1)) → (0 < count → (k : ℕ) → k < length h2.bytes → IsUndecided (front k h2)) → 0 < taken + count → (k : ℕ) → k < length h2.bytes → IsUndecided (front k h2)
      shortest_of taken zero h1 h2 still before after some = subst (λ (h : Stored). (k : ℕ) → k < length h.bytes → IsUndecided (front k h)) (sym (still refl)) (before (omega (arith, some)))
      shortest_of taken (suc n) h1 h2 still before after some = after (omega arith)

  ends_violated : (v : Violation) (p2 : T) (h2 : Stored) (count : ℕ) → FrameViolates violates v p1 h1 (drop taken piece) p2 h2 count → DeliversTo arrives violates p held piece p2 h2 (record { taken = taken + count; frames = frames; stop = Some (Violated v) })
  ends_violated v p2 h2 count o =
      let more = drop count (drop taken piece) in
      let empty : Stored = record { version = h2.version; bytes = [] } in
      let one : h2 ≡ before (o.frame ∷ []) empty = one_held o.frame h2 empty o.whole refl in
      let valid : AllByRecursion (IsValidIn h2.version) (o.frame ∷ []) = (o.valid, tt) in
      let behind : fed h2 more ≡ before (o.frame ∷ []) (fed empty more) = ap (λ (h : Stored). fed h more) one ∙ before_fed (o.frame ∷ []) empty more valid in
      let e : fed held piece ≡ before s.fs (before (o.frame ∷ []) (fed empty more)) = text h2 count o.grown ∙ ap (before s.fs) behind in
      let each : AllByRecursion (IsValidIn (fed empty more).version) s.fs = each_fed s.fs empty more (each_later (take count (drop taken piece)) h2 o.grown) in
      let first : frames_of (before (o.frame ∷ []) (fed empty more)) ≡ o.frame ∷ frames_of (fed empty more) = (joined_law (o.frame ∷ []) (fed empty more) (each_fed (o.frame ∷ []) empty more valid)).0 in
      let all : frames_of (fed held piece) ≡ s.fs ++ o.frame ∷ frames_of (fed empty more) = ap frames_of e ∙ ((joined_law s.fs (before (o.frame ∷ []) (fed empty more)) each).0 ∙ ap (λ (fs : List Frame). s.fs ++ fs) first) in
      let there : ArriveUpTo arrives violates p (frames_of (fed held piece)) frames (Some v) p2 = subst (λ (fs : List Frame). ArriveUpTo arrives violates p fs frames (Some v) p2) (sym all) (up_to_violated arrives violates p p1 p2 s.fs o.frame (frames_of (fed empty more)) frames v s.count s.arrived o.violated) in
      let left : count ≤ length piece - taken = omega (arith, o.within, length-drop taken piece) in
      let at : length s.fs + 0 ≡ frames = omega (arith, s.count) in
      let next : slice_get (frames_of (fed held piece)) frames ≡ Some o.frame = ap (slice_get (frames_of (fed held piece))) (sym at) ∙ ap (λ (fs : List Frame). slice_get fs (length s.fs + 0)) all ∙ get_behind s.fs (o.frame ∷ frames_of (fed empty more)) 0 in
      record {
        came = there;
        within = omega (arith, left, s.within);
        bytes = held_is h2 count o.grown ∙ ap (λ (fs : List Frame). before fs h2) (sym (first_frames (o.frame ∷ frames_of (fed empty more)) all));
        leaves = ap (option_map (encoding_in h2.version)) next ∙ ap Some (sym o.whole);
      }

  pub ends_stopped : (stop : Stop) (p2 : T) (h2 : Stored) (count : ℕ) → IsBytes (fed held piece).bytes → Steps arrives violates (Stopped stop count) p1 h1 (drop taken piece) p2 h2 → DeliversTo arrives violates p held piece p2 h2 (record { taken = taken + count; frames = frames; stop = Some stop })
  ends_stopped (Fault fault) p2 h2 count fits o = ends_in_fault fault p2 h2 count fits o
  ends_stopped (Violated v) p2 h2 count fits o = ends_violated v p2 h2 count o

-- what is held and a piece are bytes
pub all_bytes : (held piece : List ℕ) → All (λ b. b < 256) held → IsBytes piece → All (λ b. b < 256) (held ++ piece)
all_bytes held piece h p = All-append (λ (b : ℕ). b < 256) held piece h (λ k d less. subst (λ (n : ℕ). n < 256) (get_or_default piece k 0 d less) (p k))

pub fed_bytes : (held : Stored) (piece : List ℕ) → All (λ b. b < 256) held.bytes → IsBytes piece → IsBytes (fed held piece).bytes
fed_bytes held piece h p = fed_fits held piece (bytes_from (held.bytes ++ piece) (all_bytes held.bytes piece h p))

-- a delivery to a peer
stops_by : (p q : PeerState) (text : Stored) (piece : List ℕ) (held : Stored) (taken n : ℕ) (stop : Option Stop) → ArriveUpTo Arrives Violates p (frames_of text) n (violation_of stop) q → Leaves stop text piece held taken n → StopsBy stop (record { count = n; peer = q; violation = violation_of stop }) text piece held taken
stops_by p q text piece held taken n None came h = record { lawful = refl; all = h.all; rest = h.rest; undecided = h.undecided }
stops_by p q text piece held taken n (Some (Violated v)) came h =
    let next = came.next in
    let whole : Some (encoding_in held.version next.0) ≡ Some held.bytes = sym (ap (option_map (encoding_in held.version)) next.1) ∙ h in
    record { violates = refl; frame = next.0; next = next.1; whole = cc }
stops_by p q text piece held taken n (Some (Fault fault)) came h = record { lawful = refl; stands = h.stands; known = h.known; shortest = h.shortest }

pub delivers : (p q : PeerState) (held : Stored) (piece : List ℕ) (held' : Stored) (d : Delivery) → DeliversTo Arrives Violates p held piece q held' d → Delivers p held piece q held' d
delivers p q held piece held' d h =
    let e = came p q (frames_of (fed held piece)) d.frames (violation_of d.stop) h.came in
    record {
      peer = sym (ap (λ (a : Arrival). a.peer) e);
      frames = sym (ap (λ (a : Arrival). a.count) e);
      within = h.within;
      bytes = h.bytes;
      stop = subst (λ (a : Arrival). StopsBy d.stop a (fed held piece) piece held' d.taken) (sym e) (stops_by p q (fed held piece) piece held' d.taken d.frames d.stop h.came h.leaves);
    }
