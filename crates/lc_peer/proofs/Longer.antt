-- A Send that is longer than its ring, and how a delivery comes to it.
use Rattle.std.proofs.Common.{◌≡◌, ℕ, ◌+◌, ◌<◌, ◌≤◌, List, [], ◌∷◌, ◌++◌, length, take, drop, Option, Some, None, zero, suc, refl, sym, ap, subst, ◌∙◌, append_assoc, arith, inl, inr}
use Rattle.std.proofs.lemmas.Bool.{cases_lt}
use Rattle.std.proofs.lemmas.List.{length-drop, length-take, length-take-le, length-append, take-append-drop, take-append-le, append-nil, take_all, get_or_default}
use Rattle.std.proofs.lemmas.List.Elements.{All-append, All-take}
use Rattle.std.proofs.Math.Seq.{take-add}
use Rattle.lc_frame.specs.declared.version.Version.{Version}
use Rattle.lc_frame.specs.declared.version.Version.TheVariants.{One, Two}
use Rattle.lc_frame.specs.declared.channel.Channel.{Channel}
use Rattle.lc_frame.specs.declared.kind.Kind.TheVariants.{Send}
use Rattle.lc_frame.specs.Kind.{header_len}
use Rattle.lc_frame.specs.Encoding.{header}
use Rattle.lc_frame.specs.Stored.{Stored, stored_in, fed, front, IsSettled, IsUndecided}
use Rattle.lc_frame.specs.Progress.{Feeds}
use Rattle.lc_frame.specs.Begun.{BeginsSend}
use Rattle.lc_frame.proofs.Stored.{fed_fed, fed_nothing, fed_settled}
use Rattle.lc_frame.proofs.Channels.{number_below}
use Rattle.lc_frame.proofs.Fronts.{length-header}
use Rattle.lc_frame.proofs.Sends.{begun_open, begun_whole, begun_valid}
use Rattle.std.specs.Prelude.{slice_get, IsSomeAnd, IfSome, All}
use Rattle.lc_frame.specs.declared.frame.Frame.{Frame}
use Rattle.lc_frame.specs.Channel.{number_of}
use Rattle.lc_book.specs.declared.fault.Violation.{Violation}
use Rattle.lc_peer.specs.declared.outgrown.Outgrown.{Outgrown}
use Rattle.lc_peer.specs.declared.delivery.Delivery.{Delivery}
use Rattle.lc_peer.specs.Deliveries.{DeliversTo, Leaves}
use Rattle.lc_frame.specs.declared.frame.Frame.TheVariants as frames
use Rattle.lc_frame.specs.Kind.{IsInRange}
use Rattle.lc_frame.proofs.Openings.{undecided_of}
use Rattle.lc_peer.specs.declared.skip.Skip.{Skip}
use Rattle.lc_peer.specs.Longer.{IsLonger, FitsRings}
use Rattle.lc_frame.proofs.Bytes.{IsBytes}
use Rattle.lc_peer.specs.declared.delivery.Stop.{Stop}
use Rattle.lc_peer.specs.declared.delivery.Stop.TheVariants.{Violated}
use Rattle.lc_peer.specs.Sinks.{AllArrive, IsNext, ArriveUpTo}
use Rattle.lc_peer.specs.Steps.{Steps, StaysOpen, FrameViolates, SoFar}
use Rattle.lc_peer.specs.Skips.{step_of, stop_by, Skips, Goes}
use Rattle.lc_peer.proofs.Deliveries.{begins_so, nothing_led, fed_bytes, ends_open, ends_stopped}
use Rattle.lc_peer.specs.RingIntake.{IsSkip, IsKept, IsRingIntake, KeepsWith, held_of, held_with}
use Rattle.lc_peer.specs.Rings.{ComesTo, ReachesBy, Leads}
use Rattle.lc_peer.proofs.Feeds.{shortest_fault}

-- ---- bytes that lead up to a message

pub leads_on : (old h1 h2 : Stored) (piece part : List ℕ) (taken cut count : ℕ) → Leads old h1 piece taken → part ≡ take cut (drop taken piece) → Feeds h1 h2 part count → Leads old h2 piece (taken + count)
leads_on old h1 h2 piece part taken cut count led is feeds =
    let rest = drop taken piece in
    let same : take count part ≡ take count rest = sym (ap (take count) (sym (take-append-drop cut rest) ∙ ap (λ (x : List ℕ). x ++ drop cut rest) (sym is)) ∙ take-append-le count part (drop cut rest) feeds.count) in
    let grown : h2 ≡ fed old (take (taken + count) piece) =
    feeds.held
    ∙ ap (fed h1) same
    ∙ ap (λ (h : Stored). fed h (take count rest)) led.grown
    ∙ fed_fed old (take taken piece) (take count rest)
    ∙ ap (fed old) (sym (take-add taken count piece)) in
    let settled : IsSettled h1 = subst IsSettled (sym led.grown) (fed_settled old (take taken piece)) in
    record {
      within = omega (arith, led.within, feeds.count, ap length is, length-take cut rest, length-drop taken piece);
      grown = grown;
      shortest = λ some.
          elim (cases_lt 0 count) [
            | inl more ↦ shortest_fault h1 h2 part count feeds more
            | inr none ↦
                let no : count ≡ 0 = omega (arith, none) in
                let still : h2 ≡ h1 = feeds.held ∙ ap (λ (n : ℕ). fed h1 (take n part)) no ∙ fed_nothing h1 settled in
                subst (λ (h : Stored). (k : ℕ) → k < length h.bytes → IsUndecided (front k h)) (sym still) (led.shortest (omega (arith, some, no)))
          ];
    }

-- what was fed leads up to what is held
pub feeds_leads : (old new : Stored) (piece : List ℕ) (taken : ℕ) → Feeds old new piece taken → Leads old new piece taken
feeds_leads old new piece taken f = record { within = f.count; grown = f.held; shortest = λ some. shortest_fault old new piece taken f some }

-- where no rings are named, none is longer
pub goes_through : {T : Type 0} (o : Option Outgrown) (arrives : T → Frame → T → Type 0) (violates : Violation → T → Frame → T → Type 0) (rings : List ℕ) (p : T) (held : Stored) (piece : List ℕ) (p' : T) (held' : Stored) (d : Delivery) → rings ≡ []
    → ReachesBy o arrives violates rings p held piece p' held' d → DeliversTo arrives violates p held piece p' held' d
goes_through None arrives violates rings p held piece p' held' d none r = r
goes_through (Some o) arrives violates rings p held piece p' held' d none r = absurd (nothing_longer (number_of o.channel) o.len (subst (λ (ns : List ℕ). IsSomeAnd (slice_get ns (number_of o.channel)) (λ ring. ring < o.len)) none r.longer))
  where
    nothing_longer : (n len : ℕ) → IsSomeAnd (slice_get [] n) (λ ring. ring < len) → ⊥
    nothing_longer n len h = h

-- ---- a message that is not kept

-- what is held of it, with more of it behind
more_held : (s : Skip) (more : List ℕ) → fed (held_of s) more ≡ stored_in s.version (header s.version Send s.channel s.len ++ (s.body.bytes ++ more))
more_held s more = ap (stored_in s.version) (append_assoc (header s.version Send s.channel s.len) s.body.bytes more)

abbrev begun_of : (s : Skip) → IsInRange s.version Send s.len → BeginsSend s.version s.channel s.len (held_of s).bytes
begun_of s r = record { in_range = r; rest = s.body.bytes; is = refl }

-- while bytes of it are missing, nothing stands
pub skip_open : (s : Skip) → IsInRange s.version Send s.len → length s.body.bytes < s.len → IsUndecided (held_of s)
skip_open s r few = undecided_of s.version (held_of s).bytes (begun_open s.version s.channel s.len (held_of s).bytes (begun_of s r) (omega (arith, few, length-append (header s.version Send s.channel s.len) s.body.bytes, length-header s.version Send s.channel s.len)))

module _ {T : Type 0} (arrives : T → Frame → T → Type 0) (violates : Violation → T → Frame → T → Type 0) (rings : List ℕ) (p : T) (old new : Skip) (rest : List ℕ) (count : ℕ)
    (h : IsSkip rings old) (version : new.version ≡ old.version) (channel : new.channel ≡ old.channel) (len : new.len ≡ old.len) (body : new.body.bytes ≡ old.body.bytes ++ take count rest) (within : count ≤ length rest) (missing : new.missing + count ≡ old.missing) (fits : All (λ b. b < 256) rest) where
  new_held : held_of new ≡ fed (held_of old) (take count rest)
  new_held = ap₄ held_by version channel len body ∙ sym (more_held old (take count rest))
    where
      held_by : Version → Channel → ℕ → List ℕ → Stored
      held_by v c n bytes = stored_in v (header v Send c n ++ bytes)

      ap₄ : (f : Version → Channel → ℕ → List ℕ → Stored) {v w : Version} {c d : Channel} {m n : ℕ} {xs ys : List ℕ} → v ≡ w → c ≡ d → m ≡ n → xs ≡ ys → f v c m xs ≡ f w d n ys
      ap₄ f e1 e2 e3 e4 = λ i. f (e1 i) (e2 i) (e3 i) (e4 i)

  pub new_skip : IsSkip rings new
  new_skip = record {
    in_range = subst (λ (n : ℕ). IsInRange new.version Send n) (sym len) (subst (λ (v : Version). IsInRange v Send old.len) (sym version) h.in_range);
    longer = subst (λ (n : ℕ). IsLonger rings new.channel n) (sym len) (subst (λ (c : Channel). IsLonger rings c old.len) (sym channel) h.longer);
    counted = omega (arith, h.counted, missing, len, ap length body, length-append old.body.bytes (take count rest), length-take-le count rest within);
    bytes = subst (All (λ b. b < 256)) (sym body) (All-append (λ (b : ℕ). b < 256) old.body.bytes (take count rest) h.bytes (All-take (λ (b : ℕ). b < 256) count rest fits));
  }

  pub stays_open : 0 < new.missing → count ≡ length rest → StaysOpen p (held_of old) rest p (held_of new) count
  stays_open some all = record {
    same = refl;
    all = all;
    grown = new_held ∙ ap (fed (held_of old)) (take_all count rest (omega (arith, all)));
    undecided = skip_open new new_skip.in_range (omega (arith, new_skip.counted, some));
  }

  pub refuses : (v : Violation) (p' : T) → new.missing ≡ 0 → violates v p (frames.Send new.channel new.body.bytes) p' → FrameViolates violates v p (held_of old) rest p' (held_of new) count
  refuses v p' none one =
      let whole : length (held_of new).bytes ≡ header_len new.version Send + new.len = omega (arith, new_skip.counted, none, length-append (header new.version Send new.channel new.len) new.body.bytes, length-header new.version Send new.channel new.len) in
      record {
        frame = frames.Send new.channel new.body.bytes;
        valid = begun_valid new.version new.channel new.len (held_of new).bytes (begun_of new new_skip.in_range) whole;
        violated = one;
        within = within;
        grown = new_held;
        whole = begun_whole new.version new.channel new.len (held_of new).bytes (begun_of new new_skip.in_range) whole;
      }

-- ---- from the header on

-- a step behind the bytes of a header is one from before them
pub steps_behind : {T : Type 0} (arrives : T → Frame → T → Type 0) (violates : Violation → T → Frame → T → Type 0) (p : T) (h1 h : Stored) (rest : List ℕ) (behind count : ℕ) (violation : Option Violation) (p' : T) (h' : Stored) → behind ≤ length rest → fed h1 (take behind rest) ≡ h
    → Steps arrives violates (step_of count violation) p h (drop behind rest) p' h' → Steps arrives violates (step_of (behind + count) violation) p h1 rest p' h'
steps_behind arrives violates p h1 h rest behind count None p' h' within is o = record {
  same = o.same;
  all = omega (arith, o.all, length-drop behind rest, within);
  grown = o.grown ∙ ap (λ (x : Stored). fed x (drop behind rest)) (sym is) ∙ fed_fed h1 (take behind rest) (drop behind rest) ∙ ap (fed h1) (take-append-drop behind rest);
  undecided = o.undecided;
}
steps_behind arrives violates p h1 h rest behind count (Some v) p' h' within is o = record {
  frame = o.frame;
  valid = o.valid;
  violated = o.violated;
  within = omega (arith, o.within, length-drop behind rest, within);
  grown = o.grown ∙ ap (λ (x : Stored). fed x (take count (drop behind rest))) (sym is) ∙ fed_fed h1 (take behind rest) (take count (drop behind rest)) ∙ ap (fed h1) (sym (take-add behind count rest));
  whole = o.whole;
}

pub ends_by : {T : Type 0} (arrives : T → Frame → T → Type 0) (violates : Violation → T → Frame → T → Type 0) (p : T) (held : Stored) (piece : List ℕ) (p1 : T) (h1 : Stored) (taken frames : ℕ) → SoFar arrives p held piece p1 h1 taken frames → (count : ℕ) (violation : Option Violation) (p2 : T) (h2 : Stored) → IsBytes (fed held piece).bytes
    → Steps arrives violates (step_of count violation) p1 h1 (drop taken piece) p2 h2 → DeliversTo arrives violates p held piece p2 h2 (record { taken = taken + count; frames = frames; stop = stop_by violation })
ends_by arrives violates p held piece p1 h1 taken frames s count None p2 h2 fits o = ends_open arrives violates p held piece p1 h1 taken frames s p2 h2 count fits o
ends_by arrives violates p held piece p1 h1 taken frames s count (Some v) p2 h2 fits o = ends_stopped arrives violates p held piece p1 h1 taken frames s (Violated v) p2 h2 count fits o

-- ---- the rings stay as they are

module _ {T : Type 0} (arrives : T → Frame → T → Type 0) (violates : Violation → T → Frame → T → Type 0) (rings : T → List ℕ) (keeps : (p : T) (f : Frame) (q : T) → arrives p f q → rings q ≡ rings p) (refused : (v : Violation) (p : T) (f : Frame) (q : T) → violates v p f q → rings q ≡ rings p) where
  pub rings_all : (p : T) (fs : List Frame) (q : T) → AllArrive arrives p fs q → rings q ≡ rings p
  rings_all p [] q all = ap rings all
  rings_all p (f ∷ fs) q all = rings_all all.0 fs q all.2 ∙ keeps p f all.0 all.1

  rings_next : (v : Option Violation) (at : T) (fs : List Frame) (n : ℕ) (q : T) → IsNext violates v at fs n q → rings q ≡ rings at
  rings_next None at fs n q h = ap rings h.1
  rings_next (Some v) at fs n q h = refused v at h.0 q h.2

  pub rings_came : (p : T) (fs : List Frame) (n : ℕ) (v : Option Violation) (q : T) → ArriveUpTo arrives violates p fs n v q → rings q ≡ rings p
  rings_came p fs n v q came = rings_next v came.at fs n q came.next ∙ rings_all p (take n fs) came.at came.arrived

-- ---- what an intake keeps

goes_open : {T : Type 0} (arrives : T → Frame → T → Type 0) (violates : Violation → T → Frame → T → Type 0) (p : T) (held : Stored) (piece : List ℕ) (p' : T) (held' : Stored) (d : Delivery) (stop : Option Stop) → d.stop ≡ stop → DeliversTo arrives violates p held piece p' held' d → stop ≡ None → IsUndecided held'
goes_open arrives violates p held piece p' held' d None e h none = (subst (λ (s : Option Stop). Leaves s (fed held piece) piece held' d.taken d.frames) e h.leaves).undecided
goes_open arrives violates p held piece p' held' d (Some stop) e h none = absurd cc

pub goes_kept : {T : Type 0} (arrives : T → Frame → T → Type 0) (violates : Violation → T → Frame → T → Type 0) (rings : List ℕ) (p : T) (held : Stored) (piece : List ℕ) (p' : T) (decoder : Stored) (skip : Option Skip) (d : Delivery) (inside : Stored) → Goes arrives violates rings p held piece p' decoder skip d → held_with inside skip ≡ held_with decoder skip → KeepsWith rings skip inside → IsRingIntake inside rings skip d.stop
goes_kept arrives violates rings p held piece p' decoder skip d inside h same kept = record {
  undecided = λ none. subst IsUndecided (sym same) (goes_open arrives violates p held piece p' (held_with decoder skip) d d.stop refl h.delivers none);
  skips = h.skips;
  missing = h.missing;
  kept = kept;
}

-- ---- a delivery that comes to a message that is not kept

header_bytes : (v : Version) (c : Channel) (n : ℕ) → IsBytes (header v Send c n)
header_bytes One c n zero = let small = number_below c in omega arith
header_bytes One c n (suc zero) = omega arith
header_bytes One c n (suc (suc zero)) = omega arith
header_bytes One c n (suc (suc (suc i))) = omega arith
header_bytes Two c n zero = let small = number_below c in omega arith
header_bytes Two c n (suc zero) = omega arith
header_bytes Two c n (suc (suc zero)) = omega arith
header_bytes Two c n (suc (suc (suc zero))) = omega arith
header_bytes Two c n (suc (suc (suc (suc zero)))) = omega arith
header_bytes Two c n (suc (suc (suc (suc (suc i))))) = omega arith

held_bytes : (rings : List ℕ) (s : Skip) → IsSkip rings s → All (λ b. b < 256) (held_of s).bytes
held_bytes rings s h = All-append (λ (b : ℕ). b < 256) (header s.version Send s.channel s.len) s.body.bytes (λ k d less. subst (λ (n : ℕ). n < 256) (get_or_default (header s.version Send s.channel s.len) k 0 d less) (header_bytes s.version s.channel s.len k)) h.bytes

-- a message that is not kept is begun, and is longer than its ring
pub skip_longer : (rings : List ℕ) (s : Skip) → IsSkip rings s → ¬ FitsRings rings (held_of s)
skip_longer rings s h fits = fits s.channel s.len (begun_of s h.in_range) h.longer

send_few : (v : Version) → header_len v Send ≤ 5
send_few One = omega arith
send_few Two = omega arith

-- what a decoder keeps is little
pub is_kept : (rings : List ℕ) (skip : Option Skip) (decoder : Stored) (stop : Option Stop) → IfSome skip (IsSkip rings) → KeepsWith rings skip decoder → IsKept (record { held = held_with decoder skip; kept = length decoder.bytes; stop = stop; rings = rings })
is_kept rings None decoder stop skips kept = record { all = λ fits. refl; header = λ c len begun longer. absurd (kept.fits c len begun longer); most = kept.few }
is_kept rings (Some s) decoder stop skips kept = record {
  all = λ fits. absurd (skip_longer rings s skips fits);
  header = λ c len begun longer. omega (arith, kept, send_few s.version);
  most = λ most within. omega (arith, kept, send_few s.version);
}

-- nor does it once more of the message came
pub kept_on : (rings : List ℕ) (old new : Skip) (decoder : Stored) → new.version ≡ old.version → KeepsWith rings (Some old) decoder → KeepsWith rings (Some new) decoder
kept_on rings old new decoder same kept = omega (arith, kept, ap (λ (v : Version). header_len v Send) same)

-- so what is held of a stream is bytes, and settled
pub held_with_bytes : (rings : List ℕ) (decoder : Stored) (skip : Option Skip) → All (λ b. b < 256) decoder.bytes → IfSome skip (IsSkip rings) → All (λ b. b < 256) (held_with decoder skip).bytes
held_with_bytes rings decoder None bytes skips = bytes
held_with_bytes rings decoder (Some s) bytes skips = held_bytes rings s skips

pub held_with_settled : (decoder : Stored) (skip : Option Skip) → IsSettled decoder → IsSettled (held_with decoder skip)
held_with_settled decoder None settled = settled
held_with_settled decoder (Some s) settled = refl

none_met : (violation : Option Violation) → stop_by violation ≡ None → violation ≡ None
none_met None e = refl
none_met (Some v) e = absurd cc

module _ (o : Outgrown) (s : Skip) (version : s.version ≡ o.version) (channel : s.channel ≡ o.channel) (len : s.len ≡ o.len) (missing : s.missing ≡ o.len) (empty : s.body.bytes ≡ []) where
  -- of a message of which nothing came yet
  pub begun_skip : (rings : List ℕ) → IsInRange o.version Send o.len → IsLonger rings o.channel o.len → IsSkip rings s
  begun_skip rings r longer = record {
    in_range = subst (λ (n : ℕ). IsInRange s.version Send n) (sym len) (subst (λ (v : Version). IsInRange v Send o.len) (sym version) r);
    longer = subst (λ (n : ℕ). IsLonger rings s.channel n) (sym len) (subst (λ (c : Channel). IsLonger rings c o.len) (sym channel) longer);
    counted = omega (arith, missing, len, ap length empty);
    bytes = λ k d less. absurd (omega (arith, less, ap length empty));
  }

  begun_held : stored_in o.version (header o.version Send o.channel o.len) ≡ held_of s
  begun_held = sym (ap (stored_in o.version) (append-nil (header o.version Send o.channel o.len))) ∙ same
    where
      held_by : Version → Channel → ℕ → List ℕ → Stored
      held_by v c n bytes = stored_in v (header v Send c n ++ bytes)

      same : held_by o.version o.channel o.len [] ≡ held_by s.version s.channel s.len s.body.bytes
      same = λ i. held_by (sym version i) (sym channel i) (sym len i) (sym empty i)

  pub goes_from : {T : Type 0} (arrives : T → Frame → T → Type 0) (violates : Violation → T → Frame → T → Type 0) (rings later : List ℕ) (p : T) (held : Stored) (piece rest : List ℕ) (p1 : T) (h1 : Stored) (taken frames : ℕ) → ComesTo arrives rings p held piece p1 h1 taken frames o → IsBytes (fed held piece).bytes
      → rest ≡ drop o.behind (drop taken piece) → later ≡ rings → (count : ℕ) (violation : Option Violation) (p2 : T) (new : Skip) → Skips arrives violates later count violation p1 s rest p2 new → (stop : Option Stop) → stop ≡ stop_by violation → (decoder : Stored)
      → Goes arrives violates rings p held piece p2 decoder (Some new) (record { taken = taken + (o.behind + count); frames = frames; stop = stop })
  goes_from arrives violates rings later p held piece rest p1 h1 taken frames comes fits rest_is same count violation p2 new skips stop stops decoder =
      let there = subst (λ (xs : List ℕ). Steps arrives violates (step_of count violation) p1 (held_of s) xs p2 (held_of new)) rest_is skips.steps in
      let steps = steps_behind arrives violates p1 h1 (held_of s) (drop taken piece) o.behind count violation p2 (held_of new) comes.starts.within (comes.starts.is ∙ begun_held) there in
      let done = ends_by arrives violates p held piece p1 h1 taken frames comes.so_far (o.behind + count) violation p2 (held_of new) fits steps in
      record {
        delivers = subst (λ (x : Option Stop). DeliversTo arrives violates p held piece p2 (held_of new) (record { taken = taken + (o.behind + count); frames = frames; stop = x })) (sym stops) done;
        skips = subst (λ (ns : List ℕ). IsSkip ns new) same skips.skip;
        missing = λ none. skips.missing (none_met violation (sym stops ∙ none));
      }

-- bytes of a message that is not kept
pub goes_on : {T : Type 0} (arrives : T → Frame → T → Type 0) (violates : Violation → T → Frame → T → Type 0) (rings : List ℕ) (p : T) (s : Skip) (piece : List ℕ) → IsSkip rings s → IsBytes piece → (count : ℕ) (violation : Option Violation) (p2 : T) (new : Skip) → Skips arrives violates rings count violation p s piece p2 new
    → (stop : Option Stop) → stop ≡ stop_by violation → (decoder : Stored) → Goes arrives violates rings p (held_of s) piece p2 decoder (Some new) (record { taken = count; frames = 0; stop = stop })
goes_on arrives violates rings p s piece h fits count violation p2 new skips stop stops decoder =
    let begins = begins_so arrives p (held_of s) piece (held_of s) 0 (nothing_led (held_of s) piece refl) in
    let done = ends_by arrives violates p (held_of s) piece p (held_of s) 0 0 begins count violation p2 (held_of new) (fed_bytes (held_of s) piece (held_bytes rings s h) fits) skips.steps in
    let none : 0 + count ≡ count = omega arith in
    record {
      delivers = subst (λ (q : ℕ × Option Stop). DeliversTo arrives violates p (held_of s) piece p2 (held_of new) (record { taken = q.0; frames = 0; stop = q.1 })) (λ i. (none i, sym stops i)) done;
      skips = skips.skip;
      missing = λ nothing. skips.missing (none_met violation (sym stops ∙ nothing));
    }
