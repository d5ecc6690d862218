-- What a session keeps, where its lines change.
use Rattle.std.proofs.Common.{◌≡◌, ◌-◌, ℕ, Bool, true, false, List, [], ◌∷◌, length, Option, Some, None, inl, inr, refl, sym, ap, ◌∙◌, subst, arith}
use Rattle.std.specs.Prelude.{nat_lt, is_some, slice_get}
use Rattle.lc_frame.specs.declared.channel.Channel.{Channel}
use Rattle.lc_frame.specs.declared.frame.Frame.{Frame}
use Rattle.lc_frame.specs.declared.version.Version.{Version}
use Rattle.lc_frame.specs.declared.version.Version.TheVariants.{One, Two}
use Rattle.lc_frame.specs.Channel.{channel_count}
use Rattle.lc_book.specs.Client.{Client}
use Rattle.lc_book.specs.declared.fault.Violation.{Violation}
use Rattle.lc_peer.specs.declared.delivery.Stop.{Stop}
use Rattle.lc_peer.specs.declared.delivery.Stop.TheVariants.{Violated, Fault}
use Rattle.lc_peer.specs.Peer.{PeerState, client}
use Rattle.lc_peer.specs.Arrivals.{Arrival, arrivals, arrive, arrive_unless, violation_at}
use Rattle.lc_peer.specs.Calls.{take_on}
use Rattle.lc_peer.specs.Intake.{IntakeState}
use Rattle.lc_lines.specs.declared.permits.Aside.{Aside}
use Rattle.lc_lines.specs.Outbound.{kept, has_control_slot}
use Rattle.lc_lines.specs.declared.queue.Call.{Call}
use Rattle.lc_lines.specs.declared.scheduler.Notice.{Notice}
use Rattle.lc_lines.specs.Scheduler.{SchedulerState, queue, first}
use Rattle.lc_lines.specs.Lines.{LinesState, Settles, NoticesNext, with_scheduler}
use Rattle.lc_lines.specs.Closing.{is_used_up, is_finished_in, NoneWaits, IsFinishedOrLacksSlot, IsClosed, close as close_lines}
use Rattle.lc_lines.proofs.Guarantees.{NoLess}
use Rattle.lc_lines.proofs.Fields.{SameQueue, take_keeps}
use Rattle.lc_mux.specs.declared.end.End.{End}
use Rattle.lc_mux.specs.Mux.{MuxState, AreMuxFields, IsBegun}
use Rattle.lc_owed.specs.Owed.{OwedState}
use Rattle.lc_owed.specs.Flush.{IsFlushed}
use Rattle.lc_mux.specs.Ends.{end_of_stop, over, close}
use Rattle.lc_mux.specs.Flushing.{PutsUnless, FlushesUnless, SettlesAndPuts}
use Rattle.lc_mux.proofs.Called.{PutsSome}
use Rattle.lc_mux.proofs.Puts.{enter_all-rings, none_settles, notices_put, close_put, unless_put, flush_put, flush_rings, flows_put, closed_unless}

arrivals_same_by : {X : Type 0} (of : PeerState → X) (p : PeerState) (v : Option Violation) (later : Arrival) → of later.peer ≡ of p → of (arrive_unless p v later).peer ≡ of p
arrivals_same_by of p None later h = h
arrivals_same_by of p (Some v) later h = refl

pub arrivals_version : (p : PeerState) (frames : List Frame) → (arrivals p frames).peer.version ≡ p.version
arrivals_version p [] = refl
arrivals_version p (f ∷ frames) = arrivals_same_by (λ q. q.version) p (violation_at p f) (arrivals (arrive p f) frames) (arrivals_version (arrive p f) frames)

pub arrivals_waiting : (p : PeerState) (frames : List Frame) → (arrivals p frames).peer.waiting ≡ p.waiting
arrivals_waiting p [] = refl
arrivals_waiting p (f ∷ frames) = arrivals_same_by (λ q. q.waiting) p (violation_at p f) (arrivals (arrive p f) frames) (arrivals_waiting (arrive p f) frames)

pub arrivals_rings : (p : PeerState) (frames : List Frame) → (arrivals p frames).peer.capacities ≡ p.capacities
arrivals_rings p [] = refl
arrivals_rings p (f ∷ frames) = arrivals_same_by (λ q. q.capacities) p (violation_at p f) (arrivals (arrive p f) frames) (arrivals_rings (arrive p f) frames)

pub stop_none : (stop : Option Stop) → end_of_stop stop ≡ None → stop ≡ None
stop_none None e = refl
stop_none (Some (Violated v)) e = cc
stop_none (Some (Fault f)) e = cc

same_finished : (version : Version) (b b' : Client) → NoLess b b' → is_finished_in version b' ≡ is_finished_in version b
same_finished One b b' same = ap is_used_up same.send_left
same_finished Two b b' same = same.finished

same_slot : (p q : PeerState) (asides : List Aside) → q.waiting ≡ p.waiting → q.slots ≡ p.slots → has_control_slot q asides ≡ has_control_slot p asides
same_slot p q asides waiting slots =
    ap (λ (w : List Frame). nat_lt (kept w asides) (q.slots - length w)) waiting ∙ ap (λ (n : ℕ). nat_lt (kept p.waiting asides) (n - length p.waiting)) slots

same_done : (s : SchedulerState) (q : PeerState) (c : Channel) → SameQueue s.peer q → q.version ≡ s.peer.version → IsFinishedOrLacksSlot s c → IsFinishedOrLacksSlot (record s { peer = q }) c
same_done s q c same version (inl finished) = inl (ap (λ (v : Version). is_finished_in v (client q c)) version ∙ (same_finished s.peer.version (client s.peer c) (client q c) (same.books c) ∙ finished))
same_done s q c same version (inr lacks) = inr (same_slot s.peer q s.asides same.waiting same.slots ∙ lacks)

-- what arrives or is taken leaves all closed, and so do the calls that proceed then
pub closed_same : (l l' : LinesState) (q : PeerState) → SameQueue l.scheduler.peer q → q.version ≡ l.scheduler.peer.version → Settles (with_scheduler l (record l.scheduler { peer = q })) l' → IsClosed l.scheduler → IsClosed l'.scheduler
closed_same l l' q same version settles closed =
    let none : NoneWaits (record l.scheduler { peer = q }) = λ c. record { calls = (closed.none c).calls; permits = (closed.none c).permits } in
    let is = none_settles (with_scheduler l (record l.scheduler { peer = q })) l' none settles in
    subst IsClosed (sym is) (record { none = none; finished = λ c. same_done l.scheduler q c same version (closed.finished c) })

-- what is put then leaves all closed
pub closed_put : (closing : Bool) (o : OwedState) (l : LinesState) (o' : OwedState) (l' : LinesState) → closing ≡ true → PutsUnless closing o l o' l' → IsClosed l.scheduler → IsClosed l'.scheduler
closed_put closing o l o' l' e puts closed = subst (λ (x : LinesState). IsClosed x.scheduler) (sym (closed_unless closing o l o' l' e puts)) closed

pub begun_same : (s s' : SchedulerState) (pending : List ℕ) → s'.begun ≡ s.begun → IsBegun s pending → IsBegun s' pending
begun_same s s' pending same h = record { all = omega (arith, same, h.all); few = omega (arith, same, h.few) }

-- whether a session is flushed, or closed
pub record IsKept (closing : Bool) (o : OwedState) (l : LinesState) : Type 0 where
  pub flushed : closing ≡ false → IsFlushed o l.scheduler
  pub closed : closing ≡ true → IsClosed l.scheduler

-- a session whose lines changed so
pub fields_changed : (o : OwedState) (l : LinesState) (o' : OwedState) (l' : LinesState) (s : SchedulerState) (intake : IntakeState) (pending : List ℕ) (closing : Bool) (end : Option End) →
    SettlesAndPuts closing o (with_scheduler l s) o' l' → s.peer.capacities ≡ l.scheduler.peer.capacities → s.begun ≡ l.scheduler.begun → IsKept closing o' l' →
    AreMuxFields l o intake pending closing end → AreMuxFields l' o' intake pending closing end
fields_changed o l o' l' s intake pending closing end flows rings begun kept fields =
    let puts = flows_put closing o (with_scheduler l s) o' l' flows in
    record {
      rings = ap (λ (p : PeerState). p.capacities) puts.1.peer ∙ (enter_all-rings puts.0 s.peer ∙ (rings ∙ fields.rings));
      going = fields.going;
      begun = begun_same l.scheduler l'.scheduler pending (puts.1.begun ∙ begun) fields.begun;
      flushed = kept.flushed;
      closed = kept.closed;
    }

pub close_rings : (s : SchedulerState) → (close_lines s).peer.capacities ≡ s.peer.capacities
close_rings s = let puts = close_put s in ap (λ (p : PeerState). p.capacities) puts.1.peer ∙ enter_all-rings puts.0 s.peer

pub closes_to : (m : MuxState) → is_some (over m) ≡ false → record m { lines = with_scheduler m.lines (close_lines m.lines.scheduler); closing = true } ≡ close m
closes_to m e = rw e refl

never : (closing : Bool) (s : SchedulerState) → closing ≡ false → closing ≡ true → IsClosed s
never closing s going e = cc

-- a session that does not close is flushed
pub kept_open : (closing : Bool) (o : OwedState) (l : LinesState) → closing ≡ false → (closing ≡ false → IsFlushed o l.scheduler) → IsKept closing o l
kept_open closing o l going flushed = record { flushed = flushed; closed = never closing l.scheduler going }

-- a session that does not close, where frames entered
pub fields_called : (o : OwedState) (l : LinesState) (o' : OwedState) (l' : LinesState) (s : SchedulerState) (intake : IntakeState) (pending : List ℕ) (closing : Bool) (end : Option End) →
    SettlesAndPuts closing o (with_scheduler l s) o' l' → PutsSome l.scheduler s → closing ≡ false → (closing ≡ false → IsFlushed o' l'.scheduler) → AreMuxFields l o intake pending closing end → AreMuxFields l' o' intake pending closing end
fields_called o l o' l' s intake pending closing end flows puts going flushed fields =
    fields_changed o l o' l' s intake pending closing end flows (ap (λ (p : PeerState). p.capacities) puts.1.peer ∙ enter_all-rings puts.0 l.scheduler.peer) puts.1.begun (kept_open closing o' l' going flushed) fields

-- a session whose pending control frames changed so
pub fields_owed : (o0 o : OwedState) (l : LinesState) (o' : OwedState) (l' : LinesState) (intake : IntakeState) (pending : List ℕ) (closing : Bool) (end : Option End) →
    FlushesUnless closing o l o' l' → closing ≡ false → (closing ≡ false → IsFlushed o' l'.scheduler) → AreMuxFields l o0 intake pending closing end → AreMuxFields l' o' intake pending closing end
fields_owed o0 o l o' l' intake pending closing end flushes going flushed fields =
    let puts = flush_put closing o l o' l' flushes in
    record {
      rings = flush_rings closing o l o' l' flushes ∙ fields.rings;
      going = fields.going;
      begun = begun_same l.scheduler l'.scheduler pending puts.1.begun fields.begun;
      flushed = flushed;
      closed = never closing l'.scheduler going;
    }

-- a session of which a message was taken
pub fields_taken : (o : OwedState) (l mid : LinesState) (o' : OwedState) (l' : LinesState) (c : Channel) (intake : IntakeState) (pending : List ℕ) (closing : Bool) (end : Option End) →
    length l.scheduler.peer.channels ≡ channel_count → Settles (with_scheduler l (record l.scheduler { peer = take_on l.scheduler.peer c })) mid → PutsUnless closing o mid o' l' → (closing ≡ false → IsFlushed o' l'.scheduler) →
    AreMuxFields l o intake pending closing end → AreMuxFields l' o' intake pending closing end
fields_taken o l mid o' l' c intake pending closing end places settles due flushed fields =
    let s : SchedulerState = record l.scheduler { peer = take_on l.scheduler.peer c } in
    fields_changed o l o' l' s intake pending closing end (mid, (settles, due)) refl refl
    (record {
      flushed = flushed;
      closed = λ e. closed_put closing o mid o' l' e due (closed_same l mid (take_on l.scheduler.peer c) (take_keeps l.scheduler.peer c places) refl settles (fields.closed e));
    }) fields

no_first : (calls : List Call) (call : Call) → calls ≡ [] → slice_get calls 0 ≡ Some call → ⊥
no_first calls call e f = let none : slice_get calls 0 ≡ None = ap (λ (x : List Call). slice_get x 0) e in cc

none_given_up : (s : SchedulerState) (c : Channel) (call : Call) (s' : SchedulerState) → first s c ≡ Some call → IsClosed s → IsClosed s'
none_given_up s c call s' f closed = absurd (no_first (queue s c).calls call (closed.none c).calls f)

closed_noticed : (n : Notice) (l l' : LinesState) → NoticesNext n l l' → IsClosed l.scheduler → IsClosed l'.scheduler
closed_noticed n l l' (inl took) closed = subst IsClosed (sym (none_settles (record l { notices = took.later }) l' closed.none took.settles)) closed
closed_noticed n l l' (inr hopeless) closed = none_given_up l.scheduler n.channel hopeless.gives_up.call l'.scheduler hopeless.gives_up.first closed

-- a session of which a notice was taken
pub fields_noticed : (n : Notice) (o : OwedState) (l mid : LinesState) (o' : OwedState) (l' : LinesState) (intake : IntakeState) (pending : List ℕ) (closing : Bool) (end : Option End) →
    NoticesNext n l mid → PutsUnless closing o mid o' l' → (closing ≡ false → IsFlushed o' l'.scheduler) → AreMuxFields l o intake pending closing end → AreMuxFields l' o' intake pending closing end
fields_noticed n o l mid o' l' intake pending closing end next due flushed fields =
    let first = notices_put n l mid next in
    let puts = unless_put closing o mid o' l' due in
    record {
      rings = ap (λ (p : PeerState). p.capacities) puts.1.peer ∙ (enter_all-rings puts.0 mid.scheduler.peer ∙ (ap (λ (p : PeerState). p.capacities) first.1.peer ∙ (enter_all-rings first.0 l.scheduler.peer ∙ fields.rings)));
      going = fields.going;
      begun = begun_same l.scheduler l'.scheduler pending (puts.1.begun ∙ first.1.begun) fields.begun;
      flushed = flushed;
      closed = λ e. closed_put closing o mid o' l' e due (closed_noticed n l mid next (fields.closed e));
    }
