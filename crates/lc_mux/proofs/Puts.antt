-- What calls that proceed leave of the peer: they put frames, and change nothing else of it.
use Rattle.std.proofs.Common.{◌≡◌, Bool, true, false, if◌then◌else◌, None, Some, subst, ℕ, List, [], ◌∷◌, ◌++◌, inl, inr, refl, sym, ap, ◌∙◌, append_assoc}
use Rattle.std.proofs.lemmas.List.{append-nil}
use Rattle.lc_frame.specs.declared.frame.Frame.{Frame}
use Rattle.lc_frame.specs.declared.frame.Frame.TheVariants.{Send}
use Rattle.lc_peer.specs.Peer.{PeerState}
use Rattle.lc_lines.specs.declared.scheduler.Notice.{Notice}
use Rattle.lc_lines.specs.Bounds.{frame_of_bound}
use Rattle.std.specs.Prelude.{slice_get}
use Rattle.lc_frame.specs.declared.channel.Channel.{Channel}
use Rattle.lc_lines.specs.declared.queue.Call.{Call}
use Rattle.lc_lines.specs.Outbound.{every_channel, has_control_slot}
use Rattle.lc_lines.specs.Scheduler.{SchedulerState, Steps, queue, front, frame_of_control, put_frame, take_frame, write}
use Rattle.lc_lines.specs.Closing.{last_bound, is_finished, abandon, abandon_among, finish, finish_among, close, NoneWaits, IsClosed}
use Rattle.lc_lines.specs.Lines.{LinesState, Ran, Settles, NoticesNext, with_scheduler}
use Rattle.lc_owed.specs.declared.due.Due.{Due}
use Rattle.lc_owed.specs.declared.due.Due.TheVariants.{Put, Honour}
use Rattle.lc_owed.specs.Owed.{OwedState, by_policies}
use Rattle.lc_owed.specs.Due.{put_due, without_due}
use Rattle.lc_owed.specs.Flush.{Goes, Went, PutsAll}
use Rattle.lc_mux.specs.Flushing.{PutsUnless, FlushesUnless, SettlesAndPuts}
use Rattle.lc_mux.specs.Writing.Entry.{puts, honours}
use Rattle.lc_mux.specs.Writing.{Entry, enter, frames_by, enter_all, frames_of, TakesFrame}

pub enter_all-append : (xs ys : List Entry) (p : PeerState) → enter_all (xs ++ ys) p ≡ enter_all ys (enter_all xs p)
enter_all-append [] ys p = refl
enter_all-append (e ∷ xs) ys p = enter_all-append xs ys (enter e p)

pub frames_of-append : (xs ys : List Entry) (p : PeerState) → frames_of (xs ++ ys) p ≡ frames_of xs p ++ frames_of ys (enter_all xs p)
frames_of-append [] ys p = refl
frames_of-append (e ∷ xs) ys p =
    ap (λ (x : List Frame). frames_by e p ++ x) (frames_of-append xs ys (enter e p))
    ∙ sym (append_assoc (frames_by e p) (frames_of xs (enter e p)) (frames_of ys (enter_all xs (enter e p))))

-- frames enter whatever is queued
enter-queue : (e : Entry) (p : PeerState) (w : List Frame) → enter e (record p { waiting = w }) ≡ record (enter e p) { waiting = w ++ frames_by e p }
enter-queue (puts f) p w = refl
enter-queue (honours c) p w = refl

frames_by-queue : (e : Entry) (p : PeerState) (w : List Frame) → frames_by e (record p { waiting = w }) ≡ frames_by e p
frames_by-queue (puts f) p w = refl
frames_by-queue (honours c) p w = refl

pub frames_of-queue : (xs : List Entry) (p : PeerState) (w : List Frame) → frames_of xs (record p { waiting = w }) ≡ frames_of xs p
frames_of-queue [] p w = refl
frames_of-queue (e ∷ xs) p w =
    ap (λ (x : List Frame). x ++ frames_of xs (enter e (record p { waiting = w }))) (frames_by-queue e p w)
    ∙ ap (λ (x : List Frame). frames_by e p ++ x)
    (ap (frames_of xs) (enter-queue e p w) ∙ frames_of-queue xs (enter e p) (w ++ frames_by e p))

pub enter_all-queue : (xs : List Entry) (p : PeerState) (w : List Frame) → enter_all xs (record p { waiting = w }) ≡ record (enter_all xs p) { waiting = w ++ frames_of xs p }
enter_all-queue [] p w = ap (λ (x : List Frame). record p { waiting = x }) (sym (append-nil w))
enter_all-queue (e ∷ xs) p w =
    ap (enter_all xs) (enter-queue e p w)
    ∙ (enter_all-queue xs (enter e p) (w ++ frames_by e p)
    ∙ ap (λ (x : List Frame). record (enter_all xs (enter e p)) { waiting = x }) (append_assoc w (frames_by e p) (frames_of xs (enter e p))))

enter-version : (e : Entry) (p : PeerState) → (enter e p).version ≡ p.version
enter-version (puts f) p = refl
enter-version (honours c) p = refl

pub enter_all-version : (xs : List Entry) (p : PeerState) → (enter_all xs p).version ≡ p.version
enter_all-version [] p = refl
enter_all-version (e ∷ xs) p = enter_all-version xs (enter e p) ∙ enter-version e p

enter-rings : (e : Entry) (p : PeerState) → (enter e p).capacities ≡ p.capacities
enter-rings (puts f) p = refl
enter-rings (honours c) p = refl

pub enter_all-rings : (xs : List Entry) (p : PeerState) → (enter_all xs p).capacities ≡ p.capacities
enter_all-rings [] p = refl
enter_all-rings (e ∷ xs) p = enter_all-rings xs (enter e p) ∙ enter-rings e p

-- frames entered by these calls of the peer, and no message was begun or written
pub record Puts (entered : List Entry) (s s' : SchedulerState) : Type 0 where
  pub peer : s'.peer ≡ enter_all entered s.peer
  pub begun : s'.begun ≡ s.begun

steps_put : (n : Notice) (s s' : SchedulerState) → Steps n s s' → (entered : List Entry) × Puts entered s s'
steps_put n s s' (inl (inl sends)) = (puts (Send n.channel sends.body) ∷ [], record { peer = ap (λ (x : SchedulerState). x.peer) sends.after; begun = ap (λ (x : SchedulerState). x.begun) sends.after })
steps_put n s s' (inl (inr grants)) = ([], record { peer = ap (λ (x : SchedulerState). x.peer) grants.after; begun = ap (λ (x : SchedulerState). x.begun) grants.after })
steps_put n s s' (inr (inl bounds)) = (puts (frame_of_bound n.channel bounds.bound) ∷ [], record { peer = ap (λ (x : SchedulerState). x.peer) bounds.after; begun = ap (λ (x : SchedulerState). x.begun) bounds.after })
steps_put n s s' (inr (inr notifies)) = ([], record { peer = ap (λ (x : SchedulerState). x.peer) notifies.after; begun = ap (λ (x : SchedulerState). x.begun) notifies.after })

pub puts_then : (xs ys : List Entry) (s mid s' : SchedulerState) → Puts xs s mid → Puts ys mid s' → Puts (xs ++ ys) s s'
puts_then xs ys s mid s' first later = record {
  peer = later.peer ∙ (ap (enter_all ys) first.peer ∙ sym (enter_all-append xs ys s.peer));
  begun = later.begun ∙ first.begun;
}

ran_put : (ran : List Notice) (s s' : SchedulerState) → Ran ran s s' → (entered : List Entry) × Puts entered s s'
ran_put [] s s' e = ([], record { peer = ap (λ (x : SchedulerState). x.peer) e; begun = ap (λ (x : SchedulerState). x.begun) e })
ran_put (n ∷ later) s s' h =
    let first = steps_put n s h.0 h.1.0 in
    let rest = ran_put later h.0 s' h.1.1 in
    (first.0 ++ rest.0, puts_then first.0 rest.0 s h.0 s' first.1 rest.1)

-- calls that proceed put frames
pub settles_put : (l l' : LinesState) → Settles l l' → (entered : List Entry) × Puts entered l.scheduler l'.scheduler
settles_put l l' h = ran_put h.runs.ran l.scheduler l'.scheduler h.runs.steps

-- what they leave of the rings of the peer
pub settles_rings : (l l' : LinesState) → Settles l l' → l'.scheduler.peer.capacities ≡ l.scheduler.peer.capacities
settles_rings l l' h =
    let puts = settles_put l l' h in
    ap (λ (p : PeerState). p.capacities) puts.1.peer ∙ enter_all-rings puts.0 l.scheduler.peer

pub settles_begun : (l l' : LinesState) → Settles l l' → l'.scheduler.begun ≡ l.scheduler.begun
settles_begun l l' h = (settles_put l l' h).1.begun

-- closing puts frames, too
finish_by : (s : SchedulerState) (f : Frame) (a b : Bool) → (entered : List Entry) × Puts entered s (if a then s else (if b then put_frame s f else s))
finish_by s f true b = ([], record { peer = refl; begun = refl })
finish_by s f false true = (puts f ∷ [], record { peer = refl; begun = refl })
finish_by s f false false = ([], record { peer = refl; begun = refl })

finish_put : (channels : List Channel) (s : SchedulerState) → (entered : List Entry) × Puts entered s (finish_among s channels)
finish_put [] s = ([], record { peer = refl; begun = refl })
finish_put (c ∷ channels) s =
    let first = finish_by s (frame_of_bound c (last_bound s.peer.version)) (is_finished s.peer c) (has_control_slot s.peer s.asides) in
    let rest = finish_put channels (finish s c) in
    (first.0 ++ rest.0, puts_then first.0 rest.0 s (finish s c) (finish_among s (c ∷ channels)) first.1 rest.1)

abandon_put : (channels : List Channel) (s : SchedulerState) → Puts [] s (abandon_among s channels)
abandon_put [] s = record { peer = refl; begun = refl }
abandon_put (c ∷ channels) s = let rest = abandon_put channels (abandon s c) in record { peer = rest.peer; begun = rest.begun }

pub close_put : (s : SchedulerState) → (entered : List Entry) × Puts entered s (close s)
close_put s =
    let given_up = abandon_put every_channel s in
    let later = finish_put every_channel (abandon_among s every_channel) in
    (later.0, record { peer = later.1.peer ∙ ap (enter_all later.0) given_up.peer; begun = later.1.begun ∙ given_up.begun })

-- what is due enters, too
due_put : (d : Due) (s : SchedulerState) → (entered : List Entry) × Puts entered s (put_due s d)
due_put (Put control) s = (puts (frame_of_control control) ∷ [], record { peer = refl; begun = refl })
due_put (Honour c) s = (honours c ∷ [], record { peer = refl; begun = refl })

goes_put : (d : Due) (l l' : LinesState) → Goes d l l' → (entered : List Entry) × Puts entered l.scheduler l'.scheduler
goes_put d l l' (inl enters) =
    let first = due_put d l.scheduler in
    let rest = settles_put (with_scheduler l (put_due l.scheduler d)) l' enters.settles in
    (first.0 ++ rest.0, puts_then first.0 rest.0 l.scheduler (put_due l.scheduler d) l'.scheduler first.1 rest.1)
goes_put d l l' (inr dropped) = ([], record { peer = ap (λ (x : LinesState). x.scheduler.peer) dropped.same; begun = ap (λ (x : LinesState). x.scheduler.begun) dropped.same })

went_put : (went : List Due) (o : OwedState) (l : LinesState) (o' : OwedState) (l' : LinesState) → Went went o l o' l' → (entered : List Entry) × Puts entered l.scheduler l'.scheduler
went_put [] o l o' l' h = ([], record { peer = ap (λ (x : LinesState). x.scheduler.peer) h.1; begun = ap (λ (x : LinesState). x.scheduler.begun) h.1 })
went_put (d ∷ later) o l o' l' h =
    let mid = h.1.0 in
    let first = goes_put d l mid h.1.1.0 in
    let rest = went_put later (without_due o d) mid o' l' h.1.1.1 in
    (first.0 ++ rest.0, puts_then first.0 rest.0 l.scheduler mid.scheduler l'.scheduler first.1 rest.1)

all_put : (o : OwedState) (l : LinesState) (o' : OwedState) (l' : LinesState) → PutsAll o l o' l' → (entered : List Entry) × Puts entered l.scheduler l'.scheduler
all_put o l o' l' h = went_put h.went o l h.rest l' h.steps

pub unless_put : (closing : Bool) (o : OwedState) (l : LinesState) (o' : OwedState) (l' : LinesState) → PutsUnless closing o l o' l' → (entered : List Entry) × Puts entered l.scheduler l'.scheduler
unless_put true o l o' l' h = ([], record { peer = ap (λ (x : LinesState). x.scheduler.peer) h.1; begun = ap (λ (x : LinesState). x.scheduler.begun) h.1 })
unless_put false o l o' l' h = all_put o l o' l' h

pub flush_put : (closing : Bool) (o : OwedState) (l : LinesState) (o' : OwedState) (l' : LinesState) → FlushesUnless closing o l o' l' → (entered : List Entry) × Puts entered l.scheduler l'.scheduler
flush_put true o l o' l' h = ([], record { peer = ap (λ (x : LinesState). x.scheduler.peer) h.1; begun = ap (λ (x : LinesState). x.scheduler.begun) h.1 })
flush_put false o l o' l' h = all_put (by_policies o l.scheduler) l o' l' h

pub flows_put : (closing : Bool) (o : OwedState) (l : LinesState) (o' : OwedState) (l' : LinesState) → SettlesAndPuts closing o l o' l' → (entered : List Entry) × Puts entered l.scheduler l'.scheduler
flows_put closing o l o' l' h =
    let first = settles_put l h.0 h.1.0 in
    let rest = unless_put closing o h.0 o' l' h.1.1 in
    (first.0 ++ rest.0, puts_then first.0 rest.0 l.scheduler h.0.scheduler l'.scheduler first.1 rest.1)

pub flows_begun : (closing : Bool) (o : OwedState) (l : LinesState) (o' : OwedState) (l' : LinesState) → SettlesAndPuts closing o l o' l' → l'.scheduler.begun ≡ l.scheduler.begun
flows_begun closing o l o' l' h = (flows_put closing o l o' l' h).1.begun

pub flush_rings : (closing : Bool) (o : OwedState) (l : LinesState) (o' : OwedState) (l' : LinesState) → FlushesUnless closing o l o' l' → l'.scheduler.peer.capacities ≡ l.scheduler.peer.capacities
flush_rings closing o l o' l' h =
    let puts = flush_put closing o l o' l' h in
    ap (λ (p : PeerState). p.capacities) puts.1.peer ∙ enter_all-rings puts.0 l.scheduler.peer

-- a notice that is taken lets calls proceed
pub notices_put : (n : Notice) (l l' : LinesState) → NoticesNext n l l' → (entered : List Entry) × Puts entered l.scheduler l'.scheduler
notices_put n l l' (inl took) = settles_put (record l { notices = took.later }) l' took.settles
notices_put n l l' (inr hopeless) =
    let rest = settles_put (with_scheduler l hopeless.scheduler) l' hopeless.settles in
    let given_up : Puts [] l.scheduler hopeless.scheduler = record { peer = ap (λ (s : SchedulerState). s.peer) hopeless.gives_up.after; begun = ap (λ (s : SchedulerState). s.begun) hopeless.gives_up.after } in
    (rest.0, puts_then [] rest.0 l.scheduler hopeless.scheduler l'.scheduler given_up rest.1)

-- what the calls put that a frame leaves behind which is taken
pub takes_put : (closing : Bool) (o : OwedState) (l : LinesState) (o' : OwedState) (l' : LinesState) → TakesFrame closing o l o' l' → (entered : List Entry) × Puts entered (take_frame l.scheduler) l'.scheduler
takes_put false o l o' l' h = flows_put false o (with_scheduler l (take_frame l.scheduler)) o' l' h
takes_put true o l o' l' h =
    let between = h.1.0 in
    let first = settles_put (with_scheduler l (take_frame l.scheduler)) between h.1.1.0 in
    let rest = close_put between.scheduler in
    let all = puts_then first.0 rest.0 (take_frame l.scheduler) between.scheduler (close between.scheduler) first.1 rest.1 in
    (first.0 ++ rest.0, subst (λ (x : LinesState). Puts (first.0 ++ rest.0) (take_frame l.scheduler) x.scheduler) (sym h.1.1.1) all)

-- where no call waits, nothing proceeds
no_front_by : (notified : Bool) (calls : List Call) (call : Call) → calls ≡ [] → (if notified then None else slice_get calls 0) ≡ Some call → ⊥
no_front_by true calls call e f = cc
no_front_by false calls call e f = let none : slice_get calls 0 ≡ None = ap (λ (x : List Call). slice_get x 0) e in cc

no_front : (s : SchedulerState) (c : Channel) (call : Call) → NoneWaits s → front s c ≡ Some call → ⊥
no_front s c call none f = no_front_by (queue s c).notified (queue s c).calls call (none c).calls f

no_step : (n : Notice) (s s' : SchedulerState) → NoneWaits s → Steps n s s' → ⊥
no_step n s s' none (inl (inl sends)) = no_front s n.channel sends.call none sends.next.first
no_step n s s' none (inl (inr grants)) = no_front s n.channel grants.call none grants.next.first
no_step n s s' none (inr (inl bounds)) = no_front s n.channel bounds.call none bounds.first
no_step n s s' none (inr (inr notifies)) = no_front s n.channel notifies.call none notifies.next.first

none_ran : (ran : List Notice) (s s' : SchedulerState) → NoneWaits s → Ran ran s s' → s' ≡ s
none_ran [] s s' none h = h
none_ran (n ∷ later) s s' none h = absurd (no_step n s h.0 none h.1.0)

pub none_settles : (l l' : LinesState) → NoneWaits l.scheduler → Settles l l' → l'.scheduler ≡ l.scheduler
none_settles l l' none h = none_ran h.runs.ran l.scheduler l'.scheduler none h.runs.steps

-- what is written leaves all closed, and so does whatever changes where all is closed
pub closed_unless : (closing : Bool) (o : OwedState) (l : LinesState) (o' : OwedState) (l' : LinesState) → closing ≡ true → PutsUnless closing o l o' l' → l' ≡ l
closed_unless true o l o' l' e h = h.1
closed_unless false o l o' l' e h = cc

pub closed_write : (n : ℕ) (closing : Bool) (o : OwedState) (l : LinesState) (o' : OwedState) (l' : LinesState) → closing ≡ true → IsClosed l.scheduler → SettlesAndPuts closing o (with_scheduler l (write l.scheduler n)) o' l' → IsClosed l'.scheduler
closed_write n closing o l o' l' e closed h =
    let same = none_settles (with_scheduler l (write l.scheduler n)) h.0 (λ c. record { calls = (closed.none c).calls; permits = (closed.none c).permits }) h.1.0 in
    let is : IsClosed h.0.scheduler = subst IsClosed (sym same) (record { none = λ c. record { calls = (closed.none c).calls; permits = (closed.none c).permits }; finished = closed.finished }) in
    subst (λ (x : LinesState). IsClosed x.scheduler) (sym (closed_unless closing o h.0 o' l' e h.1.1)) is
