-- What closing leaves: no call waits and no permit is out, and each channel is finished or lacks a slot alone.
use Rattle.std.proofs.Common.{◌≡◌, ◌≢◌, ◌<◌, ◌⊎◌, ℕ, Bool, true, false, if◌then◌else◌, List, [], ◌∷◌, length, Option, Some, None, inl, inr, refl, sym, ap, ◌∙◌, subst, arith}
use Rattle.std.specs.Prelude.{◌==◌, ◌&&◌, nat_lt, is_none, slice_get}
use Rattle.std.proofs.Math.ListN.{length-set}
use Rattle.std.proofs.lemmas.Bool.Decides.{nat_tests}
use Rattle.std.proofs.lemmas.List.{get_or-set_same, get_or-set_other}
use Rattle.lc_frame.specs.declared.channel.Channel.{Channel}
use Rattle.lc_frame.specs.declared.channel.Channel.TheVariants.{Reconciliation, Data, Overlap, Capability, AreaOfInterest, PayloadRequest, StaticToken}
use Rattle.lc_frame.specs.declared.frame.Frame.TheVariants.{LimitSending, Finish}
use Rattle.lc_frame.specs.declared.version.Version.{Version}
use Rattle.lc_frame.specs.declared.version.Version.TheVariants.{One, Two}
use Rattle.lc_frame.specs.Channel.{channel_count, number_of, is_same}
use Rattle.lc_frame.proofs.Channels.{number_below}
use Rattle.lc_book.specs.Client.{Client, IsClient}
use Rattle.lc_book.specs.Limit.{limit_refusal}
use Rattle.lc_book.specs.Finish.{finished_refusal_or}
use Rattle.lc_book.specs.declared.fault.Refusal.{Refusal}
use Rattle.lc_book.specs.declared.fault.Refusal.TheVariants.{WrongVersion}
use Rattle.lc_frame.specs.declared.kind.Kind.TheVariants as kind
use Rattle.lc_frame.specs.Kind.{has}
use Rattle.lc_peer.specs.Peer.{PeerState, client, channel}
use Rattle.lc_peer.specs.Calls.{put, channel_after_put}
use Rattle.lc_lines.specs.declared.queue.Call.{Call}
use Rattle.lc_lines.specs.Queue.{QueueState, empty_queue, without_calls}
use Rattle.lc_lines.specs.declared.permits.Aside.{Aside}
use Rattle.lc_lines.specs.Permits.{no_permits, permits_on}
use Rattle.lc_lines.specs.Bounds.{frame_of_bound, bound_refusal}
use Rattle.lc_lines.specs.Outbound.{every_channel, has_control_slot}
use Rattle.lc_lines.specs.Scheduler.{SchedulerState, queue, put_frame, can_call_proceed, can_bound, IsSettled}
use Rattle.lc_lines.specs.Closing.{last_bound, is_finished_in, is_finished, abandon, abandon_among, finish, finish_among, IsAbandoned, NoneWaits, IsFinishedOrLacksSlot}
use Rattle.lc_lines.proofs.Guarantees.{client_here, client_there, by_channel}
use Rattle.lc_lines.proofs.Queued.{aside_here, aside_there}

-- a channel is among these
abbrev In : Channel → List Channel → Type 0
In c [] = ⊥
In c (d ∷ channels) = (d ≡ c) ⊎ In c channels

in_every : (c : Channel) → In c every_channel
in_every Reconciliation = inl refl
in_every Data = inr (inl refl)
in_every Overlap = inr (inr (inl refl))
in_every Capability = inr (inr (inr (inl refl)))
in_every AreaOfInterest = inr (inr (inr (inr (inl refl))))
in_every PayloadRequest = inr (inr (inr (inr (inr (inl refl)))))
in_every StaticToken = inr (inr (inr (inr (inr (inr (inl refl))))))

-- every channel has its wait queue and its permits
record Places (s : SchedulerState) : Type 0 where
  pub queues : length s.queues ≡ channel_count
  pub asides : length s.asides ≡ channel_count

places_abandon : (s : SchedulerState) (c : Channel) → Places s → Places (abandon s c)
places_abandon s c p = record { queues = length-set s.queues (number_of c) (without_calls (queue s c)) ∙ p.queues; asides = length-set s.asides (number_of c) no_permits ∙ p.asides }

abandoned_here : (s : SchedulerState) (c : Channel) → Places s → IsAbandoned (abandon s c) c
abandoned_here s c p =
    let lt : number_of c < length s.queues = omega (arith, number_below c, p.queues) in
    record {
      calls = ap (λ (q : QueueState). q.calls) (get_or-set_same s.queues (number_of c) (without_calls (queue s c)) empty_queue lt);
      permits = aside_here s.asides c no_permits p.asides;
    }

abandoned_there : (s : SchedulerState) (c d : Channel) → is_same d c ≡ false → IsAbandoned s d → IsAbandoned (abandon s c) d
abandoned_there s c d e was =
    let ne : number_of d ≢ number_of c = grind (arith, nat_tests) in
    record {
      calls = ap (λ (q : QueueState). q.calls) (get_or-set_other s.queues (number_of c) (number_of d) (without_calls (queue s c)) empty_queue ne) ∙ was.calls;
      permits = aside_there s.asides c d no_permits e ∙ was.permits;
    }

abandoned_keeps : (s : SchedulerState) (c d : Channel) → Places s → IsAbandoned s d → IsAbandoned (abandon s c) d
abandoned_keeps s c d p was = by_channel (λ x. IsAbandoned s x → IsAbandoned (abandon s c) x) c d (is_same d c) refl (λ _. abandoned_here s c p) (λ x e. abandoned_there s c x e) was

abandoned_later : (channels : List Channel) (s : SchedulerState) (c : Channel) → Places s → IsAbandoned s c → IsAbandoned (abandon_among s channels) c
abandoned_later [] s c p was = was
abandoned_later (d ∷ channels) s c p was = abandoned_later channels (abandon s d) c (places_abandon s d p) (abandoned_keeps s d c p was)

abandoned_among : (channels : List Channel) (s : SchedulerState) (c : Channel) → Places s → In c channels → IsAbandoned (abandon_among s channels) c
abandoned_among [] s c p is = absurd is
abandoned_among (d ∷ channels) s c p (inl e) = abandoned_later channels (abandon s d) c (places_abandon s d p) (subst (λ (x : Channel). IsAbandoned (abandon s d) x) e (abandoned_here s d p))
abandoned_among (d ∷ channels) s c p (inr is) = abandoned_among channels (abandon s d) c (places_abandon s d p) is

-- where all is given up, nothing waits
pub none_waits : (s : SchedulerState) → length s.queues ≡ channel_count → length s.asides ≡ channel_count → NoneWaits (abandon_among s every_channel)
none_waits s queues asides = λ c. abandoned_among every_channel s c (record { queues = queues; asides = asides }) (in_every c)

front_none : (notified : Bool) (calls : List Call) (s : SchedulerState) (c : Channel) → calls ≡ [] → can_call_proceed s c (if notified then None else slice_get calls 0) ≡ false
front_none true calls s c e = refl
front_none false calls s c e = ap (λ (x : List Call). can_call_proceed s c (slice_get x 0)) e

-- where nothing waits, nothing can proceed
pub none_settled : (s : SchedulerState) → NoneWaits s → IsSettled s
none_settled s none = λ c. front_none (queue s c).notified (queue s c).calls s c (none c).calls

-- what is true of a scheduler and of it with a frame more is true of what a finish leaves
finish_by : (P : SchedulerState → Type 0) (s s' : SchedulerState) (a b : Bool) → P s → P s' → P (if a then s else (if b then s' else s))
finish_by P s s' true b h h' = h
finish_by P s s' false true h h' = h'
finish_by P s s' false false h h' = h

pub none_finished : (s : SchedulerState) (c : Channel) → NoneWaits s → NoneWaits (finish s c)
none_finished s c none = finish_by NoneWaits s (put_frame s (frame_of_bound c (last_bound s.peer.version))) (is_finished s.peer c) (has_control_slot s.peer s.asides) none (λ d. record { calls = (none d).calls; permits = (none d).permits })

-- a channel is finished by its last bound, and stays so
finished_here : (version : Version) (p : PeerState) (c : Channel) → length p.channels ≡ channel_count → is_finished_in version (client (put p (frame_of_bound c (last_bound version))) c) ≡ true
finished_here One p c places = ap (is_finished_in One) (client_here p c (channel_after_put (LimitSending c 0) (channel p c)) places)
finished_here Two p c places = ap (is_finished_in Two) (client_here p c (channel_after_put (Finish c) (channel p c)) places)

finished_there : (version : Version) (p : PeerState) (c d : Channel) → is_same d c ≡ false → is_finished_in version (client p d) ≡ true → is_finished_in version (client (put p (frame_of_bound c (last_bound version))) d) ≡ true
finished_there One p c d e was = ap (is_finished_in One) (client_there p c d (channel_after_put (LimitSending c 0) (channel p c)) e) ∙ was
finished_there Two p c d e was = ap (is_finished_in Two) (client_there p c d (channel_after_put (Finish c) (channel p c)) e) ∙ was

finished_keeps : (version : Version) (p : PeerState) (c d : Channel) → length p.channels ≡ channel_count → is_finished_in version (client p d) ≡ true → is_finished_in version (client (put p (frame_of_bound c (last_bound version))) d) ≡ true
finished_keeps version p c d places was =
    by_channel (λ x. is_finished_in version (client p x) ≡ true → is_finished_in version (client (put p (frame_of_bound c (last_bound version))) x) ≡ true) c d (is_same d c) refl
    (λ _. finished_here version p c places) (λ x e. finished_there version p c x e) was

places_put : (version : Version) (p : PeerState) (c : Channel) → length p.channels ≡ channel_count → length (put p (frame_of_bound c (last_bound version))).channels ≡ channel_count
places_put One p c places = length-set p.channels (number_of c) (channel_after_put (LimitSending c 0) (channel p c)) ∙ places
places_put Two p c places = length-set p.channels (number_of c) (channel_after_put (Finish c) (channel p c)) ∙ places

places_finish : (s : SchedulerState) (c : Channel) → length s.peer.channels ≡ channel_count → length (finish s c).peer.channels ≡ channel_count
places_finish s c places = finish_by (λ x. length x.peer.channels ≡ channel_count) s (put_frame s (frame_of_bound c (last_bound s.peer.version))) (is_finished s.peer c) (has_control_slot s.peer s.asides) places (places_put s.peer.version s.peer c places)

-- where no slot is free, a finish changes nothing
finish_lacks : (a b : Bool) (s s' : SchedulerState) → b ≡ false → (if a then s else (if b then s' else s)) ≡ s
finish_lacks true b s s' e = refl
finish_lacks false true s s' e = cc
finish_lacks false false s s' e = refl

done_keeps : (s : SchedulerState) (c d : Channel) → length s.peer.channels ≡ channel_count → IsFinishedOrLacksSlot s d → IsFinishedOrLacksSlot (finish s c) d
done_keeps s c d places (inl was) = inl (finish_by (λ x. is_finished x.peer d ≡ true) s (put_frame s (frame_of_bound c (last_bound s.peer.version))) (is_finished s.peer c) (has_control_slot s.peer s.asides) was (finished_keeps s.peer.version s.peer c d places was))
done_keeps s c d places (inr lacks) = inr (subst (λ (x : SchedulerState). has_control_slot x.peer x.asides ≡ false) (sym (finish_lacks (is_finished s.peer c) (has_control_slot s.peer s.asides) s (put_frame s (frame_of_bound c (last_bound s.peer.version))) lacks)) lacks)

done_by : (a b : Bool) (s s' : SchedulerState) (c : Channel) → is_finished s.peer c ≡ a → has_control_slot s.peer s.asides ≡ b → is_finished s'.peer c ≡ true → IsFinishedOrLacksSlot (if a then s else (if b then s' else s)) c
done_by true b s s' c finished slot after = inl finished
done_by false true s s' c finished slot after = inl after
done_by false false s s' c finished slot after = inr slot

done_here : (s : SchedulerState) (c : Channel) → length s.peer.channels ≡ channel_count → IsFinishedOrLacksSlot (finish s c) c
done_here s c places = done_by (is_finished s.peer c) (has_control_slot s.peer s.asides) s (put_frame s (frame_of_bound c (last_bound s.peer.version))) c refl refl (finished_here s.peer.version s.peer c places)

done_later : (channels : List Channel) (s : SchedulerState) (c : Channel) → length s.peer.channels ≡ channel_count → IsFinishedOrLacksSlot s c → IsFinishedOrLacksSlot (finish_among s channels) c
done_later [] s c places was = was
done_later (d ∷ channels) s c places was = done_later channels (finish s d) c (places_finish s d places) (done_keeps s d c places was)

done_among : (channels : List Channel) (s : SchedulerState) (c : Channel) → length s.peer.channels ≡ channel_count → In c channels → IsFinishedOrLacksSlot (finish_among s channels) c
done_among [] s c places is = absurd is
done_among (d ∷ channels) s c places (inl e) = done_later channels (finish s d) c (places_finish s d places) (subst (λ (x : Channel). IsFinishedOrLacksSlot (finish s d) x) e (done_here s d places))
done_among (d ∷ channels) s c places (inr is) = done_among channels (finish s d) c (places_finish s d places) is

pub all_done : (s : SchedulerState) → length s.peer.channels ≡ channel_count → (c : Channel) → IsFinishedOrLacksSlot (finish_among s every_channel) c
all_done s places c = done_among every_channel s c places (in_every c)

-- a channel that is not finished can be, where a slot is free
both : (a b c : Bool) → a ≡ true → b ≡ true → c ≡ true → (a && (b && c)) ≡ true
both true true true x y z = refl
both true true false x y z = cc
both true false c x y z = cc
both false b c x y z = cc

no_limit : (left : Option ℕ) → limit_refusal left 0 ≡ None
no_limit None = refl
no_limit (Some left) = let no : nat_lt left 0 ≡ false = grind (arith, nat_tests) in rw no refl

not_finished : (version : Version) (finished : Bool) → version ≡ One → (finished ≡ true → has version kind.Finish ≡ true) → finished ≡ false
not_finished version false is says = refl
not_finished version true is says = let no : has version kind.Finish ≡ false = ap (λ (v : Version). has v kind.Finish) is in let yes = says refl in cc

none_refused : (version : Version) (b : Client) → b.version ≡ version → IsClient b → is_finished_in version b ≡ false → bound_refusal b (last_bound version) ≡ None
none_refused One b is keeps unfinished =
    ap (λ (f : Bool). finished_refusal_or f (limit_refusal b.send_left 0)) (not_finished b.version b.finished is keeps.finish) ∙ no_limit b.send_left
none_refused Two b is keeps unfinished =
    ap (λ (v : Version). if has v kind.Finish then finished_refusal_or b.finished None else Some WrongVersion) is ∙ ap (λ (f : Bool). finished_refusal_or f None) unfinished

pub ready_to_finish : (s : SchedulerState) (c : Channel) → (client s.peer c).version ≡ s.peer.version → IsClient (client s.peer c) → is_finished s.peer c ≡ false → IsAbandoned s c → has_control_slot s.peer s.asides ≡ true → can_bound s c (last_bound s.peer.version) ≡ true
ready_to_finish s c is keeps unfinished none slot =
    both (is_none (bound_refusal (client s.peer c) (last_bound s.peer.version))) (permits_on s.asides c == 0) (has_control_slot s.peer s.asides)
    (ap (λ (o : Option Refusal). is_none o) (none_refused s.peer.version (client s.peer c) is keeps unfinished))
    (ap (λ (a : Aside). a.permits == 0) none.permits) slot
