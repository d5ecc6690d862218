-- The calls of each channel proceed in their order.
use Rattle.std.proofs.Common.{◌≡◌, ◌≢◌, ℕ, ◌<◌, ◌⊎◌, inl, inr, Bool, true, false, if◌then◌else◌, List, [], ◌∷◌, ◌++◌, length, drop, Option, Some, None, refl, sym, ap, ◌∙◌, subst, arith, append_assoc}
use Rattle.std.specs.Prelude.{slice_get}
use Rattle.std.proofs.lemmas.List.{get_or-set_same, get_or-set_other, append-nil}
use Rattle.std.proofs.lemmas.Bool.Decides.{nat_tests}
use Rattle.std.proofs.Math.ListN.{length-set}
use Rattle.lc_frame.specs.declared.channel.Channel.{Channel}
use Rattle.lc_frame.specs.declared.frame.Frame.{Frame}
use Rattle.lc_frame.specs.declared.frame.Frame.TheVariants.{Send}
use Rattle.lc_frame.specs.Channel.{channel_count, number_of, is_same}
use Rattle.lc_frame.proofs.Channels.{number_below, same_from_number}
use Rattle.lc_lines.specs.declared.queue.Call.{Call}
use Rattle.lc_lines.specs.declared.scheduler.Notice.{Notice}
use Rattle.lc_lines.specs.declared.queue.Bound.{Bound}
use Rattle.lc_lines.specs.declared.queue.Bound.TheVariants as kind
use Rattle.lc_lines.specs.Bounds.{frame_of_bound}
use Rattle.lc_lines.specs.declared.queue.Ask.{Ask}
use Rattle.lc_lines.specs.declared.queue.Ask.TheVariants.{Message, Offer, Permit, End}
use Rattle.lc_lines.specs.declared.scheduler.Outcome.{Outcome}
use Rattle.lc_lines.specs.declared.scheduler.Outcome.TheVariants.{Completed}
use Rattle.lc_lines.specs.Queue.{QueueState, empty_queue, without_first}
use Rattle.lc_lines.specs.Scheduler.{SchedulerState, queue, front, count_after, with_queue, with_notified, proceed, proceed_by_grant, proceed_by_bound, Proceeds, Grants, Completes, Bounds, Notifies, Steps}
use Rattle.lc_lines.specs.Order.{with_ticket, tickets_on, is_sending, sending, with_frame, put_by, ProceedInOrder, CallsProceedInOrder, ProceedingKeepsOrder, BoundsKeepTheirPlaces}

first_of : (calls : List Call) (call : Call) → slice_get calls 0 ≡ Some call → calls ≡ call ∷ drop 1 calls
first_of [] call e = cc
first_of (d ∷ calls) call e = let same : d ≡ call = cc in ap (λ (x : Call). x ∷ calls) same

-- the first call, which was not notified
first_by : (notified : Bool) (o : Option Call) (call : Call) → (if notified then None else o) ≡ Some call → o ≡ Some call
first_by true o call e = cc
first_by false o call e = e

-- the wait queue of a channel that is changed, and any other
queue_here : (s : SchedulerState) (g : Channel) (q : QueueState) → length s.queues ≡ channel_count → queue (with_queue s g q) g ≡ q
queue_here s g q places =
    let lt : number_of g < length s.queues = omega (arith, number_below g) in
    get_or-set_same s.queues (number_of g) q empty_queue lt

queue_there : (s : SchedulerState) (c g : Channel) (q : QueueState) → number_of c ≢ number_of g → queue (with_queue s g q) c ≡ queue s c
queue_there s c g q ne = get_or-set_other s.queues (number_of g) (number_of c) q empty_queue ne

-- the calls of a channel whose first call is notified, and of any other
calls_same : (s : SchedulerState) (c g : Channel) (b : Bool) → is_same c g ≡ b → length s.queues ≡ channel_count → (queue (with_notified s g true) c).calls ≡ (queue s c).calls
calls_same s c g true e places =
    let same : number_of c ≡ number_of g = grind (arith, nat_tests) in
    rw same (ap (λ (q : QueueState). q.calls) (queue_here s g (record (queue s g) { notified = true; noted = s.left }) places))
calls_same s c g false e places =
    let ne : number_of c ≢ number_of g = grind (arith, nat_tests) in
    ap (λ (q : QueueState). q.calls) (queue_there s c g (record (queue s g) { notified = true; noted = s.left }) ne)

-- the calls of the channel whose call proceeds, and of any other
calls_here : (s : SchedulerState) (g : Channel) (body : List ℕ) → length s.queues ≡ channel_count → (queue (proceed s g body) g).calls ≡ drop 1 (queue s g).calls
calls_here s g body places =
    let mid = with_queue s g (without_first (queue s g)) in
    let mid_is : queue mid g ≡ without_first (queue s g) = queue_here s g (without_first (queue s g)) places in
    let mid_places : length mid.queues ≡ channel_count = simp length-set places in
    let sent : QueueState = record (queue mid g) { last = count_after s.sent } in
    let here : queue (proceed s g body) g ≡ sent = queue_here mid g sent mid_places in
    ap (λ (q : QueueState). q.calls) here ∙ ap (λ (q : QueueState). q.calls) mid_is

pub proceed_same : (s : SchedulerState) (c g : Channel) (body : List ℕ) → length s.queues ≡ channel_count → number_of c ≡ number_of g → (queue (proceed s g body) c).calls ≡ drop 1 (queue s c).calls
proceed_same s c g body places e = rw e (calls_here s g body places)

pub proceed_other : (s : SchedulerState) (c g : Channel) (body : List ℕ) → number_of c ≢ number_of g → queue (proceed s g body) c ≡ queue s c
proceed_other s c g body ne =
    let mid = with_queue s g (without_first (queue s g)) in
    queue_there mid c g (record (queue mid g) { last = count_after s.sent }) ne ∙ queue_there s c g (without_first (queue s g)) ne

-- what a grant leaves of wait queues is what a message would: both take a call and a turn
granted_queue : (s : SchedulerState) (c g : Channel) (len : ℕ) → queue (proceed_by_grant s g len) c ≡ queue (proceed s g []) c
granted_queue s c g len = refl

-- what a bound leaves of wait queues
bounded_same : (s : SchedulerState) (c g : Channel) (bound : Bound) → length s.queues ≡ channel_count → number_of c ≡ number_of g → (queue (proceed_by_bound s g bound) c).calls ≡ drop 1 (queue s c).calls
bounded_same s c g bound places e = rw e (ap (λ (q : QueueState). q.calls) (queue_here s g (without_first (queue s g)) places))

bounded_other : (s : SchedulerState) (c g : Channel) (bound : Bound) → number_of c ≢ number_of g → queue (proceed_by_bound s g bound) c ≡ queue s c
bounded_other s c g bound ne = queue_there s c g (without_first (queue s g)) ne

with_frame_of : (c : Channel) (ask ask' : Ask) (frames : List Frame) → ask ≡ ask' → with_frame c ask frames ≡ with_frame c ask' frames
with_frame_of c ask ask' frames e = ap (λ (a : Ask). with_frame c a frames) e

frame_before : (c : Channel) (ask : Ask) (xs ys : List Frame) → with_frame c ask (xs ++ ys) ≡ with_frame c ask xs ++ ys
frame_before c (Message body) xs ys = refl
frame_before c (Offer len) xs ys = refl
frame_before c (Permit len) xs ys = refl
frame_before c (End bound) xs ys = refl

put_append : (c : Channel) (xs ys : List Call) → put_by c (xs ++ ys) ≡ put_by c xs ++ put_by c ys
put_append c [] ys = refl
put_append c (call ∷ xs) ys = ap (with_frame c call.ask) (put_append c xs ys) ∙ frame_before c call.ask (put_by c xs) (put_by c ys)

sending_one : (c : Channel) (f : Frame) (b : Bool) (xs ys : List Frame) → (if b then f ∷ (xs ++ ys) else (xs ++ ys)) ≡ (if b then f ∷ xs else xs) ++ ys
sending_one c f true xs ys = refl
sending_one c f false xs ys = refl

sending_append : (c : Channel) (xs ys : List Frame) → sending c (xs ++ ys) ≡ sending c xs ++ sending c ys
sending_append c [] ys = refl
sending_append c (f ∷ xs) ys =
    ap (λ (zs : List Frame). if is_sending c f then f ∷ zs else zs) (sending_append c xs ys)
    ∙ sending_one c f (is_sending c f) (sending c xs) (sending c ys)

-- what a channel queues by the frame of a call, if it is the call's own channel
abbrev queued_by : Bool → Channel → Ask → List Frame
queued_by true c ask = with_frame c ask []
queued_by false c ask = []

message_on : (c g : Channel) (body : List ℕ) (b : Bool) → is_same c g ≡ b → sending c (Send g body ∷ []) ≡ queued_by b c (Message body)
message_on c g body true e =
    let number : number_of c ≡ number_of g = grind (arith, nat_tests) in
    rw e (ap (λ (x : Channel). Send x body ∷ []) (sym (same_from_number c g number)))
message_on c g body false e = rw e refl

bound_on : (c g : Channel) (bound : Bound) (b : Bool) → is_same c g ≡ b → sending c (frame_of_bound g bound ∷ []) ≡ queued_by b c (End bound)
bound_on c g (kind.Limit n) true e =
    let number : number_of c ≡ number_of g = grind (arith, nat_tests) in
    rw e (ap (λ (x : Channel). frame_of_bound x (kind.Limit n) ∷ []) (sym (same_from_number c g number)))
bound_on c g kind.Finish true e =
    let number : number_of c ≡ number_of g = grind (arith, nat_tests) in
    rw e (ap (λ (x : Channel). frame_of_bound x kind.Finish ∷ []) (sym (same_from_number c g number)))
bound_on c g (kind.Limit n) false e = rw e refl
bound_on c g kind.Finish false e = rw e refl

permit_on : (c : Channel) (len : ℕ) (b : Bool) → [] ≡ queued_by b c (Permit len)
permit_on c len true = refl
permit_on c len false = refl

-- a call is completed: it was the first of its channel, and its frame, if it has one, is queued
record IsCompleted (n : Notice) (s mid : SchedulerState) : Type 0 where
  pub call : Call
  pub ticket : n.ticket ≡ call.ticket
  pub outcome : n.outcome ≡ Completed
  pub first : slice_get (queue s n.channel).calls 0 ≡ Some call
  pub here : (c : Channel) → number_of c ≡ number_of n.channel → (queue mid c).calls ≡ drop 1 (queue s c).calls
  pub there : (c : Channel) → number_of c ≢ number_of n.channel → queue mid c ≡ queue s c
  pub stream : (c : Channel) (b : Bool) → is_same c n.channel ≡ b → sending c mid.peer.waiting ≡ sending c s.peer.waiting ++ queued_by b c call.ask

front_of : (s : SchedulerState) (g : Channel) (call : Call) → front s g ≡ Some call → slice_get (queue s g).calls 0 ≡ Some call
front_of s g call e = first_by (queue s g).notified (slice_get (queue s g).calls 0) call e

proceeded : (n : Notice) (s mid : SchedulerState) → length s.queues ≡ channel_count → Proceeds n s mid → IsCompleted n s mid
proceeded n s mid places proceeds =
    let body = proceeds.body in
    record {
      call = proceeds.call;
      ticket = proceeds.ticket;
      outcome = proceeds.outcome;
      first = front_of s n.channel proceeds.call proceeds.next.first;
      here = λ c e. ap (λ (m : SchedulerState). (queue m c).calls) proceeds.after ∙ proceed_same s c n.channel body places e;
      there = λ c ne. ap (λ (m : SchedulerState). queue m c) proceeds.after ∙ proceed_other s c n.channel body ne;
      stream = λ c b e. ap (λ (m : SchedulerState). sending c m.peer.waiting) proceeds.after
          ∙ (sending_append c s.peer.waiting (Send n.channel body ∷ [])
          ∙ ap (λ (xs : List Frame). sending c s.peer.waiting ++ xs) (message_on c n.channel body b e ∙ ap (λ (a : Ask). queued_by b c a) (sym proceeds.ask)));
    }

granted : (n : Notice) (s mid : SchedulerState) → length s.queues ≡ channel_count → Grants n s mid → IsCompleted n s mid
granted n s mid places grants = record {
  call = grants.call;
  ticket = grants.ticket;
  outcome = grants.outcome;
  first = front_of s n.channel grants.call grants.next.first;
  here = λ c e. ap (λ (m : SchedulerState). (queue m c).calls) grants.after ∙ (ap (λ (q : QueueState). q.calls) (granted_queue s c n.channel grants.len) ∙ proceed_same s c n.channel [] places e);
  there = λ c ne. ap (λ (m : SchedulerState). queue m c) grants.after ∙ (granted_queue s c n.channel grants.len ∙ proceed_other s c n.channel [] ne);
  stream = λ c b e. ap (λ (m : SchedulerState). sending c m.peer.waiting) grants.after
      ∙ (sym (append-nil (sending c s.peer.waiting))
      ∙ ap (λ (xs : List Frame). sending c s.peer.waiting ++ xs) (permit_on c grants.len b ∙ ap (λ (a : Ask). queued_by b c a) (sym grants.ask)));
}

bounded : (n : Notice) (s mid : SchedulerState) → length s.queues ≡ channel_count → Bounds n s mid → IsCompleted n s mid
bounded n s mid places bounds = record {
  call = bounds.call;
  ticket = bounds.ticket;
  outcome = bounds.outcome;
  first = front_of s n.channel bounds.call bounds.first;
  here = λ c e. ap (λ (m : SchedulerState). (queue m c).calls) bounds.after ∙ bounded_same s c n.channel bounds.bound places e;
  there = λ c ne. ap (λ (m : SchedulerState). queue m c) bounds.after ∙ bounded_other s c n.channel bounds.bound ne;
  stream = λ c b e. ap (λ (m : SchedulerState). sending c m.peer.waiting) bounds.after
      ∙ (sending_append c s.peer.waiting (frame_of_bound n.channel bounds.bound ∷ [])
      ∙ ap (λ (xs : List Frame). sending c s.peer.waiting ++ xs) (bound_on c n.channel bounds.bound b e ∙ ap (λ (a : Ask). queued_by b c a) (sym bounds.ask)));
}

module _ (n : Notice) (ran : List Notice) (c : Channel) (s mid s' : SchedulerState) (done : IsCompleted n s mid) (later : ProceedInOrder ran c mid s') where
  ticket_is : with_ticket n.outcome n.ticket (tickets_on c ran) ≡ done.call.ticket ∷ tickets_on c ran
  ticket_is = ap (λ (o : Outcome). with_ticket o n.ticket (tickets_on c ran)) done.outcome ∙ ap (λ (t : ℕ). t ∷ tickets_on c ran) done.ticket

  complete_step : (b : Bool) → is_same c n.channel ≡ b → ProceedInOrder (n ∷ ran) c s s'
  complete_step true e =
      let same : number_of c ≡ number_of n.channel = grind (arith, nat_tests) in
      let front_is : slice_get (queue s c).calls 0 ≡ Some done.call = rw same done.first in
      let put = put_by c later.sent in
      record {
        sent = done.call ∷ later.sent;
        tickets = rw e (ap (λ (xs : List ℕ). done.call.ticket ∷ xs) later.tickets ∙ sym ticket_is);
        first = first_of (queue s c).calls done.call front_is ∙ ap (λ (xs : List Call). done.call ∷ xs) (sym (done.here c same) ∙ later.first);
        stream = later.stream
            ∙ (ap (λ (xs : List Frame). xs ++ put) (done.stream c true e)
            ∙ (append_assoc (sending c s.peer.waiting) (with_frame c done.call.ask []) put
            ∙ ap (λ (xs : List Frame). sending c s.peer.waiting ++ xs) (sym (frame_before c done.call.ask [] put))));
      }
  complete_step false e =
      let other : number_of c ≢ number_of n.channel = grind (arith, nat_tests) in
      record {
        sent = later.sent;
        tickets = rw e later.tickets;
        first = sym (ap (λ (q : QueueState). q.calls) (done.there c other)) ∙ later.first;
        stream = later.stream ∙ ap (λ (xs : List Frame). xs ++ put_by c later.sent) (done.stream c false e ∙ append-nil (sending c s.peer.waiting));
      }

module _ (n : Notice) (ran : List Notice) (c : Channel) (s mid s' : SchedulerState) (places : length s.queues ≡ channel_count) (notifies : Notifies n s mid) (later : ProceedInOrder ran c mid s') where
  no_ticket : with_ticket n.outcome n.ticket (tickets_on c ran) ≡ tickets_on c ran
  no_ticket = ap (λ (o : Outcome). with_ticket o n.ticket (tickets_on c ran)) notifies.outcome

  same_tickets : (b : Bool) → is_same c n.channel ≡ b → tickets_on c ran ≡ tickets_on c (n ∷ ran)
  same_tickets true e = rw e (sym no_ticket)
  same_tickets false e = rw e refl

  notify_step : ProceedInOrder (n ∷ ran) c s s'
  notify_step =
      let queue_is : (queue mid c).calls ≡ (queue s c).calls = ap (λ (m : SchedulerState). (queue m c).calls) notifies.after ∙ calls_same s c n.channel (is_same c n.channel) refl places in
      record {
        sent = later.sent;
        tickets = later.tickets ∙ same_tickets (is_same c n.channel) refl;
        first = sym queue_is ∙ later.first;
        stream = later.stream ∙ ap (λ (m : SchedulerState). sending c m.peer.waiting ++ put_by c later.sent) notifies.after;
      }

completed_by : (n : Notice) (s mid : SchedulerState) → length s.queues ≡ channel_count → Completes n s mid → IsCompleted n s mid
completed_by n s mid places completes = elim completes [ inl proceeds ↦ proceeded n s mid places proceeds | inr grants ↦ granted n s mid places grants ]

step : (n : Notice) (ran : List Notice) (c : Channel) (s mid s' : SchedulerState) → length s.queues ≡ channel_count → Steps n s mid → ProceedInOrder ran c mid s' → ProceedInOrder (n ∷ ran) c s s'
step n ran c s mid s' places steps later = elim steps [
  | inl completes ↦ complete_step n ran c s mid s' (completed_by n s mid places completes) later (is_same c n.channel) refl
  | inr rest ↦ elim rest [
    | inl bounds ↦ complete_step n ran c s mid s' (bounded n s mid places bounds) later (is_same c n.channel) refl
    | inr notifies ↦ notify_step n ran c s mid s' places notifies later
  ]
]

places_completed : (n : Notice) (s mid : SchedulerState) → Completes n s mid → length s.queues ≡ channel_count → length mid.queues ≡ channel_count
places_completed n s mid completes places = elim completes [ inl proceeds ↦ ap (λ (m : SchedulerState). length m.queues) proceeds.after ∙ simp length-set places | inr grants ↦ ap (λ (m : SchedulerState). length m.queues) grants.after ∙ simp length-set places ]

pub places_kept : (n : Notice) (s mid : SchedulerState) → Steps n s mid → length s.queues ≡ channel_count → length mid.queues ≡ channel_count
places_kept n s mid steps places = elim steps [
  | inl completes ↦ places_completed n s mid completes places
  | inr rest ↦ elim rest [
    | inl bounds ↦ ap (λ (m : SchedulerState). length m.queues) bounds.after ∙ simp length-set places
    | inr notifies ↦ ap (λ (m : SchedulerState). length m.queues) notifies.after ∙ simp length-set places
  ]
]

none_proceeded : (c : Channel) (s : SchedulerState) → ProceedInOrder [] c s s
none_proceeded c s = record { sent = []; tickets = refl; first = refl; stream = sym (append-nil (sending c s.peer.waiting)) }

pub calls_proceed_in_order : CallsProceedInOrder
calls_proceed_in_order [] c s s' places ran = subst (λ (m : SchedulerState). ProceedInOrder [] c s m) (sym ran) (none_proceeded c s)
calls_proceed_in_order (n ∷ ran) c s s' places went =
    let later = calls_proceed_in_order ran c went.0 s' (places_kept n s went.0 went.1.0 places) went.1.1 in
    step n ran c s went.0 s' places went.1.0 later

pub proceeding_keeps_order : ProceedingKeepsOrder
proceeding_keeps_order ran c s s' places went =
    let order = calls_proceed_in_order ran c s s' places went in
    ap (λ (fs : List Frame). fs ++ put_by c (queue s' c).calls) order.stream
    ∙ (append_assoc (sending c s.peer.waiting) (put_by c order.sent) (put_by c (queue s' c).calls)
    ∙ ap (λ (fs : List Frame). sending c s.peer.waiting ++ fs) (sym (put_append c order.sent (queue s' c).calls) ∙ ap (put_by c) (sym order.first)))

-- where a list is cut, beside one of its items
record CutBefore (xs ys before behind : List Call) (call : Call) : Type 0 where
  pub left : List Call
  pub before_is : before ≡ xs ++ left
  pub rest : ys ≡ left ++ call ∷ behind

record CutBehind (xs ys before behind : List Call) (call : Call) : Type 0 where
  pub sent : List Call
  pub first : xs ≡ before ++ call ∷ sent
  pub behind_is : behind ≡ sent ++ ys

cut : (xs ys before behind : List Call) (call : Call) → before ++ call ∷ behind ≡ xs ++ ys → CutBefore xs ys before behind call ⊎ CutBehind xs ys before behind call
cut [] ys before behind call e = inl (record { left = before; before_is = refl; rest = sym e })
cut (x ∷ xs) ys [] behind call e =
    let head : call ≡ x = cc in
    let tail : behind ≡ xs ++ ys = cc in
    inr (record { sent = xs; first = ap (λ (y : Call). y ∷ xs) (sym head); behind_is = tail })
cut (x ∷ xs) ys (y ∷ before) behind call e =
    let head : y ≡ x = cc in
    let tail : before ++ call ∷ behind ≡ xs ++ ys = cc in
    elim (cut xs ys before behind call tail) [
      | inl found ↦ inl (record { left = found.left; before_is = ap (λ (z : Call). z ∷ before) head ∙ ap (λ (zs : List Call). x ∷ zs) found.before_is; rest = found.rest })
      | inr found ↦ inr (record { sent = found.sent; first = ap (λ (z : Call). z ∷ xs) (sym head) ∙ ap (λ (zs : List Call). y ∷ zs) found.first; behind_is = found.behind_is })
    ]

pub bounds_keep_their_places : BoundsKeepTheirPlaces
bounds_keep_their_places ran c s s' before behind call bound places went calls ask =
    let order = calls_proceed_in_order ran c s s' places went in
    elim (cut order.sent (queue s' c).calls before behind call (sym calls ∙ order.first)) [
      | inl found ↦ inl (record { sent = order.sent; left = found.left; before_is = found.before_is; waiting = found.rest; stream = order.stream })
      | inr found ↦ inr (record {
        sent = found.sent;
        left = (queue s' c).calls;
        behind_is = found.behind_is;
        waiting = refl;
        stream = order.stream
            ∙ ap (λ (fs : List Frame). sending c s.peer.waiting ++ fs) (ap (put_by c) found.first
            ∙ (put_append c before (call ∷ found.sent)
            ∙ ap (λ (fs : List Frame). put_by c before ++ fs) (with_frame_of c call.ask (End bound) (put_by c found.sent) ask)));
      })
    ]
