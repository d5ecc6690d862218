-- A pending issue and a pending limit may still be put, whatever happens.
use Rattle.std.proofs.Common.{◌≡◌, ◌≢◌, ℕ, ◌+◌, ◌-◌, ◌<◌, ◌≤◌, inl, inr, true, false, [], ◌∷◌, length, Option, Some, None, refl, sym, ap, ◌∙◌, subst, arith}
use Rattle.std.specs.Prelude.{Bool, ◌==◌, nat_lt, if◌then◌else◌}
use Rattle.std.specs.Option.{option_or}
use Rattle.std.proofs.lemmas.Bool.Decides.{nat_tests}
use Rattle.std.proofs.Math.ListN.{length-set}
use Rattle.std.proofs.lemmas.List.{get_or-set_same, get_or-set_other}
use Rattle.lc_frame.specs.declared.channel.Channel.{Channel}
use Rattle.lc_frame.specs.declared.frame.Frame.{Frame}
use Rattle.lc_frame.specs.declared.frame.Frame.TheVariants.{Send, Absolve, LimitSending, Finish}
use Rattle.lc_frame.specs.Kind.{max_total}
use Rattle.lc_frame.specs.Channel.{channel_count, number_of, is_same}
use Rattle.lc_frame.specs.Frame.{channel_of}
use Rattle.lc_frame.proofs.Channels.{number_below}
use Rattle.lc_book.specs.declared.fault.Refusal.{Refusal}
use Rattle.lc_book.specs.declared.fault.Refusal.TheVariants.{ChannelFinished, ZeroAmount, PastReceiveLimit, NoRoom, TotalReached, BoundTooLarge, LimitRaised}
use Rattle.lc_book.specs.declared.fault.Violation.{Violation}
use Rattle.lc_book.specs.declared.fault.Violation.TheVariants.{AfterFinish, NotGuaranteed, SentPastLimit, AbsolvedTooMuch}
use Rattle.lc_book.specs.Client.{Client}
use Rattle.lc_book.specs.Limit.{is_past, less, left_of}
use Rattle.lc_book.specs.Server.{Server, IsServer, outstanding, room, issue_refusal, issue, limit_receiving_refusal}
use Rattle.lc_book.specs.Sums.{server_after_arrival, server_after_put}
use Rattle.lc_peer.specs.declared.channel_state.ChannelState.{ChannelState}
use Rattle.lc_peer.specs.Peer.{PeerState, channel, new_channel, server}
use Rattle.lc_peer.specs.Calls.{put, channel_after_put}
use Rattle.lc_peer.specs.Arrivals.{violation}
use Rattle.lc_lines.specs.declared.queue.Bound.{Bound}
use Rattle.lc_lines.specs.declared.queue.Bound.TheVariants as kind
use Rattle.lc_lines.specs.declared.scheduler.Notice.{Notice}
use Rattle.lc_lines.specs.Bounds.{frame_of_bound}
use Rattle.lc_lines.specs.Scheduler.{SchedulerState, Steps}
use Rattle.lc_lines.proofs.Guarantees.{by_channel}
use Rattle.lc_owed.specs.declared.pending.Pending.{Pending}
use Rattle.lc_owed.specs.Pending.{beside}
use Rattle.lc_owed.specs.Standing.{MayBePut, Stands, IsTaken, Issues, Limits, PutsIssue, PutsLimit, PendingCallsStayAcceptable, ProceedingKeepsReceivers}
use Rattle.lc_owed.proofs.Books.{nothing_waived, room_beside}

-- an issue that is accepted
record CanIssue (b : Server) (n : ℕ) : Type 0 where
  pub unfinished : b.finished ≡ false
  pub some : 1 ≤ n
  pub left : is_past b.receive_left n ≡ false
  pub room : n ≤ room b
  pub total : b.issued + n ≤ max_total

-- a limit that is accepted
pub record CanLimit (b : Server) (n : ℕ) : Type 0 where
  pub unfinished : b.finished ≡ false
  pub small : n ≤ max_total
  pub left : is_past b.receive_left n ≡ false

record FiveFalse (a b c d e : Bool) : Type 0 where
  pub a_is : a ≡ false
  pub b_is : b ≡ false
  pub c_is : c ≡ false
  pub d_is : d ≡ false
  pub e_is : e ≡ false

five_false : (a b c d e : Bool) (r1 r2 r3 r4 r5 : Refusal) → (if a then Some r1 else (if b then Some r2 else (if c then Some r3 else (if d then Some r4 else (if e then Some r5 else None))))) ≡ None → FiveFalse a b c d e
five_false true b c d e r1 r2 r3 r4 r5 h = absurd cc
five_false false true c d e r1 r2 r3 r4 r5 h = absurd cc
five_false false false true d e r1 r2 r3 r4 r5 h = absurd cc
five_false false false false true e r1 r2 r3 r4 r5 h = absurd cc
five_false false false false false true r1 r2 r3 r4 r5 h = absurd cc
five_false false false false false false r1 r2 r3 r4 r5 h = record { a_is = refl; b_is = refl; c_is = refl; d_is = refl; e_is = refl }

five_none : (a b c d e : Bool) (r1 r2 r3 r4 r5 : Refusal) → FiveFalse a b c d e → (if a then Some r1 else (if b then Some r2 else (if c then Some r3 else (if d then Some r4 else (if e then Some r5 else None))))) ≡ None
five_none true b c d e r1 r2 r3 r4 r5 is = let h = is.a_is in cc
five_none false true c d e r1 r2 r3 r4 r5 is = let h = is.b_is in cc
five_none false false true d e r1 r2 r3 r4 r5 is = let h = is.c_is in cc
five_none false false false true e r1 r2 r3 r4 r5 is = let h = is.d_is in cc
five_none false false false false true r1 r2 r3 r4 r5 is = let h = is.e_is in cc
five_none false false false false false r1 r2 r3 r4 r5 is = refl

record ThreeFalse (a b c : Bool) : Type 0 where
  pub a_is : a ≡ false
  pub b_is : b ≡ false
  pub c_is : c ≡ false

three_false : (a b c : Bool) (r1 r2 r3 : Refusal) → (if a then Some r1 else (if b then Some r2 else (if c then Some r3 else None))) ≡ None → ThreeFalse a b c
three_false true b c r1 r2 r3 h = absurd cc
three_false false true c r1 r2 r3 h = absurd cc
three_false false false true r1 r2 r3 h = absurd cc
three_false false false false r1 r2 r3 h = record { a_is = refl; b_is = refl; c_is = refl }

three_none : (a b c : Bool) (r1 r2 r3 : Refusal) → ThreeFalse a b c → (if a then Some r1 else (if b then Some r2 else (if c then Some r3 else None))) ≡ None
three_none true b c r1 r2 r3 is = let h = is.a_is in cc
three_none false true c r1 r2 r3 is = let h = is.b_is in cc
three_none false false true r1 r2 r3 is = let h = is.c_is in cc
three_none false false false r1 r2 r3 is = refl

some_of : (n : ℕ) → (n == 0) ≡ false → 1 ≤ n
some_of n e = grind (arith, nat_tests)

not_zero : (n : ℕ) → 1 ≤ n → (n == 0) ≡ false
not_zero n e = grind (arith, nat_tests)

not_below : (a b : ℕ) → nat_lt a b ≡ false → b ≤ a
not_below a b e = grind (arith, nat_tests)

is_not_below : (a b : ℕ) → b ≤ a → nat_lt a b ≡ false
is_not_below a b e = grind (arith, nat_tests)

can_issue : (b : Server) (n : ℕ) → issue_refusal b n ≡ None → CanIssue b n
can_issue b n e =
    let is = five_false b.finished (n == 0) (is_past b.receive_left n) (nat_lt (room b) n) (nat_lt max_total (b.issued + n)) ChannelFinished ZeroAmount (PastReceiveLimit (left_of b.receive_left)) (NoRoom (room b)) TotalReached e in
    record { unfinished = is.a_is; some = some_of n is.b_is; left = is.c_is; room = not_below (room b) n is.d_is; total = not_below max_total (b.issued + n) is.e_is }

issue_is_accepted : (b : Server) (n : ℕ) → CanIssue b n → issue_refusal b n ≡ None
issue_is_accepted b n is =
    five_none b.finished (n == 0) (is_past b.receive_left n) (nat_lt (room b) n) (nat_lt max_total (b.issued + n)) ChannelFinished ZeroAmount (PastReceiveLimit (left_of b.receive_left)) (NoRoom (room b)) TotalReached
    (record { a_is = is.unfinished; b_is = not_zero n is.some; c_is = is.left; d_is = is_not_below (room b) n is.room; e_is = is_not_below max_total (b.issued + n) is.total })

pub can_limit : (b : Server) (n : ℕ) → limit_receiving_refusal b n ≡ None → CanLimit b n
can_limit b n e =
    let is = three_false b.finished (nat_lt max_total n) (is_past b.receive_left n) ChannelFinished BoundTooLarge (LimitRaised (left_of b.receive_left)) e in
    record { unfinished = is.a_is; small = not_below max_total n is.b_is; left = is.c_is }

pub limit_is_accepted : (b : Server) (n : ℕ) → CanLimit b n → limit_receiving_refusal b n ≡ None
limit_is_accepted b n is =
    three_none b.finished (nat_lt max_total n) (is_past b.receive_left n) ChannelFinished BoundTooLarge (LimitRaised (left_of b.receive_left))
    (record { a_is = is.unfinished; b_is = is_not_below max_total n is.small; c_is = is.left })

-- what is within what is left of a limit
less_is_within : (left : Option ℕ) (m n : ℕ) → n ≤ m → is_past left m ≡ false → is_past left n ≡ false
less_is_within None m n le e = refl
less_is_within (Some x) m n le e = let far = not_below x m e in is_not_below x n (omega arith)

more_is_within : (left : Option ℕ) (k n : ℕ) → 1 ≤ n → is_past (less left k) n ≡ false → is_past left (k + n) ≡ false
more_is_within None k n some e = refl
more_is_within (Some x) k n some e = let far = not_below (x - k) n e in is_not_below x (k + n) (omega arith)

rest_is_within : (left : Option ℕ) (k n m : ℕ) → is_past (less left k) m ≡ false → is_past (less left (k + n)) (m - n) ≡ false
rest_is_within None k n m e = refl
rest_is_within (Some x) k n m e = let far = not_below (x - k) m e in is_not_below (x - (k + n)) (m - n) (omega arith)

same_is_within : (left : Option ℕ) (m : ℕ) → is_past left m ≡ false → is_past (less left 0) m ≡ false
same_is_within None m e = refl
same_is_within (Some x) m e = let far = not_below x m e in is_not_below (x - 0) m (omega arith)

-- what is within what both limits leave, of which the pending one is within the other
both_are_within : (pending left : Option ℕ) (n : ℕ) → is_past (option_or pending left) n ≡ false → ((x : ℕ) → pending ≡ Some x → is_past left x ≡ false) → is_past left n ≡ false
both_are_within None left n e limits = e
both_are_within (Some m) left n e limits = less_is_within left m n (not_below m n e) (limits m refl)

less_some : (left : Option ℕ) (n x : ℕ) → less left n ≡ Some x → (m : ℕ) × ((left ≡ Some m) × (m - n ≡ x))
less_some None n x e = absurd cc
less_some (Some m) n x e = (m, (refl, cc))

-- the pending limit, as numbers
pub limit_left : (b : Server) (o : Pending) → MayBePut b o → (x : ℕ) → o.limit ≡ Some x → CanLimit (issue b o.issue) x
limit_left b o may x e = can_limit (issue b o.issue) x (may.limit x e)

after_call : (b : Server) (o o' : Pending) → IsServer b → Issues b o o' → MayBePut b o → MayBePut b o'
after_call b o o' is issues may =
    let n = issues.amount in
    let k = o.issue in
    let can = can_issue (beside b o) n issues.accepted in
    let within = both_are_within o.limit (less b.receive_left k) n can.left (λ x e. (limit_left b o may x e).left) in
    let rooms = room_beside b o is can.unfinished in
    let few : n ≤ room b - k = subst (λ (r : ℕ). n ≤ r) rooms can.room in
    let some = can.some in
    let total = can.total in
    let issue_is : issue_refusal b (k + n) ≡ None = issue_is_accepted b (k + n) (record { unfinished = can.unfinished; some = omega arith; left = more_is_within b.receive_left k n some within; room = omega arith; total = omega arith }) in
    subst (λ (p : Pending). MayBePut b p) (sym issues.after) (record {
      issue = λ h. issue_is;
      limit = λ x e.
          let was = less_some o.limit n x e in
          let old = limit_left b o may was.0 was.1.0 in
          let small = old.small in
          subst (λ (y : ℕ). limit_receiving_refusal (issue b (k + n)) y ≡ None) was.1.1
          (limit_is_accepted (issue b (k + n)) (was.0 - n) (record { unfinished = can.unfinished; small = omega arith; left = rest_is_within b.receive_left k n was.0 old.left }));
    })

after_limit : (b : Server) (o o' : Pending) → Limits b o o' → MayBePut b o → MayBePut b o'
after_limit b o o' limits may =
    let n = limits.bound in
    let can = can_limit (beside b o) n limits.accepted in
    let within = both_are_within o.limit (less b.receive_left o.issue) n can.left (λ x e. (limit_left b o may x e).left) in
    let is : limit_receiving_refusal (issue b o.issue) n ≡ None = limit_is_accepted (issue b o.issue) n (record { unfinished = can.unfinished; small = can.small; left = within }) in
    subst (λ (p : Pending). MayBePut b p) (sym limits.after) (record {
      issue = may.issue;
      limit = λ x e. let same : n ≡ x = cc in subst (λ (y : ℕ). limit_receiving_refusal (issue b o.issue) y ≡ None) same is;
    })

-- a book by which no less may be issued, unless its sender finished
record NoLess (b b' : Server) : Type 0 where
  pub finished : b'.finished ≡ false → b.finished ≡ false
  pub left : b'.receive_left ≡ b.receive_left
  pub issued : b'.issued ≡ b.issued
  pub room : b'.finished ≡ false → room b ≤ room b'

still : (b b' : Server) (o : Pending) → NoLess b b' → Stands b o → Stands b' o
still b b' o no_less stands = λ unfinished.
    let may = stands (no_less.finished unfinished) in
    record {
      issue = λ some.
          let can = can_issue b o.issue (may.issue some) in
          let more = no_less.room unfinished in
          let few = can.room in
          let total = can.total in
          let same = no_less.issued in
          issue_is_accepted b' o.issue (record { unfinished = unfinished; some = some; left = ap (λ (l : Option ℕ). is_past l o.issue) no_less.left ∙ can.left; room = omega arith; total = omega arith });
      limit = λ x e.
          let can = limit_left b o may x e in
          limit_is_accepted (issue b' o.issue) x (record { unfinished = unfinished; small = can.small; left = ap (λ (l : Option ℕ). is_past (less l o.issue) x) no_less.left ∙ can.left });
    }

taken_is_no_less : (b b' : Server) → IsServer b → IsTaken b b' → NoLess b b'
taken_is_no_less b b' is taken = subst (λ (x : Server). NoLess b x) (sym taken.after) (record {
  finished = λ e. e;
  left = refl;
  issued = refl;
  room = λ e. let within = taken.within in omega arith;
})

-- a violation where none is
unviolated : (a b : Bool) (v w : Violation) (rest : Option Violation) → (if a then Some v else (if b then Some w else rest)) ≡ None → (a ≡ false) × (b ≡ false)
unviolated true b v w rest e = absurd cc
unviolated false true v w rest e = absurd cc
unviolated false false v w rest e = (refl, refl)

arrived_is_no_less : (client : Client) (b : Server) (f : Frame) → IsServer b → violation client b f ≡ None → NoLess b (server_after_arrival f b)
arrived_is_no_less client b (Send c body) is e =
    let len = length body in
    let fine = unviolated b.finished (nat_lt (outstanding b) len) AfterFinish NotGuaranteed (if is_past b.send_left len then Some SentPastLimit else None) e in
    let within : len ≤ outstanding b = not_below (outstanding b) len fine.1 in
    let none = nothing_waived b.finished (b.issued - b.arrived - b.absolved) fine.0 in
    let none_after = nothing_waived b.finished (b.issued - (b.arrived + len) - b.absolved) fine.0 in
    let used = is.used in
    let taken = is.taken in
    record { finished = λ h. h; left = refl; issued = refl; room = λ h. omega (arith, none, none_after, used, taken, within) }
arrived_is_no_less client b (Absolve c n) is e =
    let fine = unviolated b.finished (nat_lt (outstanding b) n) AfterFinish AbsolvedTooMuch None e in
    let within : n ≤ outstanding b = not_below (outstanding b) n fine.1 in
    let none = nothing_waived b.finished (b.issued - b.arrived - b.absolved) fine.0 in
    let none_after = nothing_waived b.finished (b.issued - b.arrived - (b.absolved + n)) fine.0 in
    record { finished = λ h. h; left = refl; issued = refl; room = λ h. omega (arith, none, none_after, within) }
arrived_is_no_less client b (LimitSending c n) is e = record { finished = λ h. h; left = refl; issued = refl; room = λ h. omega arith }
arrived_is_no_less client b (Finish c) is e = record { finished = λ h. absurd cc; left = refl; issued = refl; room = λ h. absurd cc }
arrived_is_no_less client b f is e = record { finished = λ h. h; left = refl; issued = refl; room = λ h. omega arith }

put_issue : (b : Server) (o : Pending) (b' : Server) (o' : Pending) → PutsIssue b o b' o' → Stands b o → Stands b' o'
put_issue b o b' o' puts stands =
    subst (λ (x : Server). Stands x o') (sym puts.book) (subst (λ (p : Pending). Stands (issue b o.issue) p) (sym puts.after) (λ unfinished.
    let may = stands unfinished in
    record {
      issue = λ some. absurd (omega arith);
      limit = λ x e.
          let can = limit_left b o may x e in
          limit_is_accepted (issue (issue b o.issue) 0) x (record { unfinished = unfinished; small = can.small; left = same_is_within (less b.receive_left o.issue) x can.left });
    }))

put_limit : (b : Server) (o : Pending) (b' : Server) (o' : Pending) → PutsLimit b o b' o' → Stands b' o'
put_limit b o b' o' puts = subst (λ (p : Pending). Stands b' p) (sym puts.after) (λ unfinished. let none = puts.first in record { issue = λ some. absurd (omega arith); limit = λ x e. absurd cc })

same_pending : (b : Server) (o o' : Pending) → o' ≡ o → Stands b o → Stands b o'
same_pending b o o' e stands = subst (λ (p : Pending). Stands b p) (sym e) stands

pub pending_calls_stay_acceptable : PendingCallsStayAcceptable
pending_calls_stay_acceptable b o b' o' is happens stands = elim happens [
  | inl kept ↦ elim kept.0 [
    | inl arrives ↦ same_pending b' o o' kept.1 (still b b' o (subst (λ (x : Server). NoLess b x) (sym arrives.after) (arrived_is_no_less arrives.client b arrives.frame is arrives.lawful)) stands)
    | inr taken ↦ same_pending b' o o' kept.1 (still b b' o (taken_is_no_less b b' is taken) stands)
  ]
  | inr later ↦ elim later [
    | inl called ↦ subst (λ (x : Server). Stands x o') (sym called.1) (elim called.0 [
      | inl issues ↦ λ unfinished. after_call b o o' is issues (stands unfinished)
      | inr limits ↦ λ unfinished. after_limit b o o' limits (stands unfinished)
    ])
    | inr put ↦ elim put [
      | inl issued ↦ put_issue b o b' o' issued stands
      | inr limited ↦ put_limit b o b' o' limited
    ]
  ]
]

-- no book of a receiver changed, and each channel has its books still
record SameReceivers (p p' : PeerState) : Type 0 where
  pub places : length p'.channels ≡ channel_count
  pub same : (c : Channel) → server p' c ≡ server p c

-- a frame that tells a receiver's own book nothing is put
put_same : (p : PeerState) (f : Frame) → length p.channels ≡ channel_count → ((b : Server) → server_after_put f b ≡ b) → SameReceivers p (put p f)
put_same p f places silent =
    let d = channel_of f in
    let x = channel_after_put f (channel p d) in
    let lt : number_of d < length p.channels = omega (arith, number_below d) in
    record {
      places = length-set p.channels (number_of d) x ∙ places;
      same = λ c. by_channel (λ (y : Channel). server (put p f) y ≡ server p y) d c (is_same c d) refl
          (ap (λ (y : ChannelState). y.inbox.book) (get_or-set_same p.channels (number_of d) x (new_channel p.version 0) lt) ∙ silent (server p d))
          (λ y e. let ne : number_of y ≢ number_of d = grind (arith, nat_tests) in ap (λ (z : ChannelState). z.inbox.book) (get_or-set_other p.channels (number_of d) (number_of y) x (new_channel p.version 0) ne));
    }

silent_bound : (c : Channel) (bound : Bound) (b : Server) → server_after_put (frame_of_bound c bound) b ≡ b
silent_bound c (kind.Limit n) b = refl
silent_bound c kind.Finish b = refl

same_by : (p p' : PeerState) → p' ≡ p → length p.channels ≡ channel_count → SameReceivers p p'
same_by p p' e places = subst (λ (x : PeerState). SameReceivers p x) (sym e) (record { places = places; same = λ c. refl })

step_same : (n : Notice) (s s' : SchedulerState) → length s.peer.channels ≡ channel_count → Steps n s s' → SameReceivers s.peer s'.peer
step_same n s s' places steps = elim steps [
  | inl completes ↦ elim completes [
    | inl proceeds ↦ subst (λ (x : SchedulerState). SameReceivers s.peer x.peer) (sym proceeds.after) (put_same s.peer (Send n.channel proceeds.body) places (λ b. refl))
    | inr grants ↦ same_by s.peer s'.peer (ap (λ (x : SchedulerState). x.peer) grants.after) places
  ]
  | inr later ↦ elim later [
    | inl bounds ↦ subst (λ (x : SchedulerState). SameReceivers s.peer x.peer) (sym bounds.after) (put_same s.peer (frame_of_bound n.channel bounds.bound) places (silent_bound n.channel bounds.bound))
    | inr notifies ↦ same_by s.peer s'.peer (ap (λ (x : SchedulerState). x.peer) notifies.after) places
  ]
]

pub proceeding_keeps_receivers : ProceedingKeepsReceivers
proceeding_keeps_receivers [] s s' c places ran = ap (λ (x : SchedulerState). server x.peer c) ran
proceeding_keeps_receivers (n ∷ later) s s' c places ran =
    let one = step_same n s ran.0 places ran.1.0 in
    proceeding_keeps_receivers later ran.0 s' c one.places ran.1.1 ∙ one.same c
