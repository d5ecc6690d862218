-- One thing more is put or dropped, and what a refusal for want of a slot says.
use Rattle.std.proofs.Common.{◌≡◌, ℕ, true, false, List, [], ◌∷◌, ◌++◌, Option, Some, None, refl, ap, subst}
use Rattle.std.specs.Prelude.{Bool, ◌+◌, ◌-◌, ◌==◌, nat_lt, nat_le, if◌then◌else◌}
use Rattle.std.specs.Option.{option_or}
use Rattle.lc_frame.specs.declared.channel.Channel.{Channel}
use Rattle.lc_frame.specs.declared.frame.Frame.TheVariants.{Absolve}
use Rattle.lc_frame.specs.Kind.{max_total}
use Rattle.lc_frame.specs.Frame.{channel_of}
use Rattle.lc_book.specs.declared.fault.Refusal.{Refusal}
use Rattle.lc_book.specs.declared.fault.Refusal.TheVariants.{QueueFull, ChannelFinished, ZeroAmount, PastReceiveLimit, NoRoom, TotalReached, NothingToAsk, BoundTooLarge, LimitRaised, NotHeld}
use Rattle.lc_book.specs.Limit.{is_past, left_of}
use Rattle.lc_book.specs.Client.{Client, held, honour_refusal as book_honour_refusal}
use Rattle.lc_book.specs.Server.{outstanding, room}
use Rattle.lc_peer.specs.Peer.{client, server}
use Rattle.lc_peer.specs.Calls.{refusal_by_books, due as due_to_absolve}
use Rattle.lc_lines.specs.declared.scheduler.Control.{Control}
use Rattle.lc_lines.specs.declared.scheduler.Control.TheVariants as control
use Rattle.lc_lines.specs.declared.permits.Aside.{Aside}
use Rattle.lc_lines.specs.Permits.{beyond_permits}
use Rattle.lc_lines.specs.Outbound.{has_control_slot}
use Rattle.lc_lines.specs.Scheduler.{SchedulerState, aside, frame_of_control, slot_refusal, absolving_refusal}
use Rattle.lc_lines.specs.Lines.{LinesState}
use Rattle.lc_owed.specs.declared.due.Due.{Due}
use Rattle.lc_owed.specs.declared.due.Due.TheVariants.{Put, Honour}
use Rattle.lc_owed.specs.Owed.{OwedState}
use Rattle.lc_owed.specs.Due.{due, due_refusal, without_due}
use Rattle.lc_owed.specs.Flush.{wants_slot, Goes, Went, IsFull}

pub went_push : (went : List Due) (d : Due) (o : OwedState) (l : LinesState) (o' : OwedState) (l' l'' : LinesState) → Went went o l o' l' → due o' l'.scheduler ≡ Some d → Goes d l' l'' → Went (went ++ d ∷ []) o l (without_due o' d) l''
went_push [] d o l o' l' l'' w e g =
    let first : due o l'.scheduler ≡ Some d = subst (λ (x : OwedState). due x l'.scheduler ≡ Some d) w.0 e in
    (subst (λ (x : LinesState). due o x.scheduler ≡ Some d) w.1 first, (l'', (subst (λ (x : LinesState). Goes d x l'') w.1 g, (ap (λ (x : OwedState). without_due x d) w.0, refl))))
went_push (h ∷ later) d o l o' l' l'' w e g = (w.0, (w.1.0, (w.1.1.0, went_push later d (without_due o h) w.1.0 o' l' l'' w.1.1.1 e g)))

pub wants_slot_is : (r : Refusal) → wants_slot r ≡ true → r ≡ QueueFull
wants_slot_is QueueFull e = refl
wants_slot_is r e = cc

-- where the first refusal is not for want of a slot, the second one is
second_full : (a b : Option Refusal) → (a ≡ Some QueueFull → ⊥) → option_or a b ≡ Some QueueFull → b ≡ Some QueueFull
second_full None b never e = e
second_full (Some r) b never e = absurd (never e)

slot_full : (b : Bool) → (if b then None else Some QueueFull) ≡ Some QueueFull → b ≡ false
slot_full true e = absurd cc
slot_full false e = refl

-- no book refuses for want of a slot
issue_never : (a b c d e : Bool) (left room : ℕ) → (if a then Some ChannelFinished else (if b then Some ZeroAmount else (if c then Some (PastReceiveLimit left) else (if d then Some (NoRoom room) else (if e then Some TotalReached else None))))) ≡ Some QueueFull → ⊥
issue_never true b c d e left room h = cc
issue_never false true c d e left room h = cc
issue_never false false true d e left room h = cc
issue_never false false false true e left room h = cc
issue_never false false false false true left room h = cc
issue_never false false false false false left room h = cc

absolve_never : (a b c : Bool) (n : ℕ) → (if a then Some ChannelFinished else (if b then Some ZeroAmount else (if c then Some (NotHeld n) else None))) ≡ Some QueueFull → ⊥
absolve_never true b c n h = cc
absolve_never false true c n h = cc
absolve_never false false true n h = cc
absolve_never false false false n h = cc

plead_never : (a b : Bool) (n : ℕ) → (if a then Some ChannelFinished else (if b then Some (NothingToAsk n) else None)) ≡ Some QueueFull → ⊥
plead_never true b n h = cc
plead_never false true n h = cc
plead_never false false n h = cc

limit_never : (a b c : Bool) (n : ℕ) → (if a then Some ChannelFinished else (if b then Some BoundTooLarge else (if c then Some (LimitRaised n) else None))) ≡ Some QueueFull → ⊥
limit_never true b c n h = cc
limit_never false true c n h = cc
limit_never false false true n h = cc
limit_never false false false n h = cc

honour_never : (a : Bool) → (if a then Some ChannelFinished else None) ≡ Some QueueFull → ⊥
honour_never true h = cc
honour_never false h = cc

beyond_never : (a : Bool) (n : ℕ) → (if a then Some (NotHeld n) else None) ≡ Some QueueFull → ⊥
beyond_never true n h = cc
beyond_never false n h = cc

books_never : (s : SchedulerState) (call : Control) → refusal_by_books s.peer (frame_of_control call) ≡ Some QueueFull → ⊥
books_never s (control.Issue c n) e =
    let b = server s.peer c in
    issue_never b.finished (n == 0) (is_past b.receive_left n) (nat_lt (room b) n) (nat_lt max_total (b.issued + n)) (left_of b.receive_left) (room b) e
books_never s (control.Absolve c n) e =
    let b = client s.peer c in
    absolve_never b.finished (n == 0) (nat_lt (held b) n) (held b) e
books_never s (control.Plead c n) e =
    let b = server s.peer c in
    plead_never b.finished (nat_le (outstanding b) n) (outstanding b) e
books_never s (control.LimitReceiving c n) e =
    let b = server s.peer c in
    limit_never b.finished (nat_lt max_total n) (is_past b.receive_left n) (left_of b.receive_left) e

permits_never : (b : Client) (a : Aside) (call : Control) → beyond_permits b a (frame_of_control call) ≡ Some QueueFull → ⊥
permits_never b a (control.Issue c n) e = cc
permits_never b a (control.Absolve c n) e = beyond_never (nat_lt (held b - a.bytes) n) (held b - a.bytes) e
permits_never b a (control.Plead c n) e = cc
permits_never b a (control.LimitReceiving c n) e = cc

absolving_full : (s : SchedulerState) (c : Channel) (amount : Option ℕ) → absolving_refusal s c amount ≡ Some QueueFull → IsFull s
absolving_full s c None e = absurd cc
absolving_full s c (Some n) e =
    slot_full (has_control_slot s.peer s.asides) (second_full (beyond_permits (client s.peer c) (aside s c) (Absolve c n)) (slot_refusal s) (permits_never (client s.peer c) (aside s c) (control.Absolve c n)) e)

-- what is refused for want of a slot is refused since none is free
pub is_full : (s : SchedulerState) (d : Due) → due_refusal s d ≡ Some QueueFull → IsFull s
is_full s (Put call) e =
    let f = frame_of_control call in
    let b = client s.peer (channel_of f) in
    let a = aside s (channel_of f) in
    slot_full (has_control_slot s.peer s.asides) (second_full (beyond_permits b a f) (slot_refusal s) (permits_never b a call)
    (second_full (refusal_by_books s.peer f) (option_or (beyond_permits b a f) (slot_refusal s)) (books_never s call) e))
is_full s (Honour c) e =
    let amount = due_to_absolve s.peer c in
    absolving_full s c amount (second_full (book_honour_refusal (client s.peer c)) (absolving_refusal s c amount) (honour_never (client s.peer c).finished) e)
