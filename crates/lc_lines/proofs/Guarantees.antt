-- The guarantees that permits set aside stay there.
use Rattle.std.proofs.Common.{◌≡◌, ◌≢◌, ℕ, inr, inl, ◌⊎◌, zero, suc, ◌+◌, ◌-◌, ◌<◌, ◌≤◌, Bool, true, false, if◌then◌else◌, List, [], ◌∷◌, length, map, get_or, set, Option, Some, None, refl, sym, ap, ◌∙◌, subst, arith}
use Rattle.std.specs.Prelude.{◌==◌, nat_le, nat_lt, is_none, unwrap_or}
use Rattle.std.proofs.lemmas.List.{get_or-set_same, get_or-set_other}
use Rattle.std.proofs.lemmas.Bool.Decides.{nat_tests}
use Rattle.std.proofs.lemmas.Grind.{common_steps}
use Rattle.lc_frame.specs.declared.channel.Channel.{Channel}
use Rattle.lc_frame.specs.declared.channel.Channel.TheVariants.{Reconciliation, Data, Overlap, Capability, AreaOfInterest, PayloadRequest, StaticToken}
use Rattle.lc_frame.specs.declared.version.Version.{Version}
use Rattle.lc_frame.specs.declared.frame.Frame.{Frame}
use Rattle.lc_frame.specs.declared.frame.Frame.TheVariants.{Send, Issue, Absolve, Plead, LimitSending, LimitReceiving, Finish}
use Rattle.lc_frame.specs.Channel.{channel_count, number_of, is_same}
use Rattle.lc_frame.specs.Frame.{IsValid, channel_of}
use Rattle.lc_frame.proofs.Channels.{number_below, same_from_number}
use Rattle.lc_book.specs.declared.fault.Refusal.{Refusal}
use Rattle.lc_book.specs.declared.fault.Refusal.TheVariants.{ChannelFinished, EmptyBody, BodyTooLong, PastSendLimit, NoGuarantee, NotHeld}
use Rattle.lc_book.specs.Limit.{is_past, left_of}
use Rattle.lc_book.specs.Finish.{finished_refusal_or}
use Rattle.lc_frame.specs.Kind.{max_body}
use Rattle.lc_book.specs.Client.{Client, held, new_client, message_refusal_or, spend_refusal, honour}
use Rattle.lc_book.specs.Sums.{client_after_put, client_after_arrival}
use Rattle.lc_peer.specs.declared.channel_state.ChannelState.{ChannelState}
use Rattle.lc_peer.specs.declared.config.Config.{Config}
use Rattle.lc_peer.specs.Config.{new_peer}
use Rattle.lc_peer.specs.Inbox.{take_first}
use Rattle.lc_peer.specs.Peer.{PeerState, client, inbox, channel, new_channel, set_channel}
use Rattle.lc_peer.specs.Calls.{put, take_on, channel_after_put, due, put_honour, channel_after_honour}
use Rattle.lc_peer.specs.Arrivals.{arrive, channel_after_arrival}
use Rattle.lc_lines.specs.declared.permits.Aside.{Aside}
use Rattle.lc_lines.specs.declared.scheduler.Control.{Control}
use Rattle.lc_lines.specs.declared.scheduler.Control.TheVariants as control
use Rattle.lc_lines.specs.declared.queue.Bound.{Bound}
use Rattle.lc_lines.specs.declared.queue.Bound.TheVariants as kind
use Rattle.lc_lines.specs.Bounds.{frame_of_bound}
use Rattle.lc_lines.specs.Permits.{none_aside, no_permits, aside_on, with_permit, without_permit, is_permit, within, free_of, beyond_permits, Covers}
use Rattle.lc_lines.specs.Scheduler.{for_good, frame_of_control, KeepsGuarantees}
use Rattle.lc_lines.proofs.Queued.{aside_here, aside_there}

-- a book from which nothing went: what came is no less, no more of it is used up or absolved, and its own limit and finish are as they were
pub record NoLess (b b' : Client) : Type 0 where
  pub send_left : b'.send_left ≡ b.send_left
  pub finished : b'.finished ≡ b.finished
  pub spent : b'.spent ≡ b.spent
  pub absolved : b'.absolved ≡ b.absolved
  pub received : b.received ≤ b'.received

pub same_book : (b : Client) → NoLess b b
same_book b = record { send_left = refl; finished = refl; spent = refl; absolved = refl; received = omega arith }

still_covers : (b b' : Client) (a : Aside) → NoLess b b' → Covers b a → Covers b' a
still_covers b b' a same covers = omega (arith, same.spent, same.absolved, same.received)

-- what a channel's book is, where the channel is changed, and any other's
pub client_here : (p : PeerState) (c : Channel) (s : ChannelState) → length p.channels ≡ channel_count → client (set_channel p c s) c ≡ s.client
client_here p c s places =
    let lt : number_of c < length p.channels = omega (arith, number_below c) in
    ap (λ (x : ChannelState). x.client) (get_or-set_same p.channels (number_of c) s (new_channel p.version 0) lt)

pub client_there : (p : PeerState) (c d : Channel) (s : ChannelState) → is_same d c ≡ false → client (set_channel p c s) d ≡ client p d
client_there p c d s e =
    let ne : number_of d ≢ number_of c = grind (arith, nat_tests) in
    ap (λ (x : ChannelState). x.client) (get_or-set_other p.channels (number_of c) (number_of d) s (new_channel p.version 0) ne)

same_channel : (c d : Channel) → is_same d c ≡ true → d ≡ c
same_channel c d e = let number : number_of d ≡ number_of c = grind (arith, nat_tests) in same_from_number d c number

-- what is true of a changed channel and of any other is true of each
pub by_channel : (P : Channel → Type 0) (c d : Channel) (b : Bool) → is_same d c ≡ b → P c → ((x : Channel) → is_same x c ≡ false → P x) → P d
by_channel P c d true e here there = subst P (sym (same_channel c d e)) here
by_channel P c d false e here there = there d e

-- the guarantees of each channel, where one channel's book and permits change
guarantees_by : (p p' : PeerState) (h h' : List Aside) (c : Channel) → Covers (client p' c) (aside_on h' c) → ((d : Channel) → is_same d c ≡ false → NoLess (client p d) (client p' d)) → ((d : Channel) → is_same d c ≡ false → aside_on h' d ≡ aside_on h d) → KeepsGuarantees p h → KeepsGuarantees p' h'
guarantees_by p p' h h' c here books asides keeps =
    λ d. by_channel (λ x. Covers (client p' x) (aside_on h' x)) c d (is_same d c) refl here
    (λ x e. subst (Covers (client p' x)) (sym (asides x e)) (still_covers (client p x) (client p' x) (aside_on h x) (books x e) (keeps x)))

pub within_few : (left : Option ℕ) (n : ℕ) → within left n ≤ n
within_few None n = omega arith
within_few (Some left) n = omega arith

-- so many guarantees more are among those that came
covers_more : (b : Client) (a : Aside) (len : ℕ) → Covers b a → nat_le len (free_of b a) ≡ true → b.spent + b.absolved + (a.bytes + len) ≤ b.received
covers_more b a len covers fit =
    let le : len ≤ within b.send_left (held b) - a.bytes = grind (arith, nat_tests) in
    let few = within_few b.send_left (held b) in
    omega arith

-- a message is sent, beside what permits set aside
pub guarantees_push : (p : PeerState) (h : List Aside) (c : Channel) (body : List ℕ) → length p.channels ≡ channel_count → KeepsGuarantees p h → nat_le (length body) (free_of (client p c) (aside_on h c)) ≡ true → KeepsGuarantees (put p (Send c body)) h
guarantees_push p h c body places keeps fit =
    let more = covers_more (client p c) (aside_on h c) (length body) (keeps c) fit in
    let book = client_here p c (channel_after_put (Send c body) (channel p c)) places in
    let here : Covers (client_after_put (Send c body) (client p c)) (aside_on h c) = omega arith in
    guarantees_by p (put p (Send c body)) h h c (subst (λ (b : Client). Covers b (aside_on h c)) (sym book) here)
    (λ d e. subst (NoLess (client p d)) (sym (client_there p c d (channel_after_put (Send c body) (channel p c)) e)) (same_book (client p d))) (λ d e. refl) keeps

-- a permit is granted
pub guarantees_grant : (p : PeerState) (h : List Aside) (c : Channel) (len : ℕ) → length h ≡ channel_count → KeepsGuarantees p h → nat_le len (free_of (client p c) (aside_on h c)) ≡ true → KeepsGuarantees p (set h (number_of c) (with_permit (aside_on h c) len))
guarantees_grant p h c len places keeps fit =
    let more : Covers (client p c) (with_permit (aside_on h c) len) = covers_more (client p c) (aside_on h c) len (keeps c) fit in
    guarantees_by p p h (set h (number_of c) (with_permit (aside_on h c) len)) c (subst (Covers (client p c)) (sym (aside_here h c (with_permit (aside_on h c) len) places)) more)
    (λ d e. same_book (client p d)) (λ d e. aside_there h c d (with_permit (aside_on h c) len) e) keeps

-- a permit is given back
pub guarantees_release : (p : PeerState) (h : List Aside) (c : Channel) (len : ℕ) → length h ≡ channel_count → KeepsGuarantees p h → KeepsGuarantees p (set h (number_of c) (without_permit (aside_on h c) len))
guarantees_release p h c len places keeps =
    let was = keeps c in
    let here : Covers (client p c) (without_permit (aside_on h c) len) = omega arith in
    guarantees_by p p h (set h (number_of c) (without_permit (aside_on h c) len)) c (subst (Covers (client p c)) (sym (aside_here h c (without_permit (aside_on h c) len) places)) here)
    (λ d e. same_book (client p d)) (λ d e. aside_there h c d (without_permit (aside_on h c) len) e) keeps

pub guarantees_void : (p : PeerState) (h : List Aside) (c : Channel) → length h ≡ channel_count → KeepsGuarantees p h → KeepsGuarantees p (set h (number_of c) no_permits)
guarantees_void p h c places keeps =
    let was = keeps c in
    let here : Covers (client p c) no_permits = omega arith in
    guarantees_by p p h (set h (number_of c) no_permits) c (subst (Covers (client p c)) (sym (aside_here h c no_permits places)) here)
    (λ d e. same_book (client p d)) (λ d e. aside_there h c d no_permits e) keeps

pub permit_is_out : (a : Aside) (len : ℕ) → is_permit a len ≡ true → 1 ≤ a.permits
permit_is_out a len e = grind (arith, nat_tests)

pub permit_has_bytes : (a : Aside) (len : ℕ) → is_permit a len ≡ true → len ≤ a.bytes
permit_has_bytes a len e = grind (arith, nat_tests)

-- a message is sent by a permit
pub guarantees_reserved : (p : PeerState) (h : List Aside) (c : Channel) (len : ℕ) (body : List ℕ) → length p.channels ≡ channel_count → length h ≡ channel_count → is_permit (aside_on h c) len ≡ true → length body ≤ len → KeepsGuarantees p h → KeepsGuarantees (put p (Send c body)) (set h (number_of c) (without_permit (aside_on h c) len))
guarantees_reserved p h c len body channels places permit within_it keeps =
    let was = keeps c in
    let bytes = permit_has_bytes (aside_on h c) len permit in
    let after = without_permit (aside_on h c) len in
    let book = client_here p c (channel_after_put (Send c body) (channel p c)) channels in
    let here : Covers (client_after_put (Send c body) (client p c)) after = omega arith in
    let aside_is = aside_here h c after places in
    guarantees_by p (put p (Send c body)) h (set h (number_of c) after) c
    (subst (λ (b : Client). Covers b (aside_on (set h (number_of c) after) c)) (sym book) (subst (Covers (client_after_put (Send c body) (client p c))) (sym aside_is) here))
    (λ d e. subst (NoLess (client p d)) (sym (client_there p c d (channel_after_put (Send c body) (channel p c)) e)) (same_book (client p d)))
    (λ d e. aside_there h c d after e) keeps

pub none_is : (o : Option Refusal) → is_none o ≡ true → o ≡ None
none_is None e = refl
none_is (Some r) e = cc

-- a message that its book allows is valid in the version of the book
pub valid_send : (v : Version) (b : Client) (c : Channel) (body : List ℕ) → b.version ≡ v → spend_refusal b (length body) ≡ None → IsValid v (Send c body)
valid_send v b c body e allowed = grind (arith, common_steps)

-- what a permit holds is held: a message within it lacks no guarantees
pub enough : (finished : Bool) (received spent absolved bytes n : ℕ) → finished ≡ false → spent + absolved + bytes ≤ received → n ≤ bytes → n ≤ received - spent - absolved - (if finished then received - spent - absolved else 0)
enough true received spent absolved bytes n e covers le = cc
enough false received spent absolved bytes n e covers le = omega arith

refused_for_good : (finished empty long past : Bool) (left : ℕ) → for_good (if finished then Some ChannelFinished else (if empty then Some EmptyBody else (if long then Some BodyTooLong else (if past then Some (PastSendLimit left) else None)))) ≡ None → (if finished then Some ChannelFinished else (if empty then Some EmptyBody else (if long then Some BodyTooLong else (if past then Some (PastSendLimit left) else None)))) ≡ None
refused_for_good true empty long past left e = cc
refused_for_good false true long past left e = cc
refused_for_good false false true past left e = cc
refused_for_good false false false true left e = cc
refused_for_good false false false false left e = refl

not_lacking : (m n : ℕ) (b : Bool) → nat_lt m n ≡ b → n ≤ m → (if b then Some (NoGuarantee m) else None) ≡ None
not_lacking m n true is le = absurd (grind (arith, nat_tests))
not_lacking m n false is le = refl

accepted_by : (finished : Bool) (b : Client) (a : Aside) (n : ℕ) → b.finished ≡ finished → Covers b a → n ≤ a.bytes → for_good (spend_refusal b n) ≡ None → spend_refusal b n ≡ None
accepted_by true b a n is covers le e =
    let refusal = ap (λ (f : Bool). finished_refusal_or f (message_refusal_or b.version b.send_left n (if nat_lt (held b) n then Some (NoGuarantee (held b)) else None))) is in
    let good : for_good (Some ChannelFinished) ≡ None = ap for_good (sym refusal) ∙ e in
    cc
accepted_by false b a n is covers le e =
    let some : n ≤ held b = enough b.finished b.received b.spent b.absolved a.bytes n is covers le in
    let lacks = not_lacking (held b) n (nat_lt (held b) n) refl some in
    let refusal : spend_refusal b n ≡ finished_refusal_or b.finished (message_refusal_or b.version b.send_left n None) = ap (λ (o : Option Refusal). finished_refusal_or b.finished (message_refusal_or b.version b.send_left n o)) lacks in
    refusal ∙ refused_for_good b.finished (n == 0) (nat_lt (max_body b.version) n) (is_past b.send_left n) (left_of b.send_left) (ap for_good (sym refusal) ∙ e)

-- a message within a permit is refused for good or not at all
pub accepted_within : (b : Client) (a : Aside) (n : ℕ) → Covers b a → n ≤ a.bytes → for_good (spend_refusal b n) ≡ None → spend_refusal b n ≡ None
accepted_within b a n covers le e = accepted_by b.finished b a n refl covers le e

no_less : (x n : ℕ) (b : Bool) → nat_lt x n ≡ b → (if b then Some (NotHeld x) else None) ≡ None → n ≤ x
no_less x n true is e = cc
no_less x n false is e = grind (arith, nat_tests)

-- the book of a channel on which a control frame is put: nothing goes from it but what is absolved
book_control : (b : Client) (a : Aside) (f : Control) → beyond_permits b a (frame_of_control f) ≡ None → Covers b a → Covers (client_after_put (frame_of_control f) b) a
book_control b a (control.Absolve c n) spared covers =
    let le = no_less (held b - a.bytes) n (nat_lt (held b - a.bytes) n) refl spared in
    omega arith
book_control b a (control.Issue c n) spared covers = covers
book_control b a (control.Plead c n) spared covers = covers
book_control b a (control.LimitReceiving c n) spared covers = covers

pub guarantees_control : (p : PeerState) (h : List Aside) (f : Control) → length p.channels ≡ channel_count → beyond_permits (client p (channel_of (frame_of_control f))) (aside_on h (channel_of (frame_of_control f))) (frame_of_control f) ≡ None → KeepsGuarantees p h → KeepsGuarantees (put p (frame_of_control f)) h
guarantees_control p h f places spared keeps =
    let c = channel_of (frame_of_control f) in
    let after = channel_after_put (frame_of_control f) (channel p c) in
    guarantees_by p (put p (frame_of_control f)) h h c
    (subst (λ (b : Client). Covers b (aside_on h c)) (sym (client_here p c after places)) (book_control (client p c) (aside_on h c) f spared (keeps c)))
    (λ d e. subst (NoLess (client p d)) (sym (client_there p c d after e)) (same_book (client p d))) (λ d e. refl) keeps

-- a bound takes no guarantees
book_bound : (b : Client) (a : Aside) (c : Channel) (bound : Bound) → Covers b a → Covers (client_after_put (frame_of_bound c bound) b) a
book_bound b a c (kind.Limit n) covers = covers
book_bound b a c kind.Finish covers = covers

pub bound_channel : (c : Channel) (bound : Bound) → channel_of (frame_of_bound c bound) ≡ c
bound_channel c (kind.Limit n) = refl
bound_channel c kind.Finish = refl

pub guarantees_bound : (p : PeerState) (h : List Aside) (c : Channel) (bound : Bound) → length p.channels ≡ channel_count → KeepsGuarantees p h → KeepsGuarantees (put p (frame_of_bound c bound)) h
guarantees_bound p h c bound places keeps =
    let f = frame_of_bound c bound in
    let g = channel_of f in
    let after = channel_after_put f (channel p g) in
    guarantees_by p (put p f) h h g
    (subst (λ (b : Client). Covers b (aside_on h g)) (sym (client_here p g after places)) (book_bound (client p g) (aside_on h g) c bound (keeps g)))
    (λ d e. subst (NoLess (client p d)) (sym (client_there p g d after e)) (same_book (client p d))) (λ d e. refl) keeps

-- a plead is honoured: what is absolved is not set aside
honoured : (b : Client) (a : Aside) (amount : Option ℕ) → (amount ≡ None) ⊎ ((n : ℕ) → amount ≡ Some n → n ≤ held b - a.bytes) → Covers b a → b.spent + (b.absolved + unwrap_or amount 0) + a.bytes ≤ b.received
honoured b a None spared covers = omega arith
honoured b a (Some n) (inl e) covers = cc
honoured b a (Some n) (inr spared) covers = let le = spared n refl in omega arith

pub spared_by : (b : Client) (a : Aside) (c : Channel) (n : ℕ) → beyond_permits b a (Absolve c n) ≡ None → n ≤ held b - a.bytes
spared_by b a c n spared = no_less (held b - a.bytes) n (nat_lt (held b - a.bytes) n) refl spared

pub guarantees_honour : (p : PeerState) (h : List Aside) (c : Channel) → length p.channels ≡ channel_count → (due p c ≡ None) ⊎ ((n : ℕ) → due p c ≡ Some n → n ≤ held (client p c) - (aside_on h c).bytes) → KeepsGuarantees p h → KeepsGuarantees (put_honour p c) h
guarantees_honour p h c places spared keeps =
    let after = channel_after_honour (channel p c) in
    let here : Covers (honour (client p c)) (aside_on h c) = honoured (client p c) (aside_on h c) (due p c) spared (keeps c) in
    guarantees_by p (put_honour p c) h h c
    (subst (λ (b : Client). Covers b (aside_on h c)) (sym (client_here p c after places)) here)
    (λ d e. subst (NoLess (client p d)) (sym (client_there p c d after e)) (same_book (client p d))) (λ d e. refl) keeps

-- nothing that arrives takes guarantees away
book_arrives : (b : Client) (f : Frame) → NoLess b (client_after_arrival f b)
book_arrives b (Send c body) = same_book b
book_arrives b (Issue c n) = record { send_left = refl; finished = refl; spent = refl; absolved = refl; received = omega arith }
book_arrives b (Absolve c n) = same_book b
book_arrives b (Plead c n) = record { send_left = refl; finished = refl; spent = refl; absolved = refl; received = omega arith }
book_arrives b (LimitSending c n) = same_book b
book_arrives b (LimitReceiving c n) = record { send_left = refl; finished = refl; spent = refl; absolved = refl; received = omega arith }
book_arrives b (Finish c) = same_book b

-- one channel's book goes on, and every other is as it was
book_by : (p : PeerState) (c : Channel) (s : ChannelState) → length p.channels ≡ channel_count → NoLess (client p c) s.client → (d : Channel) → NoLess (client p d) (client (set_channel p c s) d)
book_by p c s places here d =
    by_channel (λ x. NoLess (client p x) (client (set_channel p c s) x)) c d (is_same d c) refl
    (subst (NoLess (client p c)) (sym (client_here p c s places)) here)
    (λ x e. subst (NoLess (client p x)) (sym (client_there p c x s e)) (same_book (client p x)))

pub arrive_takes_nothing : (p : PeerState) (f : Frame) → length p.channels ≡ channel_count → (d : Channel) → NoLess (client p d) (client (arrive p f) d)
arrive_takes_nothing p f places d = book_by p (channel_of f) (channel_after_arrival f (channel p (channel_of f))) places (book_arrives (client p (channel_of f)) f) d

pub and_then : (a b c : Client) → NoLess a b → NoLess b c → NoLess a c
and_then a b c first later = record { send_left = later.send_left ∙ first.send_left; finished = later.finished ∙ first.finished; spent = later.spent ∙ first.spent; absolved = later.absolved ∙ first.absolved; received = omega (arith, first.received, later.received) }

pub take_takes_nothing : (p : PeerState) (c : Channel) → length p.channels ≡ channel_count → (d : Channel) → NoLess (client p d) (client (take_on p c) d)
take_takes_nothing p c places d = book_by p c (record (channel p c) { inbox = take_first (inbox p c) }) places (same_book (client p c)) d

-- where no book lost anything, the guarantees of each channel are there still
pub guarantees_same : (p p' : PeerState) (h : List Aside) → ((d : Channel) → NoLess (client p d) (client p' d)) → KeepsGuarantees p h → KeepsGuarantees p' h
guarantees_same p p' h books keeps = λ d. still_covers (client p d) (client p' d) (aside_on h d) (books d) (keeps d)

-- on a new peer nothing happened
pub new_books : (v : Version) (capacities : List ℕ) (i : ℕ) → (get_or (map (new_channel v) capacities) i (new_channel v 0)).client ≡ new_client v
new_books v [] i = refl
new_books v (n ∷ capacities) zero = refl
new_books v (n ∷ capacities) (suc i) = new_books v capacities i

pub no_aside : (c : Channel) → aside_on none_aside c ≡ no_permits
no_aside Reconciliation = refl
no_aside Data = refl
no_aside Overlap = refl
no_aside Capability = refl
no_aside AreaOfInterest = refl
no_aside PayloadRequest = refl
no_aside StaticToken = refl

pub guarantees_new : (config : Config) → KeepsGuarantees (new_peer config) none_aside
guarantees_new config = λ c.
    let none : Covers (new_client config.version) no_permits = omega arith in
    subst (λ (a : Aside). Covers (client (new_peer config) c) a) (sym (no_aside c)) (subst (λ (b : Client). Covers b no_permits) (sym (new_books config.version config.capacities (number_of c))) none)
