-- What a scheduler keeps, where its peer changes.
use Rattle.std.proofs.Common.{◌≡◌, ℕ, inr, ◌+◌, ◌-◌, ◌^◌, ◌<◌, ◌≤◌, Bool, true, false, if◌then◌else◌, List, [], ◌∷◌, ◌++◌, length, drop, set, Option, Some, None, inl, refl, sym, ap, ◌∙◌, subst, arith}
use Rattle.std.specs.Prelude.{slice_get, slice_index, nat_le, replicate}
use Rattle.std.specs.List.{AllByRecursion}
use Rattle.std.proofs.Math.ListN.{length-set}
use Rattle.std.proofs.lemmas.List.{append-nil, length-map}
use Rattle.lc_frame.specs.declared.channel.Channel.{Channel}
use Rattle.lc_frame.specs.Bounds.{max_slots}
use Rattle.lc_frame.specs.Channel.{channel_count, number_of}
use Rattle.lc_frame.specs.Frame.{IsValid, channel_of}
use Rattle.lc_frame.specs.declared.version.Version.{Version}
use Rattle.lc_frame.specs.declared.frame.Frame.{Frame}
use Rattle.lc_frame.specs.declared.frame.Frame.TheVariants.{Send}
use Rattle.lc_frame.specs.Stream.{message_of}
use Rattle.std.specs.Option.{option_or}
use Rattle.lc_book.specs.declared.fault.Violation.{Violation}
use Rattle.lc_book.specs.declared.fault.Refusal.{Refusal}
use Rattle.lc_book.specs.declared.fault.Refusal.TheVariants.{QueueFull}
use Rattle.lc_peer.specs.Inbox.{take_first}
use Rattle.lc_peer.specs.declared.config.Config.{Config}
use Rattle.lc_peer.specs.Config.{new_peer}
use Rattle.lc_peer.specs.Peer.{PeerState, new_channel, channel, client, inbox}
use Rattle.lc_peer.specs.Calls.{put, without_next, take_on, channel_after_put, due, put_honour, channel_after_honour, absolvings}
use Rattle.lc_peer.specs.Arrivals.{Arrival, arrivals, violation_at, arrive_unless, arrive, channel_after_arrival}
use Rattle.lc_lines.specs.declared.permits.Aside.{Aside}
use Rattle.lc_lines.specs.declared.scheduler.Control.{Control}
use Rattle.lc_lines.specs.declared.scheduler.Control.TheVariants.{Issue, Absolve, Plead, LimitReceiving}
use Rattle.lc_lines.specs.declared.queue.Bound.{Bound}
use Rattle.lc_lines.specs.declared.queue.Bound.TheVariants as kind
use Rattle.lc_lines.specs.Bounds.{frame_of_bound}
use Rattle.lc_lines.specs.Queue.{QueueState, empty_queue}
use Rattle.lc_lines.specs.Permits.{no_permits, none_aside, aside_on, permits_on, with_permit, without_permit, is_permit, free_of, beyond_permits}
use Rattle.lc_lines.specs.Outbound.{least_slots, no_counts, under_way, none, kept, has_slot, fits, with_message, with_grant, without_grant, without_permits, with_use, message_len, message_bytes, message_count, message_one, has_control_slot, Counts, counts_of, without_frame}
use Rattle.lc_book.specs.Client.{honour_refusal, spend_refusal}
use Rattle.lc_lines.specs.Scheduler.{absolving_refusal, honour_refusal as lines_honour_refusal, frame_of_control, count_after, SentBy, FitsBytes, KeepsSlots, KeepsGuarantees, KeepsPermits, IsShort, greatest_message, most_unwritten, AreSchedulerFields}
use Rattle.lc_lines.proofs.Queued.{counts_control, counts_next, counts_push, counts_more, counts_less, counts_void, void_kept, counts_used, of_channel, queued_few, permits_few}
use Rattle.lc_lines.proofs.Bytes.{bytes_push, bytes_next, fits_next, fits_control, fits_push, fits_reserved, short_of, short_push, short_next, short_first, bounded_by}
use Rattle.lc_lines.proofs.Guarantees.{NoLess, same_book, and_then, arrive_takes_nothing, take_takes_nothing, guarantees_new, guarantees_same, guarantees_control, guarantees_bound, guarantees_honour, spared_by, guarantees_push, guarantees_grant, guarantees_release, guarantees_void, guarantees_reserved, permit_is_out}
use Rattle.lc_lines.proofs.Allowed.{allowed_same, allowed_push, allowed_grant, allowed_release, allowed_void, allowed_reserved, allowed_control, allowed_bound, allowed_honour, allowed_new}
use Rattle.lc_lines.proofs.Slots.{slots_control, slots_next, slots_push, slots_grant, slots_release, slots_void, slots_reserved}

-- what arrives and what is taken changes nothing that is queued, and takes nothing from a client
pub record SameQueue (p p' : PeerState) : Type 0 where
  pub waiting : p'.waiting ≡ p.waiting
  pub slots : p'.slots ≡ p.slots
  pub channels : length p'.channels ≡ length p.channels
  pub books : (c : Channel) → NoLess (client p c) (client p' c)

same_queue : (p : PeerState) → SameQueue p p
same_queue p = record { waiting = refl; slots = refl; channels = refl; books = λ c. same_book (client p c) }

same_unless : (p : PeerState) (v : Option Violation) (later : Arrival) → SameQueue p later.peer → SameQueue p (arrive_unless p v later).peer
same_unless p None later h = h
same_unless p (Some v) later h = same_queue p

pub arrivals_keep : (p : PeerState) (frames : List Frame) → length p.channels ≡ channel_count → SameQueue p (arrivals p frames).peer
arrivals_keep p [] places = same_queue p
arrivals_keep p (f ∷ frames) places =
    let more : length (arrive p f).channels ≡ length p.channels = length-set p.channels (number_of (channel_of f)) (channel_after_arrival f (channel p (channel_of f))) in
    let later = arrivals_keep (arrive p f) frames (more ∙ places) in
    same_unless p (violation_at p f) (arrivals (arrive p f) frames) (record {
      waiting = later.waiting;
      slots = later.slots;
      channels = later.channels ∙ more;
      books = λ c. and_then (client p c) (client (arrive p f) c) (client (arrivals (arrive p f) frames).peer c) (arrive_takes_nothing p f places c) (later.books c);
    })

pub take_keeps : (p : PeerState) (c : Channel) → length p.channels ≡ channel_count → SameQueue p (take_on p c)
take_keeps p c places = record { waiting = refl; slots = refl; channels = length-set p.channels (number_of c) (record (channel p c) { inbox = take_first (inbox p c) }); books = take_takes_nothing p c places }

slots_same : (p p' : PeerState) (h : List Aside) → p'.waiting ≡ p.waiting → p'.slots ≡ p.slots → KeepsSlots p h → KeepsSlots p' h
slots_same p p' h waiting slots keeps =
    let len = ap length waiting in
    let kept_is = ap (λ (w : List Frame). kept w h) waiting in
    let count_is = ap message_count waiting in
    record { own = omega (arith, keeps.own, slots); control = omega (arith, keeps.control, slots) }

pub first_none : (a b : Option Refusal) → option_or a b ≡ None → a ≡ None
first_none None b e = refl
first_none (Some r) b e = cc

pub second_none : (a b : Option Refusal) → option_or a b ≡ None → b ≡ None
second_none None b e = e
second_none (Some r) b e = cc

pub slot_none : (b : Bool) → (if b then None else Some QueueFull) ≡ None → b ≡ true
slot_none true e = refl
slot_none false e = cc

pub fields_same : (p p' : PeerState) (queues : List QueueState) (h : List Aside) (sent begun exempt : ℕ) (counts : Counts) → SameQueue p p' → AreSchedulerFields p queues h sent begun exempt counts → AreSchedulerFields p' queues h sent begun exempt counts
fields_same p p' queues h sent begun exempt counts same fields =
    record {
      places = fields.places;
      permits = fields.permits;
      channels = same.channels ∙ fields.channels;
      stamps = fields.stamps;
      counted = fields.counted ∙ ap (λ (w : List Frame). counts_of w h) (sym same.waiting);
      slots = slots_same p p' h same.waiting same.slots fields.slots;
      some = omega (arith, same.slots, fields.some);
      guarantees = guarantees_same p p' h same.books fields.guarantees;
      allowed = allowed_same p p' h same.books fields.allowed;
      bytes = subst (λ (w : List Frame). FitsBytes w begun exempt) (sym same.waiting) fields.bytes;
      short = subst (λ (w : List Frame). AllByRecursion IsShort w) (sym same.waiting) fields.short;
      small = fields.small;
      bounded = subst (λ (w : List Frame). message_bytes w + begun ≤ most_unwritten) (sym same.waiting) fields.bounded;
    }

-- a frame is no message
pub record IsSilent (f : Frame) : Type 0 where
  pub message : message_of f ≡ None
  pub bytes : message_len f ≡ 0
  pub count : message_one f ≡ 0

pub silent_control : (f : Control) → IsSilent (frame_of_control f)
silent_control (Issue c n) = record { message = refl; bytes = refl; count = refl }
silent_control (Absolve c n) = record { message = refl; bytes = refl; count = refl }
silent_control (Plead c n) = record { message = refl; bytes = refl; count = refl }
silent_control (LimitReceiving c n) = record { message = refl; bytes = refl; count = refl }

pub silent_bound : (c : Channel) (bound : Bound) → IsSilent (frame_of_bound c bound)
silent_bound c (kind.Limit n) = record { message = refl; bytes = refl; count = refl }
silent_bound c kind.Finish = record { message = refl; bytes = refl; count = refl }

is_short : (f : Frame) → IsSilent f → IsShort f
is_short f silent = let no = silent.bytes in omega arith

-- a control frame enters the queue, whatever it leaves of books
queue_fields : (p p' : PeerState) (g : Frame) (queues : List QueueState) (h : List Aside) (sent begun exempt : ℕ) (counts : Counts) → IsSilent g → p'.waiting ≡ p.waiting ++ g ∷ [] → p'.slots ≡ p.slots → length p'.channels ≡ length p.channels → KeepsGuarantees p' h → KeepsPermits p' h → has_control_slot p h ≡ true → AreSchedulerFields p queues h sent begun exempt counts → AreSchedulerFields p' queues h sent begun exempt counts
queue_fields p p' g queues h sent begun exempt counts silent waiting slots places guarantees allowed slot fields =
    let same = counts_control p.waiting h g silent.message silent.bytes in
    let bytes = bytes_push p.waiting g in
    let no = silent.bytes in
    let bytes_is : message_bytes p'.waiting ≡ message_bytes p.waiting = ap message_bytes waiting ∙ omega arith in
    record {
      places = fields.places;
      permits = fields.permits;
      channels = places ∙ fields.channels;
      stamps = fields.stamps;
      counted = fields.counted ∙ (same ∙ ap (λ (w : List Frame). counts_of w h) (sym waiting));
      slots = slots_control p p' h g fields.slots slot slots waiting (sym (ap (λ (s : Counts). s.kept) same)) silent.count;
      some = omega (arith, slots, fields.some);
      guarantees = guarantees;
      allowed = allowed;
      bytes = subst (λ (w : List Frame). FitsBytes w begun exempt) (sym waiting) (fits_control p.waiting begun exempt g silent.count fields.bytes);
      short = subst (λ (w : List Frame). AllByRecursion IsShort w) (sym waiting) (short_push p.waiting g fields.short (is_short g silent));
      small = fields.small;
      bounded = omega (arith, fields.bounded);
    }

put_fields : (p : PeerState) (f : Control) (queues : List QueueState) (h : List Aside) (sent begun exempt : ℕ) (counts : Counts) → has_control_slot p h ≡ true → beyond_permits (client p (channel_of (frame_of_control f))) (aside_on h (channel_of (frame_of_control f))) (frame_of_control f) ≡ None → AreSchedulerFields p queues h sent begun exempt counts → AreSchedulerFields (put p (frame_of_control f)) queues h sent begun exempt counts
put_fields p f queues h sent begun exempt counts slot spared fields =
    let g = frame_of_control f in
    queue_fields p (put p g) g queues h sent begun exempt counts (silent_control f) refl refl
    (length-set p.channels (number_of (channel_of g)) (channel_after_put g (channel p (channel_of g))))
    (guarantees_control p h f fields.channels spared fields.guarantees) (allowed_control p h f fields.channels fields.allowed) slot fields

-- a bound is put where no permit of its channel is out
pub bound_fields : (p p' : PeerState) (c : Channel) (bound : Bound) (queues : List QueueState) (h : List Aside) (sent begun exempt : ℕ) (counts : Counts) → p' ≡ put p (frame_of_bound c bound) → permits_on h c ≡ 0 → has_control_slot p h ≡ true → AreSchedulerFields p queues h sent begun exempt counts → AreSchedulerFields p' queues h sent begun exempt counts
bound_fields p p' c bound queues h sent begun exempt counts e none slot fields =
    let g = frame_of_bound c bound in
    subst (λ (q : PeerState). AreSchedulerFields q queues h sent begun exempt counts) (sym e)
    (queue_fields p (put p g) g queues h sent begun exempt counts (silent_bound c bound) refl refl
    (length-set p.channels (number_of (channel_of g)) (channel_after_put g (channel p (channel_of g))))
    (guarantees_bound p h c bound fields.channels fields.guarantees) (allowed_bound p h c bound fields.channels none fields.allowed) slot fields)

honour_by : (p : PeerState) (c : Channel) (amount : Option ℕ) (queues : List QueueState) (h : List Aside) (sent begun exempt left : ℕ) (counts : Counts) → due p c ≡ amount → option_or (honour_refusal (client p c)) (absolving_refusal (record { peer = p; queues = queues; asides = h; sent = sent; begun = begun; exempt = exempt; left = left }) c amount) ≡ None → AreSchedulerFields p queues h sent begun exempt counts → AreSchedulerFields (put_honour p c) queues h sent begun exempt counts
honour_by p c None queues h sent begun exempt left counts is none fields =
    let places = length-set p.channels (number_of c) (channel_after_honour (channel p c)) in
    let waiting : (put_honour p c).waiting ≡ p.waiting = ap (λ (o : Option ℕ). p.waiting ++ absolvings c o) is ∙ append-nil p.waiting in
    let guarantees = guarantees_honour p h c fields.channels (inl is) fields.guarantees in
    let allowed = allowed_honour p h c fields.channels fields.allowed in
    record {
      places = fields.places;
      permits = fields.permits;
      channels = places ∙ fields.channels;
      stamps = fields.stamps;
      counted = fields.counted ∙ ap (λ (w : List Frame). counts_of w h) (sym waiting);
      slots = slots_same p (put_honour p c) h waiting refl fields.slots;
      some = fields.some;
      guarantees = guarantees;
      allowed = allowed;
      bytes = subst (λ (w : List Frame). FitsBytes w begun exempt) (sym waiting) fields.bytes;
      short = subst (λ (w : List Frame). AllByRecursion IsShort w) (sym waiting) fields.short;
      small = fields.small;
      bounded = subst (λ (w : List Frame). message_bytes w + begun ≤ most_unwritten) (sym waiting) fields.bounded;
    }
honour_by p c (Some n) queues h sent begun exempt left counts is none fields =
    let absolving = second_none (honour_refusal (client p c)) _ none in
    let spared = first_none (beyond_permits (client p c) (aside_on h c) (frame_of_control (Absolve c n))) _ absolving in
    let slot = slot_none (has_control_slot p h) (second_none (beyond_permits (client p c) (aside_on h c) (frame_of_control (Absolve c n))) _ absolving) in
    let waiting : (put_honour p c).waiting ≡ p.waiting ++ frame_of_control (Absolve c n) ∷ [] = ap (λ (o : Option ℕ). p.waiting ++ absolvings c o) is in
    let le = spared_by (client p c) (aside_on h c) c n spared in
    queue_fields p (put_honour p c) (frame_of_control (Absolve c n)) queues h sent begun exempt counts (silent_control (Absolve c n)) waiting refl (length-set p.channels (number_of c) (channel_after_honour (channel p c)))
    (guarantees_honour p h c fields.channels (inr (λ m e. let same : m ≡ n = cc in omega arith)) fields.guarantees) (allowed_honour p h c fields.channels fields.allowed) slot fields

-- a plead is honoured, or not
pub honour_fields : (ok : Bool) (p p' : PeerState) (c : Channel) (queues : List QueueState) (h : List Aside) (sent begun exempt left : ℕ) (counts : Counts) → p' ≡ (if ok then put_honour p c else p) → lines_honour_refusal (record { peer = p; queues = queues; asides = h; sent = sent; begun = begun; exempt = exempt; left = left }) c ≡ None → AreSchedulerFields p queues h sent begun exempt counts → AreSchedulerFields p' queues h sent begun exempt counts
honour_fields true p p' c queues h sent begun exempt left counts e none fields = subst (λ (q : PeerState). AreSchedulerFields q queues h sent begun exempt counts) (sym e) (honour_by p c (due p c) queues h sent begun exempt left counts refl none fields)
honour_fields false p p' c queues h sent begun exempt left counts e none fields = subst (λ (q : PeerState). AreSchedulerFields q queues h sent begun exempt counts) (sym e) fields

-- a control call that is made where a slot is free for it
pub control_fields : (ok : Bool) (p p' : PeerState) (f : Control) (queues : List QueueState) (h : List Aside) (sent begun exempt : ℕ) (counts : Counts) → p' ≡ (if ok then put p (frame_of_control f) else p) → has_control_slot p h ≡ true → beyond_permits (client p (channel_of (frame_of_control f))) (aside_on h (channel_of (frame_of_control f))) (frame_of_control f) ≡ None → AreSchedulerFields p queues h sent begun exempt counts → AreSchedulerFields p' queues h sent begun exempt counts
control_fields true p p' f queues h sent begun exempt counts e slot spared fields = subst (λ (q : PeerState). AreSchedulerFields q queues h sent begun exempt counts) (sym e) (put_fields p f queues h sent begun exempt counts slot spared fields)
control_fields false p p' f queues h sent begun exempt counts e slot spared fields = subst (λ (q : PeerState). AreSchedulerFields q queues h sent begun exempt counts) (sym e) fields

-- what a new scheduler keeps
pub new_fields : (config : Config) → least_slots ≤ config.slots → config.slots ≤ max_slots → length config.capacities ≡ channel_count → AreSchedulerFields (new_peer config) (replicate channel_count empty_queue) none_aside 0 0 0 no_counts
new_fields config some few rings = record {
  places = refl;
  permits = refl;
  channels = length-map config.capacities (new_channel config.version) ∙ rings;
  stamps = (omega arith, (omega arith, (omega arith, (omega arith, (omega arith, (omega arith, (omega arith, tt)))))));
  counted = refl;
  slots = record { own = omega arith; control = omega arith };
  some = few;
  guarantees = guarantees_new config;
  allowed = allowed_new config;
  bytes = record { older = []; newer = []; whole = refl; few = omega arith; fits = inl (omega arith) };
  short = tt;
  small = omega arith;
  bounded = omega arith;
}

-- few messages and permits of a channel are under way
pub few_under_way : (p : PeerState) (queues : List QueueState) (h : List Aside) (sent begun exempt : ℕ) (counts : Counts) (c : Channel) → AreSchedulerFields p queues h sent begun exempt counts → slice_index counts.under_way (number_of c) < 2 ^ 32
few_under_way p queues h sent begun exempt counts c fields =
    let is : slice_index counts.under_way (number_of c) ≡ under_way p.waiting h c = ap (λ (s : Counts). slice_index s.under_way (number_of c)) fields.counted ∙ of_channel p.waiting h c in
    omega (arith, queued_few c p.waiting, permits_few h c fields.permits, fields.slots.own, fields.some)

pub few_kept : (p : PeerState) (queues : List QueueState) (h : List Aside) (sent begun exempt : ℕ) (counts : Counts) → AreSchedulerFields p queues h sent begun exempt counts → counts.kept < 2 ^ 32
few_kept p queues h sent begun exempt counts fields =
    let is : counts.kept ≡ kept p.waiting h = ap (λ (s : Counts). s.kept) fields.counted in
    omega (arith, fields.slots.own, fields.some)

-- what is counted of a channel whose permits leave their slots
pub record CanVoid (counts : Counts) (c : Channel) (n : ℕ) : Type 0 where
  pub under_way : n ≤ slice_index counts.under_way (number_of c)
  pub kept : none (slice_index counts.under_way (number_of c)) + n ≤ counts.kept + none (slice_index counts.under_way (number_of c) - n)
  pub few : counts.kept < 2 ^ 32

pub can_void : (p : PeerState) (queues : List QueueState) (h : List Aside) (sent begun exempt : ℕ) (counts : Counts) (c : Channel) → AreSchedulerFields p queues h sent begun exempt counts → CanVoid counts c (permits_on h c)
can_void p queues h sent begun exempt counts c fields =
    let n = permits_on h c in
    let is : slice_index counts.under_way (number_of c) ≡ under_way p.waiting h c = ap (λ (s : Counts). slice_index s.under_way (number_of c)) fields.counted ∙ of_channel p.waiting h c in
    let kept_is : counts.kept ≡ kept p.waiting h = ap (λ (s : Counts). s.kept) fields.counted in
    let was : none (slice_index counts.under_way (number_of c)) ≡ none (under_way p.waiting h c) = ap none is in
    let left : none (slice_index counts.under_way (number_of c) - n) ≡ none (under_way p.waiting h c - n) = ap (λ (m : ℕ). none (m - n)) is in
    record {
      under_way = omega (arith, is);
      kept = omega (arith, void_kept p.waiting h c fields.permits, kept_is, was, left);
      few = few_kept p queues h sent begun exempt counts fields;
    }

-- a message enters the queue at its turn
pub push_fields : (p p' : PeerState) (queues queues' : List QueueState) (h : List Aside) (sent sent' begun exempt : ℕ) (counts counts' : Counts) (v : Version) (c : Channel) (body : List ℕ) →
    p' ≡ put p (Send c body) → length queues' ≡ channel_count → AllByRecursion (SentBy sent') queues' → counts' ≡ with_message counts c (length body) →
    has_slot p h c ≡ true → nat_le (length body) (free_of (client p c) (aside_on h c)) ≡ true → fits (message_bytes p.waiting + begun) (length body) ≡ true → AllByRecursion (IsValid v) p.waiting → IsValid v (Send c body) →
    AreSchedulerFields p queues h sent begun exempt counts → AreSchedulerFields p' queues' h sent' begun 0 counts'
push_fields p p' queues queues' h sent sent' begun exempt counts counts' v c body peer places stamps counts_is slot fit bytes all valid fields =
    let slots = slots_push p h c body fields.slots slot in
    let short = short_push p.waiting (Send c body) fields.short (short_of v c body valid) in
    let within_slots : length (p.waiting ++ Send c body ∷ []) ≤ p.slots = omega (arith, slots.own) in
    subst (λ (q : PeerState). AreSchedulerFields q queues' h sent' begun 0 counts') (sym peer) (record {
      places = places;
      permits = fields.permits;
      channels = length-set p.channels (number_of c) (channel_after_put (Send c body) (channel p c)) ∙ fields.channels;
      stamps = stamps;
      counted = counts_is ∙ (ap (λ (s : Counts). with_message s c (length body)) fields.counted ∙ sym (counts_push p.waiting h c body));
      slots = slots;
      some = fields.some;
      guarantees = guarantees_push p h c body fields.channels fields.guarantees fit;
      allowed = allowed_push p h c body fields.channels fields.allowed fit;
      bytes = fits_push v p.waiting begun c body all bytes;
      short = short;
      small = fields.small;
      bounded = bounded_by (p.waiting ++ Send c body ∷ []) p.slots begun short within_slots fields.some fields.small;
    })

-- a permit is granted at its turn
pub grant_fields : (p : PeerState) (queues queues' : List QueueState) (h h' : List Aside) (sent sent' begun exempt : ℕ) (counts counts' : Counts) (c : Channel) (len : ℕ) →
    h' ≡ set h (number_of c) (with_permit (aside_on h c) len) → length queues' ≡ channel_count → AllByRecursion (SentBy sent') queues' → counts' ≡ with_grant counts c →
    has_slot p h c ≡ true → spend_refusal (client p c) len ≡ None → nat_le len (free_of (client p c) (aside_on h c)) ≡ true →
    AreSchedulerFields p queues h sent begun exempt counts → AreSchedulerFields p queues' h' sent' begun exempt counts'
grant_fields p queues queues' h h' sent sent' begun exempt counts counts' c len asides places stamps counts_is slot accepted fit fields =
    subst (λ (x : List Aside). AreSchedulerFields p queues' x sent' begun exempt counts') (sym asides) (record {
      places = places;
      permits = length-set h (number_of c) (with_permit (aside_on h c) len) ∙ fields.permits;
      channels = fields.channels;
      stamps = stamps;
      counted = counts_is ∙ (ap (λ (s : Counts). with_grant s c) fields.counted ∙ sym (counts_more p.waiting h c len fields.permits));
      slots = slots_grant p h c len fields.permits fields.slots slot;
      some = fields.some;
      guarantees = guarantees_grant p h c len fields.permits fields.guarantees fit;
      allowed = allowed_grant p h c len fields.permits fields.allowed accepted fit;
      bytes = fields.bytes;
      short = fields.short;
      small = fields.small;
      bounded = fields.bounded;
    })

-- a permit is given back
pub release_fields : (p : PeerState) (queues : List QueueState) (h h' : List Aside) (sent begun exempt : ℕ) (counts counts' : Counts) (c : Channel) (len : ℕ) →
    h' ≡ set h (number_of c) (without_permit (aside_on h c) len) → counts' ≡ without_grant counts c → is_permit (aside_on h c) len ≡ true →
    AreSchedulerFields p queues h sent begun exempt counts → AreSchedulerFields p queues h' sent begun exempt counts'
release_fields p queues h h' sent begun exempt counts counts' c len asides counts_is permit fields =
    let one = permit_is_out (aside_on h c) len permit in
    subst (λ (x : List Aside). AreSchedulerFields p queues x sent begun exempt counts') (sym asides) (record {
      places = fields.places;
      permits = length-set h (number_of c) (without_permit (aside_on h c) len) ∙ fields.permits;
      channels = fields.channels;
      stamps = fields.stamps;
      counted = counts_is ∙ (ap (λ (s : Counts). without_grant s c) fields.counted ∙ sym (counts_less p.waiting h c len fields.permits one));
      slots = slots_release p h c len fields.permits one fields.slots;
      some = fields.some;
      guarantees = guarantees_release p h c len fields.permits fields.guarantees;
      allowed = allowed_release p h c len fields.permits fields.allowed;
      bytes = fields.bytes;
      short = fields.short;
      small = fields.small;
      bounded = fields.bounded;
    })

-- the calls and the permits of a channel are given up
pub abandon_fields : (p : PeerState) (queues queues' : List QueueState) (h h' : List Aside) (sent begun exempt : ℕ) (counts counts' : Counts) (c : Channel) →
    length queues' ≡ channel_count → AllByRecursion (SentBy sent) queues' → h' ≡ set h (number_of c) no_permits → counts' ≡ without_permits counts c (permits_on h c) →
    AreSchedulerFields p queues h sent begun exempt counts → AreSchedulerFields p queues' h' sent begun exempt counts'
abandon_fields p queues queues' h h' sent begun exempt counts counts' c places stamps asides counts_is fields =
    subst (λ (x : List Aside). AreSchedulerFields p queues' x sent begun exempt counts') (sym asides) (record {
      places = places;
      permits = length-set h (number_of c) no_permits ∙ fields.permits;
      channels = fields.channels;
      stamps = stamps;
      counted = counts_is ∙ (ap (λ (s : Counts). without_permits s c (permits_on h c)) fields.counted ∙ sym (counts_void p.waiting h c fields.permits));
      slots = slots_void p h c fields.permits fields.slots;
      some = fields.some;
      guarantees = guarantees_void p h c fields.permits fields.guarantees;
      allowed = allowed_void p h c fields.permits fields.allowed;
      bytes = fields.bytes;
      short = fields.short;
      small = fields.small;
      bounded = fields.bounded;
    })

-- a message enters the queue by a permit
pub reserved_fields : (p p' : PeerState) (queues : List QueueState) (h h' : List Aside) (sent begun exempt exempt' : ℕ) (counts counts' : Counts) (v : Version) (c : Channel) (len : ℕ) (body : List ℕ) →
    p' ≡ put p (Send c body) → h' ≡ set h (number_of c) (without_permit (aside_on h c) len) → counts' ≡ with_use counts (length body) → exempt' ≡ count_after exempt →
    is_permit (aside_on h c) len ≡ true → length body ≤ len → IsValid v (Send c body) →
    AreSchedulerFields p queues h sent begun exempt counts → AreSchedulerFields p' queues h' sent begun exempt' counts'
reserved_fields p p' queues h h' sent begun exempt exempt' counts counts' v c len body peer asides counts_is exempt_is permit within_it valid fields =
    let one = permit_is_out (aside_on h c) len permit in
    let after = set h (number_of c) (without_permit (aside_on h c) len) in
    let slots = slots_reserved p h c len body fields.permits one fields.slots in
    let short = short_push p.waiting (Send c body) fields.short (short_of v c body valid) in
    let within_slots : length (p.waiting ++ Send c body ∷ []) ≤ p.slots = omega (arith, slots.own) in
    let fit : length p.waiting ≤ p.slots = omega (arith, fields.slots.own) in
    subst (λ (q : PeerState). AreSchedulerFields q queues h' sent begun exempt' counts') (sym peer)
    (subst (λ (x : List Aside). AreSchedulerFields (put p (Send c body)) queues x sent begun exempt' counts') (sym asides)
    (subst (λ (n : ℕ). AreSchedulerFields (put p (Send c body)) queues after sent begun n counts') (sym exempt_is) (record {
      places = fields.places;
      permits = length-set h (number_of c) (without_permit (aside_on h c) len) ∙ fields.permits;
      channels = length-set p.channels (number_of c) (channel_after_put (Send c body) (channel p c)) ∙ fields.channels;
      stamps = fields.stamps;
      counted = counts_is ∙ (ap (λ (s : Counts). with_use s (length body)) fields.counted ∙ sym (counts_used p.waiting h c len body fields.permits one));
      slots = slots;
      some = fields.some;
      guarantees = guarantees_reserved p h c len body fields.channels fields.permits permit within_it fields.guarantees;
      allowed = allowed_reserved p h c len body fields.channels fields.permits permit within_it fields.allowed;
      bytes = fits_reserved p.waiting begun exempt p.slots c body fit fields.some fields.bytes;
      short = short;
      small = fields.small;
      bounded = bounded_by (p.waiting ++ Send c body ∷ []) p.slots begun short within_slots fields.some fields.small;
    })))

-- a frame leaves the queue
pub next_fields : (p p' : PeerState) (f : Frame) (queues : List QueueState) (h : List Aside) (sent begun begun' exempt : ℕ) (counts counts' : Counts) → p' ≡ without_next p → slice_get p.waiting 0 ≡ Some f → begun' ≡ message_len f → counts' ≡ without_frame counts f → AreSchedulerFields p queues h sent begun exempt counts → AreSchedulerFields p' queues h sent begun' exempt counts'
next_fields p p' f queues h sent begun begun' exempt counts counts' peer first begun_is counts_is fields =
    let waiting : p'.waiting ≡ drop 1 p.waiting = ap (λ (q : PeerState). q.waiting) peer in
    let bytes = bytes_next p.waiting f first in
    let bytes_is : message_bytes p'.waiting ≡ message_bytes (drop 1 p.waiting) = ap message_bytes waiting in
    let one : message_len f ≤ greatest_message = short_first p.waiting f first fields.short in
    let all = bounded_by p.waiting p.slots 0 fields.short (omega (arith, fields.slots.own)) fields.some (omega arith) in
    record {
      places = fields.places;
      permits = fields.permits;
      channels = ap (λ (q : PeerState). length q.channels) peer ∙ fields.channels;
      stamps = fields.stamps;
      counted = counts_is ∙ (ap (λ (s : Counts). without_frame s f) fields.counted ∙ (sym (counts_next p.waiting h f first) ∙ ap (λ (w : List Frame). counts_of w h) (sym waiting)));
      slots = subst (λ (q : PeerState). KeepsSlots q h) (sym peer) (slots_next p h fields.slots);
      some = subst (λ (q : PeerState). q.slots ≤ max_slots) (sym peer) fields.some;
      guarantees = subst (λ (q : PeerState). KeepsGuarantees q h) (sym peer) fields.guarantees;
      allowed = subst (λ (q : PeerState). KeepsPermits q h) (sym peer) fields.allowed;
      bytes = subst (λ (n : ℕ). FitsBytes p'.waiting n exempt) (sym begun_is) (subst (λ (w : List Frame). FitsBytes w (message_len f) exempt) (sym waiting) (fits_next p.waiting f begun exempt first fields.bytes));
      short = subst (λ (w : List Frame). AllByRecursion IsShort w) (sym waiting) (short_next p.waiting fields.short);
      small = omega arith;
      bounded = omega arith;
    }

-- what a control call is refused for, where no slot is free for it
pub full_ok : (books : Option Refusal) (b : Bool) → None ≡ option_or books (if b then None else Some QueueFull) → Some QueueFull ≡ option_or books (Some QueueFull)
full_ok None b e = refl
full_ok (Some r) b e = cc

pub full_err : (r : Refusal) (books : Option Refusal) (b : Bool) → Some r ≡ option_or books (if b then None else Some QueueFull) → Some r ≡ option_or books (Some QueueFull)
full_err r None true e = cc
full_err r None false e = e
full_err r (Some s) b e = e
