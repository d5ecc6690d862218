-- What permits set aside may be sent, as long as one is out.
use Rattle.std.proofs.Common.{◌≡◌, ℕ, ◌+◌, ◌-◌, ◌≤◌, Bool, true, false, if◌then◌else◌, List, length, set, Option, Some, None, refl, sym, ap, ◌∙◌, subst, arith}
use Rattle.std.specs.Prelude.{◌==◌, nat_le, nat_lt, min}
use Rattle.std.proofs.lemmas.Bool.Decides.{nat_tests}
use Rattle.lc_frame.specs.declared.channel.Channel.{Channel}
use Rattle.lc_frame.specs.declared.frame.Frame.{Frame}
use Rattle.lc_frame.specs.declared.frame.Frame.TheVariants.{Send}
use Rattle.lc_frame.specs.Channel.{channel_count, number_of, is_same}
use Rattle.lc_frame.specs.Frame.{channel_of}
use Rattle.lc_frame.specs.Kind.{max_body}
use Rattle.lc_book.specs.declared.fault.Refusal.{Refusal}
use Rattle.lc_book.specs.declared.fault.Refusal.TheVariants.{ChannelFinished, EmptyBody, BodyTooLong, PastSendLimit, NoGuarantee}
use Rattle.lc_book.specs.Client.{Client, held, spend, spend_refusal}
use Rattle.lc_book.specs.Finish.{finished_refusal_or}
use Rattle.lc_book.specs.Limit.{is_past, less, left_of}
use Rattle.lc_book.specs.Sums.{client_after_put}
use Rattle.lc_peer.specs.declared.config.Config.{Config}
use Rattle.lc_peer.specs.Config.{new_peer}
use Rattle.lc_peer.specs.Peer.{PeerState, client, channel}
use Rattle.lc_peer.specs.Calls.{put, channel_after_put, put_honour, channel_after_honour}
use Rattle.lc_lines.specs.declared.permits.Aside.{Aside}
use Rattle.lc_lines.specs.declared.scheduler.Control.{Control}
use Rattle.lc_lines.specs.declared.scheduler.Control.TheVariants as control
use Rattle.lc_lines.specs.declared.queue.Bound.{Bound}
use Rattle.lc_lines.specs.declared.queue.Bound.TheVariants as kind
use Rattle.lc_lines.specs.Bounds.{frame_of_bound}
use Rattle.lc_lines.specs.Permits.{no_permits, none_aside, aside_on, permits_on, with_permit, without_permit, is_permit, within, free_of, Allows, AllowsPermits}
use Rattle.lc_lines.specs.Scheduler.{SchedulerState, for_good, aside, reserved_refusal, frame_of_control, IsWithinPermit, KeepsGuarantees, KeepsPermits}
use Rattle.lc_lines.proofs.Guarantees.{NoLess, client_here, client_there, by_channel, enough, permit_is_out, permit_has_bytes, no_aside}
use Rattle.lc_lines.proofs.Queued.{aside_here, aside_there}

-- a limit that leaves so many bytes leaves fewer, too
past_less : (left : Option ℕ) (m n : ℕ) → is_past left m ≡ false → n ≤ m → is_past left n ≡ false
past_less None m n e le = refl
past_less (Some left) m n e le = grind (arith, nat_tests)

-- a message within what is free leaves what is set aside
past_spent : (left : Option ℕ) (held bytes n : ℕ) → is_past left bytes ≡ false → nat_le n (within left held - bytes) ≡ true → is_past (less left n) bytes ≡ false
past_spent None held bytes n e fit = refl
past_spent (Some left) held bytes n e fit =
    let le : n ≤ min left held - bytes = grind (arith, nat_tests) in
    let leaves : bytes ≤ left = grind (arith, nat_tests) in
    let after : bytes ≤ left - n = omega arith in
    grind (arith, nat_tests)

-- a permit within what is free leaves what was set aside, and its own bytes
past_more : (left : Option ℕ) (held bytes n : ℕ) → 1 ≤ n → nat_le n (within left held - bytes) ≡ true → is_past left (bytes + n) ≡ false
past_more None held bytes n some fit = refl
past_more (Some left) held bytes n some fit =
    let le : n ≤ min left held - bytes = grind (arith, nat_tests) in
    let after : bytes + n ≤ left = omega arith in
    grind (arith, nat_tests)

-- a message within its permit leaves what the others set aside
past_used : (left : Option ℕ) (bytes len n : ℕ) → is_past left bytes ≡ false → n ≤ len → len ≤ bytes → is_past (less left n) (bytes - len) ≡ false
past_used None bytes len n e le most = refl
past_used (Some left) bytes len n e le most =
    let leaves : bytes ≤ left = grind (arith, nat_tests) in
    let after : bytes - len ≤ left - n = omega arith in
    grind (arith, nat_tests)

-- what a book allows that refuses no message
unfinished_by : (finished : Bool) (rest : Option Refusal) → finished_refusal_or finished rest ≡ None → finished ≡ false
unfinished_by true rest e = cc
unfinished_by false rest e = refl

some_by : (finished empty : Bool) (rest : Option Refusal) → finished_refusal_or finished (if empty then Some EmptyBody else rest) ≡ None → empty ≡ false
some_by true empty rest e = cc
some_by false true rest e = cc
some_by false false rest e = refl

unfinished : (b : Client) (n : ℕ) → spend_refusal b n ≡ None → b.finished ≡ false
unfinished b n e = unfinished_by b.finished _ e

some_bytes : (b : Client) (n : ℕ) → spend_refusal b n ≡ None → 1 ≤ n
some_bytes b n e = let empty : (n == 0) ≡ false = some_by b.finished (n == 0) _ e in grind (arith, nat_tests)

still_allows : (b b' : Client) (a : Aside) → NoLess b b' → AllowsPermits b a → AllowsPermits b' a
still_allows b b' a same was out = record {
  unfinished = same.finished ∙ (was out).unfinished;
  left = ap (λ (left : Option ℕ). is_past left a.bytes) same.send_left ∙ (was out).left;
}

-- what permits may send on each channel, where one channel's book and permits change
allowed_by : (p p' : PeerState) (h h' : List Aside) (c : Channel) → AllowsPermits (client p' c) (aside_on h' c) → ((x : Channel) → is_same x c ≡ false → client p' x ≡ client p x) → ((x : Channel) → is_same x c ≡ false → aside_on h' x ≡ aside_on h x) → KeepsPermits p h → KeepsPermits p' h'
allowed_by p p' h h' c here books asides keeps =
    λ d. by_channel (λ x. AllowsPermits (client p' x) (aside_on h' x)) c d (is_same d c) refl here
    (λ x e. subst (λ (b : Client). AllowsPermits b (aside_on h' x)) (sym (books x e)) (subst (AllowsPermits (client p x)) (sym (asides x e)) (keeps x)))

-- the same, where a frame is put
allowed_put : (p : PeerState) (h : List Aside) (f : Frame) → length p.channels ≡ channel_count → AllowsPermits (client_after_put f (client p (channel_of f))) (aside_on h (channel_of f)) → KeepsPermits p h → KeepsPermits (put p f) h
allowed_put p h f places here keeps =
    let c = channel_of f in
    let after = channel_after_put f (channel p c) in
    allowed_by p (put p f) h h c (subst (λ (b : Client). AllowsPermits b (aside_on h c)) (sym (client_here p c after places)) here)
    (λ x e. client_there p c x after e) (λ x e. refl) keeps

pub allowed_same : (p p' : PeerState) (h : List Aside) → ((d : Channel) → NoLess (client p d) (client p' d)) → KeepsPermits p h → KeepsPermits p' h
allowed_same p p' h books keeps = λ d. still_allows (client p d) (client p' d) (aside_on h d) (books d) (keeps d)

pub allowed_push : (p : PeerState) (h : List Aside) (c : Channel) (body : List ℕ) → length p.channels ≡ channel_count → KeepsPermits p h → nat_le (length body) (free_of (client p c) (aside_on h c)) ≡ true → KeepsPermits (put p (Send c body)) h
allowed_push p h c body places keeps fit =
    allowed_put p h (Send c body) places
    (λ out. record { unfinished = (keeps c out).unfinished; left = past_spent (client p c).send_left (held (client p c)) (aside_on h c).bytes (length body) (keeps c out).left fit }) keeps

pub allowed_grant : (p : PeerState) (h : List Aside) (c : Channel) (len : ℕ) → length h ≡ channel_count → KeepsPermits p h → spend_refusal (client p c) len ≡ None → nat_le len (free_of (client p c) (aside_on h c)) ≡ true → KeepsPermits p (set h (number_of c) (with_permit (aside_on h c) len))
allowed_grant p h c len places keeps accepted fit =
    let after = with_permit (aside_on h c) len in
    let here : Allows (client p c) after = record {
      unfinished = unfinished (client p c) len accepted;
      left = past_more (client p c).send_left (held (client p c)) (aside_on h c).bytes len (some_bytes (client p c) len accepted) fit;
    } in
    allowed_by p p h (set h (number_of c) after) c (subst (AllowsPermits (client p c)) (sym (aside_here h c after places)) (λ out. here))
    (λ x e. refl) (λ x e. aside_there h c x after e) keeps

pub allowed_release : (p : PeerState) (h : List Aside) (c : Channel) (len : ℕ) → length h ≡ channel_count → KeepsPermits p h → KeepsPermits p (set h (number_of c) (without_permit (aside_on h c) len))
allowed_release p h c len places keeps =
    let after = without_permit (aside_on h c) len in
    let fewer : (aside_on h c).bytes - len ≤ (aside_on h c).bytes = omega arith in
    let here : AllowsPermits (client p c) after = λ out.
    let was = keeps c (omega (arith, out)) in
    record { unfinished = was.unfinished; left = past_less (client p c).send_left (aside_on h c).bytes ((aside_on h c).bytes - len) was.left fewer } in
    allowed_by p p h (set h (number_of c) after) c (subst (AllowsPermits (client p c)) (sym (aside_here h c after places)) here)
    (λ x e. refl) (λ x e. aside_there h c x after e) keeps

pub allowed_void : (p : PeerState) (h : List Aside) (c : Channel) → length h ≡ channel_count → KeepsPermits p h → KeepsPermits p (set h (number_of c) no_permits)
allowed_void p h c places keeps =
    allowed_by p p h (set h (number_of c) no_permits) c (subst (AllowsPermits (client p c)) (sym (aside_here h c no_permits places)) (λ out. absurd (omega (arith, out))))
    (λ x e. refl) (λ x e. aside_there h c x no_permits e) keeps

pub allowed_reserved : (p : PeerState) (h : List Aside) (c : Channel) (len : ℕ) (body : List ℕ) → length p.channels ≡ channel_count → length h ≡ channel_count → is_permit (aside_on h c) len ≡ true → length body ≤ len → KeepsPermits p h → KeepsPermits (put p (Send c body)) (set h (number_of c) (without_permit (aside_on h c) len))
allowed_reserved p h c len body channels places permit fit keeps =
    let after = without_permit (aside_on h c) len in
    let book = channel_after_put (Send c body) (channel p c) in
    let was = keeps c (permit_is_out (aside_on h c) len permit) in
    let bytes = permit_has_bytes (aside_on h c) len permit in
    let here : Allows (spend (client p c) (length body)) after = record { unfinished = was.unfinished; left = past_used (client p c).send_left (aside_on h c).bytes len (length body) was.left fit bytes } in
    allowed_by p (put p (Send c body)) h (set h (number_of c) after) c
    (subst (λ (b : Client). AllowsPermits b (aside_on (set h (number_of c) after) c)) (sym (client_here p c book channels)) (subst (AllowsPermits (spend (client p c) (length body))) (sym (aside_here h c after places)) (λ out. here)))
    (λ x e. client_there p c x book e) (λ x e. aside_there h c x after e) keeps

pub allowed_control : (p : PeerState) (h : List Aside) (f : Control) → length p.channels ≡ channel_count → KeepsPermits p h → KeepsPermits (put p (frame_of_control f)) h
allowed_control p h (control.Issue c n) places keeps = allowed_put p h (frame_of_control (control.Issue c n)) places (keeps c) keeps
allowed_control p h (control.Absolve c n) places keeps = allowed_put p h (frame_of_control (control.Absolve c n)) places (λ out. record { unfinished = (keeps c out).unfinished; left = (keeps c out).left }) keeps
allowed_control p h (control.Plead c n) places keeps = allowed_put p h (frame_of_control (control.Plead c n)) places (keeps c) keeps
allowed_control p h (control.LimitReceiving c n) places keeps = allowed_put p h (frame_of_control (control.LimitReceiving c n)) places (keeps c) keeps

-- a bound is put where no permit of its channel is out
pub allowed_bound : (p : PeerState) (h : List Aside) (c : Channel) (bound : Bound) → length p.channels ≡ channel_count → permits_on h c ≡ 0 → KeepsPermits p h → KeepsPermits (put p (frame_of_bound c bound)) h
allowed_bound p h c (kind.Limit n) places none keeps = allowed_put p h (frame_of_bound c (kind.Limit n)) places (λ out. absurd (omega (arith, out, none))) keeps
allowed_bound p h c kind.Finish places none keeps = allowed_put p h (frame_of_bound c kind.Finish) places (λ out. absurd (omega (arith, out, none))) keeps

pub allowed_honour : (p : PeerState) (h : List Aside) (c : Channel) → length p.channels ≡ channel_count → KeepsPermits p h → KeepsPermits (put_honour p c) h
allowed_honour p h c places keeps =
    let after = channel_after_honour (channel p c) in
    let here : AllowsPermits after.client (aside_on h c) = λ out. record { unfinished = (keeps c out).unfinished; left = (keeps c out).left } in
    allowed_by p (put_honour p c) h h c (subst (λ (b : Client). AllowsPermits b (aside_on h c)) (sym (client_here p c after places)) here)
    (λ x e. client_there p c x after e) (λ x e. refl) keeps

pub allowed_new : (config : Config) → KeepsPermits (new_peer config) none_aside
allowed_new config = λ c.
    let none : AllowsPermits (client (new_peer config) c) no_permits = λ out. absurd (omega (arith, out)) in
    subst (AllowsPermits (client (new_peer config) c)) (sym (no_aside c)) none

-- what no test refuses
none_by : (finished empty long past lacks : Bool) (left held : ℕ) → finished ≡ false → empty ≡ false → long ≡ false → past ≡ false → lacks ≡ false → for_good (if finished then Some ChannelFinished else (if empty then Some EmptyBody else (if long then Some BodyTooLong else (if past then Some (PastSendLimit left) else (if lacks then Some (NoGuarantee held) else None))))) ≡ None
none_by false false false false false left held a b c d e = refl
none_by true empty long past lacks left held a b c d e = cc
none_by false true long past lacks left held a b c d e = cc
none_by false false true past lacks left held a b c d e = cc
none_by false false false true lacks left held a b c d e = cc
none_by false false false false true left held a b c d e = cc

permitted_by : (a : Aside) (len n : ℕ) (b : Bool) → is_permit a len ≡ b → b ≡ true → n ≤ len → (if nat_lt (if b then len else 0) n then Some (NoGuarantee (if b then len else 0)) else None) ≡ None
permitted_by a len n true is e le = let no : nat_lt len n ≡ false = grind (arith, nat_tests) in rw no refl
permitted_by a len n false is e le = cc

-- a message within its permit is refused by nothing
pub permit_is_honoured : (s : SchedulerState) (c : Channel) (len n : ℕ) → KeepsGuarantees s.peer s.asides → KeepsPermits s.peer s.asides → IsWithinPermit s c len n → reserved_refusal s c len n ≡ None
permit_is_honoured s c len n covers keeps is =
    let b = client s.peer c in
    let a = aside s c in
    let allows = keeps c (permit_is_out a len is.out) in
    let bytes = permit_has_bytes a len is.out in
    let few : n ≤ a.bytes = omega (arith, is.within, bytes) in
    let enough_is : n ≤ held b = enough b.finished b.received b.spent b.absolved a.bytes n allows.unfinished (covers c) few in
    let some : 1 ≤ n = is.some in
    let short : n ≤ max_body b.version = is.short in
    let empty : (n == 0) ≡ false = grind (arith, nat_tests) in
    let long : nat_lt (max_body b.version) n ≡ false = grind (arith, nat_tests) in
    let past : is_past b.send_left n ≡ false = past_less b.send_left a.bytes n allows.left few in
    let lacks : nat_lt (held b) n ≡ false = grind (arith, nat_tests) in
    let book : for_good (spend_refusal b n) ≡ None = none_by b.finished (n == 0) (nat_lt (max_body b.version) n) (is_past b.send_left n) (nat_lt (held b) n) (left_of b.send_left) (held b) allows.unfinished empty long past lacks in
    rw book (permitted_by a len n (is_permit a len) refl is.out is.within)
