-- Whatever arrives, a channel keeps what every channel keeps.
use Rattle.std.proofs.Common.{◌≡◌, ℕ, ◌+◌, ◌≤◌, Bool, true, false, List, [], ◌∷◌, ◌++◌, length, get_or, set, Option, Some, None, refl, sym, ap, ◌∙◌, subst, inl, inr, arith, if◌then◌else◌}
use Rattle.std.specs.Prelude.{◌⊎◌, ◌-◌, nat_lt}
use Rattle.std.specs.List.{AllByRecursion}
use Rattle.std.specs.Option.{ForSome}
use Rattle.std.proofs.lemmas.Bool.{cases_lt}
use Rattle.std.proofs.lemmas.Bool.Decides.{nat_tests}
use Rattle.std.proofs.lemmas.List.{length-set, get_or-set_same, get_or-set_other}
use Rattle.std.proofs.Math.ListN.{get_or-eq_default}
use Rattle.std.proofs.lemmas.List.Sums.{sum_by_push}
use Rattle.lc_frame.specs.declared.channel.Channel.{Channel}
use Rattle.lc_frame.specs.declared.frame.Frame.{Frame}
use Rattle.lc_frame.specs.declared.frame.Frame.TheVariants.{Send, Issue, Absolve, Plead, LimitSending, LimitReceiving, Finish}
use Rattle.lc_frame.specs.Kind.{max_amount, max_total}
use Rattle.lc_frame.specs.Channel.{number_of}
use Rattle.lc_frame.specs.declared.version.Version.TheVariants.{Two}
use Rattle.lc_frame.specs.Frame.{channel_of, IsValid}
use Rattle.lc_frame.proofs.Channels.{cases_same}
use Rattle.lc_book.specs.declared.fault.Violation.{Violation}
use Rattle.lc_book.specs.Limit.{is_past, less}
use Rattle.lc_book.specs.Client.{Client, IsClient, held, kept, issued_violation, add_received}
use Rattle.lc_book.specs.Server.{Server, IsServer, outstanding, message_violation, add_arrived, absolve_violation, add_absolved}
use Rattle.lc_ring.specs.Ring.{IsLength, push}
use Rattle.lc_peer.specs.declared.channel_state.ChannelState.{ChannelState}
use Rattle.lc_peer.specs.Inbox.{InboxState, IsInbox}
use Rattle.lc_peer.specs.Peer.{PeerState, channel, server, new_channel, IsChannel}
use Rattle.lc_peer.specs.Arrivals.{violation, violation_at, channel_after_arrival, arrive, arrive_unless, arrivals}
use Rattle.lc_peer.specs.Streams.{ArrivalsStayBounded}

-- no violation, so its condition does not hold, and none after it
not_so : (b : Bool) (v : Violation) (rest : Option Violation) → (if b then Some v else rest) ≡ None → (b ≡ false) × (rest ≡ None)
not_so true v rest e = absurd (let f = e in cc)
not_so false v rest e = (refl, e)

at_most : (m n : ℕ) → nat_lt m n ≡ false → n ≤ m
at_most m n e = grind (arith, nat_tests)

some_is : (m n : ℕ) → Some m ≡ Some n → m ≡ n
some_is m n e = cc

bound_is : (n limit : ℕ) → n ≤ limit → ForSome (Some n) (λ m. m ≤ limit)
bound_is n limit le = λ x e. omega (arith, le, some_is n x e)

less_bound : (left : Option ℕ) (n : ℕ) → ForSome left (λ m. m ≤ max_total) → ForSome (less left n) (λ m. m ≤ max_total)
less_bound None n h = λ x e. absurd (let f = e in cc)
less_bound (Some m) n h = λ x e. omega (arith, h m refl, some_is (m - n) x e)

-- what is left over, before and after guarantees that come: it is waived where the client finished
issued_paid : (finished : Bool) (r s a n : ℕ) → s + a + (if finished then r - s - a else 0) ≤ r → s + a + (if finished then r + n - s - a else 0) ≤ r + n
issued_paid true r s a n h = omega (arith, h)
issued_paid false r s a n h = omega (arith, h)

issued_small : (finished : Bool) (r s a n : ℕ) → r - s - a - (if finished then r - s - a else 0) + n ≤ max_amount → r + n - s - a - (if finished then r + n - s - a else 0) ≤ max_amount
issued_small true r s a n h = omega (arith, h)
issued_small false r s a n h = omega (arith, h)

-- where no Finish came, nothing is waived
none_waived : (finished : Bool) (n : ℕ) → finished ≡ false → (if finished then n else 0) ≡ 0
none_waived finished n e = rw e refl

-- where one comes, all that is left over is
all_waived : (issued arrived absolved : ℕ) → arrived + absolved ≤ issued → (arrived + absolved + (issued - arrived - absolved) ≤ issued) × (issued - arrived - absolved - (issued - arrived - absolved) ≡ 0)
all_waived issued arrived absolved h = (omega (arith, h), omega arith)

-- a client's book after lawful guarantees
issued_keeps : (b : Client) (n : ℕ) → issued_violation b n ≡ None → IsClient b → IsClient (add_received b n)
issued_keeps b n e h =
    let first = not_so (is_past b.receive_left n) _ _ e in
    let second = not_so (nat_lt max_amount (held b + n)) _ _ first.1 in
    let third = not_so (nat_lt max_total (b.received + n)) _ _ second.1 in
    record {
      paid = issued_paid b.finished b.received b.spent b.absolved n h.paid;
      total = at_most max_total (b.received + n) third.0;
      small = issued_small b.finished b.received b.spent b.absolved n (at_most max_amount (held b + n) second.0);
      send_bound = h.send_bound;
      receive_bound = less_bound b.receive_left n h.receive_bound;
      target = h.target;
      finish = h.finish;
      forgotten = h.forgotten;
    }

-- the target of a plead that a client keeps
kept_bound : (finished : Bool) (n : ℕ) → n ≤ max_amount → ForSome (kept finished (Some n)) (λ m. m ≤ max_amount)
kept_bound true n le = λ x e. absurd (let f = e in cc)
kept_bound false n le = bound_is n max_amount le

-- a server's book after a lawful message, and after a lawful absolving
message_keeps : (b : Server) (n : ℕ) → message_violation b n ≡ None → IsServer b → IsServer (add_arrived b n)
message_keeps b n e h =
    let first = not_so b.finished _ _ e in
    let covered = at_most (outstanding b) n (not_so (nat_lt (outstanding b) n) _ _ first.1).0 in
    let before = none_waived b.finished (b.issued - b.arrived - b.absolved) first.0 in
    let after = none_waived b.finished (b.issued - (b.arrived + n) - b.absolved) first.0 in
    record {
      capacity = h.capacity;
      used = omega (arith, h.used, covered, before, after);
      total = h.total;
      taken = omega (arith, h.taken);
      fits = omega (arith, h.fits, h.used, h.taken, covered, before, after);
      send_bound = less_bound b.send_left n h.send_bound;
      receive_bound = h.receive_bound;
    }

absolved_keeps : (b : Server) (n : ℕ) → absolve_violation b n ≡ None → IsServer b → IsServer (add_absolved b n)
absolved_keeps b n e h =
    let first = not_so b.finished _ _ e in
    let covered = at_most (outstanding b) n (not_so (nat_lt (outstanding b) n) _ _ first.1).0 in
    let before = none_waived b.finished (b.issued - b.arrived - b.absolved) first.0 in
    let after = none_waived b.finished (b.issued - b.arrived - (b.absolved + n)) first.0 in
    record {
      capacity = h.capacity;
      used = omega (arith, h.used, covered, before, after);
      total = h.total;
      taken = h.taken;
      fits = omega (arith, h.fits, h.used, covered, before, after);
      send_bound = h.send_bound;
      receive_bound = h.receive_bound;
    }

abbrev AreMessages : List (List ℕ) → Type 0
AreMessages ms = AllByRecursion (λ m. IsLength (length m)) ms

each_push : (ms : List (List ℕ)) (m : List ℕ) → AreMessages ms → IsLength (length m) → AreMessages (ms ++ m ∷ [])
each_push [] m h k = (k, tt)
each_push (x ∷ ms) m h k = (h.0, each_push ms m h.1 k)

-- an inbox after a lawful message
inbox_keeps : (i : InboxState) (body : List ℕ) → IsLength (length body) → message_violation i.book (length body) ≡ None → IsInbox i → IsInbox (record { book = add_arrived i.book (length body); ring = push i.ring body })
inbox_keeps i body is e h =
    let covered = at_most (outstanding i.book) (length body) (not_so (nat_lt (outstanding i.book) (length body)) _ _ (not_so i.book.finished _ _ e).1).0 in
    let more = sum_by_push length i.ring.messages body in
    record {
      book = message_keeps i.book (length body) e h.book;
      ring = record {
        capacity = h.ring.capacity;
        fits = omega (arith, more, h.agrees.capacity, h.agrees.bytes, h.book.fits, covered);
        each = each_push i.ring.messages body h.ring.each is;
      };
      agrees = record { capacity = h.agrees.capacity; bytes = omega (arith, more, h.agrees.bytes, h.book.taken) };
    }

-- a channel after a lawful frame
pub channel_keeps : (f : Frame) (s : ChannelState) → IsValid Two f → violation s.client s.inbox.book f ≡ None → IsChannel s → IsChannel (channel_after_arrival f s)
channel_keeps (Send c body) s valid e h = record { client = h.client; inbox = inbox_keeps s.inbox body (record { at_least = valid.1.0; at_most = valid.1.1 }) e h.inbox }
channel_keeps (Issue c n) s valid e h = record { client = issued_keeps s.client n e h.client; inbox = h.inbox }
channel_keeps (Absolve c n) s valid e h = record { client = h.client; inbox = record { book = absolved_keeps s.inbox.book n e h.inbox.book; ring = h.inbox.ring; agrees = record { capacity = h.inbox.agrees.capacity; bytes = h.inbox.agrees.bytes } } }
channel_keeps (Plead c n) s valid e h =
    let b = h.client in
    record { client = record { paid = b.paid; total = b.total; small = b.small; send_bound = b.send_bound; receive_bound = b.receive_bound; target = kept_bound s.client.finished n valid.1.1; finish = b.finish; forgotten = λ finished. ap (λ (x : Bool). kept x (Some n)) finished }; inbox = h.inbox }
channel_keeps (LimitSending c n) s valid e h =
    let b = h.inbox.book in
    record { client = h.client; inbox = record { book = record { capacity = b.capacity; used = b.used; total = b.total; taken = b.taken; fits = b.fits; send_bound = bound_is n max_total valid.1.1; receive_bound = b.receive_bound }; ring = h.inbox.ring; agrees = record { capacity = h.inbox.agrees.capacity; bytes = h.inbox.agrees.bytes } } }
channel_keeps (LimitReceiving c n) s valid e h =
    let b = h.client in
    record { client = record { paid = b.paid; total = b.total; small = b.small; send_bound = b.send_bound; receive_bound = bound_is n max_total valid.1.1; target = b.target; finish = b.finish; forgotten = b.forgotten }; inbox = h.inbox }
channel_keeps (Finish c) s valid e h =
    let b = h.inbox.book in
    let all = all_waived s.inbox.book.issued s.inbox.book.arrived s.inbox.book.absolved (omega (arith, b.used)) in
    record { client = h.client; inbox = record { book = record { capacity = b.capacity; used = all.0; total = b.total; taken = b.taken; fits = omega (arith, all.1, b.fits); send_bound = b.send_bound; receive_bound = b.receive_bound }; ring = h.inbox.ring; agrees = record { capacity = h.inbox.agrees.capacity; bytes = h.inbox.agrees.bytes } } }

-- no frame changes a capacity
same_capacity : (f : Frame) (s : ChannelState) → (channel_after_arrival f s).inbox.book.capacity ≡ s.inbox.book.capacity
same_capacity (Send c body) s = refl
same_capacity (Absolve c n) s = refl
same_capacity (LimitSending c n) s = refl
same_capacity (Finish c) s = refl
same_capacity f s = refl

-- a place that is written, if it is there
written : {X : Type 0} (P : X → Type 0) (xs : List X) (i : ℕ) (x d : X) → P x → P (get_or xs i d) → P (get_or (set xs i x) i d)
written P xs i x d here before =
    elim (cases_lt i (length xs)) [
      | inl lt ↦ subst P (sym (get_or-set_same xs i x d lt)) here
      | inr ge ↦ subst P (get_or-eq_default xs d (omega arith) ∙ sym (get_or-eq_default (set xs i x) d (omega (arith, length-set xs i x)))) before
    ]

-- what a channel kept, and the capacity of its ring
abbrev Keeps : ℕ → ChannelState → Type 0
Keeps capacity s = IsChannel s × (s.inbox.book.capacity ≡ capacity)

arrive_keeps : (p : PeerState) (f : Frame) (c : Channel) (capacity : ℕ) → IsValid Two f → violation_at p f ≡ None → Keeps capacity (channel p c) → Keeps capacity (channel (arrive p f) c)
arrive_keeps p f c capacity valid e h =
    elim (cases_same c (channel_of f)) [
      | inl same ↦
          let k : Keeps capacity (channel p (channel_of f)) = subst (λ (d : Channel). Keeps capacity (channel p d)) same h in
          let s = channel p (channel_of f) in
          let kept : Keeps capacity (channel_after_arrival f s) = (channel_keeps f s valid e k.0, same_capacity f s ∙ k.1) in
          subst (λ (d : Channel). Keeps capacity (channel (arrive p f) d)) (sym same) (written (Keeps capacity) p.channels (number_of (channel_of f)) (channel_after_arrival f s) (new_channel p.version 0) kept k)
      | inr apart ↦ subst (Keeps capacity) (sym (get_or-set_other p.channels (number_of (channel_of f)) (number_of c) _ (new_channel p.version 0) (grind (arith, nat_tests, apart)))) h
    ]

pub cases_violation : (o : Option Violation) → (o ≡ None) ⊎ ((v : Violation) × (o ≡ Some v))
cases_violation None = inl refl
cases_violation (Some v) = inr (v, refl)

arrivals_keep : (p : PeerState) (frames : List Frame) (c : Channel) (capacity : ℕ) → Keeps capacity (channel p c) → AllByRecursion (IsValid Two) frames → Keeps capacity (channel (arrivals p frames).peer c)
arrivals_keep p [] c capacity h valid = h
arrivals_keep p (f ∷ frames) c capacity h valid =
    elim (cases_violation (violation_at p f)) [
      | inl none ↦ subst (λ (o : Option Violation). Keeps capacity (channel (arrive_unless p o (arrivals (arrive p f) frames)).peer c)) (sym none) (arrivals_keep (arrive p f) frames c capacity (arrive_keeps p f c capacity valid.0 none h) valid.1)
      | inr some ↦ subst (λ (o : Option Violation). Keeps capacity (channel (arrive_unless p o (arrivals (arrive p f) frames)).peer c)) (sym some.1) h
    ]

pub arrivals_stay_bounded : ArrivalsStayBounded
arrivals_stay_bounded p frames c h valid =
    let k = arrivals_keep p frames c (server p c).capacity (h, refl) valid in
    record { kept = k.0; bytes = k.0.inbox.agrees.bytes; fits = omega (arith, k.0.inbox.book.fits, k.1) }
