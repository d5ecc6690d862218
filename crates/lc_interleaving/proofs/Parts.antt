-- The ends of a finished session kept the rules, each by its own history.
use Rattle.std.proofs.Common.{◌≡◌, ℕ, zero, suc, ◌+◌, ◌≤◌, true, false, List, [], ◌∷◌, ◌++◌, map, Option, Some, None, refl, sym, ap, subst, ◌∙◌, arith}
use Rattle.std.specs.Prelude.{All, slice_get, slice_index_or, is_some, option_to_list, MatchOption, IsSomeAnd}
use Rattle.lc_history.specs.History.{IsHistory}
use Rattle.lc_frame.specs.declared.version.Version.{Version}
use Rattle.lc_frame.specs.declared.channel.Channel.{Channel}
use Rattle.lc_frame.specs.declared.channel.Channel.TheVariants.{Reconciliation, Data, Overlap, Capability, AreaOfInterest, PayloadRequest, StaticToken}
use Rattle.lc_frame.specs.declared.frame.Frame.{Frame}
use Rattle.lc_frame.specs.Channel.{number_of}
use Rattle.lc_frame.specs.Stream.{of_lane, cost, absolved, issued, finished}
use Rattle.lc_book.specs.Server.{Server}
use Rattle.lc_book.specs.Sums.{SumsAreOfLanes}
use Rattle.lc_book.proofs.Lanes.{every_sum_is_of_its_lane}
use Rattle.lc_queue.specs.Parts.{QueueId, End}
use Rattle.lc_credit.specs.declared.balance.Balance.{Balance}
use Rattle.lc_credit.specs.declared.history.Entry as credit
use Rattle.lc_credit.specs.Sides.{Incoming, Outgoing, IsSettled}
use Rattle.lc_credit.specs.Channels.{AreSettled}
use Rattle.lc_outbox.specs.Uses.{amounts}
use Rattle.lc_outbox.specs.Outbox.{OutboxState, MayPut, IsOutbox}
use Rattle.lc_outbox.proofs.Uses.{uses_same}
use Rattle.lc_inbox.specs.declared.history.Entry.{Entry}
use Rattle.lc_inbox.specs.History as inboxes
use Rattle.lc_inbox.specs.Sides.{InboxSide}
use Rattle.lc_inbox.specs.Inboxes.{AreFinished}
use Rattle.lc_session.specs.Channels.{channels}
use Rattle.lc_session.specs.Reading.{channel_of_side}
use Rattle.lc_session.specs.Report.{SessionState, channel_of_outbox, credit_of_outbox, outgoing_of, PutsOn, GaveAll}
use Rattle.lc_interleaving.specs.Finished.{Finished, IsFinished, credit_histories, inbox_histories, trace, FitsRings}
use Rattle.lc_interleaving.proofs.Sides.{KeepsSending, KeepsReceiving, KeepsRules}

-- of each channel in a list, what is at its place in two others keeps this
abbrev EachKeeps : {X Y : Type 0} → (Channel → X → Y → Type 0) → List Channel → List X → List Y → Type 0
EachKeeps Keeps [] xs ys = Unit {0}
EachKeeps Keeps (c ∷ cs) (x ∷ xs) (y ∷ ys) = Keeps c x y × EachKeeps Keeps cs xs ys
EachKeeps Keeps (c ∷ cs) xs ys = ⊥

-- at the place of one channel
pub record KeepsAt {X Y : Type 0} (Keeps : Channel → X → Y → Type 0) (c : Channel) (x : X) (ys : List Y) (n : ℕ) : Type 0 where
  pub other : Y
  pub there : slice_get ys n ≡ Some other
  pub keeps : Keeps c x other

keeps_at : {X Y : Type 0} (Keeps : Channel → X → Y → Type 0) (n : ℕ) (c : Channel) (cs : List Channel) (xs : List X) (ys : List Y) (d : X) → slice_get cs n ≡ Some c → EachKeeps Keeps cs xs ys → KeepsAt Keeps c (slice_index_or xs n d) ys n
keeps_at Keeps n c [] xs ys d there h = absurd (cc)
keeps_at Keeps n c (b ∷ cs) [] ys d there h = absurd h
keeps_at Keeps n c (b ∷ cs) (x ∷ xs) [] d there h = absurd h
keeps_at {X} {Y} Keeps zero c (b ∷ cs) (x ∷ xs) (y ∷ ys) d there h = let same : b ≡ c = cc in record { other = y; there = refl; keeps = subst (λ (e : Channel). Keeps e x y) same h.0 }
keeps_at Keeps (suc n) c (b ∷ cs) (x ∷ xs) (y ∷ ys) d there h =
    let rest = keeps_at Keeps n c cs xs ys d there h.1 in
    record { other = rest.other; there = rest.there; keeps = rest.keeps }

channel_there : (c : Channel) → slice_get channels (number_of c) ≡ Some c
channel_there Reconciliation = refl
channel_there Data = refl
channel_there Overlap = refl
channel_there Capability = refl
channel_there AreaOfInterest = refl
channel_there PayloadRequest = refl
channel_there StaticToken = refl

-- a list without its first still has what each of it has
all_rest : {X : Type 0} (P : X → Type 0) (x : X) (xs : List X) → All P (x ∷ xs) → All P xs
all_rest P x xs h k d below = h (suc k) d (omega (arith, below))

all_first : {X : Type 0} (P : X → Type 0) (x : X) (xs : List X) → All P (x ∷ xs) → P x
all_first P x xs h = h 0 x (omega arith)

-- the sending ends, one after another: each kept the rules, and its balance is that of what it put
pub record Sends (version : Version) (frames : List Frame) (c : Channel) (history : List credit.Entry) (b : Balance) : Type 0 where
  pub sending : KeepsSending version c history (of_lane (number_of c) frames)
  pub spent_is : b.spent ≡ cost c frames
  pub absolved_is : b.absolved ≡ absolved c frames
  pub held_is : finished c frames ≡ true → b.held ≡ 0
  pub waived_is : finished c frames ≡ false → b.waived ≡ 0
  pub adds_up : b.held + b.spent + b.absolved + b.waived ≡ b.received

-- where something was waived nothing is held, and where nothing was, nothing is waived
none_held : (taken : Option ℕ) (b : Balance) → MatchOption taken (b.waived ≡ 0) (λ n. (b.held ≡ 0) × (n ≤ b.waived)) → is_some taken ≡ true → b.held ≡ 0
none_held None b h some = absurd (cc)
none_held (Some n) b h some = h.0

none_waived : (taken : Option ℕ) (b : Balance) → MatchOption taken (b.waived ≡ 0) (λ n. (b.held ≡ 0) × (n ≤ b.waived)) → is_some taken ≡ false → b.waived ≡ 0
none_waived None b h none = h
none_waived (Some n) b h none = absurd (cc)

sends_one : (queue : QueueId) (version : Version) (frames : List Frame) (i : Incoming) (o : OutboxState) (b : Balance) (h : IsSettled i o.credit b) → IsOutbox o → PutsOn queue version o → GaveAll frames o → Sends version frames o.channel h.history b
sends_one queue version frames i o b h is puts gave =
    let p : SumsAreOfLanes o.channel frames = every_sum_is_of_its_lane o.channel frames in
    let finish_is : is_some o.credit.waived ≡ finished o.channel frames = is.finished ∙ (ap (finished o.channel) (sym gave) ∙ p.finished_is) in
    record {
      sending = record {
        legal = h.legal;
        waived = o.credit.waived;
        pays = uses_same o.credit.seen h.history h.outgoing_knows ∙ (is.uses ∙ ap (λ (fs : List Frame). amounts fs ++ option_to_list o.credit.waived) (sym gave));
        rules = subst (λ (v : Version). IsHistory (MayPut v o.channel) (of_lane (number_of o.channel) frames)) puts.version_is (subst (λ (fs : List Frame). IsHistory (MayPut o.lane.version o.channel) fs) (sym gave) is.rules);
      };
      spent_is = h.spent_is ∙ (is.spent ∙ (ap (cost o.channel) (sym gave) ∙ p.cost_is));
      absolved_is = h.absolved_is ∙ (is.absolved ∙ (ap (absolved o.channel) (sym gave) ∙ p.absolved_is));
      held_is = λ e. none_held o.credit.waived b h.waived_is (finish_is ∙ e);
      waived_is = λ e. none_waived o.credit.waived b h.waived_is (finish_is ∙ e);
      adds_up = h.adds_up;
    }

send_all : (queue : QueueId) (version : Version) (frames : List Frame) (incoming : List Incoming) (ends : List OutboxState) (balances : List Balance) (h : AreSettled incoming (map credit_of_outbox ends) balances) → All IsOutbox ends → All (PutsOn queue version) ends → All (GaveAll frames) ends → EachKeeps (Sends version frames) (map channel_of_outbox ends) (credit_histories incoming (map credit_of_outbox ends) balances h) balances
send_all queue version frames [] [] [] h is puts gave = tt
send_all queue version frames [] [] (b ∷ balances) h is puts gave = tt
send_all queue version frames (i ∷ incoming) [] [] h is puts gave = tt
send_all queue version frames (i ∷ incoming) [] (b ∷ balances) h is puts gave = tt
send_all queue version frames [] (o ∷ ends) [] h is puts gave = absurd h
send_all queue version frames [] (o ∷ ends) (b ∷ balances) h is puts gave = absurd h
send_all queue version frames (i ∷ incoming) (o ∷ ends) [] h is puts gave = absurd h
send_all queue version frames (i ∷ incoming) (o ∷ ends) (b ∷ balances) h is puts gave = (
  sends_one queue version frames i o b h.0 (all_first IsOutbox o ends is) (all_first (PutsOn queue version) o ends puts) (all_first (GaveAll frames) o ends gave),
  send_all queue version frames incoming ends balances h.1 (all_rest IsOutbox o ends is) (all_rest (PutsOn queue version) o ends puts) (all_rest (GaveAll frames) o ends gave),
)

-- what a credit received is what its reading side did
settled_received : (n : ℕ) (incoming : List Incoming) (outgoing : List Outgoing) (balances : List Balance) (i : Incoming) (b : Balance) → AreSettled incoming outgoing balances → slice_get incoming n ≡ Some i → slice_get balances n ≡ Some b → b.received ≡ i.received
settled_received n [] outgoing balances i b h ei eb = absurd (cc)
settled_received n (j ∷ incoming) [] balances i b h ei eb = absurd h
settled_received n (j ∷ incoming) (o ∷ outgoing) [] i b h ei eb = absurd h
settled_received zero (j ∷ incoming) (o ∷ outgoing) (k ∷ balances) i b h ei eb =
    let ij : j ≡ i = cc in
    let kb : k ≡ b = cc in
    ap (λ (x : Balance). x.received) (sym kb) ∙ (h.0.received_is ∙ ap (λ (x : Incoming). x.received) ij)
settled_received (suc n) (j ∷ incoming) (o ∷ outgoing) (k ∷ balances) i b h ei eb = settled_received n incoming outgoing balances i b h.1 ei eb

received_at : (o : Option Incoming) (n : ℕ) (incoming : List Incoming) (outgoing : List Outgoing) (balances : List Balance) (b : Balance) (sum : ℕ) → slice_get incoming n ≡ o → IsSomeAnd o (λ i. i.received ≡ sum) → AreSettled incoming outgoing balances → slice_get balances n ≡ Some b → b.received ≡ sum
received_at None n incoming outgoing balances b sum there is h eb = absurd is
received_at (Some i) n incoming outgoing balances b sum there is h eb = settled_received n incoming outgoing balances i b h there eb ∙ is

-- and the receiving ends: each kept the rules, and its book is that of its history
abbrev FitsRing : ℕ → InboxSide → Type 0
FitsRing capacity side = side.key.capacity ≤ capacity

pub record Serves (capacity : ℕ) (c : Channel) (history : List Entry) (book : Server) : Type 0 where
  pub receiving : KeepsReceiving capacity c history
  pub book_is : book ≡ inboxes.book_after receiving.key history
  pub ordered : inboxes.IsInOrder receiving.key history

receive_all : (capacity : ℕ) (incoming outgoing : List InboxSide) (books : List Server) (lanes : List End) (h : AreFinished incoming outgoing books lanes) → All (FitsRing capacity) incoming → EachKeeps (Serves capacity) (map channel_of_side incoming) (inbox_histories incoming outgoing books lanes h) books
receive_all capacity [] outgoing books lanes h small = tt
receive_all capacity (i ∷ incoming) [] books lanes h small = absurd h
receive_all capacity (i ∷ incoming) (o ∷ outgoing) [] lanes h small = absurd h
receive_all capacity (i ∷ incoming) (o ∷ outgoing) (book ∷ books) [] h small = absurd h
receive_all capacity (i ∷ incoming) (o ∷ outgoing) (book ∷ books) (lane ∷ lanes) h small = (
  record {
    receiving = record { key = i.key; channel_is = refl; small = all_first (FitsRing capacity) i incoming small; legal = h.0.legal };
    book_is = h.0.book_is;
    ordered = h.0.in_order;
  },
  receive_all capacity incoming outgoing books lanes h.1 (all_rest (FitsRing capacity) i incoming small),
)

-- the ends of a channel: what the sending one put, and what the receiving one took
pub record SenderAt (frames : List Frame) (c : Channel) (ends : List OutboxState) (n : ℕ) : Type 0 where
  pub end : OutboxState
  pub there : slice_get ends n ≡ Some end
  pub gave : of_lane (number_of c) frames ≡ end.lane.put

sender_at : (frames : List Frame) (n : ℕ) (c : Channel) (ends : List OutboxState) → slice_get (map channel_of_outbox ends) n ≡ Some c → All (GaveAll frames) ends → SenderAt frames c ends n
sender_at frames n c [] is gave = absurd (cc)
sender_at frames zero c (o ∷ ends) is gave = let same : o.channel ≡ c = cc in record { end = o; there = refl; gave = subst (λ (d : Channel). of_lane (number_of d) frames ≡ o.lane.put) same (all_first (GaveAll frames) o ends gave) }
sender_at frames (suc n) c (o ∷ ends) is gave =
    let rest : SenderAt frames c ends n = sender_at frames n c ends is (all_rest (GaveAll frames) o ends gave) in
    record { end = rest.end; there = rest.there; gave = rest.gave }

pub record ReceiverAt (history : List Entry) (ends : List InboxSide) (n : ℕ) : Type 0 where
  pub end : InboxSide
  pub there : slice_get ends n ≡ Some end
  pub took_is : inboxes.took history ≡ inboxes.took end.seen

receiver_at : (n : ℕ) (c : Channel) (incoming outgoing : List InboxSide) (books : List Server) (lanes : List End) (h : AreFinished incoming outgoing books lanes) → slice_get (map channel_of_side incoming) n ≡ Some c → ReceiverAt (slice_index_or (inbox_histories incoming outgoing books lanes h) n []) outgoing n
receiver_at n c [] outgoing books lanes h is = absurd (cc)
receiver_at n c (i ∷ incoming) [] books lanes h is = absurd h
receiver_at n c (i ∷ incoming) (o ∷ outgoing) [] lanes h is = absurd h
receiver_at n c (i ∷ incoming) (o ∷ outgoing) (book ∷ books) [] h is = absurd h
receiver_at zero c (i ∷ incoming) (o ∷ outgoing) (book ∷ books) (lane ∷ lanes) h is = record { end = o; there = refl; took_is = h.0.took }
receiver_at (suc n) c (i ∷ incoming) (o ∷ outgoing) (book ∷ books) (lane ∷ lanes) h is =
    let rest : ReceiverAt (slice_index_or (inbox_histories incoming outgoing books lanes h.1) n []) outgoing n = receiver_at n c incoming outgoing books lanes h.1 is in
    record { end = rest.end; there = rest.there; took_is = rest.took_is }

pub sender_of : (r : Finished) (f : IsFinished r) (c : Channel) → SenderAt (trace r f).put c r.session.sending (number_of c)
sender_of r f c = sender_at (trace r f).put (number_of c) c r.session.sending (ap (λ (cs : List Channel). slice_get cs (number_of c)) f.one.senders ∙ channel_there c) f.report.clients_gave

pub receiver_of : (r : Finished) (f : IsFinished r) (c : Channel) → ReceiverAt ((trace r f).inbox c) r.session.receiving (number_of c)
receiver_of r f c = receiver_at (number_of c) c r.session.reading.side.inboxes r.session.receiving r.servers f.report.lanes f.report.finished (ap (λ (cs : List Channel). slice_get cs (number_of c)) f.one.receivers ∙ channel_there c)

module _ (capacity : ℕ) (r : Finished) (f : IsFinished r) (small : FitsRings capacity r) where
  abbrev s : SessionState
  s = r.session

  abbrev version : Version
  version = s.writing.drain.version

  abbrev frames : List Frame
  frames = s.writing.drain.popped ++ f.report.last

  abbrev credits : List (List credit.Entry)
  credits = credit_histories s.reading.side.credits (outgoing_of s) r.clients f.report.settled

  abbrev inbox_lists : List (List Entry)
  inbox_lists = inbox_histories s.reading.side.inboxes s.receiving r.servers f.report.lanes f.report.finished

  pub sends_at : (c : Channel) → KeepsAt (Sends (trace r f).version (trace r f).put) c ((trace r f).credit c) r.clients (number_of c)
  sends_at c = keeps_at (Sends version frames) (number_of c) c channels credits r.clients [] (channel_there c)
      (subst (λ (cs : List Channel). EachKeeps (Sends version frames) cs credits r.clients) f.one.senders (send_all s.writing.drain.queue version frames s.reading.side.credits s.sending r.clients f.report.settled f.report.outboxes f.one.clients_put f.report.clients_gave))

  pub serves_at : (c : Channel) → KeepsAt (Serves capacity) c ((trace r f).inbox c) r.servers (number_of c)
  serves_at c = keeps_at (Serves capacity) (number_of c) c channels inbox_lists r.servers [] (channel_there c)
      (subst (λ (cs : List Channel). EachKeeps (Serves capacity) cs inbox_lists r.servers) f.one.receivers (receive_all capacity s.reading.side.inboxes s.receiving r.servers f.report.lanes f.report.finished small))

  pub received_is : (c : Channel) → (sends_at c).other.received ≡ issued c r.arrived
  received_is c = received_at (slice_get s.reading.side.credits (number_of c)) (number_of c) s.reading.side.credits (outgoing_of s) r.clients (sends_at c).other (issued c r.arrived) refl (f.heard c).received f.report.settled (sends_at c).there

  pub keeps_rules : KeepsRules capacity (trace r f)
  keeps_rules = record { sending = λ c. (sends_at c).keeps.sending; receiving = λ c. (serves_at c).keeps.receiving }
