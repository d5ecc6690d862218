-- There are two finished sessions and an order of their steps of which the laws speak. Session B limits what it issues to 9, issues 5 and pleads for 1; session A limits what it sends to 10, takes 4 out of its credit and gives them back, sends three bytes, and honours the plead by absolving 1, and finishes the channel, which waives 1; B takes the message, issues 2 more, which are under way at the end, and hears the Finish. Nothing was written: the frames were left in the queues, and A's greeting, since A writes in version Two and B in version One.
use Rattle.std.proofs.Common.{◌≡◌, ℕ, zero, suc, ◌+◌, ◌≤◌, List, [], ◌∷◌, ◌++◌, Option, Some, None, refl, arith}
use Rattle.std.specs.Prelude.{All}
use Rattle.std.specs.List.{AllByRecursion}
use Rattle.atomic_table.specs.Seated.{TableId}
use Rattle.lc_frame.specs.declared.version.Version.{Version}
use Rattle.lc_frame.specs.declared.version.Version.TheVariants.{One, Two}
use Rattle.lc_frame.specs.declared.channel.Channel.{Channel}
use Rattle.lc_frame.specs.declared.channel.Channel.TheVariants.{Reconciliation, Data, Overlap, Capability, AreaOfInterest, PayloadRequest, StaticToken}
use Rattle.lc_frame.specs.declared.kind.Kind.TheVariants as kinds
use Rattle.lc_frame.specs.declared.frame.Frame.{Frame}
use Rattle.lc_frame.specs.declared.frame.Frame.TheVariants.{Send, Issue, Absolve, Plead, LimitSending, LimitReceiving, Finish}
use Rattle.lc_frame.specs.Stored.{nothing_stored}
use Rattle.lc_frame.specs.Channel.{channel_count, number_of}
use Rattle.lc_book.specs.Server.{Server}
use Rattle.lc_queue.specs.Parts.{End, new_outlet}
use Rattle.lc_credit.specs.declared.balance.Balance.{Balance}
use Rattle.lc_credit.specs.declared.history.Entry as credit
use Rattle.lc_credit.specs.declared.history.Entry.TheVariants.{Received, Used, Returned, Asked, Taken}
use Rattle.lc_credit.specs.Sides.{Incoming, Outgoing, new_incoming, new_outgoing, IsSettled}
use Rattle.lc_outbox.specs.Outbox.{OutboxState, IsOutbox}
use Rattle.lc_inbox.specs.declared.history.Entry.{Entry}
use Rattle.lc_inbox.specs.declared.history.Entry.TheVariants.{Heard, Put, Took}
use Rattle.lc_inbox.specs.declared.rule.Key.{Key}
use Rattle.lc_inbox.specs.History.{book_after, lane_after}
use Rattle.lc_inbox.specs.Sides as sides
use Rattle.lc_inbox.specs.Sides.{InboxSide}
use Rattle.lc_session.specs.Reading.{HasHeard, HasHeardAll}
use Rattle.lc_session.specs.Pumping.{new_pumping}
use Rattle.lc_session.specs.Report.{SessionState, AreOfOneSession, PutsOn, ServesOn, GaveAll, GaveAllOf, IsReport}
use Rattle.lc_interleaving.specs.Steps.{entries, without_refusals}
use Rattle.lc_interleaving.specs.Steps.Step.{puts, hears, takes}
use Rattle.lc_interleaving.specs.Interleaving.{Joint, of_a, of_b, IsInterleaving}
use Rattle.lc_interleaving.specs.Interleaving.Joint.{at_a, at_b}
use Rattle.lc_interleaving.specs.Finished.{Finished, IsFinished, trace}
use Rattle.lc_interleaving.specs.Sessions.{WereOne, HasEveryKind, HasEntry, PremisesCanBeMet}

pub all_of : {X : Type 0} (P : X → Type 0) (xs : List X) → AllByRecursion P xs → All P xs
all_of P [] h k d below = absurd (omega (arith, below))
all_of P (x ∷ xs) h zero d below = h.0
all_of P (x ∷ xs) h (suc k) d below = all_of P xs h.1 k d (omega (arith, below))

-- what holds on each channel, shown on each
pub each : (P : Channel → Type 0) → P Reconciliation → P Data → P Overlap → P Capability → P AreaOfInterest → P PayloadRequest → P StaticToken → (c : Channel) → P c
each P p0 p1 p2 p3 p4 p5 p6 Reconciliation = p0
each P p0 p1 p2 p3 p4 p5 p6 Data = p1
each P p0 p1 p2 p3 p4 p5 p6 Overlap = p2
each P p0 p1 p2 p3 p4 p5 p6 Capability = p3
each P p0 p1 p2 p3 p4 p5 p6 AreaOfInterest = p4
each P p0 p1 p2 p3 p4 p5 p6 PayloadRequest = p5
each P p0 p1 p2 p3 p4 p5 p6 StaticToken = p6

-- the same thing at every channel but the data channel
abbrev pub listed : {X : Type 0} → (Channel → X) → X → List X
listed of other = of Reconciliation ∷ other ∷ of Overlap ∷ of Capability ∷ of AreaOfInterest ∷ of PayloadRequest ∷ of StaticToken ∷ []

abbrev pub message : List ℕ
message = 1 ∷ 2 ∷ 3 ∷ []

abbrev pub a_frames : List Frame
a_frames = LimitSending Data 10 ∷ Send Data message ∷ Absolve Data 1 ∷ Finish Data ∷ []

abbrev pub b_frames : List Frame
b_frames = LimitReceiving Data 9 ∷ Issue Data 5 ∷ Plead Data 1 ∷ Issue Data 2 ∷ []

-- what each had heard at the end
abbrev pub a_heard : List Frame
a_heard = LimitReceiving Data 9 ∷ Issue Data 5 ∷ Plead Data 1 ∷ []

-- the history of A's credit, and of B's inbox, each as far as one thread had seen it, and the whole
abbrev pub credit_begun : List credit.Entry
credit_begun = Received 5 ∷ Used 4 ∷ Returned 4 ∷ Used 3 ∷ Asked 1 ∷ []

abbrev pub credit_whole : List credit.Entry
credit_whole = Received 5 ∷ Used 4 ∷ Returned 4 ∷ Used 3 ∷ Asked 1 ∷ Taken 1 ∷ Used 1 ∷ Used 1 ∷ []

abbrev pub inbox_begun : List Entry
inbox_begun = Put (LimitReceiving Data 9) ∷ Put (Issue Data 5) ∷ Put (Plead Data 1) ∷ Heard (LimitSending Data 10) ∷ Heard (Send Data message) ∷ Took message ∷ Heard (Absolve Data 1) ∷ Put (Issue Data 2) ∷ []

abbrev pub inbox_whole : List Entry
inbox_whole = Put (LimitReceiving Data 9) ∷ Put (Issue Data 5) ∷ Put (Plead Data 1) ∷ Heard (LimitSending Data 10) ∷ Heard (Send Data message) ∷ Took message ∷ Heard (Absolve Data 1) ∷ Put (Issue Data 2) ∷ Heard (Finish Data) ∷ []

abbrev pub order : List Joint
order =
    at_b (puts (LimitReceiving Data 9)) ∷ at_b (puts (Issue Data 5)) ∷ at_a (hears (LimitReceiving Data 9)) ∷ at_a (hears (Issue Data 5)) ∷ at_a (puts (LimitSending Data 10)) ∷ at_a (puts (Send Data message))
    ∷ at_b (puts (Plead Data 1)) ∷ at_a (hears (Plead Data 1)) ∷ at_a (puts (Absolve Data 1)) ∷ at_a (puts (Finish Data)) ∷ at_b (hears (LimitSending Data 10)) ∷ at_b (hears (Send Data message)) ∷ at_b (takes Data message) ∷ at_b (hears (Absolve Data 1))
    ∷ at_b (puts (Issue Data 2)) ∷ at_b (hears (Finish Data)) ∷ []

abbrev pub nothing : Balance
nothing = record { received = 0; held = 0; spent = 0; absolved = 0; waived = 0 }

-- which queue, which credits and which inboxes they are does not matter
module _ (id : TableId) (base : InboxSide) where
  abbrev pub end_of : Version → ℕ → List Frame → End
  end_of v lane frames = record { queue = id; version = v; lane = lane; put = frames }

  abbrev pub outbox : Version → Channel → List Frame → Outgoing → Option ℕ → OutboxState
  outbox v c frames credit left = record { channel = c; lane = end_of v (number_of c) frames; credit = credit; send_left = left; asked = None }

  abbrev pub key : Version → Channel → Key
  key v c = record base.key { channel = c; capacity = 6; lane = record base.key.lane { value = end_of v (channel_count + number_of c) [] } }

  abbrev pub side : Version → Channel → List Entry → InboxSide
  side v c seen = record { inbox = id; key = key v c; seen = seen; turns = 0 }

  -- a session of which only the data channel was used
  abbrev pub session : Version → OutboxState → Incoming → List Entry → List Entry → SessionState
  session v o i reads receives = record {
    sending = listed (λ c. outbox v c [] (new_outgoing id) None) o;
    receiving = listed (λ c. side v c []) (side v Data receives);
    reading = record {
      side = record { credits = listed (λ c. new_incoming id) i; inboxes = listed (λ c. side v c []) (side v Data reads) };
      intake = record { held = nothing_stored; kept = 0; stop = None; rings = listed (λ c. 6) 6 };
    };
    writing = new_pumping (new_outlet id v);
  }

  abbrev pub books : Version → List Entry → List Server
  books v history = listed (λ c. book_after (key v c) []) (book_after (key v Data) history)

  abbrev pub lanes : Version → List Entry → List End
  lanes v history = listed (λ c. lane_after (key v c) []) (lane_after (key v Data) history)

  -- a channel that was not used
  unfoldable pub unused : (c : Channel) → IsSettled (new_incoming id) (new_outgoing id) nothing
  unused c = record {
    received_is = refl;
    spent_is = refl;
    absolved_is = refl;
    waived_is = refl;
    adds_up = refl;
    history = [];
    legal = tt;
    incoming_knows = record { later = []; begins = refl; others = refl };
    outgoing_knows = record { later = []; begins = refl; others = refl };
    all_received = refl;
    all_used = refl;
  }

  pub unused_outbox : (v : Version) (c : Channel) → IsOutbox (outbox v c [] (new_outgoing id) None)
  unused_outbox v c = record { lane = refl; idle = refl; spent = refl; absolved = refl; uses = refl; finished = refl; left = refl; rules = tt }

  unfoldable pub unused_inbox : (v : Version) (c : Channel) → sides.IsFinished (side v c []) (side v c []) (book_after (key v c) []) (lane_after (key v c) [])
  unused_inbox v c = record {
    history = [];
    legal = tt;
    reads = record { later = []; begins = refl; others = refl };
    receives = record { later = []; begins = refl; others = refl };
    book_is = refl;
    lane_is = refl;
    heard = refl;
    put = refl;
    took = refl;
    in_order = refl;
  }

  -- A, which sent and finished, in version Two
  abbrev pub a_outbox : OutboxState
  a_outbox = outbox Two Data a_frames (record { credit = id; seen = credit_whole; looks = 0; spent = 3; absolved = 1; waived = Some 1; pending = None; least = 0 }) (Some 7)

  abbrev pub a_incoming : Incoming
  a_incoming = record { credit = id; seen = credit_begun; looks = 0; received = 5; left = Some 4 }

  abbrev pub a_balance : Balance
  a_balance = record { received = 5; held = 0; spent = 3; absolved = 1; waived = 1 }

  abbrev pub a : Finished
  a = record {
    session = session Two a_outbox a_incoming [] [];
    arrived = a_heard;
    clients = listed (λ c. nothing) a_balance;
    servers = books Two [];
    left = 4;
    partly = 4;
  }

  unfoldable pub a_settled : IsSettled a_incoming a_outbox.credit a_balance
  a_settled = record {
    received_is = refl;
    spent_is = refl;
    absolved_is = refl;
    waived_is = (refl, omega arith);
    adds_up = refl;
    history = credit_whole;
    legal = (tt, (omega arith, (refl, (omega arith, (tt, (refl, (omega arith, (omega arith, tt))))))));
    incoming_knows = record { later = Taken 1 ∷ Used 1 ∷ Used 1 ∷ []; begins = refl; others = refl };
    outgoing_knows = record { later = []; begins = refl; others = refl };
    all_received = refl;
    all_used = refl;
  }

  pub a_is_outbox : IsOutbox a_outbox
  a_is_outbox = record { lane = refl; idle = refl; spent = refl; absolved = refl; uses = refl; finished = refl; left = refl; rules = ((refl, refl, refl), ((refl, refl, refl), ((refl, refl, (omega arith, omega arith)), ((refl, refl, refl), tt)))) }

  pub one_session : (v : Version) (o : OutboxState) (i : Incoming) (reads receives : List Entry) → o.channel ≡ Data → o.lane.queue ≡ id → o.lane.version ≡ v → o.credit.credit ≡ i.credit → i.credit ≡ id → AreOfOneSession (session v o i reads receives)
  one_session v o i reads receives channel queue version credits known = record {
    senders = cc;
    receivers = refl;
    clients_put = all_of (PutsOn id v) (session v o i reads receives).sending (unused_puts Reconciliation, (record { queue_is = cc; version_is = version }, (unused_puts Overlap, (unused_puts Capability, (unused_puts AreaOfInterest, (unused_puts PayloadRequest, (unused_puts StaticToken, tt)))))));
    servers_put = all_of (ServesOn id v) (session v o i reads receives).reading.side.inboxes (serves Reconciliation [], (serves Data reads, (serves Overlap [], (serves Capability [], (serves AreaOfInterest [], (serves PayloadRequest [], (serves StaticToken [], tt)))))));
    credits_match = cc;
    inboxes_match = refl;
  }
    where
      unused_puts : (c : Channel) → PutsOn id v (outbox v c [] (new_outgoing id) None)
      unused_puts c = record { queue_is = refl; version_is = refl }

      serves : (c : Channel) (seen : List Entry) → ServesOn id v (side v c seen)
      serves c seen = record { queue_is = refl; version_is = refl; lane_is = refl }

  unfoldable pub a_report : IsReport a.session a.clients a.servers a.left a.partly
  a_report = record {
    last = a_frames;
    outboxes = all_of IsOutbox a.session.sending (unused_outbox Two Reconciliation, (a_is_outbox, (unused_outbox Two Overlap, (unused_outbox Two Capability, (unused_outbox Two AreaOfInterest, (unused_outbox Two PayloadRequest, (unused_outbox Two StaticToken, tt)))))));
    clients_gave = all_of (GaveAll a_frames) a.session.sending (refl, (refl, (refl, (refl, (refl, (refl, (refl, tt)))))));
    settled = (unused Reconciliation, (a_settled, (unused Overlap, (unused Capability, (unused AreaOfInterest, (unused PayloadRequest, (unused StaticToken, tt)))))));
    lanes = lanes Two [];
    finished = (unused_inbox Two Reconciliation, (unused_inbox Two Data, (unused_inbox Two Overlap, (unused_inbox Two Capability, (unused_inbox Two AreaOfInterest, (unused_inbox Two PayloadRequest, (unused_inbox Two StaticToken, tt)))))));
    servers_gave = all_of (GaveAllOf a_frames) (lanes Two []) (refl, (refl, (refl, (refl, (refl, (refl, (refl, tt)))))));
    left_is = refl;
    partly_is = refl;
  }

  pub a_has_heard : HasHeardAll a.session.reading.side a_heard
  a_has_heard = each (λ c. HasHeard c a.session.reading.side a_heard)
      (record { inbox = refl; received = refl; left = refl; asked = refl })
      (record { inbox = refl; received = refl; left = refl; asked = refl })
      (record { inbox = refl; received = refl; left = refl; asked = refl })
      (record { inbox = refl; received = refl; left = refl; asked = refl })
      (record { inbox = refl; received = refl; left = refl; asked = refl })
      (record { inbox = refl; received = refl; left = refl; asked = refl })
      (record { inbox = refl; received = refl; left = refl; asked = refl })

  unfoldable pub a_finished : IsFinished a
  a_finished = record { one = one_session Two a_outbox a_incoming [] [] refl refl refl refl refl; heard = a_has_heard; report = a_report }

  -- B, which took, and writes in version One
  abbrev pub b : Finished
  b = record {
    session = session One (outbox One Data [] (new_outgoing id) None) (new_incoming id) inbox_whole inbox_begun;
    arrived = a_frames;
    clients = listed (λ c. nothing) nothing;
    servers = books One inbox_whole;
    left = 4;
    partly = 0;
  }

  unfoldable pub b_inbox : sides.IsFinished (side One Data inbox_whole) (side One Data inbox_begun) (book_after (key One Data) inbox_whole) (lane_after (key One Data) inbox_whole)
  b_inbox = record {
    history = inbox_whole;
    legal = ((refl, refl), ((refl, refl), ((refl, refl), ((refl, refl), ((refl, refl), (refl, ((refl, refl), ((refl, refl), ((refl, refl), tt)))))))));
    reads = record { later = []; begins = refl; others = refl };
    receives = record { later = Heard (Finish Data) ∷ []; begins = refl; others = refl };
    book_is = refl;
    lane_is = refl;
    heard = refl;
    put = refl;
    took = refl;
    in_order = refl;
  }

  unfoldable pub b_report : IsReport b.session b.clients b.servers b.left b.partly
  b_report = record {
    last = b_frames;
    outboxes = all_of IsOutbox b.session.sending (unused_outbox One Reconciliation, (unused_outbox One Data, (unused_outbox One Overlap, (unused_outbox One Capability, (unused_outbox One AreaOfInterest, (unused_outbox One PayloadRequest, (unused_outbox One StaticToken, tt)))))));
    clients_gave = all_of (GaveAll b_frames) b.session.sending (refl, (refl, (refl, (refl, (refl, (refl, (refl, tt)))))));
    settled = (unused Reconciliation, (unused Data, (unused Overlap, (unused Capability, (unused AreaOfInterest, (unused PayloadRequest, (unused StaticToken, tt)))))));
    lanes = lanes One inbox_whole;
    finished = (unused_inbox One Reconciliation, (b_inbox, (unused_inbox One Overlap, (unused_inbox One Capability, (unused_inbox One AreaOfInterest, (unused_inbox One PayloadRequest, (unused_inbox One StaticToken, tt)))))));
    servers_gave = all_of (GaveAllOf b_frames) (lanes One inbox_whole) (refl, (refl, (refl, (refl, (refl, (refl, (refl, tt)))))));
    left_is = refl;
    partly_is = refl;
  }

  pub b_has_heard : HasHeardAll b.session.reading.side a_frames
  b_has_heard = each (λ c. HasHeard c b.session.reading.side a_frames)
      (record { inbox = refl; received = refl; left = refl; asked = refl })
      (record { inbox = refl; received = refl; left = refl; asked = refl })
      (record { inbox = refl; received = refl; left = refl; asked = refl })
      (record { inbox = refl; received = refl; left = refl; asked = refl })
      (record { inbox = refl; received = refl; left = refl; asked = refl })
      (record { inbox = refl; received = refl; left = refl; asked = refl })
      (record { inbox = refl; received = refl; left = refl; asked = refl })

  unfoldable pub b_finished : IsFinished b
  b_finished = record { one = one_session One (outbox One Data [] (new_outgoing id) None) (new_incoming id) inbox_whole inbox_begun refl refl refl refl refl; heard = b_has_heard; report = b_report }

  -- the order is one of their steps
  pub enough : 5 ≤ 5
  enough = omega arith

  interleaving : IsInterleaving (trace a a_finished) (trace b b_finished) order
  unfolding a_finished a_report a_settled b_finished b_report b_inbox unused unused_inbox
  interleaving = record {
    a_order = record {
      put = refl;
      heard = refl;
      inboxes = each (λ c. entries c (of_a order) ≡ without_refusals ((trace a a_finished).inbox c)) refl refl refl refl refl refl refl;
      in_time = (tt, (tt, (tt, (enough, (tt, (enough, (tt, tt)))))));
    };
    b_order = record {
      put = refl;
      heard = refl;
      inboxes = each (λ c. entries c (of_b order) ≡ without_refusals ((trace b b_finished).inbox c)) refl refl refl refl refl refl refl;
      in_time = (tt, (tt, (tt, (tt, (tt, (tt, (tt, (tt, (tt, tt)))))))));
    };
    causal = (tt, (tt, ((Issue Data 5 ∷ [], refl), (([], refl), (tt, (tt, (tt, (([], refl), (tt, (tt, ((Send Data message ∷ Absolve Data 1 ∷ Finish Data ∷ [], refl), ((Absolve Data 1 ∷ Finish Data ∷ [], refl), (tt, ((Finish Data ∷ [], refl), (tt, (([], refl), tt))))))))))))))));
  }

  pub were_one : WereOne 6 a b a_finished b_finished order
  were_one = record {
    is_capacity = record { at_least = omega arith; at_most = omega arith };
    a_rings = all_of (λ (s : InboxSide). s.key.capacity ≤ 6) a.session.reading.side.inboxes (omega arith, (omega arith, (omega arith, (omega arith, (omega arith, (omega arith, (omega arith, tt)))))));
    b_rings = all_of (λ (s : InboxSide). s.key.capacity ≤ 6) b.session.reading.side.inboxes (omega arith, (omega arith, (omega arith, (omega arith, (omega arith, (omega arith, (omega arith, tt)))))));
    interleaving = interleaving;
  }

  -- what the laws speak of happens in them
  every_kind : HasEveryKind ((trace a a_finished).put ++ (trace b b_finished).put)
  unfolding a_finished a_report b_finished b_report
  every_kind kinds.LimitSending = (0, omega arith, refl)
  every_kind kinds.Send = (1, omega arith, refl)
  every_kind kinds.Absolve = (2, omega arith, refl)
  every_kind kinds.Finish = (3, omega arith, refl)
  every_kind kinds.LimitReceiving = (4, omega arith, refl)
  every_kind kinds.Issue = (5, omega arith, refl)
  every_kind kinds.Plead = (6, omega arith, refl)

  came_back : HasEntry (trace a a_finished) Returned
  unfolding a_finished a_report a_settled unused
  came_back = (Data, 4, (2, omega arith, refl))

  honoured : HasEntry (trace a a_finished) Taken
  unfolding a_finished a_report a_settled unused
  honoured = (Data, 1, (5, omega arith, refl))

pub premises_can_be_met : PremisesCanBeMet
premises_can_be_met id base = record {
  capacity = 6;
  a = a id base;
  b = b id base;
  a_finished = a_finished id base;
  b_finished = b_finished id base;
  order = order;
  were_one = were_one id base;
  every_kind = every_kind id base;
  came_back = came_back id base;
  honoured = honoured id base;
}
