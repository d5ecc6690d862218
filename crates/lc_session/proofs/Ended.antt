-- A session that ends: the lanes that are joined to its drain, and the frames that are left.
use Rattle.std.proofs.Common.{◌≡◌, ℕ, ◌+◌, List, [], ◌∷◌, ◌++◌, length, map, refl, sym, ap, subst, ◌∙◌, arith}
use Rattle.std.specs.List.{All, AllByRecursion, AllZip}
use Rattle.std.proofs.lemmas.List.Elements.{All-head, All-tail, All-from_recursion, recursion_from_All}
use Rattle.lc_frame.specs.declared.version.Version.{Version}
use Rattle.lc_frame.specs.declared.frame.Frame.{Frame}
use Rattle.lc_frame.specs.Stream.{of_lane}
use Rattle.lc_book.specs.Server.{Server}
use Rattle.lc_queue.specs.declared.rule.JoinedLane.{JoinedLane}
use Rattle.lc_queue.specs.Parts.{QueueId, End, Outlet, IsSame, lane_of_end}
use Rattle.lc_credit.specs.declared.balance.Balance.{Balance}
use Rattle.lc_credit.specs.Sides.{Incoming, IsIdle, Outgoing}
use Rattle.lc_credit.specs.Channels.{AreSettled}
use Rattle.lc_inbox.specs.Sides.{InboxSide}
use Rattle.lc_inbox.specs.Inboxes.{AreFinished}
use Rattle.lc_outbox.specs.Outbox.{OutboxState, IsOutbox}
use Rattle.lc_session.specs.Batch.{BatchState}
use Rattle.lc_session.specs.Pumping.{Pumping, pumping_of}
use Rattle.lc_session.specs.Reading.{ReadingSide}
use Rattle.lc_session.specs.Report.{SessionState, outgoing_of, credit_of_outbox, PutsOn, ServesOn, GaveAll, GaveAllOf, IsReport}
use Rattle.lc_session.specs.Ending.{lane_of_outbox, joined_with, Joins, PopsAll}

-- so many frames were popped so far
pub record PopsSome (start count : ℕ) (old new : Outlet) : Type 0 where
  pub last : List Frame
  pub count_is : count ≡ start + length last
  pub popped : new ≡ record old { popped = old.popped ++ last }

-- ---- the lanes that are joined

-- the lane and the credit of an outbox
pub record Leaves (o : OutboxState) (p : End × Outgoing) : Type 0 where
  pub is : p ≡ (o.lane, o.credit)
  pub kept : IsOutbox o

pub record Leave (ends : List OutboxState) (pairs : List (End × Outgoing)) : Type 0 where
  pub lanes : map (λ p. p.0) pairs ≡ map lane_of_outbox ends
  pub credits : map (λ p. p.1) pairs ≡ map credit_of_outbox ends
  pub kept : AllByRecursion IsOutbox ends

pub all_leave : (ends : List OutboxState) (pairs : List (End × Outgoing)) → AllZip Leaves ends pairs → Leave ends pairs
all_leave [] [] all = record { lanes = refl; credits = refl; kept = tt }
all_leave [] (p ∷ pairs) all = absurd all
all_leave (o ∷ ends) [] all = absurd all
all_leave (o ∷ ends) (p ∷ pairs) all =
    let rest = all_leave ends pairs all.1 in
    record {
      lanes = (λ i. (all.0.is i).0 ∷ rest.lanes i);
      credits = (λ i. (all.0.is i).1 ∷ rest.credits i);
      kept = (all.0.kept, rest.kept);
    }

idle_each : (ends : List OutboxState) → AllByRecursion IsOutbox ends → AllByRecursion IsIdle (map credit_of_outbox ends)
idle_each [] kept = tt
idle_each (o ∷ ends) kept = (kept.0.idle, idle_each ends kept.1)

pub idle_credits : (ends : List OutboxState) (credits : List Outgoing) → credits ≡ map credit_of_outbox ends → AllByRecursion IsOutbox ends → All IsIdle credits
idle_credits ends credits are kept = subst (All IsIdle) (sym are) (All-from_recursion IsIdle (map credit_of_outbox ends) (idle_each ends kept))

-- some of these lanes are joined, and the rest is still to come
pub record JoinsSome (old : Outlet) (all : List End) (now : Outlet) (rest : List End) : Type 0 where
  pub now_is : now ≡ record old { joined = now.joined }
  pub rest_is : joined_with rest now.joined ≡ joined_with all old.joined
  pub one : AllByRecursion (λ l. IsSame old.queue l.queue) rest

pub joins_here : (old : Outlet) (all : List End) (now : Outlet) (rest more : List End) (lane : End) → JoinsSome old all now rest → rest ≡ lane ∷ more → IsSame now.queue lane.queue
joins_here old all now rest more lane some is = ap (λ (o : Outlet). o.queue) some.now_is ∙ (subst (AllByRecursion (λ l. IsSame old.queue l.queue)) is some.one).0

pub joins_more : (old : Outlet) (all : List End) (now next : Outlet) (rest more : List End) (lane : End) → JoinsSome old all now rest → rest ≡ lane ∷ more → next ≡ record now { joined = lane_of_end lane ∷ now.joined } → JoinsSome old all next more
joins_more old all now next rest more lane some is after =
    subst (λ (o : Outlet). JoinsSome old all o more) (sym after)
    (record {
      now_is = ap (λ (o : Outlet). record o { joined = lane_of_end lane ∷ now.joined }) some.now_is;
      rest_is = ap (λ (ls : List End). joined_with ls now.joined) (sym is) ∙ some.rest_is;
      one = (subst (AllByRecursion (λ l. IsSame old.queue l.queue)) is some.one).1;
    })

none_left : (lanes : List End) → length lanes ≡ 0 → lanes ≡ []
none_left [] none = refl
none_left (l ∷ lanes) none = absurd (omega arith)

pub joins_all : (old : Outlet) (all : List End) (now : Outlet) (rest : List End) → JoinsSome old all now rest → length rest ≡ 0 → Joins old all now
joins_all old all now rest some none =
    some.now_is ∙ ap (λ (j : List JoinedLane). record old { joined = j }) (ap (λ (ls : List End). joined_with ls now.joined) (sym (none_left rest none)) ∙ some.rest_is)

put_on_each : (q : QueueId) (v : Version) (xs : List OutboxState) → AllByRecursion (PutsOn q v) xs → AllByRecursion (λ l. IsSame q l.queue) (map lane_of_outbox xs)
put_on_each q v [] all = tt
put_on_each q v (o ∷ xs) all = (all.0.queue_is, put_on_each q v xs all.1)

pub put_on_lanes : (o o' : Outlet) (xs : List OutboxState) (lanes : List End) → o ≡ o' → lanes ≡ map lane_of_outbox xs → All (PutsOn o.queue o.version) xs → AllByRecursion (λ l. IsSame o'.queue l.queue) lanes
put_on_lanes o o' xs lanes e is all =
    subst (AllByRecursion (λ l. IsSame o'.queue l.queue)) (sym is) (subst (λ (d : Outlet). AllByRecursion (λ l. IsSame d.queue l.queue) (map lane_of_outbox xs)) e (put_on_each o.queue o.version xs (recursion_from_All (PutsOn o.queue o.version) xs all)))

served : (q : QueueId) (v : Version) (incoming outgoing : List InboxSide) (books : List Server) (lanes : List End) → AreFinished incoming outgoing books lanes → AllByRecursion (ServesOn q v) incoming → AllByRecursion (λ l. IsSame q l.queue) lanes
served q v [] [] [] [] h each = tt
served q v [] [] [] (l ∷ lanes) h each = absurd h
served q v [] [] (b ∷ books) lanes h each = absurd h
served q v [] (o ∷ outgoing) books lanes h each = absurd h
served q v (i ∷ incoming) [] books lanes h each = absurd h
served q v (i ∷ incoming) (o ∷ outgoing) [] lanes h each = absurd h
served q v (i ∷ incoming) (o ∷ outgoing) (b ∷ books) [] h each = absurd h
served q v (i ∷ incoming) (o ∷ outgoing) (b ∷ books) (l ∷ lanes) h each =
    (each.0.queue_is ∙ sym (ap (λ (x : End). x.queue) h.0.lane_is), served q v incoming outgoing books lanes h.1 each.1)

pub served_lanes : (q q' : QueueId) (v : Version) (known incoming outgoing : List InboxSide) (books : List Server) (lanes : List End) → q ≡ q' → known ≡ incoming → All (ServesOn q v) known → AreFinished incoming outgoing books lanes → AllByRecursion (λ l. IsSame q' l.queue) lanes
served_lanes q q' v known incoming outgoing books lanes e same serve h =
    subst (λ (r : QueueId). AllByRecursion (λ l. IsSame r l.queue) lanes) e (served q v incoming outgoing books lanes h (subst (AllByRecursion (ServesOn q v)) same (recursion_from_All (ServesOn q v) known serve)))

-- what is known of all that were joined is known of these lanes, and of those that were joined before
pub record AreJoined (P : JoinedLane → Type 0) (lanes : List End) (joined : List JoinedLane) : Type 0 where
  pub these : AllByRecursion (λ l. P (lane_of_end l)) lanes
  pub others : All P joined

joined_are : (P : JoinedLane → Type 0) (lanes : List End) (joined : List JoinedLane) → All P (joined_with lanes joined) → AreJoined P lanes joined
joined_are P [] joined all = record { these = tt; others = all }
joined_are P (l ∷ lanes) joined all =
    let rest = joined_are P lanes (lane_of_end l ∷ joined) all in
    record { these = (All-head P (lane_of_end l) joined rest.others, rest.these); others = All-tail P (lane_of_end l) joined rest.others }

-- ---- the report

gave : (frames : List Frame) (xs : List OutboxState) → AllByRecursion IsOutbox xs → AllByRecursion (λ l. of_lane l.lane frames ≡ l.put) (map lane_of_outbox xs) → AllByRecursion (GaveAll frames) xs
gave frames [] kept each = tt
gave frames (o ∷ xs) kept each = (ap (λ (n : ℕ). of_lane n frames) (sym kept.0.lane) ∙ each.0, gave frames xs kept.1 each.1)

pub reported : (s : SessionState) (clients : List Balance) (servers : List Server) (left partly : ℕ) (drain0 drain1 drain2 drain3 : Outlet) (batch : BatchState) (ins : List Incoming) (out : List Outgoing) (incoming outgoing : List InboxSide) (lanes : List End)
    → s.writing ≡ pumping_of drain0 batch
    → s.reading.side ≡ record { credits = ins; inboxes = incoming }
    → AllByRecursion IsOutbox s.sending
    → Joins drain0 (map lane_of_outbox s.sending) drain1
    → out ≡ outgoing_of s
    → outgoing ≡ s.receiving
    → AreFinished incoming outgoing servers lanes
    → Joins drain1 lanes drain2
    → PopsAll (length batch.waiting) left drain2 drain3
    → partly ≡ length batch.begun
    → AreSettled ins out clients
    → IsReport s clients servers left partly
reported s clients servers left partly drain0 drain1 drain2 drain3 batch ins out incoming outgoing lanes writing reading kept clients_joined out_is outgoing_is ended servers_joined pops partly_is settled =
    let last = pops.last in
    let frames : List Frame = s.writing.drain.popped ++ last in
    let popped : drain3.popped ≡ frames =
    ap (λ (o : Outlet). o.popped) pops.popped
    ∙ ap (λ (o : Outlet). o.popped ++ last) servers_joined
    ∙ ap (λ (o : Outlet). o.popped ++ last) clients_joined
    ∙ ap (λ (p : Pumping). p.drain.popped ++ last) (sym writing) in
    let joined : drain3.joined ≡ joined_with lanes (joined_with (map lane_of_outbox s.sending) drain0.joined) =
    ap (λ (o : Outlet). o.joined) pops.popped
    ∙ ap (λ (o : Outlet). o.joined) servers_joined
    ∙ ap (λ (o : Outlet). joined_with lanes o.joined) clients_joined in
    let all : All (λ l. of_lane l.lane frames ≡ l.put) (joined_with lanes (joined_with (map lane_of_outbox s.sending) drain0.joined)) =
    subst (λ (p : List Frame × List JoinedLane). All (λ l. of_lane l.lane p.0 ≡ l.put) p.1) (λ i. (popped i, joined i)) pops.all in
    let theirs = joined_are (λ l. of_lane l.lane frames ≡ l.put) lanes (joined_with (map lane_of_outbox s.sending) drain0.joined) all in
    let ours = joined_are (λ l. of_lane l.lane frames ≡ l.put) (map lane_of_outbox s.sending) drain0.joined theirs.others in
    record {
      last = last;
      outboxes = All-from_recursion IsOutbox s.sending kept;
      clients_gave = All-from_recursion (GaveAll frames) s.sending (gave frames s.sending kept ours.these);
      settled = subst (λ (p : List Incoming × List Outgoing). AreSettled p.0 p.1 clients) (λ i. (ap (λ (r : ReadingSide). r.credits) (sym reading) i, out_is i)) settled;
      lanes = lanes;
      finished = subst (λ (p : List InboxSide × List InboxSide). AreFinished p.0 p.1 servers lanes) (λ i. (ap (λ (r : ReadingSide). r.inboxes) (sym reading) i, outgoing_is i)) ended;
      servers_gave = All-from_recursion (GaveAllOf frames) lanes theirs.these;
      left_is = pops.count_is ∙ ap (λ (p : Pumping). length p.waiting + length last) (sym writing);
      partly_is = partly_is ∙ ap (λ (p : Pumping). length p.begun) (sym writing);
    }
