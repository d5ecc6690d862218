-- A new session: what its parts are made of makes them parts of one session.
use Rattle.std.specs.Prelude.{slice_index}
use Rattle.std.proofs.Common.{◌≡◌, ℕ, ◌+◌, ◌-◌, ◌<◌, List, [], ◌∷◌, None, length, map, take, drop, refl, sym, ap, ap₂, subst, ◌∙◌, arith}
use Rattle.std.specs.List.{All, AllByRecursion, AllZip}
use Rattle.std.proofs.lemmas.List.Elements.{All-cons, All-nil}
use Rattle.lc_frame.specs.Stored.{nothing_stored}
use Rattle.lc_frame.specs.declared.version.Version.{Version}
use Rattle.lc_frame.specs.declared.channel.Channel.{Channel}
use Rattle.lc_frame.specs.Channel.{channel_count, number_of}
use Rattle.lc_frame.specs.Lane.{lane_count}
use Rattle.lc_frame.proofs.Channels.{same_from_number, number_below}
use Rattle.lc_peer.specs.declared.config.Config.{Config}
use Rattle.lc_peer.specs.Config.{config_fault}
use Rattle.lc_queue.specs.Parts.{QueueId, End, Outlet, new_end, new_ends, new_outlet, places_of}
use Rattle.lc_credit.specs.Sides.{Incoming, Outgoing, new_outgoing}
use Rattle.lc_credit.specs.Channels as credits
use Rattle.lc_inbox.specs.Sides.{InboxSide, IsNew}
use Rattle.lc_inbox.specs.Inboxes as inboxes
use Rattle.lc_outbox.specs.Outbox.{OutboxState, new_outbox}
use Rattle.lc_peer.specs.Intake.{IntakeState}
use Rattle.lc_session.specs.Channels.{channels}
use Rattle.lc_session.specs.Reading.{channel_of_side, ring_of_side}
use Rattle.lc_session.specs.Pumping.{new_pumping}
use Rattle.lc_session.specs.Report.{SessionState, channel_of_outbox, credit_of_outbox, PutsOn, ServesOn}
use Rattle.lc_session.specs.Session.{new_outboxes, IsNewSession}

-- the ends of these channels' lanes, on which clients put and on which servers do
abbrev clients : QueueId → Version → List Channel → List End
clients q v cs = map (λ c. new_end q v (number_of c)) cs

abbrev servers : QueueId → Version → List Channel → List End
servers q v cs = map (λ c. new_end q v (channel_count + number_of c)) cs

-- ---- the sending ends

senders : (q : QueueId) (v : Version) (cs : List Channel) (out : List Outgoing) → length out ≡ length cs → map channel_of_outbox (new_outboxes cs (clients q v cs) out) ≡ cs
senders q v [] out e = refl
senders q v (c ∷ cs) [] e = absurd (omega (arith, e))
senders q v (c ∷ cs) (o ∷ out) e = ap (λ (ds : List Channel). c ∷ ds) (senders q v cs out (omega (arith, e)))

put_on : (q : QueueId) (v : Version) (cs : List Channel) (out : List Outgoing) → All (PutsOn q v) (new_outboxes cs (clients q v cs) out)
put_on q v [] out = All-nil (PutsOn q v)
put_on q v (c ∷ cs) [] = All-nil (PutsOn q v)
put_on q v (c ∷ cs) (o ∷ out) = All-cons (PutsOn q v) _ _ (record { queue_is = refl; version_is = refl }) (put_on q v cs out)

credits_of : (q : QueueId) (v : Version) (cs : List Channel) (out : List Outgoing) → length out ≡ length cs → map credit_of_outbox (new_outboxes cs (clients q v cs) out) ≡ out
credits_of q v [] [] e = refl
credits_of q v [] (o ∷ out) e = absurd (omega (arith, e))
credits_of q v (c ∷ cs) [] e = refl
credits_of q v (c ∷ cs) (o ∷ out) e = ap (λ (os : List Outgoing). o ∷ os) (credits_of q v cs out (omega (arith, e)))

-- a new outbox that puts on this lane, and has this credit
abbrev pub IsNewEnd : End → Outgoing → OutboxState → Type 0
IsNewEnd lane credit o = (number_of o.channel ≡ lane.lane) × (o ≡ new_outbox o.channel lane credit)

-- what a new sending end is made of
abbrev pub IsReady : {W : Type 0} → (End × Outgoing) × W → Type 0
IsReady z = (z.0.0.lane < channel_count) × (z.0.0.put ≡ []) × (z.0.1 ≡ new_outgoing z.0.1.credit)

abbrev lanes_of : {W : Type 0} → List ((End × Outgoing) × W) → List End
lanes_of zs = map (λ p. p.0) (map (λ z. z.0) zs)

abbrev out_of : {W : Type 0} → List ((End × Outgoing) × W) → List Outgoing
out_of zs = map (λ p. p.1) (map (λ z. z.0) zs)

ready_from : {W : Type 0} (q : QueueId) (v : Version) (cs : List Channel) (zs : List ((End × Outgoing) × W)) → lanes_of zs ≡ clients q v cs → out_of zs ≡ map new_outgoing (map credits.credit_out (out_of zs)) → AllByRecursion IsReady zs
ready_from q v cs [] lanes out = tt
ready_from q v [] (z ∷ zs) lanes out = absurd (cc)
ready_from q v (c ∷ cs) (z ∷ zs) lanes out =
    let lane : z.0.0 ≡ new_end q v (number_of c) = cc in
    let credit : z.0.1 ≡ new_outgoing z.0.1.credit = cc in
    ((omega (arith, number_below c, ap (λ (l : End). l.lane) lane), ap (λ (l : End). l.put) lane, credit), ready_from q v cs zs (cc) (cc))

outboxes_from : {W : Type 0} (q : QueueId) (v : Version) (cs : List Channel) (zs : List ((End × Outgoing) × W)) (made : List OutboxState) → lanes_of zs ≡ clients q v cs → AllZip (λ z o. IsNewEnd z.0.0 z.0.1 o) zs made → made ≡ new_outboxes cs (lanes_of zs) (out_of zs)
outboxes_from q v [] [] [] lanes all = refl
outboxes_from q v (c ∷ cs) [] [] lanes all = refl
outboxes_from q v cs [] (o ∷ made) lanes all = absurd all
outboxes_from q v cs (z ∷ zs) [] lanes all = absurd all
outboxes_from q v [] (z ∷ zs) (o ∷ made) lanes all = absurd (cc)
outboxes_from q v (c ∷ cs) (z ∷ zs) (o ∷ made) lanes all =
    let lane : z.0.0 ≡ new_end q v (number_of c) = cc in
    let channel : o.channel ≡ c = same_from_number _ _ (all.0.0 ∙ ap (λ (l : End). l.lane) lane) in
    let here : o ≡ new_outbox c z.0.0 z.0.1 = all.0.1 ∙ ap (λ (d : Channel). new_outbox d z.0.0 z.0.1) channel in
    ap₂ (λ (x : OutboxState) (xs : List OutboxState). x ∷ xs) here (outboxes_from q v cs zs made (cc) all.1)

-- the lanes of clients and new credits, place by place
module _ {W : Type 0} (q : QueueId) (v : Version) (zs : List ((End × Outgoing) × W)) (pairs : List (End × Outgoing)) (lanes : List End) (out : List Outgoing) (first : map (λ z. z.0) zs ≡ pairs) (lanes_are : map (λ p. p.0) pairs ≡ lanes) (out_are : map (λ p. p.1) pairs ≡ out) (of_clients : lanes ≡ take channel_count (new_ends q v)) where
  pub are_ready : out ≡ map new_outgoing (map credits.credit_out out) → AllByRecursion IsReady zs
  are_ready new = ready_from q v channels zs (ap (map (λ p. p.0)) first ∙ (lanes_are ∙ of_clients)) (subst (λ (o : List Outgoing). o ≡ map new_outgoing (map credits.credit_out o)) (sym (ap (map (λ p. p.1)) first ∙ out_are)) new)

  pub made_outboxes : (made : List OutboxState) → AllZip (λ z o. IsNewEnd z.0.0 z.0.1 o) zs made → made ≡ new_outboxes channels lanes out
  made_outboxes made all =
      let here : lanes_of zs ≡ lanes = ap (map (λ p. p.0)) first ∙ lanes_are in
      let there : out_of zs ≡ out = ap (map (λ p. p.1)) first ∙ out_are in
      outboxes_from q v channels zs made (here ∙ of_clients) all ∙ (λ i. new_outboxes channels (here i) (there i))

-- ---- the sides of the inboxes

pub record AreInPlace (q : QueueId) (v : Version) (cs : List Channel) (incoming outgoing : List InboxSide) : Type 0 where
  pub reading : map channel_of_side incoming ≡ cs
  pub receiving : map channel_of_side outgoing ≡ cs
  pub serve : All (ServesOn q v) incoming

channel_is : (q : QueueId) (v : Version) (c : Channel) (capacity : ℕ) (i o : InboxSide) → IsNew capacity (new_end q v (channel_count + number_of c)) i o → i.key.channel ≡ c
channel_is q v c capacity i o h = same_from_number _ _ (omega (arith, h.channel_is))

serves : (q : QueueId) (v : Version) (c : Channel) (capacity : ℕ) (i o : InboxSide) → IsNew capacity (new_end q v (channel_count + number_of c)) i o → ServesOn q v i
serves q v c capacity i o h = record {
  queue_is = sym (ap (λ (l : End). l.queue) h.lane_is);
  version_is = ap (λ (l : End). l.version) h.lane_is;
  lane_is = ap (λ (l : End). l.lane) h.lane_is ∙ h.channel_is;
}

in_place : (q : QueueId) (v : Version) (capacities : List ℕ) (cs : List Channel) (incoming outgoing : List InboxSide) → inboxes.AreNew capacities (servers q v cs) incoming outgoing → AreInPlace q v cs incoming outgoing
in_place q v capacities [] [] [] h = record { reading = refl; receiving = refl; serve = All-nil (ServesOn q v) }
in_place q v capacities [] [] (o ∷ outgoing) h = absurd h
in_place q v capacities [] (i ∷ incoming) outgoing h = absurd h
in_place q v capacities (c ∷ cs) [] outgoing h = absurd h
in_place q v capacities (c ∷ cs) (i ∷ incoming) [] h = absurd h
in_place q v capacities (c ∷ cs) (i ∷ incoming) (o ∷ outgoing) h =
    let rest = in_place q v capacities cs incoming outgoing h.1 in
    let here = channel_is q v c _ i o h.0 in
    record {
      reading = ap₂ (λ (d : Channel) (ds : List Channel). d ∷ ds) here rest.reading;
      receiving = ap₂ (λ (d : Channel) (ds : List Channel). d ∷ ds) (ap (λ (s : InboxSide). s.key.channel) h.0.one ∙ here) rest.receiving;
      serve = All-cons (ServesOn q v) i incoming (serves q v c _ i o h.0) rest.serve;
    }

pub sides_in_place : (q : QueueId) (v : Version) (ends : List End) (capacities : List ℕ) (incoming outgoing : List InboxSide) → ends ≡ new_ends q v → inboxes.AreNew capacities (drop channel_count ends) incoming outgoing → AreInPlace q v channels incoming outgoing
sides_in_place q v ends capacities incoming outgoing e h = in_place q v capacities channels incoming outgoing (subst (λ (ls : List End). inboxes.AreNew capacities (drop channel_count ls) incoming outgoing) e h)

-- the rings have the bytes that were asked for
ring_is : (capacities : List ℕ) (q : QueueId) (v : Version) (c : Channel) (i o : InboxSide) → IsNew (slice_index capacities ((channel_count + number_of c) - channel_count)) (new_end q v (channel_count + number_of c)) i o → ring_of_side i ≡ slice_index capacities (number_of c)
ring_is capacities q v c i o h = let same : (channel_count + number_of c) - channel_count ≡ number_of c = omega arith in h.capacity_is ∙ ap (slice_index capacities) same

rings_at : (q : QueueId) (v : Version) (capacities : List ℕ) (cs : List Channel) (incoming outgoing : List InboxSide) → inboxes.AreNew capacities (servers q v cs) incoming outgoing → map ring_of_side incoming ≡ map (λ c. slice_index capacities (number_of c)) cs
rings_at q v capacities [] [] [] h = refl
rings_at q v capacities [] [] (o ∷ outgoing) h = absurd h
rings_at q v capacities [] (i ∷ incoming) outgoing h = absurd h
rings_at q v capacities (c ∷ cs) [] outgoing h = absurd h
rings_at q v capacities (c ∷ cs) (i ∷ incoming) [] h = absurd h
rings_at q v capacities (c ∷ cs) (i ∷ incoming) (o ∷ outgoing) h = ap₂ (λ (n : ℕ) (ns : List ℕ). n ∷ ns) (ring_is capacities q v c i o h.0) (rings_at q v capacities cs incoming outgoing h.1)

-- seven numbers, place by place
seven_of : (ns : List ℕ) → length ns ≡ channel_count → map (λ c. slice_index ns (number_of c)) channels ≡ ns
seven_of [] e = absurd (omega (arith, e))
seven_of (a ∷ []) e = absurd (omega (arith, e))
seven_of (a ∷ b ∷ []) e = absurd (omega (arith, e))
seven_of (a ∷ b ∷ c ∷ []) e = absurd (omega (arith, e))
seven_of (a ∷ b ∷ c ∷ d ∷ []) e = absurd (omega (arith, e))
seven_of (a ∷ b ∷ c ∷ d ∷ f ∷ []) e = absurd (omega (arith, e))
seven_of (a ∷ b ∷ c ∷ d ∷ f ∷ g ∷ []) e = absurd (omega (arith, e))
seven_of (a ∷ b ∷ c ∷ d ∷ f ∷ g ∷ h ∷ []) e = refl
seven_of (a ∷ b ∷ c ∷ d ∷ f ∷ g ∷ h ∷ i ∷ ns) e = absurd (omega (arith, e))

pub rings_in_place : (q : QueueId) (v : Version) (ends : List End) (capacities : List ℕ) (incoming outgoing : List InboxSide) → length capacities ≡ channel_count → ends ≡ new_ends q v → inboxes.AreNew capacities (drop channel_count ends) incoming outgoing → map ring_of_side incoming ≡ capacities
rings_in_place q v ends capacities incoming outgoing seven e h = rings_at q v capacities channels incoming outgoing (subst (λ (ls : List End). inboxes.AreNew capacities (drop channel_count ls) incoming outgoing) e h) ∙ seven_of capacities seven

-- ---- all parts

abbrev begun : QueueId → Version → List Incoming → List Outgoing → List InboxSide → List InboxSide → IntakeState → SessionState
begun q v ins out incoming outgoing intake = record {
  sending = new_outboxes channels (take channel_count (new_ends q v)) out;
  receiving = outgoing;
  reading = record { side = record { credits = ins; inboxes = incoming }; intake = intake };
  writing = new_pumping (new_outlet q v);
}

begun_is_new : (config : Config) (q : QueueId) (ins : List Incoming) (out : List Outgoing) (incoming outgoing : List InboxSide) (intake : IntakeState)
    → length out ≡ channel_count → credits.AreNew ins out → credits.AreMatched ins out → inboxes.AreNew config.capacities (drop channel_count (new_ends q config.version)) incoming outgoing → inboxes.AreMatched incoming outgoing
    → intake ≡ record { held = nothing_stored; kept = 0; stop = None; rings = config.capacities } → places_of q ≡ config.slots + lane_count → config_fault config ≡ None
    → IsNewSession config (begun q config.version ins out incoming outgoing intake)
begun_is_new config q ins out incoming outgoing intake seven new matched sides pairs nothing slots lawful =
    let same = credits_of q config.version channels out seven in
    let places = sides_in_place q config.version (new_ends q config.version) config.capacities incoming outgoing refl sides in
    record {
      lawful = lawful;
      one = record {
        senders = senders q config.version channels out seven;
        receivers = places.reading;
        clients_put = put_on q config.version channels out;
        servers_put = places.serve;
        credits_match = matched ∙ ap (map credits.credit_out) (sym same);
        inboxes_match = pairs;
      };
      sending_new = ap (new_outboxes channels (take channel_count (new_ends q config.version))) (sym same);
      credits_new = subst (credits.AreNew ins) (sym same) new;
      inboxes_new = sides;
      reading_new = nothing;
      writing_new = refl;
      places_are = slots;
    }

pub new_session : (config : Config) (s : SessionState) (drain : Outlet) (ends lanes : List End) (ins : List Incoming) (out : List Outgoing) (incoming outgoing : List InboxSide) (intake : IntakeState)
    → s.sending ≡ new_outboxes channels lanes out → s.receiving ≡ outgoing → s.reading ≡ record { side = record { credits = ins; inboxes = incoming }; intake = intake } → s.writing ≡ new_pumping drain
    → drain ≡ new_outlet drain.queue config.version → ends ≡ new_ends drain.queue config.version → lanes ≡ take channel_count ends
    → length out ≡ channel_count → credits.AreNew ins out → credits.AreMatched ins out → inboxes.AreNew config.capacities (drop channel_count ends) incoming outgoing → inboxes.AreMatched incoming outgoing
    → intake ≡ record { held = nothing_stored; kept = 0; stop = None; rings = config.capacities } → places_of drain.queue ≡ config.slots + lane_count → config_fault config ≡ None
    → IsNewSession config s
new_session config s drain ends lanes ins out incoming outgoing intake sending receiving reading writing empty are first seven new matched sides pairs nothing slots lawful =
    subst (IsNewSession config)
    (λ i. record {
      sending = sym (sending ∙ ap (λ (ls : List End). new_outboxes channels ls out) (first ∙ ap (take channel_count) are)) i;
      receiving = sym receiving i;
      reading = sym reading i;
      writing = sym (writing ∙ ap new_pumping empty) i;
    })
    (begun_is_new config drain.queue ins out incoming outgoing intake seven new matched (subst (λ (ls : List End). inboxes.AreNew config.capacities (drop channel_count ls) incoming outgoing) are sides) pairs nothing slots lawful)
