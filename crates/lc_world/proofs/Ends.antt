-- Two ends stand for the lines that they are the ends of.
use Rattle.std.proofs.Common.{◌≡◌, ℕ, ◌<◌, Bool, true, false, List, [], ◌∷◌, length, map, get_or, take, drop, Option, refl, sym, ap, ap₂, ◌∙◌, subst, arith, Some}
use Rattle.std.specs.Prelude.{◌-◌, All}
use Rattle.std.proofs.lemmas.List.{length-drop, length-take}
use Rattle.std.proofs.Math.Seq.{drop-append_seam}
use Rattle.lc_frame.specs.Stored.{opened_as}
use Rattle.lc_frame.specs.declared.version.Version.{Version}
use Rattle.lc_frame.specs.declared.channel.Channel.{Channel}
use Rattle.lc_frame.specs.declared.channel.Channel.TheVariants.{Reconciliation, Data, Overlap, Capability, AreaOfInterest, PayloadRequest, StaticToken}
use Rattle.lc_frame.specs.declared.frame.Frame.{Frame}
use Rattle.lc_frame.specs.Channel.{channel_count, number_of}
use Rattle.lc_frame.specs.Stream.{messages, finished}
use Rattle.lc_frame.specs.Splits.{frames_of}
use Rattle.lc_book.specs.Client.{Client, kept}
use Rattle.lc_book.specs.Server.{Server}
use Rattle.lc_peer.specs.Peer.{PeerState, client, inbox, server}
use Rattle.lc_world.specs.declared.event.Side.{Side}
use Rattle.lc_world.specs.declared.event.Side.TheVariants.{A, B}
use Rattle.lc_world.specs.declared.event.Act.{Act}
use Rattle.lc_world.specs.declared.event.Answer.{Answer}
use Rattle.lc_world.specs.declared.endpoint.Endpoint.{Endpoint}
use Rattle.lc_world.specs.State.{Line, line, other, stream, taken_count, kept_plead, client_book, server_book, every_channel, forget_finished}
use Rattle.lc_world.specs.Answers.{IsAnswerOf, IsAnswer, mine_after, theirs_after, state_after}
use Rattle.lc_world.specs.Sound.{AllFit, Sound, IsSound}
use Rattle.lc_world.specs.Delivery.{bytes_of, text_of, delivered}
use Rattle.lc_world.specs.Endpoint.{taken_by, pleads_of, line_in, line_of, capacity_of, state_between, of_lines, IsPeerBetween, IsEnd, IsLine, AreEnds, AreInStep, Acts}
use Rattle.lc_world.proofs.Steps.{sound_settled}
use Rattle.lc_world.proofs.Bytes.{begun_within, left_is}
use Rattle.lc_world.proofs.Parts.{Reads, reads}

-- as many as there are channels, by their channels
listed : {X : Type 0} (xs : List X) (d : X) → length xs ≡ channel_count → map (λ c. get_or xs (number_of c) d) every_channel ≡ xs
listed [] d len = absurd (omega (arith, len))
listed (a ∷ []) d len = absurd (omega (arith, len))
listed (a ∷ b ∷ []) d len = absurd (omega (arith, len))
listed (a ∷ b ∷ c ∷ []) d len = absurd (omega (arith, len))
listed (a ∷ b ∷ c ∷ e ∷ []) d len = absurd (omega (arith, len))
listed (a ∷ b ∷ c ∷ e ∷ f ∷ []) d len = absurd (omega (arith, len))
listed (a ∷ b ∷ c ∷ e ∷ f ∷ g ∷ []) d len = absurd (omega (arith, len))
listed (a ∷ b ∷ c ∷ e ∷ f ∷ g ∷ h ∷ []) d len = refl
listed (a ∷ b ∷ c ∷ e ∷ f ∷ g ∷ h ∷ i ∷ xs) d len = absurd (omega (arith, len))

map_same : {X : Type 0} (f g : Channel → X) (cs : List Channel) → ((c : Channel) → f c ≡ g c) → map f cs ≡ map g cs
map_same f g [] h = refl
map_same f g (c ∷ cs) h = ap₂ ◌∷◌ (h c) (map_same f g cs h)

-- a peer of two lines has their books
module _ (k : ℕ) (mine theirs : Line) (p : PeerState) (h : IsPeerBetween k mine theirs p) where
  pub client_is : (c : Channel) → client p c ≡ client_book c mine theirs
  client_is c = (h.sums.channels c).client

  pub server_is : (c : Channel) → server p c ≡ server_book k c mine theirs
  server_is c = (h.sums.channels c).server

  taken_is : (c : Channel) → length (messages c theirs.arrived) - length (inbox p c).ring.messages ≡ taken_count c theirs
  taken_is c =
      let s = h.sums.channels c in
      omega (arith, ap length s.waiting, length-drop (taken_count c theirs) (messages c theirs.arrived), s.of_arrived)

  taken_read : length theirs.taken ≡ channel_count → taken_by p theirs.arrived ≡ theirs.taken
  taken_read len = map_same (λ c. length (messages c theirs.arrived) - length (inbox p c).ring.messages) (λ c. taken_count c theirs) every_channel taken_is ∙ listed theirs.taken 0 len

  asked_read : pleads_of p ≡ (forget_finished mine theirs).asked
  asked_read = map_same (λ c. (client p c).asked) (λ c. kept (finished c (stream mine)) (kept_plead c theirs)) every_channel (λ c. ap (λ (b : Client). b.asked) (client_is c))

same_line : (v v' : Version) (g g' : ℕ) (a a' i i' : List Frame) (b b' : ℕ) (t t' : List ℕ) (q q' : List (Option ℕ)) → v ≡ v' → g ≡ g' → a ≡ a' → i ≡ i' → b ≡ b' → t ≡ t' → q ≡ q' → (let l : Line = record { version = v; greeting_left = g; arrived = a; in_flight = i; begun = b; taken = t; asked = q } in let m : Line = record { version = v'; greeting_left = g'; arrived = a'; in_flight = i'; begun = b'; taken = t'; asked = q' } in l ≡ m)
same_line v v' g g' a a' i i' b b' t t' q q' ev eg ea ei eb et eq =
    λ k. let l : Line = record { version = ev k; greeting_left = eg k; arrived = ea k; in_flight = ei k; begun = eb k; taken = et k; asked = eq k } in l

-- the line that is read off the text and the peer that it came to, which keeps these pleads
line_in_is : (p : PeerState) (l : Line) (pleads : List (Option ℕ)) → IsLine l → Reads l → ((frames : List Frame) → frames ≡ l.arrived → taken_by p frames ≡ l.taken) → pleads_of p ≡ pleads → line_in l.version (text_of l.version (stream l)) (delivered l) p ≡ record l { asked = pleads }
line_in_is p l pleads h r taken asked =
    same_line _ l.version _ l.greeting_left _ l.arrived _ l.in_flight _ l.begun _ l.taken _ pleads
    refl
    (left_is l h.order)
    r.came
    (ap₂ (λ (xs fs : List Frame). drop (length xs) fs) r.came r.all ∙ drop-append_seam l.arrived l.in_flight)
    (ap length r.rest ∙ omega (arith, length-take l.begun (bytes_of l.version l.in_flight), begun_within l.version l.in_flight l.begun h.order.begun))
    (taken (frames_of (opened_as (Some l.version) (take (delivered l) (text_of l.version (stream l))))) r.came)
    asked

line_is : (k : ℕ) (mine theirs : Line) (writer reader : Endpoint) → IsLine mine → IsEnd k mine theirs writer → IsEnd k theirs mine reader → line_of writer reader ≡ forget_finished theirs mine
line_is k mine theirs writer reader l w r =
    let all = subst (λ (x : List ℕ). All (λ b. b < 256) x) w.bytes w.are_bytes in
    ap (λ (v : Version). line_in v writer.stream.items writer.delivered reader.peer) w.peer.sums.version
    ∙ ap₂ (λ (bytes : List ℕ) (count : ℕ). line_in mine.version bytes count reader.peer) w.bytes w.count
    ∙ line_in_is reader.peer mine (forget_finished theirs mine).asked l (reads mine l all)
    (λ frames e. ap (taken_by reader.peer) e ∙ taken_read k theirs mine reader.peer r.peer l.taken_places)
    (asked_read k theirs mine reader.peer r.peer)

-- a peer of two lines is that of the lines without the pleads that it does not keep
kept_twice : (b : Bool) (o : Option ℕ) → kept b o ≡ kept b (kept b o)
kept_twice true o = refl
kept_twice false o = refl

kept_read : (mine theirs : Line) (c : Channel) → kept_plead c (forget_finished mine theirs) ≡ kept (finished c (stream mine)) (kept_plead c theirs)
kept_read mine theirs Reconciliation = refl
kept_read mine theirs Data = refl
kept_read mine theirs Overlap = refl
kept_read mine theirs Capability = refl
kept_read mine theirs AreaOfInterest = refl
kept_read mine theirs PayloadRequest = refl
kept_read mine theirs StaticToken = refl

module _ (k : ℕ) (mine theirs : Line) where
  abbrev mine' : Line
  mine' = forget_finished theirs mine

  abbrev theirs' : Line
  theirs' = forget_finished mine theirs

  same_book : (c : Channel) → client_book c mine theirs ≡ client_book c mine' theirs'
  same_book c =
      ap (λ (o : Option ℕ). let b : Client = record (client_book c mine theirs) { asked = o } in b)
      (kept_twice (finished c (stream mine)) (kept_plead c theirs) ∙ ap (kept (finished c (stream mine))) (sym (kept_read mine theirs c)))

  peer_forgets : (p : PeerState) → IsPeerBetween k mine theirs p → IsPeerBetween k mine' theirs' p
  peer_forgets p h =
      record {
        sums = record {
          version = h.sums.version;
          places = h.sums.places;
          channels = λ c.
              let s = h.sums.channels c in
              record { client = s.client ∙ same_book c; server = s.server; waiting = s.waiting; room = s.room; of_arrived = s.of_arrived };
          waiting = h.sums.waiting;
        };
        one_slot = h.one_slot;
        none_waits = h.none_waits;
      }

  end_forgets : (e : Endpoint) → IsEnd k mine theirs e → IsEnd k mine' theirs' e
  end_forgets e h = record { peer = peer_forgets e.peer h.peer; bytes = h.bytes; are_bytes = h.are_bytes; count = h.count; held = h.held }

line_forgets_finished : (l mine : Line) → IsLine l → IsLine (forget_finished mine l)
line_forgets_finished l mine h = record { valid = h.valid; order = record { begun = h.order.begun; part = h.order.part; first = h.order.first }; taken_places = h.taken_places; asked_places = refl }

ends_forget : (k : ℕ) (mine theirs : Line) (me peer : Endpoint) → AreEnds k mine theirs me peer → AreEnds k (forget_finished theirs mine) (forget_finished mine theirs) me peer
ends_forget k mine theirs me peer h =
    record {
      small = h.small;
      my_end = end_forgets k mine theirs me h.my_end;
      their_end = end_forgets k theirs mine peer h.their_end;
      my_line = line_forgets_finished mine theirs h.my_line;
      their_line = line_forgets_finished theirs mine h.their_line;
      sound = sound_settled (of_lines k mine theirs) h.sound;
    }

-- what is sound of two lines is so of the other side's view
swap_sums : (k : ℕ) (a b : Line) → IsSound (of_lines k a b) → (s : Side) (c : Channel) → Sound k c (line (of_lines k b a) s) (line (of_lines k b a) (other s))
swap_sums k a b h A c = h.sums B c
swap_sums k a b h B c = h.sums A c

swap_limits : (k : ℕ) (a b : Line) → IsSound (of_lines k a b) → (s : Side) → AllFit [] (stream (line (of_lines k b a) s))
swap_limits k a b h A = h.limits B
swap_limits k a b h B = h.limits A

pub swap : (k : ℕ) (mine theirs : Line) (me peer : Endpoint) → AreEnds k mine theirs me peer → AreEnds k theirs mine peer me
swap k mine theirs me peer h = record { small = h.small; my_end = h.their_end; their_end = h.my_end; my_line = h.their_line; their_line = h.my_line; sound = record { sums = swap_sums k mine theirs h.sound; limits = swap_limits k mine theirs h.sound } }

module _ (k : ℕ) (mine theirs : Line) (me peer : Endpoint) (h : AreEnds k mine theirs me peer) where
  pub my_line_is : line_of me peer ≡ forget_finished theirs mine
  my_line_is = line_is k mine theirs me peer h.my_line h.my_end h.their_end

  pub their_line_is : line_of peer me ≡ forget_finished mine theirs
  their_line_is = line_is k theirs mine peer me h.their_line h.their_end h.my_end

  pub capacity_is : capacity_of me ≡ k
  capacity_is = ap (λ (b : Server). b.capacity) (server_is k mine theirs me.peer h.my_end.peer Reconciliation)

  pub in_step : AreInStep me peer
  in_step = record {
    ends = subst (λ (n : ℕ). AreEnds n (line_of me peer) (line_of peer me) me peer) (sym capacity_is)
        (subst (λ (l : Line). AreEnds k l (line_of peer me) me peer) (sym my_line_is)
        (subst (λ (l : Line). AreEnds k (forget_finished theirs mine) l me peer) (sym their_line_is) (ends_forget k mine theirs me peer h)));
  }

-- one state for two ends, seen from each
pub states_same : (k k' : ℕ) (a a' b b' : Line) → k ≡ k' → a ≡ a' → b ≡ b' → of_lines k a b ≡ of_lines k' a' b'
states_same k k' a a' b b' ek ea eb = ap (λ (n : ℕ). of_lines n a b) ek ∙ (ap (λ (l : Line). of_lines k' l b) ea ∙ ap (λ (l : Line). of_lines k' a' l) eb)

-- an event at side A, and one at side B
module _ (a b a' b' : Endpoint) (act : Act) (answer : Answer) where
  module _ (h : AreInStep a b) (s : Acts a b a' b' act answer) where
    pub a_answers : IsAnswer (state_between a b) (record { side = A; act = act }) answer
    a_answers = s.right

    pub a_leaves : state_between a' b' ≡ state_after (state_between a b) A act answer
    a_leaves =
        let k : ℕ = capacity_of a in
        let mine : Line = mine_after (line_of a b) (line_of b a) act answer in
        let theirs : Line = theirs_after (line_of a b) (line_of b a) act answer in
        states_same (capacity_of a') k (line_of a' b') (forget_finished theirs mine) (line_of b' a') (forget_finished mine theirs)
        (capacity_is k mine theirs a' b' s.ends) (my_line_is k mine theirs a' b' s.ends) (their_line_is k mine theirs a' b' s.ends)

    pub a_in_step : AreInStep a' b'
    a_in_step = in_step _ _ _ a' b' s.ends

  module _ (h : AreInStep a b) (s : Acts b a b' a' act answer) where
    one_capacity : capacity_of b ≡ capacity_of a
    one_capacity = ap (λ (x : Server). x.capacity) (server_is (capacity_of a) (line_of b a) (line_of a b) b.peer h.ends.their_end.peer Reconciliation)

    pub b_answers : IsAnswer (state_between a b) (record { side = B; act = act }) answer
    b_answers = subst (λ (k : ℕ). IsAnswerOf k (line_of b a) (line_of a b) act answer) one_capacity s.right

    pub b_leaves : state_between a' b' ≡ state_after (state_between a b) B act answer
    b_leaves =
        let k : ℕ = capacity_of b in
        let mine : Line = mine_after (line_of b a) (line_of a b) act answer in
        let theirs : Line = theirs_after (line_of b a) (line_of a b) act answer in
        let back = swap k mine theirs b' a' s.ends in
        states_same (capacity_of a') (capacity_of a) (line_of a' b') (forget_finished mine theirs) (line_of b' a') (forget_finished theirs mine)
        (capacity_is k theirs mine a' b' back ∙ one_capacity) (my_line_is k theirs mine a' b' back) (their_line_is k theirs mine a' b' back)

    pub b_in_step : AreInStep a' b'
    b_in_step = in_step _ _ _ a' b' (swap _ _ _ b' a' s.ends)

-- the other side's view of two ends in step
pub turned : (a b : Endpoint) → AreInStep a b → AreInStep b a
turned a b h = in_step _ _ _ b a (swap _ _ _ a b h.ends)
