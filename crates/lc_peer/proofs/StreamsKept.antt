-- A peer of two streams, one call further.
use Rattle.std.proofs.Common.{◌≡◌, ℕ, ◌+◌, ◌<◌, Bool, false, List, [], ◌∷◌, ◌++◌, length, get_or, drop, Option, None, refl, sym, ap, ◌∙◌, subst, inl, inr, arith, append_assoc, if◌then◌else◌}
use Rattle.std.proofs.lemmas.Bool.Decides.{nat_tests}
use Rattle.std.proofs.lemmas.List.{length-set, length-map, get_or-set_same, get_or-set_other}
use Rattle.std.proofs.Math.ListN.{get_or-map}
use Rattle.lc_frame.specs.declared.channel.Channel.{Channel}
use Rattle.lc_frame.specs.declared.version.Version.{Version}
use Rattle.lc_frame.specs.declared.frame.Frame.{Frame}
use Rattle.lc_frame.specs.Channel.{channel_count, is_same, number_of}
use Rattle.lc_frame.specs.Frame.{channel_of}
use Rattle.lc_frame.proofs.Channels.{cases_same, same_is_same, number_below}
use Rattle.lc_book.specs.Sums.{asked_after}
use Rattle.lc_peer.specs.declared.channel_state.ChannelState.{ChannelState}
use Rattle.lc_peer.specs.Inbox.{take_first}
use Rattle.lc_peer.specs.Peer.{PeerState, channel, inbox, set_channel, new_channel}
use Rattle.lc_peer.specs.Calls.{channel_after_put, put, due, absolvings, channel_after_honour, put_honour, take_on}
use Rattle.lc_peer.specs.Arrivals.{channel_after_arrival, arrive}
use Rattle.lc_peer.specs.Streams.{IsChannelOf, IsEndOf, Streams, IsPeerOf, at, new_streams, then_put, then_arrives, then_honours, then_takes, NewPeersAreOfStreams, CallsKeepStreams}
use Rattle.lc_peer.proofs.Channels.{put_here, put_elsewhere, arrive_here, arrive_elsewhere, honour_here, honour_elsewhere, take_here, take_none}

at_here : {X : Type 0} (c : Channel) (x : X) (f : Channel → X) → at c x f c ≡ x
at_here c x f = ap (λ (b : Bool). if b then x else f c) (same_is_same c)

at_elsewhere : {X : Type 0} (c d : Channel) (x : X) (f : Channel → X) → is_same d c ≡ false → at c x f d ≡ f d
at_elsewhere c d x f apart = ap (λ (b : Bool). if b then x else f d) apart

abbrev Of : Streams → Channel → ChannelState → Type 0
Of s c x = IsChannelOf s.version (s.capacity c) c s.put s.arrived (s.taken c) (s.asked c) x

-- one channel is in another state, and all are those of the streams one step further
module _ (s t : Streams) (p : PeerState) (h : IsPeerOf s p) (d : Channel) (x : ChannelState) where
  pub channels_of : Of t d x → ((c : Channel) → is_same c d ≡ false → Of s c (channel p c) → Of t c (channel p c)) → (c : Channel) → Of t c (channel (set_channel p d x) c)
  channels_of here elsewhere c =
      elim (cases_same c d) [
        | inl same ↦ subst (λ (e : Channel). Of t e (channel (set_channel p d x) e)) (sym same) (subst (Of t d) (sym (get_or-set_same p.channels (number_of d) x (new_channel p.version 0) (omega (arith, h.places, number_below d)))) here)
        | inr apart ↦ subst (Of t c) (sym (get_or-set_other p.channels (number_of d) (number_of c) x (new_channel p.version 0) (grind (arith, nat_tests, apart)))) (elsewhere c apart (h.channels c))
      ]

  pub places_of : length (set_channel p d x).channels ≡ channel_count
  places_of = length-set p.channels (number_of d) x ∙ h.places

-- more is put, and waits
longer : (put waiting more : List Frame) → IsEndOf put waiting → IsEndOf (put ++ more) (waiting ++ more)
longer put waiting more h = (h.0, ap (λ (fs : List Frame). fs ++ more) h.1 ∙ append_assoc h.0 waiting more)

-- the first goes out
shorter : (put waiting : List Frame) → IsEndOf put waiting → IsEndOf put (drop 1 waiting)
shorter put [] h = h
shorter put (f ∷ waiting) h = (h.0 ++ f ∷ [], h.1 ∙ sym (append_assoc h.0 (f ∷ []) waiting))

module _ (s : Streams) (p : PeerState) (h : IsPeerOf s p) where
  puts : (f : Frame) → IsPeerOf (then_put f s) (put p f)
  puts f =
      let d = channel_of f in
      let x = channel_after_put f (channel p d) in
      record {
        version = h.version;
        places = places_of s (then_put f s) p h d x;
        channels = channels_of s (then_put f s) p h d x (put_here s.version (s.capacity d) s.put s.arrived (s.taken d) (s.asked d) (channel p d) f (h.channels d)) (λ c apart. put_elsewhere s.version (s.capacity c) s.put s.arrived (s.taken c) (s.asked c) (channel p c) f c apart);
        waiting = longer s.put p.waiting (f ∷ []) h.waiting;
      }

  honours : (d : Channel) → IsPeerOf (then_honours d (due p d) s) (put_honour p d)
  honours d =
      let t = then_honours d (due p d) s in
      let x = channel_after_honour (channel p d) in
      record {
        version = h.version;
        places = places_of s t p h d x;
        channels = channels_of s t p h d x
            (subst (λ (o : Option ℕ). IsChannelOf s.version (s.capacity d) d t.put s.arrived (s.taken d) o x) (sym (at_here d None s.asked)) (honour_here s.version (s.capacity d) s.put s.arrived (s.taken d) (s.asked d) (channel p d) d (due p d) refl (h.channels d)))
            (λ c apart k. subst (λ (o : Option ℕ). IsChannelOf s.version (s.capacity c) c t.put s.arrived (s.taken c) o (channel p c)) (sym (at_elsewhere d c None s.asked apart)) (honour_elsewhere s.version (s.capacity c) s.put s.arrived (s.taken c) (s.asked c) (channel p c) d (due p d) c apart k));
        waiting = longer s.put p.waiting (absolvings d (due p d)) h.waiting;
      }

  arrives : (f : Frame) → IsPeerOf (then_arrives f s) (arrive p f)
  arrives f =
      let d = channel_of f in
      let t = then_arrives f s in
      let x = channel_after_arrival f (channel p d) in
      let asked = asked_after f (s.asked d) in
      record {
        version = h.version;
        places = places_of s t p h d x;
        channels = channels_of s t p h d x
            (subst (λ (o : Option ℕ). IsChannelOf s.version (s.capacity d) d s.put t.arrived (s.taken d) o x) (sym (at_here d asked s.asked)) (arrive_here s.version (s.capacity d) s.put s.arrived (s.taken d) (s.asked d) (channel p d) f (h.channels d)))
            (λ c apart k. subst (λ (o : Option ℕ). IsChannelOf s.version (s.capacity c) c s.put t.arrived (s.taken c) o (channel p c)) (sym (at_elsewhere d c asked s.asked apart)) (arrive_elsewhere s.version (s.capacity c) s.put s.arrived (s.taken c) (s.asked c) (channel p c) f c apart k));
        waiting = h.waiting;
      }

  takes : (d : Channel) → 0 < length (inbox p d).ring.messages → IsPeerOf (then_takes d s) (take_on p d)
  takes d some =
      let t = then_takes d s in
      let x : ChannelState = record (channel p d) { inbox = take_first (inbox p d) } in
      record {
        version = h.version;
        places = places_of s t p h d x;
        channels = channels_of s t p h d x
            (subst (λ (n : ℕ). IsChannelOf s.version (s.capacity d) d s.put s.arrived n (s.asked d) x) (sym (at_here d (s.taken d + 1) s.taken)) (take_here s.version (s.capacity d) s.put s.arrived (s.taken d) (s.asked d) (channel p d) d some (h.channels d)))
            (λ c apart k. subst (λ (n : ℕ). IsChannelOf s.version (s.capacity c) c s.put s.arrived n (s.asked c) (channel p c)) (sym (at_elsewhere d c (s.taken d + 1) s.taken apart)) k);
        waiting = h.waiting;
      }

  takes_none : (d : Channel) → (inbox p d).ring.messages ≡ [] → IsPeerOf s (take_on p d)
  takes_none d none =
      let x : ChannelState = record (channel p d) { inbox = take_first (inbox p d) } in
      record {
        version = h.version;
        places = places_of s s p h d x;
        channels = channels_of s s p h d x (take_none s.version (s.capacity d) s.put s.arrived (s.taken d) (s.asked d) (channel p d) d none (h.channels d)) (λ c apart k. k);
        waiting = h.waiting;
      }

pub calls_keep_streams : CallsKeepStreams
calls_keep_streams s p h = record {
  puts = puts s p h;
  honours = honours s p h;
  arrives = arrives s p h;
  takes = takes s p h;
  takes_none = takes_none s p h;
  goes_out = record { version = h.version; places = h.places; channels = h.channels; waiting = shorter s.put p.waiting h.waiting };
}

new_channel_of : (version : Version) (capacity : ℕ) (c : Channel) → IsChannelOf version capacity c [] [] 0 None (new_channel version capacity)
new_channel_of version capacity c = record { client = refl; server = refl; waiting = refl; room = refl; of_arrived = omega arith }

pub new_peers_are_of_streams : NewPeersAreOfStreams
new_peers_are_of_streams config places = record {
  version = refl;
  places = length-map config.capacities (new_channel config.version) ∙ places;
  channels = λ c. subst (Of (new_streams config) c) (sym (get_or-map (new_channel config.version) config.capacities (number_of c) 0)) (new_channel_of config.version (get_or config.capacities (number_of c) 0) c);
  waiting = ([], refl);
}
