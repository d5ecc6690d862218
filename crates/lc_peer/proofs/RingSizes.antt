-- The bytes of each channel's ring, which never change.
use Rattle.std.proofs.Common.{◌≡◌, ℕ, List, [], ◌∷◌, map, length, Bool, true, false, Option, Some, None, refl, ap, ◌∙◌}
use Rattle.std.specs.Prelude.{if◌then◌else◌}
use Rattle.std.specs.Option.{option_map}
use Rattle.lc_frame.specs.declared.version.Version.{Version}
use Rattle.lc_frame.specs.declared.frame.Frame.{Frame}
use Rattle.lc_frame.specs.declared.frame.Frame.TheVariants.{Send, Issue, Absolve, Plead, LimitSending, LimitReceiving, Finish}
use Rattle.lc_book.specs.Server.{Server}
use Rattle.lc_ring.specs.Ring.{front}
use Rattle.lc_peer.specs.declared.channel_state.ChannelState.{ChannelState}
use Rattle.lc_peer.specs.Inbox.{InboxState, note_front, take_first}
use Rattle.lc_peer.specs.Peer.{new_channel}
use Rattle.lc_peer.specs.PeerFields.{ring_of}
use Rattle.lc_peer.specs.Calls.{channel_after_put}
use Rattle.lc_peer.specs.Arrivals.{channel_after_arrival}

pub made_rings : (v : Version) (capacities : List ℕ) → map ring_of (map (new_channel v) capacities) ≡ capacities
made_rings v [] = refl
made_rings v (n ∷ capacities) = ap (λ (ns : List ℕ). n ∷ ns) (made_rings v capacities)

pub ring_put : (f : Frame) (s : ChannelState) → ring_of (channel_after_put f s) ≡ ring_of s
ring_put (Send c body) s = refl
ring_put (Issue c n) s = refl
ring_put (Absolve c n) s = refl
ring_put (Plead c n) s = refl
ring_put (LimitSending c n) s = refl
ring_put (LimitReceiving c n) s = refl
ring_put (Finish c) s = refl

pub ring_arrived : (f : Frame) (s : ChannelState) → ring_of (channel_after_arrival f s) ≡ ring_of s
ring_arrived (Send c body) s = refl
ring_arrived (Issue c n) s = refl
ring_arrived (Absolve c n) s = refl
ring_arrived (Plead c n) s = refl
ring_arrived (LimitSending c n) s = refl
ring_arrived (LimitReceiving c n) s = refl
ring_arrived (Finish c) s = refl

noted_ring : (book : Server) (len : Option ℕ) → (note_front book len).capacity ≡ book.capacity
noted_ring book None = refl
noted_ring book (Some len) = refl

pub ring_taken : (i : InboxState) → (take_first i).book.capacity ≡ i.book.capacity
ring_taken i = noted_ring i.book (option_map length (front i.ring))

-- where a frame may be refused, which leaves the channel as it was
pub ring_kept : (f : Frame) (s new : ChannelState) (ok : Bool) → new ≡ (if ok then channel_after_arrival f s else s) → ring_of new ≡ ring_of s
ring_kept f s new true e = ap ring_of e ∙ ring_arrived f s
ring_kept f s new false e = ap ring_of e

pub taken_kept : (i new : InboxState) (ok : Bool) → new ≡ (if ok then take_first i else i) → new.book.capacity ≡ i.book.capacity
taken_kept i new true e = ap (λ (x : InboxState). x.book.capacity) e ∙ ring_taken i
taken_kept i new false e = ap (λ (x : InboxState). x.book.capacity) e
