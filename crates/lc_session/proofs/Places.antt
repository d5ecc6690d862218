-- What is kept for each channel, at the place of its number.
use Rattle.std.proofs.Common.{◌≡◌, ◌<◌, subst, ℕ, zero, suc, List, [], ◌∷◌, map, get_or, set, refl, sym, ap, ◌∙◌}
use Rattle.std.specs.Prelude.{slice_get, IsSomeAnd}
use Rattle.std.proofs.Math.ListN.{get_or-map}
use Rattle.std.proofs.lemmas.List.{map-set}
use Rattle.lc_frame.specs.declared.channel.Channel.{Channel}
use Rattle.lc_frame.specs.declared.channel.Channel.TheVariants.{Reconciliation, Data, Overlap, Capability, AreaOfInterest, PayloadRequest, StaticToken}
use Rattle.lc_frame.specs.Channel.{number_of}
use Rattle.lc_inbox.specs.Sides.{InboxSide}
use Rattle.lc_peer.specs.Longer.{IsLonger}
use Rattle.lc_session.specs.Channels.{channels}
use Rattle.lc_session.specs.Reading.{ring_of_side}

channel_there : (c d : Channel) → get_or channels (number_of c) d ≡ c
channel_there Reconciliation d = refl
channel_there Data d = refl
channel_there Overlap d = refl
channel_there Capability d = refl
channel_there AreaOfInterest d = refl
channel_there PayloadRequest d = refl
channel_there StaticToken d = refl

channel_set : (c : Channel) → set channels (number_of c) c ≡ channels
channel_set Reconciliation = refl
channel_set Data = refl
channel_set Overlap = refl
channel_set Capability = refl
channel_set AreaOfInterest = refl
channel_set PayloadRequest = refl
channel_set StaticToken = refl

-- where each place has its channel, it is the channel of that number
pub channel_here : {A : Type 0} (f : A → Channel) (c : Channel) (xs : List A) (i : ℕ) (d : A) → map f xs ≡ channels → i ≡ number_of c → f (get_or xs i d) ≡ c
channel_here f c xs i d places e = sym (get_or-map f xs i d) ∙ ap (λ (cs : List Channel). get_or cs i (f d)) places ∙ ap (λ (n : ℕ). get_or channels n (f d)) e ∙ channel_there c (f d)

-- and where one place changes that keeps its channel, all do
pub channels_kept : {A : Type 0} (f : A → Channel) (c : Channel) (xs : List A) (i : ℕ) (y : A) → map f xs ≡ channels → i ≡ number_of c → f y ≡ c → map f (set xs i y) ≡ channels
channels_kept f c xs i y places e same =
    map-set f xs i y ∙ ap (λ (cs : List Channel). set cs i (f y)) places ∙ ap (λ (n : ℕ). set channels n (f y)) e ∙ ap (λ (d : Channel). set channels (number_of c) d) same ∙ channel_set c

-- ---- the ring of a channel

longer_at : (len at : ℕ) (sides : List InboxSide) (d : InboxSide) → IsSomeAnd (slice_get (map ring_of_side sides) at) (λ ring. ring < len) → (get_or sides at d).key.capacity < len
longer_at len at [] d h = absurd h
longer_at len zero (s ∷ sides) d h = h
longer_at len (suc at) (s ∷ sides) d h = longer_at len at sides d h

-- a message that is longer than the ring of its channel is longer than that of the inbox at its place
pub longer_here : (c : Channel) (len : ℕ) (sides : List InboxSide) (i : ℕ) (d : InboxSide) → IsLonger (map ring_of_side sides) c len → i ≡ number_of c → (get_or sides i d).key.capacity < len
longer_here c len sides i d longer e = longer_at len i sides d (subst (λ (n : ℕ). IsSomeAnd (slice_get (map ring_of_side sides) n) (λ ring. ring < len)) (sym e) longer)
