-- Two ends at which nothing has happened.
use Rattle.std.proofs.Common.{◌≡◌, ℕ, ◌<◌, Option, Some, None, inl, inr, List, [], ◌∷◌, refl, sym, ap, subst, ◌∙◌, arith}
use Rattle.std.specs.Prelude.{replicate, slice_index, All}
use Rattle.std.specs.Option.{option_map, option_or}
use Rattle.std.proofs.lemmas.List.{append-nil}
use Rattle.std.proofs.lemmas.List.Elements.{All-from_recursion}
use Rattle.lc_frame.specs.declared.version.Version.{Version}
use Rattle.lc_frame.specs.declared.version.Version.TheVariants.{One, Two}
use Rattle.lc_frame.specs.declared.channel.Channel.{Channel}
use Rattle.lc_frame.specs.declared.channel.Channel.TheVariants.{Reconciliation, Data, Overlap, Capability, AreaOfInterest, PayloadRequest, StaticToken}
use Rattle.lc_frame.specs.Bounds.{IsCapacity}
use Rattle.lc_frame.specs.Channel.{channel_count, number_of}
use Rattle.lc_frame.specs.Stored.{nothing_stored}
use Rattle.lc_frame.specs.Version.{greeting}
use Rattle.lc_peer.specs.declared.config.Config.{Config}
use Rattle.lc_peer.specs.declared.config.PeerFault.TheVariants.{BadSlots}
use Rattle.lc_peer.specs.Config.{first_bad, bad_capacity, IsNewAnswer, new_peer}
use Rattle.lc_peer.specs.Peer.{PeerState}
use Rattle.lc_peer.specs.Streams.{Streams, IsPeerOf, new_streams}
use Rattle.lc_peer.proofs.StreamsKept.{new_peers_are_of_streams}
use Rattle.lc_world.specs.declared.endpoint.Endpoint.{Endpoint}
use Rattle.lc_world.specs.State.{new_line, by_side}
use Rattle.lc_world.specs.Calls.{IsNewEnd}
use Rattle.lc_world.specs.Endpoint.{streams_of, stored_of, IsEnd, IsLine, AreEnds, AreInStep}
use Rattle.lc_world.proofs.Bytes.{order_new}
use Rattle.lc_world.proofs.Pleads.{none_kept}
use Rattle.lc_world.proofs.Sound.{none_taken}
use Rattle.lc_world.proofs.Steps.{sound_opened}
use Rattle.lc_world.proofs.Ends.{in_step}

-- one slot is no fault
no_slots_fault : (slots : ℕ) (capacities : List ℕ) (o : Option Channel) → Some (BadSlots slots) ≡ option_or (option_map (bad_capacity capacities) o) None → ⊥
no_slots_fault slots capacities None e = cc
no_slots_fault slots capacities (Some c) e = cc

pub no_bad_slots : (v : Version) (k slots : ℕ) → IsNewAnswer (record { version = v; capacities = replicate channel_count k; slots = 1 }) (Some (BadSlots slots)) → ⊥
no_bad_slots v k slots h = elim h [ inl e ↦ no_slots_fault slots (replicate channel_count k) (first_bad (replicate channel_count k)) e | inr p ↦ let e = p.1 in cc ]

-- the streams of a new peer are those of two lines on which nothing has happened
one_capacity : (k : ℕ) (c : Channel) → slice_index (replicate channel_count k) (number_of c) ≡ k
one_capacity k Reconciliation = refl
one_capacity k Data = refl
one_capacity k Overlap = refl
one_capacity k Capability = refl
one_capacity k AreaOfInterest = refl
one_capacity k PayloadRequest = refl
one_capacity k StaticToken = refl

streams_new : (v w : Version) (k : ℕ) → new_streams (record { version = v; capacities = replicate channel_count k; slots = 1 }) ≡ streams_of k (new_line v) (new_line w)
streams_new v w k = λ i. let s : Streams = record { version = v; put = []; arrived = []; capacity = λ c. one_capacity k c i; taken = λ c. sym (none_taken w c) i; asked = λ c. sym (none_kept w c) i } in s

greeting_bytes : (v : Version) → All (λ b. b < 256) (greeting v)
greeting_bytes One = All-from_recursion (λ b. b < 256) [] tt
greeting_bytes Two = All-from_recursion (λ b. b < 256) (greeting Two) (omega arith, (omega arith, (omega arith, (omega arith, tt))))

held_new : (v : Version) → nothing_stored ≡ stored_of (new_line v)
held_new One = refl
held_new Two = refl

new_end : (v w : Version) (k : ℕ) (e : Endpoint) → IsNewEnd v k e → IsEnd k (new_line v) (new_line w) e
new_end v w k e n =
    let config : Config = record { version = v; capacities = replicate channel_count k; slots = 1 } in
    record {
      peer = record {
        sums = subst (λ (p : PeerState). IsPeerOf (streams_of k (new_line v) (new_line w)) p) (sym n.peer) (subst (λ (s : Streams). IsPeerOf s (new_peer config)) (streams_new v w k) (new_peers_are_of_streams config refl));
        one_slot = ap (λ (p : PeerState). p.slots) n.peer;
        none_waits = ap (λ (p : PeerState). p.waiting) n.peer;
      };
      bytes = n.stream ∙ sym (append-nil (greeting v));
      are_bytes = subst (λ (x : List ℕ). All (λ b. b < 256) x) (sym n.stream) (greeting_bytes v);
      count = n.delivered ∙ omega arith;
      held = n.decoder ∙ held_new w;
    }

line_new : (v : Version) → IsLine (new_line v)
line_new v = record { valid = tt; order = order_new v; taken_places = refl; asked_places = refl }

module _ (v w : Version) (k : ℕ) (a b : Endpoint) (fits : IsCapacity k) (new_a : IsNewEnd v k a) (new_b : IsNewEnd w k b) where
  new_ends : AreEnds k (new_line v) (new_line w) a b
  new_ends = record {
    small = fits.at_most;
    my_end = new_end v w k a new_a;
    their_end = new_end w v k b new_b;
    my_line = line_new v;
    their_line = line_new w;
    sound = sound_opened k (by_side (v ∷ w ∷ []));
  }

  pub new_in_step : AreInStep a b
  new_in_step = in_step k (new_line v) (new_line w) a b new_ends
