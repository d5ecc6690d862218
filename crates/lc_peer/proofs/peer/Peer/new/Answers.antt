use Rattle.std.proofs.Common.{rules, ◌≡◌, map, ap, sym, subst, ◌∙◌}
use Rattle.std.specs.List.{AllByRecursion}
use Rattle.lc_peer.specs.declared.channel_state.ChannelState.{ChannelState}
use Rattle.lc_peer.specs.Peer.{new_channel}
use Rattle.lc_peer.proofs.Versions.{made_versions}
use Rattle.lc_peer.specs.PeerFields.{ring_of}
use Rattle.lc_peer.proofs.RingSizes.{made_rings}
use Rattle.lc_peer.proofs.peer.Peer.new.Goals as goal

pub invariant_of-result : goal.invariant_of-result
invariant_of-result c =
    let v = c.args.config.version in
    let made : c.in-Ok.channels ≡ map (new_channel v) c.args.config.capacities = c.in-Ok.ensures in
    record {
      places = search rules;
      versions = subst (AllByRecursion (λ (s : ChannelState). s.client.version ≡ v)) (sym made) (made_versions v c.args.config.capacities);
      rings = ap (map ring_of) made ∙ made_rings v c.args.config.capacities;
      slots = search rules;
      each = search rules;
    }
