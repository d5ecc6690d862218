use Rattle.std.proofs.Common.{map, rules, ap, ◌∙◌}
use Rattle.std.proofs.lemmas.Simd.{map-map}
use Rattle.lc_book.specs.Client.{new_client}
use Rattle.lc_peer.specs.Inbox.{InboxState, new_inbox}
use Rattle.lc_peer.specs.declared.channel_state.ChannelState.{ChannelState}
use Rattle.lc_peer.proofs.Mapped.{tried, mapped}
use Rattle.lc_peer.proofs.channel_state.new_channels.Goals as goal

pub returns : goal.returns
returns c =
    let made = c.in_ok-inboxes.ensures.ok in
    let with_inbox : InboxState → ChannelState = λ inbox. record { client = new_client c.args.version; inbox = inbox } in
    mapped with_inbox _ _ (λ x y q e. search rules) made.long c.map.ensures.items
    ∙ ap (map with_inbox) (tried new_inbox 0 (λ x y e. search rules) c.requires made)
    ∙ map-map with_inbox new_inbox c.args.capacities
