use Rattle.std.proofs.Common.{rules, ◌≡◌, length}
use Rattle.lc_frame.specs.Channel.{channel_count}
use Rattle.lc_peer.proofs.Mapped.{mapped}
use Rattle.lc_loopback.specs.Ends.{taker_with}
use Rattle.lc_loopback.proofs.ends.start_takers.Goals as goal

pub returns : goal.returns
returns g c =
    let long : length c.args.ends ≡ channel_count = search rules in
    mapped (taker_with c.args.exchange) _ _ (λ x y q e. search rules) long c.map.ensures.items
