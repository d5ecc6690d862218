use Rattle.std.proofs.Common.{rules, ◌≡◌, length}
use Rattle.lc_frame.specs.Channel.{channel_count}
use Rattle.lc_peer.proofs.Mapped.{mapped}
use Rattle.lc_loopback.specs.Ends.{end_of_sender}
use Rattle.lc_loopback.proofs.ends.send_ends_of.Goals as goal

pub returns : goal.returns
returns c =
    let long : length c.args.senders ≡ channel_count = search rules in
    mapped end_of_sender _ _ (λ x y q e. search rules) long c.map.ensures.items
