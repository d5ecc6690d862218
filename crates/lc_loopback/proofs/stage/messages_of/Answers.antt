use Rattle.std.proofs.Common.{rules, ◌≡◌, length}
use Rattle.lc_frame.specs.Channel.{channel_count}
use Rattle.lc_peer.proofs.Mapped.{mapped}
use Rattle.lc_loopback.specs.Played.{messages_of}
use Rattle.lc_loopback.proofs.stage.messages_of.Goals as goal

pub returns : goal.returns
returns c =
    let long : length c.args.all ≡ channel_count = search rules in
    mapped messages_of _ _ (λ x y q e. search rules) long c.map.ensures.items
