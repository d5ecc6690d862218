use Rattle.std.proofs.Common.{rules, ◌≡◌, ◌∙◌, length}
use Rattle.lc_frame.specs.Channel.{channel_count}
use Rattle.lc_peer.proofs.Mapped.{mapped}
use Rattle.lc_session.proofs.session.recv_ends.Goals as goal

pub returns : goal.returns
returns c =
    let long : length c.zipped.result ≡ channel_count = search rules in
    mapped (λ p. p.0) _ _ (λ x y q e. search rules) long c.map.ensures.items ∙ c.zipped.ensures.0
