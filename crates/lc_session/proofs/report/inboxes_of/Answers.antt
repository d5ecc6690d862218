use Rattle.std.proofs.Common.{rules, ◌≡◌, ◌∙◌, length}
use Rattle.std.proofs.lemmas.List.{map-id}
use Rattle.lc_frame.specs.Channel.{channel_count}
use Rattle.lc_peer.proofs.Mapped.{mapped}
use Rattle.lc_session.proofs.report.inboxes_of.Goals as goal

pub returns : goal.returns
returns c =
    let long : length c.args.ends ≡ channel_count = search rules in
    mapped (λ x. x) _ _ (λ x y q e. search rules) long c.map.ensures.items ∙ map-id c.args.ends
