use Rattle.std.proofs.Common.{rules, arith, ◌≡◌, length}
use Rattle.lc_frame.specs.Channel.{channel_count}
use Rattle.lc_inbox.proofs.Seven.{came, zip_of}
use Rattle.lc_session.proofs.Begun.{IsNewEnd, IsReady, are_ready, made_outboxes}
use Rattle.lc_session.proofs.session.send_ends.Goals as goal

pub map-requires : goal.map-requires
map-requires c =
    let ready = are_ready c.requires.lanes.0 c.requires.lanes.1 _ _ _ _ c.zipped-parts.ensures.0 c.zipped.ensures.0 c.zipped.ensures.1 c.requires.lanes.2 c.requires.credits in
    (search rules, (search rules, (search rules, record { at = λ xs t q x u yields folds is. let here : IsReady x = came IsReady _ xs t u x ready yields is in search rules })))

pub returns : goal.returns
returns c =
    let made = c.map.ensures.items in
    let long : length c.zipped-parts.result ≡ channel_count = search rules in
    let each = zip_of (λ z o. IsNewEnd z.0.0 z.0.1 o) c.zipped-parts.result c.map.result (omega (arith, long, made.long)) (λ i d e few. let called = made.at i d e (omega (arith, few, made.long)) in search rules) in
    made_outboxes c.requires.lanes.0 c.requires.lanes.1 _ _ _ _ c.zipped-parts.ensures.0 c.zipped.ensures.0 c.zipped.ensures.1 c.requires.lanes.2 _ each
