use Rattle.std.proofs.Common.{ap, sym, ◌∙◌}
use Rattle.lc_frame.specs.Channel.{number_of}
use Rattle.lc_inbox.specs.declared.rule.Key.{Key}
use Rattle.lc_session.specs.Reading.{channel_of_side}
use Rattle.lc_session.proofs.Places.{channel_here, channels_kept}
use Rattle.lc_session.proofs.reading_side.hear_at.Goals as goal

pub hear-requires-clause-lane : goal.hear-requires-clause-lane
hear-requires-clause-lane g c = c.requires.lane ∙ ap number_of (sym (channel_here channel_of_side c.args.channel c.args.inboxes.now c.index.result _ c.requires.places c.index.ensures.value))

pub returns-clause-places : goal.returns-clause-places
returns-clause-places g c =
    channels_kept channel_of_side c.args.channel c.args.inboxes.now c.index.result c.hear.new.inbox c.requires.places c.index.ensures.value
    (ap (λ (k : Key). k.channel) c.hear.ensures.same.key ∙ channel_here channel_of_side c.args.channel c.args.inboxes.now c.index.result _ c.requires.places c.index.ensures.value)
