use Rattle.std.proofs.Common.{ap, ◌∙◌}
use Rattle.lc_inbox.specs.declared.rule.Key.{Key}
use Rattle.lc_session.specs.Reading.{channel_of_side}
use Rattle.lc_session.proofs.Places.{channel_here, channels_kept, longer_here}
use Rattle.lc_session.proofs.reading_side.refuse_at.Goals as goal

pub refuse-requires-clause-channel : goal.refuse-requires-clause-channel
refuse-requires-clause-channel g c = channel_here channel_of_side c.args.channel c.args.inboxes.now c.index.result _ c.requires.places c.index.ensures.value

pub refuse-requires-clause-longer : goal.refuse-requires-clause-longer
refuse-requires-clause-longer g c = longer_here c.args.channel c.args.len c.args.inboxes.now c.index.result _ c.requires.longer c.index.ensures.value

pub returns-clause-places : goal.returns-clause-places
returns-clause-places g c =
    channels_kept channel_of_side c.args.channel c.args.inboxes.now c.index.result c.refuse.new.inbox c.requires.places c.index.ensures.value
    (ap (λ (k : Key). k.channel) c.refuse.ensures.same.key ∙ channel_here channel_of_side c.args.channel c.args.inboxes.now c.index.result _ c.requires.places c.index.ensures.value)
