use Rattle.std.proofs.Common.{◌∙◌, ap, sym}
use Rattle.lc_frame.specs.Channel.{number_of}
use Rattle.lc_outbox.specs.Outbox.{OutboxState, new_outbox}
use Rattle.lc_session.proofs.session.send_end.Goals as goal

pub returns-clause-channel : goal.returns-clause-channel
returns-clause-channel c = ap (λ (o : OutboxState). number_of o.channel) c.new-2.ensures ∙ c.new.ensures.channel

pub returns-clause-new : goal.returns-clause-new
returns-clause-new c = c.new-2.ensures ∙ (c.new.ensures.new ∙ ap (λ (o : OutboxState). new_outbox o.channel c.args.lane c.args.credit) (sym c.new-2.ensures))
