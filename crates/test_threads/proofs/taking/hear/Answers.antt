use Rattle.std.proofs.Common.{ap, ◌++◌, ◌∷◌, [], ◌∙◌}
use Rattle.lc_frame.specs.declared.frame.Frame.TheVariants.{Send}
use Rattle.lc_inbox.specs.History.{heard}
use Rattle.test_threads.proofs.Arrivals.{message_arrived}
use Rattle.test_threads.proofs.taking.hear.Goals as goal

pub returns-in-Ok-clause-arrived : goal.returns-in-Ok-clause-arrived
returns-in-Ok-clause-arrived g c =
    message_arrived _ _ c.args.body.now c.in-Ok.ensures.same (c.in-Ok.ensures.ok.heard ∙ ap (λ d. heard c.args.incoming.now.seen ++ Send d c.args.body.now ∷ []) c.channel-channel.ensures)
