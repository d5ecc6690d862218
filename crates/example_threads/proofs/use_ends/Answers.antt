use Rattle.std.proofs.Common.{List, sym, subst}
use Rattle.std.specs.List.{AllZip}
use Rattle.lc_inbox.specs.Sides.{IsSameSide}
use Rattle.lc_outbox.specs.Outbox.{IsSameOutbox}
use Rattle.lc_session.proofs.Same.{outbox_itself, side_itself}
use Rattle.lc_session.proofs.Played.{zip_itself, outboxes_set, sides_set}
use Rattle.example_threads.proofs.use_ends.Goals.{in-Sends, in-Takes}
use Rattle.example_threads.proofs.use_ends.Goals as goal

pub returns-clause-sending : goal.returns-clause-sending
returns-clause-sending g c =
    elim c.match-role.branch [
      | in-Sends w ↦ subst (AllZip IsSameOutbox c.args.ends.0) (sym w.sending-is) (outboxes_set _ _ _ _ w.send_all.ensures)
      | in-Takes w ↦ subst (AllZip IsSameOutbox c.args.ends.0) (sym w.sending-is) (zip_itself IsSameOutbox outbox_itself c.args.ends.0)
    ]

pub returns-clause-receiving : goal.returns-clause-receiving
returns-clause-receiving g c =
    elim c.match-role.branch [
      | in-Sends w ↦ subst (AllZip IsSameSide c.args.ends.1) (sym w.receiving-is) (zip_itself IsSameSide side_itself c.args.ends.1)
      | in-Takes w ↦ subst (AllZip IsSameSide c.args.ends.1) (sym w.receiving-is) (sides_set _ _ _ _ w.take_all.ensures)
    ]
