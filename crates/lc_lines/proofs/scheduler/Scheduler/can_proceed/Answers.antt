use Rattle.std.proofs.Common.{sym, ◌∙◌}
use Rattle.std.specs.Prelude.{◌&&◌}
use Rattle.lc_lines.specs.Outbound.{fits}
use Rattle.lc_lines.specs.Scheduler.{unwritten, is_able, is_turn}
use Rattle.lc_lines.proofs.Next.{first_of_both, second_of_both, accepted}
use Rattle.lc_lines.proofs.scheduler.Scheduler.can_proceed.Goals as goal

pub returns-clause-accepted : goal.returns-clause-accepted
returns-clause-accepted c = λ e.
    let s = c.args.self.now in
    accepted s c.args.channel c.args.len (first_of_both (is_able s c.args.channel c.args.len) (fits (unwritten s) c.args.len && is_turn s c.args.channel) (sym c.holds_all.ensures ∙ e))

pub returns-clause-bytes : goal.returns-clause-bytes
returns-clause-bytes c = λ e.
    let s = c.args.self.now in
    first_of_both (fits (unwritten s) c.args.len) (is_turn s c.args.channel) (second_of_both (is_able s c.args.channel c.args.len) (fits (unwritten s) c.args.len && is_turn s c.args.channel) (sym c.holds_all.ensures ∙ e))
