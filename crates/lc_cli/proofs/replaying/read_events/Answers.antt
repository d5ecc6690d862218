use Rattle.lc_cli.proofs.Scripts.{is_script}
use Rattle.lc_cli.proofs.replaying.read_events.Goals as goal

pub returns-clause-script : goal.returns-clause-script
returns-clause-script g c = is_script (λ v. v.items) _ _ _ _ c.as_slice.ensures.value c.in_ok-script.ensures.whole c.parse_script.ensures.events
