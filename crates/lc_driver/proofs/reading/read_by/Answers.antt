use Rattle.lc_driver.proofs.Arrived.{reads, version_kept}
use Rattle.lc_driver.proofs.reading.read_by.Goals as goal

pub returns-clause-reads : goal.returns-clause-reads
returns-clause-reads g c = λ going. reads _ _ _ _ _ _ _ _ (c.read_into.ensures.reads going)

pub returns-clause-version : goal.returns-clause-version
returns-clause-version g c = version_kept _ _ _ _ _ _ _ _ (g.I.IntakeFor.state c.args.intake.now).stop _ c.read_into.ensures.given_up (λ s given. given.1) (λ none. reads _ _ _ _ _ _ _ _ (c.read_into.ensures.reads none))
