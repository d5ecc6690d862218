use Rattle.std.proofs.Common.{rules, subst}
use Rattle.lc_session.specs.Reading.{Reading, IsSameReading}
use Rattle.lc_session.specs.Heard.{HearsMore}
use Rattle.lc_session.proofs.Runs.{run_hears}
use Rattle.lc_session.proofs.Same.{run_same}
use Rattle.lc_session.proofs.read_pump.ReadPump.run.Goals as goal

pub returns-clause-same : goal.returns-clause-same
returns-clause-same g c =
    subst (λ (r : Reading). IsSameReading r.side c.read_into-end.new.sink) c.self.view_is (run_same _ _ _ _ _ _ _ _ _ _ _ _ c.read_into-end.ensures.given_up c.read_into-end.ensures.reads)

pub returns-clause-hears : goal.returns-clause-hears
returns-clause-hears g c =
    subst (λ (r : Reading). HearsMore r (record { side = c.read_into-end.new.sink; intake = c.read_into-end.new.intake })) c.self.view_is (run_hears _ _ _ _ _ _ _ _ _ _ c.read_into-end.ensures.given_up c.read_into-end.ensures.reads)

pub returns-clause-reads : goal.returns-clause-reads
returns-clause-reads g c = search rules
