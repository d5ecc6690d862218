use Rattle.std.proofs.Common.{ap}
use Rattle.lc_session.specs.Parts.{state_of}
use Rattle.lc_loopback.specs.declared.pumping.Pumping.{Pumping}
use Rattle.lc_loopback.proofs.Back.{exchanged}
use Rattle.lc_loopback.proofs.stage.play.Goals as goal

pub returns-clause-a : goal.returns-clause-a
returns-clause-a g c =
    exchanged c.args.exchange (state_of c.args.a) (state_of c.new-a.result.parts) c.join_ends-a_ends.result.0.outcomes c.join_ends-a_ends.result.1.outcomes c.new-a.result.sent c.new-a.result.took
    c.start_ends-a_playing.result.senders c.join_ends-a_ends.result.0.workers c.start_ends-a_playing.result.takers c.join_ends-a_ends.result.1.workers
    c.start_pumps-a_pumping.result.0.reading c.join_pumps-a_pumps.result.0.worker c.start_pumps-a_pumping.result.0.writing c.join_pumps-a_pumps.result.1.worker
    c.new-a.ensures.parts c.new-a.ensures.sent c.new-a.ensures.took c.start_ends-a_playing.ensures.senders c.start_ends-a_playing.ensures.takers
    (ap (λ (p : Pumping). p.reading) c.start_pumps-a_pumping.ensures.a) (ap (λ (p : Pumping). p.writing) c.start_pumps-a_pumping.ensures.a)
    c.join_ends-a_ends.ensures.senders c.join_ends-a_ends.ensures.takers c.join_ends-a_ends.ensures.sent c.join_ends-a_ends.ensures.took c.join_pumps-a_pumps.ensures.reading c.join_pumps-a_pumps.ensures.writing

pub returns-clause-b : goal.returns-clause-b
returns-clause-b g c =
    exchanged c.args.exchange (state_of c.args.b) (state_of c.new-b.result.parts) c.join_ends-b_ends.result.0.outcomes c.join_ends-b_ends.result.1.outcomes c.new-b.result.sent c.new-b.result.took
    c.start_ends-b_playing.result.senders c.join_ends-b_ends.result.0.workers c.start_ends-b_playing.result.takers c.join_ends-b_ends.result.1.workers
    c.start_pumps-a_pumping.result.1.reading c.join_pumps-b_pumps.result.0.worker c.start_pumps-a_pumping.result.1.writing c.join_pumps-b_pumps.result.1.worker
    c.new-b.ensures.parts c.new-b.ensures.sent c.new-b.ensures.took c.start_ends-b_playing.ensures.senders c.start_ends-b_playing.ensures.takers
    (ap (λ (p : Pumping). p.reading) c.start_pumps-a_pumping.ensures.b) (ap (λ (p : Pumping). p.writing) c.start_pumps-a_pumping.ensures.b)
    c.join_ends-b_ends.ensures.senders c.join_ends-b_ends.ensures.takers c.join_ends-b_ends.ensures.sent c.join_ends-b_ends.ensures.took c.join_pumps-b_pumps.ensures.reading c.join_pumps-b_pumps.ensures.writing
