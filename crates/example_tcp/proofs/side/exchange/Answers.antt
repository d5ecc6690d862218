use Rattle.lc_session.specs.Parts.{state_of}
use Rattle.lc_session.proofs.Same.{session_stays}
use Rattle.example_tcp.proofs.side.exchange.Goals as goal

pub returns : goal.returns
returns g c = session_stays (state_of c.args.parts) _ c.requires (record {
  sending = c.join-worked.ensures.first.0;
  receiving = c.join-worked.ensures.first.1;
  reading = c.join-worked.ensures.second.0;
  writing = c.join-worked.ensures.second.1;
})
