use Rattle.lc_session.specs.Parts.{state_of}
use Rattle.lc_session.proofs.Same.{session_stays}
use Rattle.load.proofs.waking.use_all.Goals as goal

pub returns : goal.returns
returns g c = session_stays (state_of c.args.parts) _ c.requires (record {
  sending = c.join-pumps.ensures.second.0;
  receiving = c.join-pumps.ensures.second.1;
  reading = c.join-pumps.ensures.first.0.same;
  writing = c.join-pumps.ensures.first.1;
})
