use Rattle.lc_session.specs.Parts.{state_of}
use Rattle.lc_session.proofs.Same.{session_stays}
use Rattle.lc_session.specs.Played.{WasPlayed}
use Rattle.example_threads.specs.Kept.{session_config}
use Rattle.example_threads.proofs.exchange.Goals as goal

pub finish_both-requires-clause-a_one : goal.finish_both-requires-clause-a_one
finish_both-requires-clause-a_one g c = session_stays (state_of c.in_ok-alice.alice) (state_of c.join-alice.result.0) c.in_ok-alice.ensures.one c.join-alice.ensures.first.same

pub finish_both-requires-clause-b_one : goal.finish_both-requires-clause-b_one
finish_both-requires-clause-b_one g c = session_stays (state_of c.in_ok-bob.bob) (state_of c.join-alice.result.1) c.in_ok-bob.ensures.one c.join-alice.ensures.second.same

pub returns : goal.returns
returns g c =
    let a : WasPlayed session_config (state_of c.join-alice.result.0) = record { began = state_of c.in_ok-alice.alice; new = c.in_ok-alice.ensures; played = c.join-alice.ensures.first } in
    let b : WasPlayed session_config (state_of c.join-alice.result.1) = record { began = state_of c.in_ok-bob.bob; new = c.in_ok-bob.ensures; played = c.join-alice.ensures.second } in
    record {
      a = state_of c.join-alice.result.0;
      b = state_of c.join-alice.result.1;
      a_played = a;
      b_played = b;
      together = c.finish_both.ensures.played_out _ _ a b;
    }
