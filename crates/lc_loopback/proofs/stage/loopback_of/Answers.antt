use Rattle.std.proofs.lemmas.Result.{IfOk-weaker}
use Rattle.std.proofs.Common.{subst}
use Rattle.lc_session.specs.Parts.{state_of}
use Rattle.lc_loopback.specs.declared.plan.Plan.{Plan}
use Rattle.lc_loopback.specs.Played.{Exchanged}
use Rattle.lc_loopback.proofs.stage.loopback_of.Goals as goal

pub conclude-requires-clause-a : goal.conclude-requires-clause-a
conclude-requires-clause-a g c = record {
  began = state_of c.in-Ok.opened.a;
  new = c.in-Ok.ensures.a;
  exchanged = subst (λ (p : Plan). Exchanged p (state_of c.in-Ok.opened.a) (state_of c.play-a.result.0.parts) c.play-a.result.0.sent c.play-a.result.0.took) c.of-exchange.ensures c.play-a.ensures.a;
}

pub conclude-requires-clause-b : goal.conclude-requires-clause-b
conclude-requires-clause-b g c = record {
  began = state_of c.in-Ok.opened.b;
  new = c.in-Ok.ensures.b;
  exchanged = subst (λ (p : Plan). Exchanged p (state_of c.in-Ok.opened.b) (state_of c.play-a.result.1.parts) c.play-a.result.1.sent c.play-a.result.1.took) c.of-exchange.ensures c.play-a.ensures.b;
}

pub returns-in-Ok : goal.returns-in-Ok
returns-in-Ok g c = IfOk-weaker c.conclude.result _ _ (λ report came. record { a_version = c.both-versions.result.0; b_version = c.both-versions.result.1; versions_are = c.both-versions.ensures; a = state_of c.play-a.result.0.parts; b = state_of c.play-a.result.1.parts; came_to = came }) c.conclude.ensures
