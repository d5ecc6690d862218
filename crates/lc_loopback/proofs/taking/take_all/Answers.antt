use Rattle.std.proofs.Common.{◌∙◌}
use Rattle.lc_session.proofs.Same.{side_then}
use Rattle.lc_loopback.specs.Plan.{message}
use Rattle.lc_loopback.proofs.Takes.{took_one}
use Rattle.lc_loopback.proofs.taking.take_all.Goals as goal

pub loop-number-preserved : goal.loop-number-preserved
loop-number-preserved g c =
    let was = c.loop-number.invariant in
    record {
      same = side_then c.args.end.now c.loop-number.end c.take.new.end was.same c.take.ensures.same;
      some = took_one c.args.exchange.plan c.args.end.now c.loop-number.end c.take.new.end c.loop-number.number c.loop-number.taken c.as_slice-due.result.now was.some c.in_ok-take.ensures.took
          (c.as_slice-due.ensures.is ∙ c.turn_to.ensures.is ∙ (λ i. message (was.plan i) (was.channel i) c.loop-number.number)) c.as_slice-due.ensures.range;
      plan = c.turn_to.ensures.plan ∙ was.plan;
      channel = c.turn_to.ensures.channel ∙ was.channel;
    }
