use Rattle.std.proofs.Common.{[], take, ap, subst, sym}
use Rattle.lc_lines.specs.Scheduler.{start}
use Rattle.lc_mux.specs.Mux.{MuxState}
use Rattle.lc_mux.specs.History.{Continues}
use Rattle.lc_mux.proofs.Called.{start_put}
use Rattle.lc_mux.proofs.Continued.{calls_continue, deliveries_continue, takes_continue, closes_continue, writes_continue, runs_continue}
use Rattle.lc_mux_tests.proofs.tests.laws.answer_and_close.Goals as goal

pub returns : goal.returns
returns c =
    let m = c.args.mux.now in
    let delivered = c.deliver.new.self in
    let took = c.pop.new.self in
    let sent = c.send.new.self in
    let closed = c.close.new.self in
    let new = c.write-count.new.self in
    let written = take c.write-count.result c.write-count.new.out in
    let s = start took.lines.scheduler c.args.channel 0 c.args.answer.now in
    let puts = start_put took.lines.scheduler c.args.channel 0 c.args.answer.now in
    runs_continue m delivered new [] written
    (deliveries_continue m delivered c.args.piece.now _ c.in_ok-_delivery.ensures.delivers (ap (λ (x : MuxState). x.pending) c.deliver.ensures.rest))
    (runs_continue delivered took new [] written
    (takes_continue delivered took c.args.channel c.in_ok-_take.ensures.takes (ap (λ (x : MuxState). x.pending) c.pop.ensures.rest))
    (runs_continue took sent new [] written
    (calls_continue took sent s puts.0 puts.1.peer c.in_ok-_progress.ensures.starts (ap (λ (x : MuxState). x.pending) c.send.ensures.rest))
    (runs_continue sent closed new [] written
    (subst (Continues [] sent) (sym c.close.ensures.after) (closes_continue sent))
    (writes_continue closed new written c.write-count.ensures.gives))))
