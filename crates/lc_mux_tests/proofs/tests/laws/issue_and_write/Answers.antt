use Rattle.std.proofs.Common.{[], take, ap}
use Rattle.lc_owed.specs.Owed.{pending_on, with_pending}
use Rattle.lc_owed.specs.Pending.{with_issue}
use Rattle.lc_mux.specs.Mux.{MuxState}
use Rattle.lc_mux.proofs.Continued.{controls_continue, writes_continue, runs_continue}
use Rattle.lc_mux_tests.proofs.tests.laws.issue_and_write.Goals as goal

pub returns : goal.returns
returns c =
    let old = c.args.mux.now in
    let mid = c.issue.new.self in
    let new = c.write-count.new.self in
    let written = take c.write-count.result c.write-count.new.out in
    let owed = with_pending old.owed c.args.channel (with_issue (pending_on old.owed c.args.channel) c.args.amount) in
    runs_continue old mid new [] written
    (controls_continue old mid owed c.in_ok-issue.ensures.issues (ap (λ (m : MuxState). m.pending) c.issue.ensures.rest))
    (writes_continue mid new written c.write-count.ensures.gives)
