use Rattle.std.proofs.lemmas.Result.{IfOk-weaker}
use Rattle.lc_session.specs.Parts.{state_of}
use Rattle.lc_session.proofs.Same.{session_stays}
use Rattle.lc_loopback.proofs.Back.{came_to}
use Rattle.lc_loopback.proofs.stage.conclude.Goals as goal

pub finish_both-a_report-requires-clause-a_one : goal.finish_both-a_report-requires-clause-a_one
finish_both-a_report-requires-clause-a_one g c = session_stays c.requires.a.began (state_of c.args.a.parts) c.requires.a.new.one c.requires.a.exchanged.played.same

pub finish_both-a_report-requires-clause-b_one : goal.finish_both-a_report-requires-clause-b_one
finish_both-a_report-requires-clause-b_one g c = session_stays c.requires.b.began (state_of c.args.b.parts) c.requires.b.new.one c.requires.b.exchanged.played.same

pub returns : goal.returns
returns g c =
    IfOk-weaker c.judge.result _ _ (λ report is. came_to c.args.plan c.args.versions.0 c.args.versions.1 (state_of c.args.a.parts) (state_of c.args.b.parts) c.args.a.sent c.args.a.took c.args.b.sent c.args.b.took c.finish_both-a_report.result.0 c.finish_both-a_report.result.1 c.in_ok-a_sent.a_sent c.in_ok-b_sent.b_sent c.in_ok-a_took.a_took c.in_ok-b_took.b_took report c.requires.a c.requires.b c.finish_both-a_report.ensures.played_out c.in_ok-a_sent.ensures c.in_ok-b_sent.ensures c.in_ok-a_took.ensures c.in_ok-b_took.ensures is) c.judge.ensures
