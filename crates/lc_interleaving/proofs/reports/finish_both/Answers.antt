use Rattle.lc_session.specs.Parts.{state_of}
use Rattle.lc_interleaving.proofs.TwoReports.{are_two_reports, are_played_out}
use Rattle.lc_interleaving.proofs.reports.finish_both.Goals as goal

pub returns-clause-reports : goal.returns-clause-reports
returns-clause-reports g c = are_two_reports (state_of c.args.a) (state_of c.args.b) c.finish-first.result c.finish-second.result c.requires.a_one c.requires.b_one c.finish-first.ensures c.finish-second.ensures

pub returns-clause-played_out : goal.returns-clause-played_out
returns-clause-played_out g c = are_played_out c.new_sessions_heard_nothing.ensures (state_of c.args.a) (state_of c.args.b) c.finish-first.result c.finish-second.result (are_two_reports (state_of c.args.a) (state_of c.args.b) c.finish-first.result c.finish-second.result c.requires.a_one c.requires.b_one c.finish-first.ensures c.finish-second.ensures)
