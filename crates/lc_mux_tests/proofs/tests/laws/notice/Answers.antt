use Rattle.std.proofs.Common.{◌≡◌, [], Option, None, Some, ap}
use Rattle.std.specs.Prelude.{IfSome}
use Rattle.lc_lines.specs.declared.scheduler.Notice.{Notice}
use Rattle.lc_mux.specs.Mux.{MuxState}
use Rattle.lc_mux.specs.Flushing.{NoticesAndPuts}
use Rattle.lc_mux.specs.History.{Continues}
use Rattle.lc_mux.proofs.Continued.{notices_continue}
use Rattle.lc_mux_tests.proofs.tests.laws.notice.Goals as goal

by_notice : (o : Option Notice) (m m' : MuxState) → m'.pending ≡ m.pending → IfSome o (λ n. NoticesAndPuts n m m') → IfSome o (λ n. Continues [] m m')
by_notice None m m' pending h = h
by_notice (Some n) m m' pending h = notices_continue m m' n h pending

pub returns : goal.returns
returns c = by_notice c.next_notice.result c.args.mux.now c.next_notice.new.self (ap (λ (m : MuxState). m.pending) c.next_notice.ensures.rest) c.next_notice.ensures.some
