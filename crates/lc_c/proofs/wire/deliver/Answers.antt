use Rattle.std.proofs.Common.{arith}
use Rattle.lc_c.proofs.Delivered.{delivered}
use Rattle.lc_c.proofs.wire.deliver.Goals as goal

pub returns : goal.returns
returns c = rw (← c.side.view_is) (delivered _ _ _ c.deliver-delivery.new.sink c.deliver-delivery.new.self c.saturating_add-side-inside.result c.deliver-delivery.result (omega (arith, c.side.ranges)) c.deliver-delivery.ensures.given_up c.deliver-delivery.ensures.delivers c.deliver-delivery.ensures.stop c.saturating_add-side-inside.ensures)
