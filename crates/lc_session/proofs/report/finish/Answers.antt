use Rattle.std.proofs.Common.{ap, subst, sym, ◌∙◌}
use Rattle.lc_queue.specs.Parts.{Outlet}
use Rattle.lc_session.specs.Pumping.{Pumping}
use Rattle.lc_session.specs.Reading.{ReadingSide}
use Rattle.lc_session.specs.Ending.{Joins, PopsAll}
use Rattle.lc_session.specs.Parts.{state_of}
use Rattle.lc_session.proofs.Ended.{idle_credits, put_on_lanes, reported, served_lanes}
use Rattle.lc_session.proofs.report.finish.Goals as goal

pub join_lanes-requires : goal.join_lanes-requires
join_lanes-requires g c = put_on_lanes _ _ _ _ (ap (λ (p : Pumping). p.drain) c.into_parts-drain.ensures) c.lanes_and_credits-lanes.ensures.lanes c.requires.clients_put

pub join_lanes-requires-2 : goal.join_lanes-requires-2
join_lanes-requires-2 g c =
    served_lanes _ _ _ _ _ _ _ _ (ap (λ (p : Pumping). p.drain.queue) c.into_parts-drain.ensures ∙ sym (ap (λ (o : Outlet). o.queue) c.join_lanes.ensures)) (ap (λ (r : ReadingSide). r.inboxes) c.into_parts-incoming.ensures) c.requires.servers_put c.finish_all-ended.ensures

pub returns : goal.returns
returns g c =
    let ends = c.lanes_and_credits-lanes.ensures in
    reported (state_of c.args.parts) _ _ _ _ c.into_parts-drain.result.0 c.join_lanes.new.drain c.join_lanes-2.new.drain c.pop_all-left.new.drain c.into_parts-drain.result.1 c.into_parts-incoming.result.0 c.lanes_and_credits-lanes.result.1 c.into_parts-incoming.result.1 c.inboxes_of.result c.finish_all-ended.result.lanes
    c.into_parts-drain.ensures c.into_parts-incoming.ensures
    ends.kept
    (subst (λ xs. Joins c.into_parts-drain.result.0 xs c.join_lanes.new.drain) ends.lanes c.join_lanes.ensures)
    ends.credits
    c.inboxes_of.ensures
    c.finish_all-ended.ensures
    c.join_lanes-2.ensures
    (subst (λ n. PopsAll n c.pop_all-left.result c.join_lanes-2.new.drain c.pop_all-left.new.drain) c.waiting.ensures c.pop_all-left.ensures)
    c.begun.ensures
    c.settle.ensures

pub settle-requires-clause-idle : goal.settle-requires-clause-idle
settle-requires-clause-idle g c = idle_credits _ _ c.lanes_and_credits-lanes.ensures.credits c.lanes_and_credits-lanes.ensures.kept
