use Rattle.std.proofs.Common.{rules, arith, ◌≡◌, ◌+◌, ◌∙◌, ap}
use Rattle.lc_frame.specs.Lane.{lane_count}
use Rattle.lc_queue.specs.Opened.{Opened}
use Rattle.lc_queue.specs.Parts.{new_end}
use Rattle.lc_queue.proofs.Ends.{ends_grow, ends_all}
use Rattle.lc_queue.proofs.opening.Opening.ends.Goals as goal

pub loop-lane-init : goal.loop-lane-init
loop-lane-init c = record {
  made = ends_grow c.args.self.now.queue c.args.self.now.version 0 _ _ _ c.in_ok-ends.ensures.items c.requires.1 c.in_ok-push.ensures.items;
  count = omega (arith, c.in_ok-ends.ensures.len, c.in_ok-push.ensures.len);
  next = ap (λ next. record c.args.self.now { next = next }) c.requires.0;
}

pub next_lane-requires : goal.next_lane-requires
next_lane-requires c = (ap (λ (o : Opened). o.next) c.loop-lane.invariant.next, c.loop-lane-test.true)

pub loop-lane-preserved : goal.loop-lane-preserved
loop-lane-preserved c =
    let lane = c.loop-lane.lane in
    let inv = c.loop-lane.invariant in
    let made = c.in_ok-next_lane.ensures in
    record {
      made = ends_grow _ _ lane _ _ _ inv.made (made.0 ∙ ap (λ (o : Opened). new_end o.queue o.version lane) inv.next) c.in_ok-push-2.ensures.items;
      count = omega (arith, inv.count, c.in_ok-push-2.ensures.len);
      next = made.1 ∙ ap (λ (o : Opened). record o { next = lane + 1 }) inv.next;
    }

pub unreachable-requires : goal.unreachable-requires
unreachable-requires c = search rules

pub returns : goal.returns
returns c =
    let inv = c.loop-lane.invariant in
    let last : c.loop-lane.lane ≡ lane_count = omega (arith, c.loop-lane-test.false, c.loop-lane.auto.lane-end) in
    (c.in-Ok.ensures.0 ∙ ends_all _ _ _ _ last inv.made, inv.next ∙ ap (λ next. record c.args.self.now { next = next }) last)
