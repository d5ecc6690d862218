use Rattle.std.proofs.Common.{rules, ◌≡◌, ◌∙◌, length, arith}
use Rattle.lc_frame.specs.Channel.{channel_count}
use Rattle.lc_inbox.proofs.Seven.{zip_of}
use Rattle.lc_session.proofs.Ended.{Leaves, Leave, all_leave}
use Rattle.lc_session.proofs.report.lanes_and_credits.Goals as goal

each : (c : goal.After-unzipped) → Leave c.args.ends c.map.result
each c =
    let made = c.map.ensures.items in
    let long : length c.args.ends ≡ channel_count = search rules in
    all_leave _ _ (zip_of Leaves c.args.ends c.map.result (omega (arith, long, made.long)) (λ i d e few. let called = made.at i d e (omega (arith, few, made.long)) in search rules))

pub returns-clause-lanes : goal.returns-clause-lanes
returns-clause-lanes c = c.unzipped.ensures.0 ∙ (each c).lanes

pub returns-clause-credits : goal.returns-clause-credits
returns-clause-credits c = c.unzipped.ensures.1 ∙ (each c).credits

pub returns-clause-kept : goal.returns-clause-kept
returns-clause-kept c = (each c).kept
