use Rattle.std.proofs.Common.{rules, arith, ◌≡◌, List, Result, length, sym, subst}
use Rattle.std.specs.List.{AllZip}
use Rattle.lc_frame.specs.Channel.{channel_count}
use Rattle.lc_inbox.proofs.Seven.{zip_of}
use Rattle.lc_loopback_report.specs.declared.fault.LoopFault.{LoopFault}
use Rattle.lc_loopback.specs.declared.sending.Sender.{Sender}
use Rattle.lc_loopback.specs.declared.taken.Taken.{Taken}
use Rattle.lc_loopback.specs.Ends.{IsSameSender, SenderGives}
use Rattle.lc_loopback.specs.Played.{EachGave}
use Rattle.lc_loopback.proofs.Back.{CameBack, each_same, each_gave}
use Rattle.lc_loopback.proofs.ends.join_senders.Goals as goal

pub returns : goal.returns
returns g c =
    let made = c.map.ensures.items in
    let long : length c.args.works ≡ channel_count = search rules in
    let all : AllZip (CameBack IsSameSender SenderGives) c.args.works c.map.result = zip_of _ _ _ (omega (arith, long, made.long)) (λ i d e few. let called = made.at i d e (omega (arith, few, made.long)) in search rules) in
    let parts = c.unzipped-workers.ensures in
    record {
      same = subst (AllZip IsSameSender c.args.works) (sym parts.0) (each_same IsSameSender SenderGives _ _ all);
      gave = subst (λ (back : List Sender × List (Result Taken LoopFault)). EachGave SenderGives c.args.works back.1 back.0) (λ i. (sym parts.0 i, sym parts.1 i)) (each_gave IsSameSender SenderGives _ _ all);
    }
