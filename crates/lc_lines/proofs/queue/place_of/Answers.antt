use Rattle.std.proofs.Common.{◌≡◌, ◌≤◌, true, get_or, length, sym, arith}
use Rattle.std.specs.Prelude.{◌==◌}
use Rattle.std.proofs.lemmas.Bool.Decides.{nat_tests}
use Rattle.std.proofs.lemmas.List.Sums.{position_or_len_is}
use Rattle.lc_lines.specs.declared.queue.Ask.TheVariants.{Offer}
use Rattle.lc_lines.specs.declared.queue.Call.{Call}
use Rattle.lc_lines.proofs.queue.place_of.Goals as goal

pub returns-then-index-ticket : goal.returns-then-index-ticket
returns-then-index-ticket c =
    let d = c.index.result.now in
    let le : c.loop-at.at ≤ length c.args.calls.now.items = omega arith in
    let here : ((get_or c.args.calls.now.items c.loop-at.at d).ticket == c.args.ticket) ≡ true = grind (arith, nat_tests, c.index.ensures) in
    sym (position_or_len_is (λ (call : Call). call.ticket == c.args.ticket) c.args.calls.now.items c.loop-at.at d le (c.loop-at.invariant d) (λ lt. here))

pub returns : goal.returns
returns c =
    let d : Call = record { ticket = 0; ask = Offer 0 } in
    let all : c.len.result ≡ c.loop-at.at = omega arith in
    let le : c.loop-at.at ≤ length c.args.calls.now.items = omega arith in
    let same : c.loop-at.at ≡ length c.args.calls.now.items = omega arith in
    let is = position_or_len_is (λ (call : Call). call.ticket == c.args.ticket) c.args.calls.now.items c.loop-at.at d le (c.loop-at.invariant d) (λ lt. absurd (omega arith)) in
    rw all (sym is)
