use Rattle.std.proofs.Common.{◌≡◌, take, length, ap, subst, ◌∙◌}
use Rattle.std.proofs.lemmas.Result.{IfOk-weaker}
use Rattle.lc_inbox.proofs.Order.{took_the_first}
use Rattle.test_threads.specs.Arrivals.{arrived}
use Rattle.test_threads.proofs.Arrivals.{first_of_given}
use Rattle.test_threads.proofs.carrying.carries.Goals as goal

pub returns : goal.returns
returns g c =
    let incoming = c.join-incoming.result in
    let outgoing = c.take_all-taken.new.outgoing in
    let given = ap (λ p. p.given.value) c.in_ok-reading.ensures.ok ∙ c.of-2.ensures in
    let heard = subst (λ v. arrived incoming ≡ take (length (arrived incoming)) v.items) given c.join-incoming.ensures.first in
    let first = took_the_first incoming outgoing _ _ c.finish-left.ensures in
    IfOk-weaker c.take_all-taken.result _ _ (λ all is. first_of_given all.items c.args.given.items incoming outgoing first heard is) c.take_all-taken.ensures.took
