use Rattle.std.proofs.Common.{◌≡◌, ◌-◌, ◌∙◌, ap, subst, arith}
use Rattle.std.specs.Prelude.{slice_index}
use Rattle.lc_frame.specs.Channel.{channel_count}
use Rattle.lc_inbox.specs.Sides.{IsNew}
use Rattle.lc_inbox.specs.Inboxes.{capacity_of}
use Rattle.lc_inbox.proofs.inboxes.share_one.Goals as goal

pub returns : goal.returns
returns c =
    let end = c.new-2.result in
    let lane = c.args.lane in
    let shared = c.in_ok-incoming.field-0 in
    let at : c.index.result ≡ lane.lane - channel_count = omega (arith, c.index.ensures.value, c.server_of.ensures) in
    let capacity : end.inbox.book.capacity ≡ capacity_of c.args.capacities.now lane =
    ap (λ inbox. inbox.book.capacity) (c.new-2.ensures.parts.0 ∙ c.in-Ok.ensures.value) ∙ ap (λ n. slice_index c.args.capacities.now n) at in
    let of_end : IsNew end.inbox.book.capacity end.lane shared.incoming shared.outgoing = c.in_ok-incoming.ensures in
    subst (λ l. IsNew (capacity_of c.args.capacities.now lane) l shared.incoming shared.outgoing) c.new-2.ensures.parts.1
    (subst (λ n. IsNew n end.lane shared.incoming shared.outgoing) capacity of_end)
