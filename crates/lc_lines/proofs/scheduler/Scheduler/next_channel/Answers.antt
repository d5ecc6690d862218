use Rattle.std.proofs.Common.{◌≡◌, if◌then◌else◌, Option, Some, ap, ◌∙◌}
use Rattle.lc_frame.specs.declared.channel.Channel.{Channel}
use Rattle.lc_frame.specs.declared.channel.Channel.TheVariants.{Reconciliation, Data, Overlap, Capability, AreaOfInterest, PayloadRequest}
use Rattle.lc_lines.specs.Scheduler.{next_channel, can_front_proceed}
use Rattle.lc_lines.proofs.Next.{next_proceeds, next_is_settled}
use Rattle.lc_lines.proofs.scheduler.Scheduler.next_channel.Goals as goal

pub returns : goal.returns
returns c =
    let s = c.args.self.now in
    let or = λ (x : Channel) (other : Option Channel). if can_front_proceed s x then Some x else other in
    let one = c.or_next-next-2.ensures ∙ ap (λ (other : Option Channel). or PayloadRequest other) c.or_next-next.ensures in
    let two = c.or_next-next-3.ensures ∙ ap (λ (other : Option Channel). or AreaOfInterest other) one in
    let three = c.or_next-next-4.ensures ∙ ap (λ (other : Option Channel). or Capability other) two in
    let four = c.or_next-next-5.ensures ∙ ap (λ (other : Option Channel). or Overlap other) three in
    let five = c.or_next-next-6.ensures ∙ ap (λ (other : Option Channel). or Data other) four in
    let is : c.or_next.result ≡ next_channel s = c.or_next.ensures ∙ ap (λ (other : Option Channel). or Reconciliation other) five in
    record { proceeds = next_proceeds s c.or_next.result is; settled = next_is_settled s c.or_next.result is }
