use Rattle.std.proofs.Common.{◌≡◌, if◌then◌else◌, Option, Some, ap, ◌∙◌}
use Rattle.lc_frame.specs.declared.channel.Channel.{Channel}
use Rattle.lc_frame.specs.declared.channel.Channel.TheVariants.{Reconciliation, Data, Overlap, Capability, AreaOfInterest, PayloadRequest}
use Rattle.lc_lines.specs.Scheduler.{next_hopeless, is_hopeless}
use Rattle.lc_lines.proofs.Next.{found_hopeless, found_no_hopeless}
use Rattle.lc_lines.proofs.scheduler.Scheduler.next_hopeless.Goals as goal

pub returns : goal.returns
returns c =
    let s = c.args.self.now in
    let or = λ (x : Channel) (other : Option Channel). if is_hopeless s x then Some x else other in
    let one = c.or_hopeless-next-2.ensures ∙ ap (λ (other : Option Channel). or PayloadRequest other) c.or_hopeless-next.ensures in
    let two = c.or_hopeless-next-3.ensures ∙ ap (λ (other : Option Channel). or AreaOfInterest other) one in
    let three = c.or_hopeless-next-4.ensures ∙ ap (λ (other : Option Channel). or Capability other) two in
    let four = c.or_hopeless-next-5.ensures ∙ ap (λ (other : Option Channel). or Overlap other) three in
    let five = c.or_hopeless-next-6.ensures ∙ ap (λ (other : Option Channel). or Data other) four in
    let is : c.or_hopeless.result ≡ next_hopeless s = c.or_hopeless.ensures ∙ ap (λ (other : Option Channel). or Reconciliation other) five in
    record { some = found_hopeless s c.or_hopeless.result is; none = found_no_hopeless s c.or_hopeless.result is }
