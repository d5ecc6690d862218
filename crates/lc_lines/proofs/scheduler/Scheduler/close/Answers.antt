use Rattle.std.proofs.Common.{◌≡◌, ◌∙◌, length, ap, subst, sym}
use Rattle.lc_frame.specs.declared.channel.Channel.{Channel}
use Rattle.lc_frame.specs.declared.channel.Channel.TheVariants.{Data, Overlap, Capability, AreaOfInterest, PayloadRequest, StaticToken}
use Rattle.lc_frame.specs.Channel.{channel_count}
use Rattle.lc_lines.specs.Outbound.{every_channel}
use Rattle.lc_lines.specs.Scheduler.{SchedulerState}
use Rattle.lc_lines.specs.Closing.{abandon_among, finish, finish_among, IsFinishedOrLacksSlot}
use Rattle.lc_lines.proofs.Closing.{all_done}
use Rattle.lc_lines.proofs.scheduler.Scheduler.close.Goals as goal

pub returns-clause-closed : goal.returns-clause-closed
returns-clause-closed c =
    let after : c.finish-7.new.self ≡ finish_among c.abandon_all.new.self every_channel =
    c.finish-7.ensures.after
    ∙ (ap (λ (x : SchedulerState). finish x StaticToken) c.finish-6.ensures.after
    ∙ (ap (λ (x : SchedulerState). finish (finish x PayloadRequest) StaticToken) c.finish-5.ensures.after
    ∙ (ap (λ (x : SchedulerState). finish (finish (finish x AreaOfInterest) PayloadRequest) StaticToken) c.finish-4.ensures.after
    ∙ (ap (λ (x : SchedulerState). finish (finish (finish (finish x Capability) AreaOfInterest) PayloadRequest) StaticToken) c.finish-3.ensures.after
    ∙ (ap (λ (x : SchedulerState). finish (finish (finish (finish (finish x Overlap) Capability) AreaOfInterest) PayloadRequest) StaticToken) c.finish-2.ensures.after
    ∙ ap (λ (x : SchedulerState). finish (finish (finish (finish (finish (finish x Data) Overlap) Capability) AreaOfInterest) PayloadRequest) StaticToken) c.finish.ensures.after))))) in
    let had : length (abandon_among c.args.self.now every_channel).peer.channels ≡ channel_count = subst (λ (s : SchedulerState). length s.peer.channels ≡ channel_count) c.self.view_is c.self.invariant.channels in
    let places : length c.abandon_all.new.self.peer.channels ≡ channel_count = subst (λ (s : SchedulerState). length s.peer.channels ≡ channel_count) (sym c.abandon_all.ensures.after) had in
    record { none = c.finish-7.ensures.none; finished = subst (λ (s : SchedulerState). (d : Channel) → IsFinishedOrLacksSlot s d) (sym after) (all_done c.abandon_all.new.self places) }
