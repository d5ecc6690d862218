use Rattle.std.proofs.Common.{ℕ, ◌≡◌, ◌∙◌, true, length, ap, subst, sym, arith}
use Rattle.std.proofs.lemmas.Grind.{common_steps}
use Rattle.lc_frame.specs.Frame.{IsValid}
use Rattle.lc_frame.specs.declared.frame.Frame.TheVariants.{Send}
use Rattle.lc_lines.specs.Permits.{is_permit}
use Rattle.lc_lines.specs.Outbound.{with_use}
use Rattle.lc_lines.specs.Scheduler.{SchedulerState, aside}
use Rattle.lc_lines.proofs.Fields.{reserved_fields}
use Rattle.lc_lines.proofs.scheduler.Scheduler.put_reserved.Goals as goal

pub invariant_of-self : goal.invariant_of-self
invariant_of-self c =
    let p = c.self.inside.peer in
    let body = c.args.body in
    let len : length c.as_slice-body_len.result.now ≡ length body = ap length c.as_slice-body_len.ensures in
    let valid : IsValid p.version (Send c.args.channel body) = grind (arith, common_steps) in
    let permit = subst (λ (s : SchedulerState). is_permit (aside s c.args.channel) c.args.len ≡ true) (sym c.self.view_is) c.requires.permit in
    reserved_fields p c.send_owned.new.self c.self.inside.queues c.self.inside.asides _ c.self.inside.sent c.self.inside.begun c.self.inside.exempt c.saturating_add-exempt.result c.self.inside.counts c.use_permit.new.self p.version c.args.channel c.args.len body
    c.send_owned.ensures (grind (arith, common_steps)) (c.use_permit.ensures ∙ ap (λ (n : ℕ). with_use c.self.inside.counts n) len) c.saturating_add-exempt.ensures
    permit c.requires.within valid c.self.invariant
