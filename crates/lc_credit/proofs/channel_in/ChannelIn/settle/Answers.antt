use Rattle.std.proofs.Common.{rules, arith, ◌≡◌, ℕ, ◌≤◌, Option, MatchOption, unwrap_or, ap, subst, ◌∙◌}
use Rattle.lc_history.specs.History.{Knows}
use Rattle.lc_credit.specs.History.{is_incoming, is_outgoing}
use Rattle.lc_credit.specs.Sides.{amount_of, all_counted}
use Rattle.lc_credit.proofs.Histories.{held_is, received_same, used_same, returned_same}
use Rattle.lc_credit.proofs.Seats.{may_join, may_load_last, may_split, together, last_of}
use Rattle.lc_credit.proofs.Settled.{AreParts, all_held, all_waived}
use Rattle.lc_credit.proofs.channel_in.ChannelIn.settle.Goals as goal
use Rattle.lc_credit.proofs.channel_in.ChannelIn.settle.Goals.{in-Some, in-None}

pub join_seat-requires : goal.join_seat-requires
join_seat-requires c = (search rules, search rules, c.end.invariant.2.slots, search rules, may_join _ _ _ _ _ _ _ _ _ c.self.invariant.2.view c.end.invariant.2.view)

pub load-left-requires : goal.load-left-requires
load-left-requires c = (search rules, search rules, may_load_last _ _ _ _ _ _ (together _ _ _ _ c.join_seat.ensures.2 c.self.invariant.2 c.end.invariant.2))

pub split_seat-requires : goal.split_seat-requires
split_seat-requires c = (search rules, search rules, may_split _ _ _ _ _ (ap (λ m. m.0) (c.load-left.ensures.2.same ∙ together _ _ _ _ c.join_seat.ensures.2 c.self.invariant.2 c.end.invariant.2)))

pub overflow_add-held : goal.overflow_add-held
overflow_add-held c =
    let last = last_of _ _ _ _ _ _ _ (together _ _ _ _ c.join_seat.ensures.2 c.self.invariant.2 c.end.invariant.2) c.load-left.ensures.2 in
    let sum = held_is _ _ _ _ _ last.seen last.sent last.held c.end.invariant.3.counted in
    let taken = ap (λ w. unwrap_or w 0) c.in-Some.is in
    let counted = c.self.invariant.3.counted in
    let total = c.self.invariant.3.total in
    omega arith

pub returns-clause-settled : goal.returns-clause-settled
returns-clause-settled c =
    let last = last_of _ _ _ _ _ _ _ (together _ _ _ _ c.join_seat.ensures.2 c.self.invariant.2 c.end.invariant.2) c.load-left.ensures.2 in
    let idle = ap amount_of (ap (λ v. v.pending) c.end.view_is ∙ c.requires.idle) in
    let sum = held_is _ _ _ _ _ last.seen last.sent last.held c.end.invariant.3.counted in
    let counted = c.self.invariant.3.counted in
    let counted_out = c.end.invariant.3.counted in
    let all_received = received_same _ _ last.seen in
    let all_used = used_same _ _ last.sent in
    let all_returned = returned_same _ _ last.sent in
    let same = ap all_counted c.end.view_is in
    let parts : AreParts c.end.inside.waived c.load-left.result c.match-waived.held = elim c.match-waived.branch [ in-Some w ↦ all_waived _ _ _ _ w.in-Some.is w.held-is | in-None w ↦ all_held _ _ _ w.in-None.is w.held-is ] in
    let whole = parts.sum in
    record {
      received_is = search rules;
      spent_is = search rules;
      absolved_is = search rules;
      waived_is = subst (λ (taken : Option ℕ). MatchOption taken (c.match-waived.held.1 ≡ 0) (λ n. (c.match-waived.held.0 ≡ 0) × (n ≤ c.match-waived.held.1))) (ap (λ v. v.waived) c.end.view_is) parts.apart;
      adds_up = omega arith;
      history = last.history;
      legal = last.legal;
      incoming_knows = subst (λ seen. Knows is_incoming seen last.history) (ap (λ v. v.seen) c.self.view_is) last.seen;
      outgoing_knows = subst (λ seen. Knows is_outgoing seen last.history) (ap (λ v. v.seen) c.end.view_is) last.sent;
      all_received = omega arith;
      all_used = omega arith;
    }
