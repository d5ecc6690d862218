use Rattle.std.proofs.Common.{rules, ◌≡◌, ◌++◌, ◌∷◌, [], ◌∙◌, length, sym, ap, subst, arith, append_assoc, length-append}
use Rattle.std.specs.List.{AllZip}
use Rattle.std.specs.Array.Iter.{array_into_iter_items}
use Rattle.lc_inbox.specs.Inboxes.{IsNewShared}
use Rattle.lc_inbox.proofs.Seven.{zip_push, walked_length}
use Rattle.lc_inbox.proofs.inboxes.share_each.Goals as goal

pub loop-lane-preserved : goal.loop-lane-preserved
loop-lane-preserved c =
    let i = c.loop-lane.invariant in
    let whole = ap (λ r. c.loop-lane.yielded ++ r) (sym c.in-Some.ensures.steps) ∙ i.rest in
    record {
      made = subst (AllZip (IsNewShared c.args.capacities.now) (c.loop-lane.yielded ++ c.in-Some.lane ∷ [])) (sym c.in_ok-push.ensures.items) (zip_push _ _ _ _ _ i.made c.in_ok-share_one.ensures);
      count = omega (arith, i.count, c.in_ok-push.ensures.len, length-append c.loop-lane.yielded (c.in-Some.lane ∷ []));
      rest = append_assoc c.loop-lane.yielded (c.in-Some.lane ∷ []) _ ∙ whole;
    }

pub unreachable-requires : goal.unreachable-requires
unreachable-requires c =
    let i = c.loop-lane.invariant in
    let seven : length c.args.lanes ≡ 7 = search rules in
    let all : length c.loop-lane.yielded ≡ length c.args.lanes = walked_length c.loop-lane.yielded (array_into_iter_items c.loop-lane.lane-iterator) c.args.lanes i.rest c.in-None.ensures.steps.0 in
    c.in-Err.ensures.1 (omega (arith, i.count, all, seven))
