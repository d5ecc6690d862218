use Rattle.std.proofs.Common.{rules, ◌≡◌, ◌++◌, ◌∷◌, [], map, length, sym, ap, ◌∙◌, slice_get, IfSome, arith, append_assoc, append-nil, subst, length-append, length-set}
use Rattle.std.proofs.lemmas.List.{nil_from_length}
use Rattle.lc_frame.specs.Channel.{channel_count}
use Rattle.lc_credit.specs.Sides.{IsSettled}
use Rattle.lc_credit.specs.Channels.{credit_out}
use Rattle.lc_credit.proofs.Channels.{credit_at, before_end, settled_push, settled_all, AreSettledSoFar}
use Rattle.lc_credit.proofs.balance.settle_all.Goals as goal

pub settle_at-requires-clause-matched : goal.settle_at-requires-clause-matched
settle_at-requires-clause-matched c =
    let i = c.loop-end.invariant in
    let whole = ap (λ r. c.loop-end.yielded ++ r) (sym c.in-Some.ensures.steps) ∙ i.rest in
    rw (i.at, i.channels) (credit_at c.loop-end.yielded c.in-Some.end _ c.args.channels (c.requires.matched ∙ ap (map credit_out) (sym whole)))

pub loop-end-preserved : goal.loop-end-preserved
loop-end-preserved c =
    let i = c.loop-end.invariant in
    let whole = ap (λ r. c.loop-end.yielded ++ r) (sym c.in-Some.ensures.steps) ∙ i.rest in
    let ends : length c.args.outgoing ≡ channel_count = search rules in
    let sides : length c.args.channels ≡ channel_count = search rules in
    let size : length c.loop-end.balances ≡ channel_count = i.size in
    let inside = before_end _ _ _ _ whole in
    let this : IfSome (slice_get c.args.channels (length c.loop-end.yielded)) (λ x. IsSettled x c.in-Some.end c.settle_at.result) = rw (sym i.at, sym i.channels) c.settle_at.ensures.settled in
    record {
      at = omega (arith, i.at, length-append c.loop-end.yielded (c.in-Some.end ∷ []));
      channels = c.settle_at.ensures.same ∙ i.channels;
      size = length-set _ _ _ ∙ i.size;
      settled = rw i.at (settled_push c.loop-end.yielded c.args.channels c.loop-end.balances c.in-Some.end c.settle_at.result (omega arith) (omega arith) i.settled this);
      rest = append_assoc c.loop-end.yielded (c.in-Some.end ∷ []) _ ∙ whole;
    }

pub returns : goal.returns
returns c =
    let i = c.loop-end.invariant in
    let all = sym (append-nil c.loop-end.yielded) ∙ (ap (λ r. c.loop-end.yielded ++ r) (sym (nil_from_length _ c.in-None.ensures.steps.0)) ∙ i.rest) in
    let ends : length c.args.outgoing ≡ channel_count = search rules in
    let sides : length c.args.channels ≡ channel_count = search rules in
    let size : length c.loop-end.balances ≡ channel_count = i.size in
    settled_all _ _ _ (omega arith) (omega arith) (subst (λ xs. AreSettledSoFar c.args.channels xs c.loop-end.balances) all i.settled)
